-- How deep a proof's JSON nests, by how deep its parts' nests.
use Rattle.std.proofs.Common.{arith, ℕ, suc, ◌≤◌, max, Bool, List, [], ◌∷◌, map, Option, Some, None, option_map}
use Rattle.std.proofs.Math.Nat.{max-le}
use Rattle.serde_json.specs.Data.{Data, depth, items_depth, number, unsigned}
use Rattle.serde_json.specs.View.{items_of}
use Rattle.stark_support.specs.JsonFacts.{list_written}
use Rattle.stark_proof.specs.ProofJson.{commitments_writing, nonzero, openings_writing, preprocessed_local, preprocessed_next, proof_object, proof_writing, value_or_null}
use Rattle.stark_proof.specs.ProofView.{OpeningsView}
use Rattle.stark_proof.specs.declared.values.Commitments.{Commitments}
use Rattle.stark_answers.specs.ReadBack.{NestsWithin}

none_within : (n : ℕ) → 0 ≤ n
none_within n = omega arith

pub below : (a n : ℕ) → a ≤ n → suc a ≤ suc n
below a n within = omega (arith, within)

pub next_within : (a n : ℕ) → a ≤ n → a ≤ suc n
next_within a n within = omega (arith, within)

-- The members of an object of one name, or of more.
pub last_within : (a n : ℕ) → a ≤ n → max a 0 ≤ n
last_within a n within = max-le within (none_within n)

items_within : {A : Type 0} (n : ℕ) (writing : A → Data) → NestsWithin n writing → (xs : List A) → items_depth (items_of (map writing xs)) ≤ n
items_within n writing within [] = none_within n
items_within n writing within (x ∷ xs) = max-le (within x) (items_within n writing within xs)

-- An array nests one deeper than its items.
pub list_within : {A : Type 0} (n : ℕ) (writing : A → Data) → NestsWithin n writing → NestsWithin (suc n) (list_written writing)
list_within n writing within xs = below (items_depth (items_of (map writing xs))) n (items_within n writing within xs)

there_within : {A : Type 0} (n : ℕ) (writing : A → Data) → NestsWithin n writing → (o : Option A) → depth (value_or_null writing o) ≤ n
there_within n writing within None = none_within n
there_within n writing within (Some x) = within x

-- A witness before alpha may be left out.
object_within : {F : Type 0} (n : ℕ) (witness : F → Data) → NestsWithin n witness → (alpha : Option F) (commitments opened_values opening_proof degree_bits ood : Data) → depth commitments ≤ n → depth degree_bits ≤ n → depth ood ≤ n → depth opened_values ≤ n
    → depth opening_proof ≤ n → depth (proof_object (option_map witness alpha) commitments opened_values opening_proof degree_bits ood) ≤ suc n
object_within n witness within None commitments opened_values opening_proof degree_bits ood a b c d e = below _ n (max-le a (max-le b (max-le c (max-le d (last_within (depth opening_proof) n e)))))
object_within n witness within (Some alpha) commitments opened_values opening_proof degree_bits ood a b c d e =
    below _ n (max-le (within alpha) (max-le a (max-le b (max-le c (max-le d (last_within (depth opening_proof) n e))))))

module _ {K E P F : Type 0} (commitment : K → Data) (element : E → Data) (argument : P → Data) (witness : F → Data) (same : F → F → Bool) (zero : F) (n : ℕ)
    (in_commitment : NestsWithin (suc (suc n)) commitment) (in_element : NestsWithin n element) (in_argument : NestsWithin (suc (suc (suc n))) argument) (in_witness : NestsWithin (suc (suc (suc n))) witness) where
  row_within : NestsWithin (suc n) (list_written element)
  row_within = list_within n element in_element

  commitments_within : (c : Commitments K) → depth (commitments_writing commitment c) ≤ suc (suc (suc n))
  unfolding commitments_writing
  commitments_within c = below _ (suc (suc n)) (max-le (in_commitment c.quotient_chunks) (max-le (there_within (suc (suc n)) commitment in_commitment c.random) (last_within (depth (commitment c.trace)) (suc (suc n)) (in_commitment c.trace))))

  openings_within : (o : OpeningsView E) → depth (openings_writing element o) ≤ suc (suc (suc n))
  unfolding openings_writing
  openings_within o =
      let row : (r : Option (List E)) → depth (value_or_null (list_written element) r) ≤ suc (suc n) = λ r. next_within (depth (value_or_null (list_written element) r)) (suc n) (there_within (suc n) (list_written element) row_within r) in
      below _ (suc (suc n)) (max-le (row (preprocessed_local o)) (max-le (row (preprocessed_next o)) (max-le (list_within (suc n) (list_written element) row_within o.quotient_chunks) (max-le (row o.random)
      (max-le (next_within (depth (list_written element o.trace_local)) (suc n) (row_within o.trace_local)) (last_within (depth (value_or_null (list_written element) o.trace_next)) (suc (suc n)) (row o.trace_next)))))))

  pub proof_within : NestsWithin (suc (suc (suc (suc n)))) (proof_writing commitment element argument witness same zero)
  unfolding proof_writing
  proof_within p = object_within (suc (suc (suc n))) witness in_witness (nonzero same zero p.alpha_pow_witness) (commitments_writing commitment p.commitments)
      (openings_writing element p.opened_values) (argument p.opening_proof) (number (unsigned p.degree_bits)) (witness p.ood_pow_witness)
      (commitments_within p.commitments) (none_within (suc (suc (suc n)))) (in_witness p.ood_pow_witness) (openings_within p.opened_values) (in_argument p.opening_proof)
