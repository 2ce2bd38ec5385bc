-- A proof's JSON has no float, where its parts' have none.
use Rattle.std.proofs.Common.{◌≡◌, refl, false, List, [], ◌∷◌, map, Option, Some, None, option_map, Bool}
use Rattle.serde_json.specs.Data.{Data, number, unsigned}
use Rattle.serde_json.specs.View.{items_of}
use Rattle.serde_json.specs.Written.{has_float, items_have_float}
use Rattle.stark_support.specs.JsonFacts.{list_written}
use Rattle.stark_proof.specs.ProofJson.{commitments_writing, nonzero, openings_writing, preprocessed_local, preprocessed_next, proof_object, proof_writing, value_or_null}
use Rattle.stark_proof.specs.ProofView.{OpeningsView}
use Rattle.stark_proof.specs.declared.values.Commitments.{Commitments}
use Rattle.stark_answers.specs.Prove.{HasNoFloat}

no_float_in_items : {A : Type 0} (writing : A → Data) → ((x : A) → has_float (writing x) ≡ false) → (xs : List A) → items_have_float (items_of (map writing xs)) ≡ false
no_float_in_items writing none [] = refl
no_float_in_items writing none (x ∷ xs) = rw (none x, no_float_in_items writing none xs) refl

pub no_float_in_list : {A : Type 0} (writing : A → Data) → ((x : A) → has_float (writing x) ≡ false) → (xs : List A) → has_float (list_written writing xs) ≡ false
no_float_in_list writing none xs = no_float_in_items writing none xs

no_float_if_there : {A : Type 0} (writing : A → Data) → ((x : A) → has_float (writing x) ≡ false) → (o : Option A) → has_float (value_or_null writing o) ≡ false
no_float_if_there writing none None = refl
no_float_if_there writing none (Some x) = none x

-- A witness before alpha may be left out.
no_float_in_object : {F : Type 0} (witness : F → Data) → ((x : F) → has_float (witness x) ≡ false) → (alpha : Option F) (commitments opened_values opening_proof degree_bits ood : Data) → has_float commitments ≡ false → has_float degree_bits ≡ false → has_float ood ≡ false → has_float opened_values ≡ false
    → has_float opening_proof ≡ false → has_float (proof_object (option_map witness alpha) commitments opened_values opening_proof degree_bits ood) ≡ false
no_float_in_object witness none None commitments opened_values opening_proof degree_bits ood a b c d e = rw (a, b, c, d, e) refl
no_float_in_object witness none (Some alpha) commitments opened_values opening_proof degree_bits ood a b c d e = rw (none alpha, a, b, c, d, e) refl

module _ {K E P F : Type 0} (commitment : K → Data) (element : E → Data) (argument : P → Data) (witness : F → Data) (same : F → F → Bool) (zero : F)
    (in_commitment : (c : K) → has_float (commitment c) ≡ false) (in_element : (e : E) → has_float (element e) ≡ false) (in_argument : (p : P) → has_float (argument p) ≡ false) (in_witness : (x : F) → has_float (witness x) ≡ false) where
  no_float_in_row : (row : List E) → has_float (list_written element row) ≡ false
  no_float_in_row row = no_float_in_list element in_element row

  no_float_in_commitments : (c : Commitments K) → has_float (commitments_writing commitment c) ≡ false
  unfolding commitments_writing
  no_float_in_commitments c = rw (in_commitment c.quotient_chunks, no_float_if_there commitment in_commitment c.random, in_commitment c.trace) refl

  no_float_in_openings : (o : OpeningsView E) → has_float (openings_writing element o) ≡ false
  unfolding openings_writing
  no_float_in_openings o =
      let row = λ (r : Option (List E)). no_float_if_there (list_written element) no_float_in_row r in
      rw (row (preprocessed_local o), row (preprocessed_next o), no_float_in_list (list_written element) no_float_in_row o.quotient_chunks, row o.random, no_float_in_row o.trace_local, row o.trace_next) refl

  pub no_float_in_proof : HasNoFloat (proof_writing commitment element argument witness same zero)
  unfolding proof_writing
  no_float_in_proof p = no_float_in_object witness in_witness (nonzero same zero p.alpha_pow_witness) (commitments_writing commitment p.commitments)
      (openings_writing element p.opened_values) (argument p.opening_proof) (number (unsigned p.degree_bits)) (witness p.ood_pow_witness)
      (no_float_in_commitments p.commitments) refl (in_witness p.ood_pow_witness) (no_float_in_openings p.opened_values) (in_argument p.opening_proof)
