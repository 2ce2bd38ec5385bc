-- What is written of a proof and its parts is read back.
use Rattle.std.proofs.Common.{◌≡◌, ◌≢◌, ◌∙◌, ap, refl, sym, ℕ, ◌<◌, ◌^◌, List, [], ◌∷◌, map, Bool, true, false, if◌then◌else◌, is_some, Option, Some, None, option_map, option_and_then, unwrap_or, Ok, codes}
use Rattle.std.proofs.lemmas.Bool.{lt-ltb}
use Rattle.serde_json.specs.Data.{Data, null, boolean, number, unsigned, string, array, object}
use Rattle.serde_json.specs.Find.{as_null}
use Rattle.serde_json.specs.View.{items_of}
use Rattle.stark_support.specs.Json.{array_at}
use Rattle.stark_support.specs.JsonFacts.{list_written, each_back}
use Rattle.stark_proof.specs.declared.values.Commitments.{Commitments}
use Rattle.stark_proof.specs.ProofView.{PreprocessedView, OpeningsView, ProofView}
use Rattle.stark_proof.specs.ProofJson.{◌>>=◌, row_at, each_of, unless_null, value_or_null, preprocessed_of, preprocessed_local, preprocessed_next, unless_fault, openings_reading, openings_writing, openings_read_back, openings_rule_fault, OpeningsFault, other, value_at, within_openings, commitments_reading, commitments_writing, nonzero, proof_object, proof_reading, proof_writing, proof_read_back}

-- a step after the rule's test
after_the_rule : {A B Fault : Type 0} (fault : Option Fault) (a : A) (after : A → B) → (unless_fault fault a >>= λ x. Ok (after x)) ≡ unless_fault fault (after a)
after_the_rule None a after = refl
after_the_rule (Some fault) a after = refl

put_together : {E : Type 0} (rows : Option (PreprocessedView E)) → preprocessed_of (option_map (λ r. r.local) rows) (option_and_then (λ r. r.next) rows) ≡ rows
put_together None = refl
put_together (Some rows) = refl

module _ {E : Type 0} (reading : Data → Option E) (writing : E → Data) (back : (x : E) → reading (writing x) ≡ Some x) where
  row_back : (field : List ℕ) (xs : List E) → row_at reading field (list_written writing xs) ≡ Ok xs
  unfolding array_at
  row_back field xs = rw (each_back reading writing back xs) refl

  rows_back : (field : List ℕ) (rows : List (List E)) → each_of (row_at reading field) (items_of (map (list_written writing) rows)) ≡ Ok rows
  rows_back field [] = refl
  rows_back field (row ∷ rows) = rw (row_back field row, rows_back field rows) refl

  optional_back : (field : List ℕ) (row : Option (List E)) → unless_null (row_at reading field) (value_or_null (list_written writing) row) ≡ Ok row
  optional_back field None = refl
  optional_back field (Some row) = rw (row_back field row) refl

  pub openings_back : (o : OpeningsView E) → openings_reading reading (openings_writing writing o) ≡ openings_read_back o
  unfolding openings_reading openings_writing
  openings_back o =
      rw (
        row_back (codes "trace_local") o.trace_local,
        optional_back (codes "trace_next") o.trace_next,
        optional_back (codes "preprocessed_local") (preprocessed_local o),
        optional_back (codes "preprocessed_next") (preprocessed_next o),
        rows_back (codes "quotient_chunks") o.quotient_chunks,
        optional_back (codes "random") o.random,
      )
      (after_the_rule (openings_rule_fault o) (preprocessed_of (preprocessed_local o) (preprocessed_next o))
      (λ rows. record { trace_local = o.trace_local; trace_next = o.trace_next; preprocessed = rows; quotient_chunks = o.quotient_chunks; random = o.random }) ∙
      ap (λ rows. unless_fault (openings_rule_fault o) (record { trace_local = o.trace_local; trace_next = o.trace_next; preprocessed = rows; quotient_chunks = o.quotient_chunks; random = o.random }))
      (put_together o.preprocessed))

-- ---- commitments and proofs

not_null : (d : Data) → d ≢ null → is_some (as_null d) ≡ false
not_null null h = absurd (h refl)
not_null (boolean b) h = refl
not_null (number n) h = refl
not_null (string s) h = refl
not_null (array ds) h = refl
not_null (object ms) h = refl

module _ {K : Type 0} (reading : Data → Option K) (writing : K → Data) (back : (x : K) → reading (writing x) ≡ Some x) (never_null : (x : K) → writing x ≢ null) where
  optional_value_back : {X : Type 0} (field : List ℕ) (value : Option K) → unless_null (value_at {X = X} reading field) (value_or_null writing value) ≡ Ok value
  optional_value_back field None = refl
  optional_value_back field (Some x) = rw (not_null (writing x) (never_null x), back x) refl

  pub commitments_back : (c : Commitments K) → commitments_reading reading (commitments_writing writing c) ≡ Ok c
  unfolding commitments_reading commitments_writing
  commitments_back c = rw (back c.trace, back c.quotient_chunks, optional_value_back (codes "random") c.random) refl

-- a step after the openings' rule
after_openings : {A B : Type 0} (fault : Option OpeningsFault) (a : A) (after : A → B) →
    (within_openings (unless_fault fault a) >>= λ x. Ok (after x)) ≡ unless_fault (option_map (λ f. other (Some f)) fault) (after a)
after_openings None a after = refl
after_openings (Some fault) a after = refl

-- an element that is left out where it is zero
unwritten : {F : Type 0} (is_zero : Bool) (zero element : F) → (is_zero ≡ true → element ≡ zero) → unwrap_or (if is_zero then None else Some element) zero ≡ element
unwritten true zero element tells = sym (tells refl)
unwritten false zero element tells = refl

module _ {K E P F : Type 0} (commitment_at : Data → Option K) (commitment : K → Data) (commitment_back : (x : K) → commitment_at (commitment x) ≡ Some x) (never_null : (x : K) → commitment x ≢ null)
    (element_at : Data → Option E) (element : E → Data) (element_back : (x : E) → element_at (element x) ≡ Some x)
    (argument_at : Data → Option P) (argument : P → Data) (argument_back : (x : P) → argument_at (argument x) ≡ Some x)
    (witness_at : Data → Option F) (witness : F → Data) (witness_back : (x : F) → witness_at (witness x) ≡ Some x) (witness_never_null : (x : F) → witness x ≢ null) where
  -- with the witness before alpha that is written, if one is
  object_back : (p : ProofView K E P F) (zero : F) (alpha : Option F) → p.degree_bits < 2 ^ 64 →
      proof_reading commitment_at element_at argument_at witness_at zero
      (proof_object (option_map witness alpha) (commitments_writing commitment p.commitments) (openings_writing element p.opened_values) (argument p.opening_proof) (number (unsigned p.degree_bits)) (witness p.ood_pow_witness))
      ≡ proof_read_back (record p { alpha_pow_witness = unwrap_or alpha zero })
  unfolding proof_reading
  object_back p zero None fits =
      rw (
        commitments_back commitment_at commitment commitment_back never_null p.commitments,
        openings_back element_at element element_back p.opened_values,
        argument_back p.opening_proof,
        lt-ltb p.degree_bits (2 ^ 64) fits,
        witness_back p.ood_pow_witness,
      )
      (after_openings (openings_rule_fault p.opened_values) p.opened_values
      (λ opened. record { commitments = p.commitments; opened_values = opened; opening_proof = p.opening_proof; degree_bits = p.degree_bits; ood_pow_witness = p.ood_pow_witness; alpha_pow_witness = zero }))
  object_back p zero (Some x) fits =
      rw (
        commitments_back commitment_at commitment commitment_back never_null p.commitments,
        openings_back element_at element element_back p.opened_values,
        argument_back p.opening_proof,
        lt-ltb p.degree_bits (2 ^ 64) fits,
        witness_back p.ood_pow_witness,
        not_null (witness x) (witness_never_null x),
        witness_back x,
      )
      (after_openings (openings_rule_fault p.opened_values) p.opened_values
      (λ opened. record { commitments = p.commitments; opened_values = opened; opening_proof = p.opening_proof; degree_bits = p.degree_bits; ood_pow_witness = p.ood_pow_witness; alpha_pow_witness = x }))

  pub proof_back : (same : F → F → Bool) (zero : F) → ((x y : F) → same x y ≡ true → x ≡ y) → (p : ProofView K E P F) → p.degree_bits < 2 ^ 64 →
      proof_reading commitment_at element_at argument_at witness_at zero (proof_writing commitment element argument witness same zero p) ≡ proof_read_back p
  unfolding proof_writing
  proof_back same zero tells p fits =
      object_back p zero (nonzero same zero p.alpha_pow_witness) fits ∙
      ap (λ x. proof_read_back (record p { alpha_pow_witness = x })) (unwritten (same p.alpha_pow_witness zero) zero p.alpha_pow_witness (tells p.alpha_pow_witness zero))
