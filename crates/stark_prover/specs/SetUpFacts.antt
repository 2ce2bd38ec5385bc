-- What a prover holds of preprocessed columns that were set up, and the key beside it.
use Rattle.std.proofs.Common.{◌≡◌, ◌∙◌, ap, sym, subst, arith, ℕ, ◌<◌, ◌≤◌, Bool, true, false, nat_lt, List, length, Option, None, Some}
use Rattle.std.proofs.lemmas.Bool.{ltb-false, ltb-true}
use Rattle.stark_support.specs.Ring.{RingOps}
use Rattle.stark_support.specs.Scheme.{SchemeOps}
use Rattle.stark_air.specs.Declaration.{Trace, trace_width}
use Rattle.stark_protocol.specs.Preprocessing.{IsSetUp, has_columns}
use Rattle.stark_protocol.specs.declared.preprocessed.PreprocessedProverData.{PreprocessedProverData}
use Rattle.stark_protocol.specs.declared.preprocessed.PreprocessedVerifierKey.{PreprocessedVerifierKey}
use Rattle.stark_prover.specs.CommittedColumns.{IsPreprocessedCommitment, StandsForColumns}
use Rattle.stark_prover.specs.ProofOfTrace.{key_of}

-- ---- what is declared

zero_if : (width : ℕ) → nat_lt 0 width ≡ false → width ≡ 0
zero_if width e = let none : width ≤ 0 = ltb-false 0 width e in omega arith

pub no_columns : {F : Type 0} (declared : Option (Trace F)) (n : ℕ) → n ≡ trace_width declared → has_columns declared ≡ false → n ≡ 0
no_columns None n is none = is
no_columns (Some trace) n is none = is ∙ zero_if trace.width none

pub same_columns : {F : Type 0} (declared : Option (Trace F)) (n : ℕ) → n ≡ trace_width declared → has_columns declared ≡ nat_lt 0 n
same_columns None n is = sym (ap (λ k. nat_lt 0 k) is)
same_columns (Some trace) n is = sym (ap (λ k. nat_lt 0 k) is)

pub width_of : {F : Type 0} (declared : Option (Trace F)) (trace : Trace F) (n : ℕ) → n ≡ trace_width declared → declared ≡ Some trace → n ≡ trace.width
width_of declared trace n is e = is ∙ ap trace_width e

pub some_columns : (n : ℕ) → true ≡ nat_lt 0 n → 0 < n
some_columns n e = ltb-true 0 n (sym e)

-- ---- what is set up

module _ {S F E C K T P X Y : Type 0} {scheme : SchemeOps S F E C K T P X Y} {s : S} {field : RingOps F} {root : ℕ → F} {is_zk : Bool} {log_height : ℕ} {trace : Trace F} {prover : PreprocessedProverData K T} {key : PreprocessedVerifierKey K}
    (set : IsSetUp scheme s field root is_zk log_height trace prover key) where
  -- It stands for the columns of the set-up,
  pub stands_for_set_up : IsPreprocessedCommitment scheme s field set.columns (Some prover)
  stands_for_set_up = (subst (λ n. StandsForColumns scheme s field n set.columns prover.commitment prover.prover_data) (sym set.prover_degree) set.stands, set.takes.count ∙ sym set.prover_width)

  -- which have the declared width.
  pub data_of_set_up : (preprocessed : List (List F)) × IsPreprocessedCommitment scheme s field preprocessed (Some prover) × (length preprocessed ≡ trace.width)
  data_of_set_up = (set.columns, stands_for_set_up, set.takes.count)

  -- The key is the one that corresponds to it.
  pub key_of_set_up : key ≡ key_of prover
  key_of_set_up =
      let made : ℕ → ℕ → K → PreprocessedVerifierKey K = λ width degree_bits commitment. record { width = width; degree_bits = degree_bits; commitment = commitment } in
      ap (λ w. made w key.degree_bits key.commitment) (set.key_width ∙ sym set.prover_width) ∙ ap (λ d. made prover.width d key.commitment) (set.key_degree ∙ sym set.prover_degree) ∙ ap (λ c. made prover.width prover.degree_bits c) set.same
