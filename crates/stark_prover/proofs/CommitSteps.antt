-- What a scheme's calls commit to.
use Rattle.std.proofs.Common.{◌≡◌, ℕ, ◌-◌, ◌*◌, ◌/◌, ◌^◌, ◌<◌, ◌≤◌, sym, subst, refl, List, [], ◌∷◌, length, Bool, Some, arith}
use Rattle.std.specs.List.{slice_get}
use Rattle.std.proofs.Math.Pow.{pow_mono}
use Rattle.stark_support.specs.Ring.{RingOps}
use Rattle.stark_support.specs.Coset.{TwoAdicCoset, coset_size}
use Rattle.stark_support.specs.Scheme.{CommittedMatrix, HasRows, SchemeOps, TakesRows, matrix_row, natural_coset, zk_bits}
use Rattle.stark_air.specs.Declaration.{Trace}
use Rattle.stark_protocol.proofs.SetUpSteps.{committed_within, height_is}
use Rattle.stark_protocol.specs.Instance.{log_height}
use Rattle.stark_protocol.specs.declared.preprocessed.PreprocessedProverData.{PreprocessedProverData}
use Rattle.stark_prover.specs.CommittedColumns.{IsPreprocessedCommitment, IsTraceCommitment, StandsForColumns}

-- The committed trace's domain has room for the trace.
pub trace_room : {F : Type 0} (field : RingOps F) (coset : TwoAdicCoset F) (count width : ℕ) (is_zk : Bool) (degree_bits : ℕ) → 0 < width → count ≡ 2 ^ log_height is_zk degree_bits * width → coset ≡ natural_coset field degree_bits
    → count / width ≤ coset_size coset
trace_room field coset count width is_zk degree_bits some e natural =
    subst (λ c. c ≤ coset_size coset) (sym (height_is count width (2 ^ log_height is_zk degree_bits) some e))
    (subst (λ (d : TwoAdicCoset _). 2 ^ log_height is_zk degree_bits ≤ coset_size d) (sym natural) (pow_mono (let le : degree_bits - zk_bits is_zk ≤ degree_bits = omega arith in le)))

module _ {S F E C K T P X Y : Type 0} (scheme : SchemeOps S F E C K T P X Y) (preprocessed_data s : S) (base : RingOps F) (root : ℕ → F) (same : preprocessed_data ≡ s) where
  pub trace_committed : (height degree_bits : ℕ) (trace : Trace F) (coset : TwoAdicCoset F) (commitment : K) (prover_data : T) → coset ≡ natural_coset base degree_bits → 0 < trace.width → length trace.values ≡ 2 ^ height * trace.width
      → scheme.calls.Commits preprocessed_data coset trace.values trace.width (commitment, prover_data)
      → ((columns : List (List F)) × scheme.Stands preprocessed_data commitment prover_data (record { domain = coset; columns = columns } ∷ [])
      × ((n : ℕ) → 2 ^ n ≡ length trace.values / trace.width → TakesRows base root (natural_coset base n) trace.width (matrix_row trace.values trace.width) columns))
      → (columns : List (List F)) × IsTraceCommitment scheme s base root height degree_bits trace columns commitment prover_data
  trace_committed height degree_bits trace coset commitment prover_data natural some counted made stands = (
    stands.0,
    record {
      made = subst (λ t. scheme.calls.Commits t (natural_coset base degree_bits) trace.values trace.width (commitment, prover_data)) same
          (subst (λ c. scheme.calls.Commits preprocessed_data c trace.values trace.width (commitment, prover_data)) natural made);
      stands = subst (λ t. scheme.Stands t commitment prover_data (record { domain = natural_coset base degree_bits; columns = stands.0 } ∷ [])) same
          (subst (λ c. scheme.Stands preprocessed_data commitment prover_data (record { domain = c; columns = stands.0 } ∷ [])) natural stands.1);
      takes = stands.2 height (sym (height_is (length trace.values) trace.width (2 ^ height) some counted));
    },
  )

  pub rows_of_stands : (coset : TwoAdicCoset F) (columns : List (List F)) (degree_bits : ℕ) (commitment : K) (prover_data : T) (values : List F) (width : ℕ)
      → ((k : K) (matrices : List (CommittedMatrix F)) (matrix : CommittedMatrix F) → scheme.Stands preprocessed_data k prover_data matrices → slice_get matrices 0 ≡ Some matrix → HasRows base root coset matrix.columns values width)
      → StandsForColumns scheme s base degree_bits columns commitment prover_data → HasRows base root coset columns values width
  rows_of_stands coset columns degree_bits commitment prover_data values width read stands =
      let matrix : CommittedMatrix F = record { domain = natural_coset base degree_bits; columns = columns } in
      read commitment (matrix ∷ []) matrix (subst (λ t. scheme.Stands t commitment prover_data (matrix ∷ [])) (sym same) stands) refl

  pub preprocessed_rows : (coset : TwoAdicCoset F) (columns : List (List F)) (of_data : PreprocessedProverData K T) (values : List F) (width : ℕ)
      → ((k : K) (matrices : List (CommittedMatrix F)) (matrix : CommittedMatrix F) → scheme.Stands preprocessed_data k of_data.prover_data matrices → slice_get matrices 0 ≡ Some matrix → HasRows base root coset matrix.columns values width)
      → IsPreprocessedCommitment scheme s base columns (Some of_data) → HasRows base root coset columns values width
  preprocessed_rows coset columns of_data values width read stands = rows_of_stands coset columns of_data.degree_bits of_data.commitment of_data.prover_data values width read stands.0

pub within_of : {S F : Type 0} (greatest : S → ℕ) (preprocessed_data s : S) (field : RingOps F) (coset : TwoAdicCoset F) (bits : ℕ) → preprocessed_data ≡ s → coset ≡ natural_coset field bits → bits ≤ greatest s → coset_size coset ≤ 2 ^ greatest preprocessed_data
within_of greatest preprocessed_data s field coset bits same natural within = subst (λ t. coset_size coset ≤ 2 ^ greatest t) (sym same) (committed_within field coset bits (greatest s) natural within)
