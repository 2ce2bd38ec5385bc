-- The first fault of the shape beside a key's size is that beside each key of this size.
use Rattle.std.proofs.Common.{◌≡◌, ◌⊎◌, ◌∙◌, inl, inr, ap, refl, sym, ℕ, Bool, Option, None, Some, Result, Ok, Err, IfOk, OnOk}
use Rattle.std.specs.Option.{option_or}
use Rattle.stark_transcript.specs.Shape.{opens_next_row}
use Rattle.stark_transcript.specs.declared.error.InvalidProofShapeError.{InvalidProofShapeError}
use Rattle.stark_transcript.specs.declared.error.VerificationError.{VerificationError}
use Rattle.stark_transcript.specs.declared.error.VerificationError.TheVariants.{OutOfMemory}
use Rattle.stark_proof.specs.ProofView.{PreprocessedView, ProofView}
use Rattle.stark_protocol.specs.Acceptance.{height_fault, of_shape, shape_fault}
use Rattle.stark_protocol.specs.Instance.{Instance, ProtocolOps}
use Rattle.stark_protocol.specs.ShapeFaults.{preprocessed_fault}
use Rattle.stark_protocol.specs.declared.preprocessed.PreprocessedVerifierKey.{PreprocessedVerifierKey}
use Rattle.stark_verifier.specs.KeySizes.{FitsBeside, HasSize, MisfitsBeside, fault_beside, size_fault, sizes_fault}
use Rattle.stark_verifier.specs.declared.key_size.KeySize.{KeySize}

-- Of a key the preprocessed rows' faults read the size alone.
same_rows : {E K : Type 0} (size : Option KeySize) (key : Option (PreprocessedVerifierKey K)) (air_width : ℕ) (reads_next : Bool) (degree_bits : ℕ) (rows : Option (PreprocessedView E))
    → HasSize size key → size_fault size air_width reads_next degree_bits rows ≡ preprocessed_fault key air_width reads_next degree_bits rows
same_rows None None air_width reads_next degree_bits rows has = refl
same_rows None (Some key) air_width reads_next degree_bits rows has = absurd has
same_rows (Some size) None air_width reads_next degree_bits rows has = absurd has
same_rows (Some size) (Some key) air_width reads_next degree_bits rows has =
    let fault : ℕ → ℕ → Option InvalidProofShapeError = λ width bits. size_fault (Some (record { width = width; degree_bits = bits })) air_width reads_next degree_bits rows in
    ap (λ width. fault width size.degree_bits) (sym has.0) ∙ ap (λ bits. fault key.width bits) (sym has.1)

module _ {S F E C K T P X Y : Type 0} (ops : ProtocolOps S F E C K T P X Y) (i : Instance S F C K) (p : ProofView K E P F) (size : Option KeySize) where
  -- the same instance with another key
  abbrev pub with_key : Option (PreprocessedVerifierKey K) → Instance S F C K
  with_key key = record {
    scheme = i.scheme;
    first_state = i.first_state;
    ood_bits = i.ood_bits;
    constraint_bits = i.constraint_bits;
    layout = i.layout;
    main_next_columns = i.main_next_columns;
    preprocessed_next_columns = i.preprocessed_next_columns;
    periodic_columns = i.periodic_columns;
    degree_hint = i.degree_hint;
    constraints = i.constraints;
    public_values = i.public_values;
    key = key;
  }

  same : (key : Option (PreprocessedVerifierKey K)) → HasSize size key → fault_beside ops i p size ≡ shape_fault ops (with_key key) p
  same key has =
      ap (λ fault. option_or (of_shape (height_fault ops i p)) (option_or (of_shape fault) (sizes_fault ops i p)))
      (same_rows size key i.layout.preprocessed (opens_next_row i.preprocessed_next_columns) p.degree_bits p.opened_values.preprocessed has)

  pub fits : (answer : Result (Unit {0}) (VerificationError X)) → IfOk answer (λ _. fault_beside ops i p size ≡ None) → OnOk answer (FitsBeside ops with_key p size)
  fits (Ok unit) clear = λ key has. sym (same key has) ∙ clear
  fits (Err error) clear = tt

  pub misfits : (error : VerificationError X) → (error ≡ OutOfMemory) ⊎ (fault_beside ops i p size ≡ Some error) → (error ≡ OutOfMemory) ⊎ MisfitsBeside ops with_key p size error
  misfits error (inl memory) = inl memory
  misfits error (inr fault) = inr (λ key has. sym (same key has) ∙ fault)
