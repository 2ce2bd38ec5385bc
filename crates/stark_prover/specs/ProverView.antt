-- What a prover is given, as definitions take it.
use Rattle.std.specs.Prelude.{ℕ, List, Option, option_map}
use Rattle.std.specs.Borrow.{Bor}
use Rattle.std.specs.Option.{option_copied}
use Rattle.stark_support.specs.Ring.{RingOps}
use Rattle.stark_support.specs.Scheme.{SchemeOps}
use Rattle.stark_protocol.specs.Instance.{Instance}
use Rattle.stark_protocol.specs.declared.preprocessed.PreprocessedProverData.{PreprocessedProverData}
use Rattle.stark_protocol.specs.declared.preprocessed.PreprocessedVerifierKey.{PreprocessedVerifierKey}
use Rattle.stark_prover.specs.Heights.{HoldsColumns}
use Rattle.stark_prover.specs.ProofOfTrace.{key_of}
use Rattle.stark_prover.specs.declared.contracts.ProverInputs.{ProverInputs}

-- What a verifier is given besides the proof, by its key; how an element of the extension is written in coordinates; and what the
-- prover holds of the preprocessed columns.
pub record ProverView (S F E C K T : Type 0) : Type 0 where
  pub with_key : Option (PreprocessedVerifierKey K) → Instance S F C K
  pub coordinates : E → List F
  pub preprocessed : Option (PreprocessedProverData K T)

abbrev pub prover_view : {S F E C K T : Type 0} → (E → List F) → (Option (PreprocessedVerifierKey K) → Instance S F C K) → Option (Bor (PreprocessedProverData K T)) → ProverView S F E C K T
prover_view coordinates with_key preprocessed = record { with_key = with_key; coordinates = coordinates; preprocessed = option_copied preprocessed }

-- The instance with the key that corresponds to what the prover holds.
abbrev pub own_instance : {S F E C K T : Type 0} → ProverView S F E C K T → Instance S F C K
own_instance view = view.with_key (option_map key_of view.preprocessed)

-- What the inputs hold of preprocessed columns stands for so many, under the configuration's scheme.
abbrev pub InputsHold : {SC A S F E C K T P X Y : Type 0} → SchemeOps S F E C K T P X Y → (SC → S) → RingOps F → ProverInputs SC A F K T → ℕ → Type 0
InputsHold scheme scheme_of base inputs width = HoldsColumns scheme (scheme_of inputs.config.now) base (option_copied inputs.preprocessed) width

-- The inputs that a public call is given.
abbrev pub instance_of : {SC A F K T : Type 0} → Bor SC → Bor A → Bor (List F) → Option (Bor (PreprocessedProverData K T)) → ProverInputs SC A F K T
instance_of config air public_values preprocessed = record { config = config; air = air; public_values = public_values; preprocessed = preprocessed }
