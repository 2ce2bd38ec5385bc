-- What a verifier is given, read as an instance and a proof.
use Rattle.std.specs.Prelude.{List, Option}
use Rattle.std.specs.Option.{option_copied}
use Rattle.stark_proof.specs.ProofView.{ProofView, proof_view}
use Rattle.stark_proof.specs.declared.values.Proof.{Proof}
use Rattle.stark_protocol.specs.Instance.{Instance}
use Rattle.stark_protocol.specs.declared.preprocessed.PreprocessedVerifierKey.{PreprocessedVerifierKey}
use Rattle.stark_verifier.specs.declared.instance.VerifierInstance.{VerifierInstance}

-- What is computed of a verifier's arguments: a configuration, an AIR, a proof, public values and a key.
abbrev pub OfArguments : Type 0 → Type 0 → Type 0 → Type 0 → Type 0 → Type 0 → Type 1 → Type 1
OfArguments SC A K E P F R = SC → A → Proof K E P F → List F → Option (PreprocessedVerifierKey K) → R

-- What is said of an instance and a proof, said of those arguments: `instance` makes the one, and the other is the proof's view.
abbrev pub of_arguments {ℓ} : {SC A S F E C K P : Type 0} {R : Type ℓ} → (Instance S F C K → ProofView K E P F → R)
    → (SC → A → List F → Option (PreprocessedVerifierKey K) → Instance S F C K) → SC → A → Proof K E P F → List F → Option (PreprocessedVerifierKey K) → R
of_arguments said instance config air proof public_values key = said (instance config air public_values key) (proof_view proof)

-- What is said of an instance and a proof, of what holds those arguments.
abbrev pub of_given {ℓ} : {SC A S F E C K P : Type 0} {R : Type ℓ} → (Instance S F C K → ProofView K E P F → R)
    → (SC → A → List F → Option (PreprocessedVerifierKey K) → Instance S F C K) → VerifierInstance SC A K E P F → R
of_given said instance on = said (instance on.config.now on.air.now on.public_values.now (option_copied on.key)) (proof_view on.proof.now)
