-- The shape of a proof beside the keys of a size.
use Rattle.std.specs.Prelude.{◌≡◌, ℕ, Bool, List, Option, None, Some, option_map, ⊤}
use Rattle.std.specs.Option.{option_or}
use Rattle.stark_transcript.specs.Shape.{opens_next_row}
use Rattle.stark_transcript.specs.declared.error.InvalidProofShapeError.{InvalidProofShapeError}
use Rattle.stark_transcript.specs.declared.error.VerificationError.{VerificationError}
use Rattle.stark_proof.specs.ProofView.{PreprocessedView, ProofView}
use Rattle.stark_proof.specs.declared.values.Proof.{Proof}
use Rattle.stark_protocol.specs.Acceptance.{domain_fault, height_fault, of_shape, shape_fault, values_fault}
use Rattle.stark_protocol.specs.Instance.{Instance, ProtocolOps}
use Rattle.stark_protocol.specs.ShapeFaults.{preprocessed_fault, randomization_fault}
use Rattle.stark_protocol.specs.declared.preprocessed.PreprocessedVerifierKey.{PreprocessedVerifierKey}
use Rattle.stark_verifier.specs.declared.key_size.KeySize.{KeySize}

-- What is computed of a configuration, an AIR, a proof, public values and a key's size.
abbrev pub OfSize : Type 0 → Type 0 → Type 0 → Type 0 → Type 0 → Type 0 → Type 1 → Type 1
OfSize SC A K E P F R = SC → A → Proof K E P F → List F → Option KeySize → R

-- A key is of a size; where none is given, there is none.
abbrev pub HasSize : {K : Type 0} → Option KeySize → Option (PreprocessedVerifierKey K) → Type 0
HasSize None None = ⊤
HasSize None (Some key) = ⊥
HasSize (Some size) None = ⊥
HasSize (Some size) (Some key) = (key.width ≡ size.width) × (key.degree_bits ≡ size.degree_bits)

-- A key of a size that commits to nothing.
abbrev pub key_of_size : KeySize → PreprocessedVerifierKey (Unit {0})
key_of_size size = record { width = size.width; degree_bits = size.degree_bits; commitment = tt }

-- The first fault of the preprocessed rows and of a key's size.
abbrev pub size_fault : {E : Type 0} → Option KeySize → ℕ → Bool → ℕ → Option (PreprocessedView E) → Option InvalidProofShapeError
size_fault size air_width reads_next degree_bits rows = preprocessed_fault (option_map key_of_size size) air_width reads_next degree_bits rows

module _ {S F E C K T P X Y : Type 0} (ops : ProtocolOps S F E C K T P X Y) (i : Instance S F C K) (p : ProofView K E P F) where
  -- The first fault of the shape after the height and the key.
  abbrev pub sizes_fault : Option (VerificationError X)
  sizes_fault = option_or (of_shape (domain_fault ops i p)) (option_or (randomization_fault ops.opening.is_zk p.commitments.random p.opened_values.random) (of_shape (values_fault ops i p)))

  -- The first fault of the preprocessed rows beside a key of a size.
  abbrev pub rows_fault : Option KeySize → Option InvalidProofShapeError
  rows_fault size = size_fault size i.layout.preprocessed (opens_next_row i.preprocessed_next_columns) p.degree_bits p.opened_values.preprocessed

  -- The first fault of the shape beside a key of a size, whatever key the instance has.
  abbrev pub fault_beside : Option KeySize → Option (VerificationError X)
  fault_beside size = option_or (of_shape (height_fault ops i p)) (option_or (of_shape (rows_fault size)) sizes_fault)

-- With what a verifier is given besides a key of its own.
module _ {S F E C K T P X Y : Type 0} (ops : ProtocolOps S F E C K T P X Y) (instance : Option (PreprocessedVerifierKey K) → Instance S F C K) (p : ProofView K E P F) (size : Option KeySize) where
  -- Beside each key of this size the shape has no fault,
  abbrev pub FitsBeside : Type 0
  FitsBeside = (key : Option (PreprocessedVerifierKey K)) → HasSize size key → shape_fault ops (instance key) p ≡ None

  -- or beside each this first one.
  abbrev pub MisfitsBeside : VerificationError X → Type 0
  MisfitsBeside error = (key : Option (PreprocessedVerifierKey K)) → HasSize size key → shape_fault ops (instance key) p ≡ Some error
