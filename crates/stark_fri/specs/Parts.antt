-- What the scheme computes with, and the prover's data.
use Rattle.std.specs.Prelude.{ℕ, Bool, List}
use Rattle.stark_support.specs.Ring.{RingOps}
use Rattle.stark_support.specs.declared.matrix.RowMajorMatrix.{RowMajorMatrix}
use Rattle.stark_merkle.specs.Tree.{TreeDigests}
use Rattle.stark_merkle.specs.declared.root.Root.{Root}

-- The prover's data: the root, the logarithm of the height, and for each matrix its columns and their rows on the larger coset.
pub record FriDataView (F : Type 0) : Type 0 where
  pub root : Root
  pub log_height : ℕ
  pub matrices : List (List (List F))
  pub extended : List (RowMajorMatrix F)

-- The base field and the extension. A leaf of rows and one of a pair are the digests of their bytes.
pub record FriFields (F E : Type 0) : Type 0 where
  pub adicity : ℕ
  pub root : ℕ → F
  pub generator : F
  pub base : RingOps F
  pub base_inverse : F → F
  pub ring : RingOps E
  pub inverse : E → E
  pub embed : F → E
  pub row_bytes : List (List F) → List ℕ
  pub pair_bytes : E → E → List ℕ

-- What is observed: bytes as elements, elements of the extension by their coordinates, and roots. C is the challenger's state.
pub record ObservingCalls (C F E : Type 0) : Type 0 where
  pub from_byte : ℕ → F
  pub coordinates : E → List F
  pub observe_element : C → F → C
  pub observe_root : C → Root → C

-- What all of the challenger's calls do.
pub record SpongeCalls (C F E : Type 0) : Type 0 where
  pub zero : F
  pub observing : ObservingCalls C F E
  pub draw : C → E
  pub after_draw : C → C
  pub bits_of : C → ℕ → ℕ
  pub after_bits : C → ℕ → C
  pub passes : C → ℕ → F → Bool
  pub after_check : C → ℕ → F → C

-- The fields, the trees' hash and the challenger.
pub record FriOps (C F E : Type 0) : Type 0 where
  pub fields : FriFields F E
  pub hash : TreeDigests
  pub sponge : SpongeCalls C F E
