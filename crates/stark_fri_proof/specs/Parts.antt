-- What a proof carries, as lists: what contracts see of the types of the same names. A path is a list of roots, of which `digests_of` (Paths) gives the bytes.
use Rattle.std.specs.Prelude.{List}
use Rattle.stark_merkle.specs.declared.root.Root.{Root}
pub use Rattle.stark_fri_proof.specs.declared.proof.LayerOpening.{LayerOpening}
pub use Rattle.stark_fri_proof.specs.declared.proof.Phase.{Phase}

-- A round's rows, a matrix each, and their path.
pub record InputOpening (F : Type 0) : Type 0 where
  pub rows : List (List F)
  pub path : List Root

-- What is opened at a place.
pub record QueryProof (F E : Type 0) : Type 0 where
  pub inputs : List (InputOpening F)
  pub layers : List (LayerOpening E)

-- A proof.
pub record FriProofView (F E : Type 0) : Type 0 where
  pub phases : List (Phase F)
  pub final_polynomial : List E
  pub query_witness : F
  pub queries : List (QueryProof F E)
