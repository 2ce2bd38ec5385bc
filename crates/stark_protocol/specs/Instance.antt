-- What a verifier is given besides a proof, and what the types of a configuration compute.
use Rattle.std.specs.Prelude.{ℕ, ◌-◌, Bool, List, Option}
use Rattle.stark_support.specs.Ring.{RingOps}
use Rattle.stark_support.specs.SchemeClauses.{OpeningOps}
use Rattle.stark_support.specs.Coset.{TwoAdicCoset}
use Rattle.stark_support.specs.Scheme.{natural_coset, zk_bits}
use Rattle.stark_support.specs.Sponge.{SpongeOps}
use Rattle.stark_air.specs.Tree.{Constraint}
use Rattle.stark_air.specs.Layout.{Layout}
use Rattle.stark_protocol.specs.declared.preprocessed.PreprocessedVerifierKey.{PreprocessedVerifierKey}

-- All that the types of a configuration compute.
pub record ProtocolOps (S F E C K T P X Y : Type 0) : Type 1 where
  pub opening : OpeningOps S F E C K T P X Y
  pub sponge : SpongeOps C F E K

-- What a verifier is given besides the proof: the configuration's values, what the AIR declares, the public values, and the
-- key of the preprocessed columns.
pub record Instance (S F C K : Type 0) : Type 0 where
  pub scheme : S
  pub first_state : C
  pub ood_bits : ℕ
  pub constraint_bits : ℕ
  pub layout : Layout
  pub main_next_columns : List ℕ
  pub preprocessed_next_columns : List ℕ
  pub periodic_columns : List (List F)
  pub degree_hint : Option ℕ
  pub constraints : List (Constraint F)
  pub public_values : List F
  pub key : Option (PreprocessedVerifierKey K)

-- The bits of the trace's own height.
abbrev pub log_height : Bool → ℕ → ℕ
log_height is_zk degree_bits = degree_bits - zk_bits is_zk

-- H: the trace's domain, before zero knowledge makes it twice as large
abbrev pub trace_coset : {F : Type 0} → RingOps F → Bool → ℕ → TwoAdicCoset F
trace_coset base is_zk degree_bits = natural_coset base (log_height is_zk degree_bits)
