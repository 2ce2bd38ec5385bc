-- All that two fields compute, in one record.
use Rattle.std.specs.Prelude.{ℕ, Bool, List}
use Rattle.stark_support.specs.Ring.{RingOps}

-- F is the base field, with its two-adic roots; E is the extension.
pub record FieldsOps (F E : Type 0) : Type 0 where
  pub base : RingOps F
  pub base_inverse : F → F
  pub same : F → F → Bool
  pub adicity : ℕ
  pub root : ℕ → F
  pub generator : F
  pub ring : RingOps E
  pub inverse : E → E
  pub embed : F → E
  pub dimension : ℕ
  pub basis : List E
