-- The call at which a scheme stops, if there is one.
use Rattle.std.specs.Prelude.{◌≡◌, List, Option, None, Some}
use Rattle.stark_clear.specs.declared.clear.call.ClearCall.{ClearCall}

-- It stops at this call.
abbrev pub StopsAt : Option ClearCall → ClearCall → Type 0
StopsAt None call = ⊥
StopsAt (Some named) call = named ≡ call

-- The scheme with masks, as clauses see it.
pub record MaskedPcs (F : Type 0) : Type 0 where
  pub masks : List F
  pub stops_at : Option ClearCall
