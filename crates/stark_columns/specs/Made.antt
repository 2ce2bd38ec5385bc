-- Of what a call makes, where it makes something.
use Rattle.std.specs.Prelude.{IfOk, IfSome, Option, Result}

-- What holds of what was made; nothing is said where memory is wanting, or where none was made.
abbrev pub IfMade : {T X : Type 0} → Result (Option T) X → (T → Type 0) → Type 0
IfMade result holds = IfOk result (λ made. IfSome made holds)
