-- What rows give, step by step.
use Rattle.std.proofs.Common.{List, ◌++◌, Result, Ok, Err}

-- what was read before, and what is still read
abbrev pub with_rows : {A F : Type 0} → List A → Result (List A) F → Result (List A) F
with_rows front (Err fault) = Err fault
with_rows front (Ok rest) = Ok (front ++ rest)
