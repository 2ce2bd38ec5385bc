-- Lists of which some elements were read.
use Rattle.std.proofs.Common.{List, ◌++◌, Result, Ok, Err}

-- what was read before, and what is still read
abbrev pub with_front : {A E : Type 0} → List A → Result (List A) E → Result (List A) E
with_front front (Err fault) = Err fault
with_front front (Ok rest) = Ok (front ++ rest)
