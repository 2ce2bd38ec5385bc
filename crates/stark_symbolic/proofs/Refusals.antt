-- What holds of a call that was refused memory.
use Rattle.std.proofs.Common.{Result, Ok, Err, OnErr}

pub on_err : {A : Type 0} {B : Type 0} {P : Type 0} (r : Result A B) → P → OnErr r P
on_err (Ok x) p = tt
on_err (Err e) p = p
