-- What `?` hands on.
use Rattle.std.proofs.Common.{◌≡◌, sym, subst, Result, Ok, Err, IfErr, IfOk, IsErr, IsErrAnd}

-- The error that `?` returns is the one that the call gave: what is said of that one is said of it.
pub carried : {T E : Type 0} (P : E → Type 0) (r : Result T E) (e : E) → IsErr r × IsErrAnd r (λ error. error ≡ e) → P e → IfErr r P
carried P (Ok x) e made holds = tt
carried P (Err error) e made holds = subst P (sym made.1) holds

-- Of a result that is handed on, what is said follows from what the call says.
pub on_ok : {T E : Type 0} (P Q : T → Type 0) (r : Result T E) → ((x : T) → P x → Q x) → IfOk r P → IfOk r Q
on_ok P Q (Ok x) follows holding = follows x holding
on_ok P Q (Err e) follows holding = tt

pub on_err : {T E : Type 0} (P Q : E → Type 0) (r : Result T E) → ((e : E) → P e → Q e) → IfErr r P → IfErr r Q
on_err P Q (Ok x) follows holding = tt
on_err P Q (Err e) follows holding = follows e holding
