-- What reading gives: a value, or the first fault.
use Rattle.std.specs.Prelude.{◌≡◌, ℕ, zero, suc, List, [], ◌++◌, Option, Some, None, Result, Ok, Err}
use Rattle.stark_language.specs.declared.fault.Fault.{Fault}
use Rattle.stark_language.specs.declared.fault.FaultKind.{FaultKind}
use Rattle.stark_language.specs.declared.fault.LanguageError.{LanguageError}
use Rattle.stark_language.specs.declared.fault.LanguageError.TheVariants as errors

infixl 10 ◌>>=◌
-- the next step of a reading, if this one has no fault
abbrev pub ◌>>=◌ : {A B E : Type 0} → Result A E → (A → Result B E) → Result B E
(Ok x) >>= f = f x
(Err e) >>= f = Err e

-- a list that is read, with these before it
abbrev pub with_front : {A E : Type 0} → List A → Result (List A) E → Result (List A) E
with_front front read = read >>= λ xs. Ok (front ++ xs)

-- the fault of this kind at a place
abbrev pub fault_at : {A : Type 0} → FaultKind → ℕ → Result A Fault
fault_at kind at = Err (record { kind = kind; at = at })

-- what is read, with this list before it
abbrev pub ahead : {A B : Type 0} → List A → Result (List A × B) Fault → Result (List A × B) Fault
ahead front read = read >>= λ r. Ok (front ++ r.0, r.1)

-- A function returned, seen by view, what reading gives.
abbrev pub IsReading : {X Y E : Type 0} → (X → Y) → Result X E → Result Y E → Type 0
IsReading view (Ok x) read = read ≡ Ok (view x)
IsReading view (Err e) read = read ≡ Err e

-- An error is the fault that reading gives, unless memory ran out.
abbrev pub Fails : {Y : Type 0} → LanguageError → Result Y Fault → Type 0
Fails (errors.Fault fault) read = read ≡ Err fault
Fails errors.OutOfMemory read = Unit {0}

-- A function returned, seen by view, what reading gives, unless memory ran out.
abbrev pub Gives : {X Y : Type 0} → (X → Y) → Result X LanguageError → Result Y Fault → Type 0
Gives view (Ok x) read = read ≡ Ok (view x)
Gives view (Err e) read = Fails e read

-- ---- one thing after the other

-- From a step on: what it read, and the rest from there; or nothing more.
abbrev pub many_on : {A T : Type 0} → Option (List A × List T) → List T → (List T → Result (List A × List T) Fault) → Result (List A × List T) Fault
many_on None ts rest = Ok ([], ts)
many_on (Some read) ts rest = ahead read.0 (rest read.1)

-- What is read of tokens, as long as something is, in at most this number of steps; and the tokens after it.
unfoldable pub many : {A T : Type 0} → (List T → Result (Option (List A × List T)) Fault) → ℕ → List T → Result (List A × List T) Fault
many one zero ts = Ok ([], ts)
many one (suc steps) ts = one ts >>= λ read. many_on read ts (λ rest. many one steps rest)
