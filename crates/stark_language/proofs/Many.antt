-- What is read of tokens one thing after the other, in the turns of a loop.
use Rattle.std.proofs.Common.{◌≡◌, ℕ, suc, ◌+◌, ◌-◌, ◌<◌, ◌≤◌, List, [], ◌++◌, length, Option, Some, None, option_map, Result, Ok, Err, refl, sym, ap, ◌∙◌, subst, arith}
use Rattle.std.proofs.lemmas.List.{append_assoc, append-nil}
use Rattle.stark_language.specs.Faults.{◌>>=◌, Fails, ahead, many, many_on}
use Rattle.stark_language.specs.declared.fault.Fault.{Fault}
use Rattle.stark_language.specs.declared.fault.LanguageError.{LanguageError}
use Rattle.stark_language.specs.declared.fault.LanguageError.TheVariants as errors

pub ahead-append : {A B : Type 0} (xs ys : List A) (read : Result (List A × B) Fault) → ahead (xs ++ ys) read ≡ ahead xs (ahead ys read)
ahead-append xs ys (Ok r) = ap (λ zs. Ok (zs, r.1)) (append_assoc xs ys r.0)
ahead-append xs ys (Err e) = refl

pub ahead-nil : {A B : Type 0} (read : Result (List A × B) Fault) → ahead [] read ≡ read
ahead-nil (Ok r) = refl
ahead-nil (Err e) = refl

-- an error of a step is one of all
fails_ahead : {A B C : Type 0} (front : List A) (error : LanguageError) (read : Result B Fault) (rest : B → Result (List A × C) Fault) → Fails error read → Fails error (ahead front (read >>= rest))
fails_ahead front errors.OutOfMemory read rest h = tt
fails_ahead front (errors.Fault fault) (Ok x) rest h = absurd (cc)
fails_ahead front (errors.Fault fault) (Err e) rest h = cc

module _ {A T : Type 0} (one : List T → Result (Option (List A × List T)) Fault) (all : Result (List A × List T) Fault) (front : List A) (most step : ℕ) (ts : List T) where
  -- a step is left
  begun : step < most → ahead front (many one (most - step) ts) ≡ ahead front (one ts >>= λ read. many_on read ts (λ rest. many one (most - (step + 1)) rest))
  unfolding many
  begun within = let left : most - step ≡ suc (most - (step + 1)) = omega arith in ap (λ n. ahead front (many one n ts)) left

  pub many_goes : {X : Type 0} (view : X → List A × List T) (read : Option X) (x : X) → step < most → one ts ≡ Ok (option_map view read) → read ≡ Some x
      → ahead front (many one (most - step) ts) ≡ all → ahead (front ++ (view x).0) (many one (most - (step + 1)) (view x).1) ≡ all
  many_goes view read x within e is whole =
      let here : one ts ≡ Ok (Some (view x)) = e ∙ ap (λ o. Ok (option_map view o)) is in
      ahead-append front (view x).0 (many one (most - (step + 1)) (view x).1)
      ∙ ap (λ o. ahead front (o >>= λ r. many_on r ts (λ rest. many one (most - (step + 1)) rest))) (sym here) ∙ sym (begun within) ∙ whole

  pub many_stops : {X : Type 0} (view : X → List A × List T) (read : Option X) → step < most → one ts ≡ Ok (option_map view read) → read ≡ None
      → ahead front (many one (most - step) ts) ≡ all → all ≡ Ok (front, ts)
  many_stops view read within e is whole =
      let here : one ts ≡ Ok None = e ∙ ap (λ o. Ok (option_map view o)) is in
      sym whole ∙ begun within ∙ ap (λ o. ahead front (o >>= λ r. many_on r ts (λ rest. many one (most - (step + 1)) rest))) here ∙ ap (λ xs. Ok (xs, ts)) (append-nil front)

  pub many_fails : (error : LanguageError) → step < most → Fails error (one ts) → ahead front (many one (most - step) ts) ≡ all → Fails error all
  many_fails error within h whole =
      subst (Fails error) (sym (begun within) ∙ whole) (fails_ahead front error (one ts) (λ r. many_on r ts (λ rest. many one (most - (step + 1)) rest)) h)

  pub many_done : most ≤ step → ahead front (many one (most - step) ts) ≡ all → all ≡ Ok (front, ts)
  unfolding many
  many_done beyond whole =
      let none : most - step ≡ 0 = omega arith in
      sym whole ∙ ap (λ n. ahead front (many one n ts)) none ∙ ap (λ xs. Ok (xs, ts)) (append-nil front)

-- The first thing is read.
pub many_begins : {A B T : Type 0} (one : List T → Result (Option (List A × List T)) Fault) (wrap : B → List A) (read : Result (B × List T) Fault) (first : B) (ts : List T) (front : List A) (most : ℕ) → read ≡ Ok (first, ts) → most ≡ length ts → front ≡ wrap first
    → ahead front (many one (most - 0) ts) ≡ (read >>= λ r. ahead (wrap r.0) (many one (length r.1) r.1))
many_begins one wrap read first ts front most e size begins =
    let left : most - 0 ≡ length ts = omega arith in
    ap (λ n. ahead front (many one n ts)) left ∙ ap (λ xs. ahead xs (many one (length ts) ts)) begins ∙ ap (λ r. r >>= λ x. ahead (wrap x.0) (many one (length x.1) x.1)) (sym e)
