-- How an expression is read, token by token.
use Rattle.std.proofs.Common.{◌≡◌, ℕ, ◌+◌, ◌-◌, ◌<◌, ◌≤◌, List, [], ◌∷◌, ◌++◌, length, map, reverse, take, drop, get_or, Option, Some, None, Result, Ok, Err, sym, ap, ◌∙◌, subst, arith}
use Rattle.std.proofs.lemmas.List.{drop_all, drop_more, reverse-append}
use Rattle.stark_language.specs.Faults.{Fails, ahead}
use Rattle.stark_language.specs.declared.fault.Fault.{Fault}
use Rattle.stark_language.specs.declared.fault.LanguageError.{LanguageError}
use Rattle.stark_language.specs.declared.fault.LanguageError.TheVariants as errors
use Rattle.stark_language.specs.declared.expression.Mode.TheVariants.{Atom}
use Rattle.stark_language.specs.declared.expression.Pending.{Pending}
use Rattle.stark_language.specs.declared.expression.State.{State}
use Rattle.stark_language.specs.Tokens.{Lexeme}
use Rattle.stark_language.specs.Expressions.{Step, Turn, after_sum, closed, Turns, goes, read_from, read_on, stops, turn, with_steps}
use Rattle.stark_language.proofs.Many.{ahead-append}
use Rattle.stark_language.proofs.Scanning.{rest_is}

-- the innermost bracket closes
pub closed_open : (front new : List Step) (p q : Pending) (items rest : List Pending) → items ≡ rest ++ q ∷ [] → new ≡ front ++ after_sum p
    → with_steps front (closed p (reverse items)) ≡ Ok (goes new (record { mode = Atom; pending = q }) (reverse rest))
unfolding closed
closed_open front new p q items rest is more =
    ap (λ outer. with_steps front (closed p outer)) (ap reverse is ∙ reverse-append rest (q ∷ []))
    ∙ ap (λ steps. Ok (goes steps (record { mode = Atom; pending = q }) (reverse rest))) (sym more)

-- no bracket is open
pub closed_whole : (front new : List Step) (p : Pending) (items : List Pending) → length items ≡ 0 → new ≡ front ++ after_sum p → with_steps front (closed p (reverse items)) ≡ Ok (stops new)
unfolding closed
closed_whole front new p [] none more = ap (λ steps. Ok (stops steps)) (sym more)
closed_whole front new p (q ∷ items) none more = absurd (omega arith)

module _ (front : List Step) (s : State) (outer : List Pending) (l : Lexeme) (ls : List Lexeme) where
  -- a token goes on with the expression
  turn_goes : (new : List Step) (state : State) (brackets : List Pending) → with_steps front (turn s outer l) ≡ Ok (goes new state brackets) → ahead front (read_from s outer (l ∷ ls)) ≡ ahead new (read_from state brackets ls)
  unfolding read_from
  turn_goes new state brackets h = go (turn s outer l) h
    where
      next : State → List Pending → Result (List Step × List Lexeme) Fault
      next = λ s o. read_from s o ls

      go : (t : Result Turn Fault) → with_steps front t ≡ Ok (goes new state brackets) → ahead front (read_on t (l ∷ ls) next) ≡ ahead new (next state brackets)
      go (Ok (goes steps reached open_brackets)) e = let more = ahead-append front steps (next reached open_brackets) in cc
      go (Ok (stops steps)) e = absurd (cc)
      go (Err f) e = absurd (cc)

  -- the expression ends before a token
  turn_stops : (new : List Step) → with_steps front (turn s outer l) ≡ Ok (stops new) → ahead front (read_from s outer (l ∷ ls)) ≡ Ok (new, l ∷ ls)
  unfolding read_from
  turn_stops new h = go (turn s outer l) h
    where
      next : State → List Pending → Result (List Step × List Lexeme) Fault
      next = λ s o. read_from s o ls

      go : (t : Result Turn Fault) → with_steps front t ≡ Ok (stops new) → ahead front (read_on t (l ∷ ls) next) ≡ Ok (new, l ∷ ls)
      go (Ok (goes steps reached open_brackets)) e = absurd (cc)
      go (Ok (stops steps)) e = cc
      go (Err f) e = absurd (cc)

  -- a token has a fault
  turn_fails : (error : LanguageError) → Fails error (with_steps front (turn s outer l)) → Fails error (ahead front (read_from s outer (l ∷ ls)))
  unfolding read_from
  turn_fails (errors.Fault fault) h = go (turn s outer l) h
    where
      next : State → List Pending → Result (List Step × List Lexeme) Fault
      next = λ s o. read_from s o ls

      go : (t : Result Turn Fault) → with_steps front t ≡ Err fault → ahead front (read_on t (l ∷ ls) next) ≡ Err fault
      go (Ok (goes steps reached open_brackets)) e = absurd (cc)
      go (Ok (stops steps)) e = absurd (cc)
      go (Err f) e = cc
  turn_fails errors.OutOfMemory h = tt

-- The loop over tokens, seen one by one, at a place in them.
module _ {A : Type 0} (view : A → Lexeme) (tokens : List A) (at : ℕ) (d : A) (within : at < length tokens) (all : Result (List Step × List Lexeme) Fault) (front : List Step) (s : State) (outer : List Pending) where
  here : map view (drop at tokens) ≡ view (get_or tokens at d) ∷ map view (drop (at + 1) tokens)
  here = ap (map view) (drop_more tokens at d within)

  pub loop_goes : (new : List Step) (state : State) (brackets : List Pending) (after : Option State) → after ≡ Some state → Turns brackets new (Ok after) (with_steps front (turn s outer (view (get_or tokens at d))))
      → ahead front (read_from s outer (map view (drop at tokens))) ≡ all → ahead new (read_from state brackets (map view (drop (at + 1) tokens))) ≡ all
  loop_goes new state brackets after is turns whole =
      let h : with_steps front (turn s outer (view (get_or tokens at d))) ≡ Ok (goes new state brackets) = subst (λ o. Turns brackets new (Ok o) (with_steps front (turn s outer (view (get_or tokens at d))))) is turns in
      sym (turn_goes front s outer _ (map view (drop (at + 1) tokens)) new state brackets h) ∙ ap (λ ls. ahead front (read_from s outer ls)) (sym here) ∙ whole

  pub loop_stops : (new : List Step) (brackets : List Pending) (after : Option State) → after ≡ None → Turns brackets new (Ok after) (with_steps front (turn s outer (view (get_or tokens at d))))
      → ahead front (read_from s outer (map view (drop at tokens))) ≡ all → all ≡ Ok (new, map view (take (length tokens - at) (drop at tokens)))
  loop_stops new brackets after is turns whole =
      let h : with_steps front (turn s outer (view (get_or tokens at d))) ≡ Ok (stops new) = subst (λ o. Turns brackets new (Ok o) (with_steps front (turn s outer (view (get_or tokens at d))))) is turns in
      sym whole ∙ ap (λ ls. ahead front (read_from s outer ls)) here ∙ turn_stops front s outer _ (map view (drop (at + 1) tokens)) new h
      ∙ ap (λ ls. Ok (new, ls)) (sym here ∙ ap (map view) (sym (rest_is tokens at)))

  pub loop_fails : (error : LanguageError) → Fails error (with_steps front (turn s outer (view (get_or tokens at d))))
      → ahead front (read_from s outer (map view (drop at tokens))) ≡ all → Fails error all
  loop_fails error h whole =
      subst (Fails error) (ap (λ ls. ahead front (read_from s outer ls)) (sym here) ∙ whole) (turn_fails front s outer _ (map view (drop (at + 1) tokens)) error h)

-- no token is left
pub loop_ends : {A : Type 0} (view : A → Lexeme) (tokens : List A) (at : ℕ) (all : Result (List Step × List Lexeme) Fault) (front : List Step) (s : State) (outer : List Pending) → length tokens ≤ at
    → ahead front (read_from s outer (map view (drop at tokens))) ≡ all → all ≡ read_from s outer []
unfolding read_from
loop_ends view tokens at all front s outer h whole = sym whole ∙ ap (λ ls. ahead front (read_from s outer (map view ls))) (drop_all at tokens h)
