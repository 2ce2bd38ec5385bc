-- Columns and chunks that take a proof's opened values, and what an accepted proof says of them.
use Rattle.std.specs.Prelude.{◌≡◌, ◌⊎◌, List, map, IfSome}
use Rattle.stark_support.specs.Ring.{RingOps}
use Rattle.stark_support.specs.Polynomial.{value}
use Rattle.stark_support.specs.RecompositionPolynomial.{chunk_values}
use Rattle.stark_proof.specs.ProofView.{OpeningsView}
use Rattle.stark_security.specs.ConstraintPolynomial.{AirInstance, Columns, next_point}
use Rattle.stark_security.specs.BadValues.{Satisfies, IsBadAlpha, IsBadZeta}

-- the polynomials' values at x
abbrev pub values_at : {E : Type 0} → RingOps E → List (List E) → E → List E
values_at ring polynomials x = map (λ p. value ring p x) polynomials

-- polynomials over the base field, seen in the extension
abbrev pub embedded_polynomials : {F E : Type 0} → (F → E) → List (List F) → List (List E)
embedded_polynomials embed polynomials = map (λ p. map embed p) polynomials

module _ {F E : Type 0} (i : AirInstance F E) where
  -- The current rows and the chunks are the polynomials' values at zeta; the next rows, where they are opened, are those at
  -- the next row's point.
  pub record TakeOpenedValues (columns : Columns F E) (chunks : List (List (List E))) (zeta : E) (opened : OpeningsView E) : Type 0 where
    pub local : opened.trace_local ≡ values_at i.ring columns.main zeta
    pub next : IfSome opened.trace_next (λ row. row ≡ values_at i.ring columns.main (next_point i i.ring (λ c. c) zeta))
    pub preprocessed_local : IfSome opened.preprocessed (λ rows. rows.local ≡ values_at i.ring columns.preprocessed zeta)
    pub preprocessed_next : IfSome opened.preprocessed (λ rows. IfSome rows.next (λ row. row ≡ values_at i.ring columns.preprocessed (next_point i i.ring (λ c. c) zeta)))
    pub quotient : opened.quotient_chunks ≡ chunk_values i.ring chunks zeta

  -- Whatever columns and chunks take the opened values: where they break a constraint, alpha is bad, or zeta is.
  abbrev pub BreakingNeedsBadDraws : List E → OpeningsView E → List F → E → E → Type 0
  BreakingNeedsBadDraws shifts opened public_values alpha zeta =
      (columns : Columns F E) (chunks : List (List (List E))) → columns.public_values ≡ public_values → TakeOpenedValues columns chunks zeta opened
      → (Satisfies i columns → ⊥) → IsBadAlpha i columns alpha ⊎ IsBadZeta i columns shifts chunks alpha zeta
