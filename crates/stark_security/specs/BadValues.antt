-- Which draws let a trace pass that breaks a constraint.
use Rattle.std.specs.Prelude.{◌≡◌, ◌⊎◌, ℕ, ◌+◌, ◌<◌, List, [], ◌∷◌, suc}
use Rattle.std.proofs.Common.{inl, inr}
use Rattle.std.specs.List.{AllByRecursion}
use Rattle.stark_support.specs.Powers.{power}
use Rattle.stark_support.specs.Coset.{subgroup_vanishing}
use Rattle.stark_support.specs.Polynomial.{IsRoot, HasDegreeBelow}
use Rattle.stark_security.specs.ConstraintPolynomial.{AirInstance, Columns, height, constraints_at, folded_at, quotient_at, equation_polynomial}

-- All columns' polynomials have degree below m.
pub record ColumnsFit {F E : Type 0} (m : ℕ) (columns : Columns F E) : Type 0 where
  pub main : AllByRecursion (HasDegreeBelow m) columns.main
  pub preprocessed : AllByRecursion (HasDegreeBelow m) columns.preprocessed

module _ {F E : Type 0} (i : AirInstance F E) where
  -- point k of H in row order
  abbrev pub point : ℕ → E
  point k = power i.ring (i.embed i.generator) k

  module _ (columns : Columns F E) where
    -- Each constraint is zero in row k.
    abbrev pub RowHolds : ℕ → Type 0
    RowHolds k = AllByRecursion (λ c. c ≡ i.ring.zero) (constraints_at i columns (point k))

    -- Each constraint is zero on all of H.
    abbrev pub Satisfies : Type 0
    Satisfies = (k : ℕ) → k < height i → RowHolds k

    -- Row k is the first in which some constraint isn't zero.
    pub record IsFirstBrokenRow (k : ℕ) : Type 0 where
      pub in_trace : k < height i
      pub broken : RowHolds k → ⊥
      pub earlier : (l : ℕ) → l < k → RowHolds l

    -- The folded constraint is zero in the first row in which some constraint isn't.
    pub record IsBadAlpha (a : E) : Type 0 where
      pub row : ℕ
      pub first : IsFirstBrokenRow row
      pub folds_to_zero : folded_at i columns a (point row) ≡ i.ring.zero

    -- The equation that a verifier tests, of polynomials: the folded constraint is Z_H times the recomposed chunks.
    abbrev pub IsBalanced : List E → List (List (List E)) → E → E → Type 0
    IsBalanced shifts chunks a z = folded_at i columns a z ≡ i.ring.mul (subgroup_vanishing i.ring (height i) z) (quotient_at i shifts chunks z)

    -- A root of the folded constraint minus Z_H times the recomposed chunks, for an alpha that isn't bad.
    pub record IsBadZeta (shifts : List E) (chunks : List (List (List E))) (a : E) (z : E) : Type 0 where
      pub good_alpha : IsBadAlpha a → ⊥
      pub root : IsRoot i.ring (equation_polynomial i columns shifts chunks a) z

-- How many members of a list have a decided property.
abbrev pub count_where : {A : Type 0} {P : A → Type 0} → ((x : A) → P x ⊎ (P x → ⊥)) → List A → ℕ
count_where decide [] = 0
count_where decide (x ∷ xs) = elim (decide x) [ inl h ↦ suc (count_where decide xs) | inr h ↦ count_where decide xs ]

-- How many pairs of a first and a second list have a decided property.
abbrev pub count_pairs : {A : Type 0} {B : Type 0} {P : A → B → Type 0} → ((x : A) (y : B) → P x y ⊎ (P x y → ⊥)) → List A → List B → ℕ
count_pairs decide [] ys = 0
count_pairs decide (x ∷ xs) ys = count_where (decide x) ys + count_pairs decide xs ys
