-- The constraints of lookups, as trees over auxiliary columns and over the draws' coordinates among the public values.
use Rattle.std.specs.Prelude.{◌≡◌, ◌⊎◌, ℕ, zero, suc, ◌+◌, ◌-◌, ◌*◌, List, [], ◌∷◌, map, length}
use Rattle.std.proofs.Common.{ap, inl, inr}
use Rattle.std.specs.List.{AllByRecursion}
use Rattle.stark_support.specs.Ring.{RingOps}
use Rattle.stark_air.specs.Tree.{Tree, Constraint, base, constant, main_current, main_next, preprocessed_current, preprocessed_next, public_value, periodic_value, first_row, last_row, transition, sum, difference, product, negation}
use Rattle.stark_air.specs.Layout.{Layout, TreeWithin}
use Rattle.stark_air.specs.Value.{Environment, value}
use Rattle.stark_support.specs.KeepsRing.{KeepsRing}
use Rattle.stark_support.specs.Operations.{ring_operations}
use Rattle.stark_logup.specs.Fractions.{Entry, Decides}
use Rattle.stark_logup.specs.RowConstraints.{CoordinatesOf, AuxiliaryExpressions, row_equations}

-- A tuple of trees, with the tree of its multiplicity.
abbrev pub Interaction : Type 0 → Type 0
Interaction F = Entry (List (Tree F)) (Tree F)

-- The lookups of an AIR, in groups that have a helper each; how many main columns and public values the AIR itself has; and how many
-- elements the longest tuple has.
pub record Lookups (F : Type 0) : Type 0 where
  pub groups : List (List (Interaction F))
  pub main : ℕ
  pub public_values : ℕ
  pub width : ℕ

-- Trees as expressions, with nothing folded.
abbrev pub trees : {F : Type 0} → RingOps F → RingOps (Tree F)
trees ring = record { zero = constant ring.zero; one = constant ring.one; add = sum; mul = product; neg = negation }

-- Operations on trees, which may fold constants, are worth what the ring's are.
abbrev pub AreWorth : {F E : Type 0} → RingOps E → (F → E) → RingOps (Tree F) → Type 0
AreWorth {E = E} ring embed expressions = (e : Environment E) → KeepsRing expressions ring (λ t. value (ring_operations ring embed) e t)

-- A tree is the constant, or nothing is known of it.
abbrev pub constant_or_not : {F : Type 0} → Decides F → (k : F) (t : Tree F) → (t ≡ constant k) ⊎ (Unit {0})
constant_or_not same k (constant c) = elim (same c k) [ inl here ↦ inl (ap constant here) | inr other ↦ inr tt ]
constant_or_not same k (main_current c) = inr tt
constant_or_not same k (main_next c) = inr tt
constant_or_not same k (preprocessed_current c) = inr tt
constant_or_not same k (preprocessed_next c) = inr tt
constant_or_not same k (public_value i) = inr tt
constant_or_not same k (periodic_value c) = inr tt
constant_or_not same k first_row = inr tt
constant_or_not same k last_row = inr tt
constant_or_not same k transition = inr tt
constant_or_not same k (sum t u) = inr tt
constant_or_not same k (difference t u) = inr tt
constant_or_not same k (product t u) = inr tt
constant_or_not same k (negation t) = inr tt

module _ {F : Type 0} (same : Decides F) (ring : RingOps F) where
  -- Sums with zero and products with zero and one, as most are of a table of products, are folded.
  abbrev pub light_sum : Tree F → Tree F → Tree F
  light_sum t u = elim (constant_or_not same ring.zero t) [
    | inl none ↦ u
    | inr _ ↦ elim (constant_or_not same ring.zero u) [ inl none ↦ t | inr _ ↦ sum t u ]
  ]

  abbrev pub light_product : Tree F → Tree F → Tree F
  light_product t u = elim (constant_or_not same ring.zero t) [
    | inl none ↦ constant ring.zero
    | inr _ ↦ elim (constant_or_not same ring.zero u) [
      | inl none ↦ constant ring.zero
      | inr _ ↦ elim (constant_or_not same ring.one t) [
        | inl one ↦ u
        | inr _ ↦ elim (constant_or_not same ring.one u) [ inl one ↦ t | inr _ ↦ product t u ]
      ]
    ]
  ]

  abbrev pub light_opposite : Tree F → Tree F
  light_opposite t = elim (constant_or_not same ring.zero t) [ inl none ↦ constant ring.zero | inr _ ↦ negation t ]

  abbrev pub light_trees : RingOps (Tree F)
  light_trees = record { zero = constant ring.zero; one = constant ring.one; add = light_sum; mul = light_product; neg = light_opposite }

-- The values at a place and those after it, a number of them.
abbrev pub from_place : {A : Type 0} → (ℕ → A) → ℕ → ℕ → List A
from_place f first zero = []
from_place f first (suc n) = f first ∷ from_place f (suc first) n

-- A number of such blocks, one after the other.
abbrev pub blocks_from : {A : Type 0} → (ℕ → A) → ℕ → ℕ → ℕ → List (List A)
blocks_from f first size zero = []
blocks_from f first size (suc n) = from_place f first size ∷ blocks_from f (first + size) size n

module _ {F : Type 0} (dimension : ℕ) (one : List F) (table : List (List (List F))) (l : Lookups F) where
  -- After the AIR's own public values stand the coordinates of gamma and of beta, beta^2, ..
  abbrev pub drawn : CoordinatesOf (Tree F)
  drawn = record {
    gamma = from_place public_value l.public_values dimension;
    one = map constant one;
    powers = map constant one ∷ blocks_from public_value (l.public_values + dimension) dimension (l.width - 1);
    table = map (map (map constant)) table;
  }

  -- After its own columns a helper for each group and the running sum.
  abbrev pub sum_column : ℕ
  sum_column = l.main + length l.groups * dimension

  abbrev pub auxiliary : AuxiliaryExpressions (Tree F)
  auxiliary = record {
    helpers = blocks_from main_current l.main dimension (length l.groups);
    sum = from_place main_current sum_column dimension;
    next = from_place main_next sum_column dimension;
  }

  abbrev pub lookup_equations : RingOps (Tree F) → List (Tree F)
  lookup_equations expressions = row_equations expressions drawn l.groups auxiliary.helpers auxiliary.sum auxiliary.next

  abbrev pub lookup_constraints : RingOps (Tree F) → List (Constraint F)
  lookup_constraints expressions = map base (lookup_equations expressions)

-- Each tree of the interaction is within the layout.
abbrev pub InteractionWithin : {F : Type 0} → Layout → Interaction F → Type 0
InteractionWithin layout e = AllByRecursion (TreeWithin layout) e.key × TreeWithin layout e.multiplicity
