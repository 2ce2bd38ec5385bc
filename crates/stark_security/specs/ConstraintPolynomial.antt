-- An AIR's constraints over committed columns. Each formula is written once, over any ring above the extension: at a point it
-- is a value, at X it is the polynomial with these values.
use Rattle.std.specs.Prelude.{ℕ, ◌^◌, List, [], slice_index_or}
use Rattle.stark_support.specs.Ring.{RingOps, difference}
use Rattle.stark_support.specs.Operations.{ring_operations}
use Rattle.stark_support.specs.Coset.{subgroup_vanishing}
use Rattle.stark_support.specs.Periodic.{periodic_value}
use Rattle.stark_support.specs.Polynomial.{value_over, polynomial_ring, polynomial_product, indeterminate, constant_polynomial}
use Rattle.stark_support.specs.Recomposition.{recomposition}
use Rattle.stark_support.specs.RecompositionPolynomial.{chunk_values, recomposition_polynomial}
use Rattle.stark_support.specs.Selectors.{Subgroup, first_row_selector, last_row_selector, transition_selector}
use Rattle.stark_support.specs.Subgroup.{group_of}
use Rattle.stark_air.specs.Tree.{Constraint}
use Rattle.stark_air.specs.Value.{Environment, constraint_values}
use Rattle.stark_parts.specs.Folded.{folded}

-- The fields, the subgroup H of the trace's rows, and what an AIR declares.
pub record AirInstance (F : Type 0) (E : Type 0) : Type 0 where
  pub base : RingOps F
  pub base_inverse : F → F
  pub ring : RingOps E
  pub inverse : E → E
  pub embed : F → E
  -- of the extension over the base field
  pub basis : List E
  -- of H, which has 2 ^ log_size points
  pub generator : F
  pub log_size : ℕ
  pub constraints : List (Constraint F)
  -- each by the values that it repeats
  pub periodic : List (List F)

-- The polynomials that the trace's and the preprocessed columns are, and the public values.
pub record Columns (F : Type 0) (E : Type 0) : Type 0 where
  pub main : List (List E)
  pub preprocessed : List (List E)
  pub public_values : List F

module _ {F E : Type 0} (i : AirInstance F E) where
  -- how many rows the trace has
  abbrev pub height : ℕ
  height = 2 ^ i.log_size

  -- H, seen in the extension
  abbrev pub group : Subgroup E
  group = group_of i.inverse (i.embed i.generator) i.log_size

  -- the point of the next row
  abbrev pub next_point : {G : Type 0} → RingOps G → (E → G) → G → G
  next_point ring constant x = ring.mul (constant (i.embed i.generator)) x

  module _ {G : Type 0} (ring : RingOps G) (constant : E → G) (columns : Columns F E) (x : G) where
    -- The leaves of a constraint at x: the columns' values there and at the next row's point, the selectors' and the periodic
    -- columns' values there, and the public values. A column that isn't there is zero.
    abbrev pub environment_at : Environment G
    environment_at = record {
      main_current = λ c. value_over ring constant (slice_index_or columns.main c []) x;
      main_next = λ c. value_over ring constant (slice_index_or columns.main c []) (next_point ring constant x);
      preprocessed_current = λ c. value_over ring constant (slice_index_or columns.preprocessed c []) x;
      preprocessed_next = λ c. value_over ring constant (slice_index_or columns.preprocessed c []) (next_point ring constant x);
      public_value = λ k. constant (i.embed (slice_index_or columns.public_values k i.base.zero));
      periodic_value = λ c. periodic_value i.base i.base_inverse i.generator height ring (λ k. constant (i.embed k)) (slice_index_or i.periodic c []) x;
      first_row = first_row_selector ring constant group x;
      last_row = last_row_selector ring constant group x;
      transition = transition_selector ring constant group x;
    }

    -- C_j at x, for each constraint
    abbrev pub constraints_over : List G
    constraints_over = constraint_values (ring_operations ring (λ k. constant (i.embed k))) environment_at i.constraints

  -- the constraints' values at a point
  abbrev pub constraints_at : Columns F E → E → List E
  constraints_at columns x = constraints_over i.ring (λ c. c) columns x

  -- the constraints as polynomials
  abbrev pub constraint_polynomials : Columns F E → List (List E)
  constraint_polynomials columns = constraints_over (polynomial_ring i.ring) constant_polynomial columns (indeterminate i.ring)

  -- the folded constraint at a point: the sum over j below n of a ^ (n - 1 - j) * C_j
  abbrev pub folded_at : Columns F E → E → E → E
  folded_at columns a x = folded i.ring a (constraints_at columns x)

  -- the folded constraint as a polynomial
  abbrev pub folded_polynomial : Columns F E → E → List E
  folded_polynomial columns a = folded (polynomial_ring i.ring) (constant_polynomial a) (constraint_polynomials columns)

  -- the quotient at a point, of chunks on cosets of H with these shifts
  abbrev pub quotient_at : List E → List (List (List E)) → E → E
  quotient_at shifts chunks x = recomposition i.ring i.ring (λ c. c) i.inverse height i.basis shifts (chunk_values i.ring chunks x) x

  -- The folded constraint minus Z_H times the quotient, as a polynomial.
  abbrev pub equation_polynomial : Columns F E → List E → List (List (List E)) → E → List E
  equation_polynomial columns shifts chunks a =
      difference (polynomial_ring i.ring) (folded_polynomial columns a)
      (polynomial_product i.ring (subgroup_vanishing (polynomial_ring i.ring) height (indeterminate i.ring)) (recomposition_polynomial i.ring i.inverse height i.basis shifts chunks))
