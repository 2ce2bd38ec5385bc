-- The row that the builder of degrees shows, and what it holds after constraints were asserted.
use Rattle.std.specs.Prelude.{◌≡◌, ℕ, zero, suc, List, [], ◌++◌, map, replicate, slice_index_or, refl}
use Rattle.std.proofs.Common.{◌∙◌, ap}
use Rattle.stark_air.specs.Tree.{Constraint}
use Rattle.stark_air.specs.Layout.{Layout}
use Rattle.stark_air.specs.Value.{Environment}
use Rattle.stark_air.specs.Emission.{EmissionLaws}
use Rattle.stark_air.specs.Collecting.{Collected, collecting_laws}
use Rattle.stark_air.specs.SymbolicLayout.{rows_layout}
use Rattle.stark_symbolic.specs.DegreePair.{known, pair_environment, kept_degrees, marked_degrees, kept_are_marked, LeavesFit}
use Rattle.stark_symbolic.specs.declared.leaf_degrees.LeafDegrees.{LeafDegrees}
use Rattle.stark_symbolic.specs.declared.degree_expression.DegreeExpression.{DegreeExpression}
use Rattle.stark_symbolic.specs.declared.degree_builder.ConstraintDegrees.{ConstraintDegrees}
use Rattle.stark_symbolic.specs.declared.degree_builder.DegreeBuilder.{DegreeBuilder}

module _ {F : Type 0} {G : Type 0} where
  -- Periodic values by their list; past the end stands the degree of their kind.
  abbrev pub kept_environment : DegreeBuilder F G → Environment (DegreeExpression F)
  kept_environment s = record {
    main_current = λ _. s.column;
    main_next = λ _. s.column;
    preprocessed_current = λ _. s.column;
    preprocessed_next = λ _. s.column;
    public_value = λ _. known 0 0;
    periodic_value = λ i. slice_index_or s.periodic_values.items i s.periodic;
    first_row = s.boundary;
    last_row = s.boundary;
    transition = s.transition;
  }

  abbrev pub kept_layout : DegreeBuilder F G → Layout
  kept_layout s = rows_layout s.layout s.public_values.items s.periodic_values.items

  -- The row stays, and each constraint's degrees are kept, with its mark, behind those before.
  abbrev pub after_keeping : DegreeBuilder F G → List (Constraint F) → DegreeBuilder F G → Type 0
  after_keeping = Collected kept_degrees kept_environment kept_layout (λ s. s.constraints.items)

  pub keeping_laws : EmissionLaws kept_environment kept_layout after_keeping
  keeping_laws = collecting_laws kept_degrees kept_environment kept_layout (λ s. s.constraints.items)

filled_at : {A : Type 0} (n : ℕ) (x : A) (i : ℕ) → slice_index_or (replicate n x) i x ≡ x
filled_at zero x i = refl
filled_at (suc n) x zero = refl
filled_at (suc n) x (suc i) = filled_at n x i

always : {A : Type 0} (items : List A) (n : ℕ) (x y : A) → items ≡ replicate n x → x ≡ y → (i : ℕ) → slice_index_or items i x ≡ y
always items n x y filled same i = ap (λ l. slice_index_or l i x) filled ∙ filled_at n x i ∙ same

-- A row of values that are all those of their kind.
pub row_of_kinds : {F : Type 0} {G : Type 0} (one other : LeafDegrees) (s : DegreeBuilder F G) (n : ℕ) → s.column ≡ known one.column other.column → s.periodic ≡ known one.periodic other.periodic
    → s.boundary ≡ known one.boundary other.boundary → s.transition ≡ known one.transition other.transition → s.periodic_values.items ≡ replicate n s.periodic
    → kept_environment s ≡ pair_environment one other
row_of_kinds one other s n column periodic boundary transition periodics = λ j. record {
  main_current = λ _. column j;
  main_next = λ _. column j;
  preprocessed_current = λ _. column j;
  preprocessed_next = λ _. column j;
  public_value = λ _. known 0 0;
  periodic_value = λ i. always s.periodic_values.items n s.periodic (known one.periodic other.periodic) periodics periodic i j;
  first_row = boundary j;
  last_row = boundary j;
  transition = transition j;
}

-- What the builder holds once an AIR's constraints were asserted on it.
pub collected_degrees : {F : Type 0} (one other : LeafDegrees) (before after : List ConstraintDegrees) (row : Environment (DegreeExpression F)) (cs : List (Constraint F)) → LeavesFit one → LeavesFit other
    → after ≡ before ++ map (kept_degrees row) cs → before ≡ [] → row ≡ pair_environment one other → after ≡ map (marked_degrees one other) cs
collected_degrees {F} one other before after row cs p q appended nothing plain =
    appended ∙
    ap (λ (l : List ConstraintDegrees). l ++ map (kept_degrees row) cs) nothing ∙
    ap (λ (e : Environment (DegreeExpression F)). map (kept_degrees e) cs) plain ∙
    kept_are_marked one other p q cs
