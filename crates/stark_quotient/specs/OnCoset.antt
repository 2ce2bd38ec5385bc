-- What is computed ahead for all points of a coset.
use Rattle.std.specs.Prelude.{ℕ, List}
use Rattle.stark_support.specs.Ring.{RingOps}
use Rattle.stark_support.specs.Coset.{TwoAdicCoset, AreValuesOn, coset_size, coset_vanishing}
use Rattle.stark_support.specs.PeriodicTable.{HasPeriodicValues}
use Rattle.stark_support.specs.Selectors.{first_row_selector, last_row_selector, transition_selector}
use Rattle.stark_support.specs.Subgroup.{subgroup_of}

-- The selectors of the trace's subgroup and the inverses of its vanishing value at the coset's points, and a table of the
-- periodic columns' values there.
pub record ArePrepared {F : Type 0} (base : RingOps F) (inverse : F → F) (root : ℕ → F) (trace coset : TwoAdicCoset F) (columns : List (List F)) (first last change inverted table : List F) (width period : ℕ) : Type 0 where
  pub first_row : AreValuesOn base root coset (coset_size coset) (first_row_selector base (λ c. c) (subgroup_of inverse (λ c. c) root trace)) first
  pub last_row : AreValuesOn base root coset (coset_size coset) (last_row_selector base (λ c. c) (subgroup_of inverse (λ c. c) root trace)) last
  pub transition : AreValuesOn base root coset (coset_size coset) (transition_selector base (λ c. c) (subgroup_of inverse (λ c. c) root trace)) change
  pub inv_vanishing : AreValuesOn base root coset (coset_size coset) (λ x. inverse (coset_vanishing base (λ c. c) inverse (coset_size trace) trace.shift x)) inverted
  pub periodic : HasPeriodicValues base inverse root trace coset columns table width period
