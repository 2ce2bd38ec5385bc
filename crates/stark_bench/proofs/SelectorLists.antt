-- The selectors of a subgroup on the points of a coset apart from it, as lists that are made of the points' list.
use Rattle.std.proofs.Common.{◌≡◌, ◌≢◌, ◌∙◌, ◌^◌, ℕ, List, All, ap, length, map, refl, subst, sym}
use Rattle.stark_support.specs.Coset.{TwoAdicCoset, IsTwoAdicCoset, AreDisjoint, AreValuesOn, coset_point, coset_size, coset_vanishing, subgroup_vanishing}
use Rattle.stark_support.specs.CosetValueFacts.{own_subgroup, unshifted_vanishing, apart_outside}
use Rattle.stark_support.specs.Ring.{RingOps, FieldLaws, difference}
use Rattle.stark_support.specs.SelectorFacts.{IsSubgroup, last_is_quotient, not_last_point}
use Rattle.stark_support.specs.Selectors.{Subgroup, first_row_selector, last_row_selector, transition_selector}
use Rattle.stark_support.specs.Subgroup.{group_of}
use Rattle.stark_support.specs.TwoAdic.{TwoAdicLaws}
use Rattle.stark_bench.specs.PointLists.{AreQuotients, RepeatOn}
use Rattle.stark_bench.proofs.PointLists.{all_are, first_rows, none_is_first, quotient_values, same_values, transitions}

module _ {K : Type 0} {ring : RingOps K} {inverse : K → K} (laws : FieldLaws ring inverse) (adicity : ℕ) (root : ℕ → K) (generator : K) (two_adic : TwoAdicLaws ring adicity root generator)
    (c : TwoAdicCoset K) (valid : IsTwoAdicCoset ring adicity c) where
  abbrev pub group : Subgroup K
  group = group_of inverse (root c.log_size) c.log_size

  pub is_group : IsSubgroup ring inverse group
  is_group = own_subgroup laws adicity root generator two_adic c valid (root c.log_size) refl

  module _ (unshifted : c.shift ≡ ring.one) (coset : TwoAdicCoset K) (disjoint : AreDisjoint ring root c coset) where
    outside : (i : ℕ) → subgroup_vanishing ring group.size (coset_point ring root coset i) ≢ ring.zero
    outside i = apart_outside laws adicity root generator two_adic c valid unshifted coset disjoint i (coset_point ring root coset i) refl

    pub inverses_listed : (n : ℕ) (inverses : List K) → AreValuesOn ring root coset n (λ x. inverse (subgroup_vanishing ring (2 ^ c.log_size) x)) inverses
        → AreValuesOn ring root coset n (λ x. inverse (coset_vanishing ring (λ y. y) inverse (coset_size c) c.shift x)) inverses
    inverses_listed n inverses = same_values ring root coset n _ _ inverses (λ i h. ap inverse (sym (unshifted_vanishing laws adicity root generator two_adic c valid unshifted (coset_point ring root coset i))))

    -- the last row selector, from the vanishing values and the differences
    module _ (n : ℕ) (transitions : List K) (differences : AreValuesOn ring root coset n (transition_selector ring (λ k. k) group) transitions) where
      pub no_last_listed : All (λ d. d ≢ ring.zero) transitions
      no_last_listed = all_are ring root coset n (transition_selector ring (λ k. k) group) (λ d. d ≢ ring.zero) transitions (λ i h. not_last_point laws group is_group (coset_point ring root coset i) (outside i)) differences

      pub last_rows_divided : (vanishing over : List K) → RepeatOn ring root coset (λ x. subgroup_vanishing ring group.size x) vanishing → AreQuotients ring inverse vanishing transitions (length transitions) over
          → AreValuesOn ring root coset n (last_row_selector ring (λ k. k) group) over
      last_rows_divided vanishing over values quotients =
          same_values ring root coset n (λ x. ring.mul (subgroup_vanishing ring group.size x) (inverse (transition_selector ring (λ k. k) group x))) (last_row_selector ring (λ k. k) group) over
          (λ i h. last_is_quotient laws group is_group (coset_point ring root coset i) (outside i))
          (quotient_values ring root coset inverse n (λ x. subgroup_vanishing ring group.size x) (transition_selector ring (λ k. k) group) vanishing transitions over values differences quotients)

    -- the points, one of them or the first divisor's number, and what is left where it is taken from each
    module _ (n : ℕ) (points : List K) (at : AreValuesOn ring root coset n (λ x. x) points) (one : K) (ds list : List K) (less : ds ≡ map (λ x. difference ring x one) list) (same : list ≡ points) where
      less_points : ds ≡ map (λ x. difference ring x one) points
      less_points = less ∙ ap (map (λ x. difference ring x one)) same

      pub no_first : one ≡ ring.one → (shown : List K) → shown ≡ ds → All (λ d. d ≢ ring.zero) shown
      no_first is shown e = subst (λ xs. All (λ d. d ≢ ring.zero) xs) (sym e) (none_is_first laws root group is_group coset outside n points at one ds is less_points)

      pub transitions_listed : one ≡ group.generator_inverse → AreValuesOn ring root coset n (transition_selector ring (λ k. k) group) ds
      transitions_listed is = transitions laws root group is_group coset outside n points at one ds is less_points

      module _ (vanishing : List K) (values : RepeatOn ring root coset (λ x. subgroup_vanishing ring group.size x) vanishing) (over elements divisors : List K) (shown_elements : elements ≡ vanishing) (shown_divisors : divisors ≡ ds)
          (quotients : AreQuotients ring inverse elements divisors (length divisors) over) where
        over_listed : AreQuotients ring inverse vanishing ds (length ds) over
        over_listed = subst (λ ys. AreQuotients ring inverse vanishing ys (length ys) over) shown_divisors (subst (λ xs. AreQuotients ring inverse xs divisors (length divisors) over) shown_elements quotients)

        pub first_rows_listed : one ≡ ring.one → AreValuesOn ring root coset n (first_row_selector ring (λ k. k) group) over
        first_rows_listed = first_rows laws root group is_group coset outside n points at vanishing values one ds over less_points over_listed
