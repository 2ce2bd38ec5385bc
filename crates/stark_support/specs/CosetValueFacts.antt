-- The values of a function on a coset, listed in order; a subgroup at the points of a coset apart from it.
use Rattle.std.specs.Prelude.{◌≡◌, ◌≢◌, ℕ, ◌+◌, List, [], ◌∷◌, ◌++◌, length, Some, refl}
use Rattle.std.proofs.Common.{sym, ◌∙◌, ap, arith}
use Rattle.stark_support.specs.Ring.{RingOps, FieldLaws}
use Rattle.stark_support.specs.Embedding.{IsEmbedding}
use Rattle.stark_support.specs.TwoAdic.{TwoAdicLaws}
use Rattle.stark_support.specs.Coset.{TwoAdicCoset, IsTwoAdicCoset, AreDisjoint, AreValuesOn, coset_point, coset_size, coset_vanishing, subgroup_vanishing}
use Rattle.stark_support.specs.CosetFacts.{only_on_points}
use Rattle.stark_support.specs.ListFacts.{one_more_number, one_more_listed}
use Rattle.stark_support.specs.SelectorFacts.{IsSubgroup}
use Rattle.stark_support.specs.Subgroup.{group_of}
use Rattle.stark_support.specs.SubgroupFacts.{group_computed, vanishing_of_subgroup}

module _ {K : Type 0} (ring : RingOps K) (root : ℕ → K) (coset : TwoAdicCoset K) (value : K → K) where
  pub no_values : (values : List K) → values ≡ [] → AreValuesOn ring root coset 0 value values
  no_values values e = record { number = ap length e; at_row = λ i h. absurd (omega arith) }

  pub one_more_value : (n : ℕ) (before after : List K) (x v : K) → AreValuesOn ring root coset n value before → after ≡ before ++ v ∷ [] → x ≡ coset_point ring root coset n → v ≡ value x
      → AreValuesOn ring root coset (n + 1) value after
  one_more_value n before after x v listed e point is = record {
    number = one_more_number before after v n listed.number e;
    at_row = one_more_listed (λ i. Some (value (coset_point ring root coset i))) before after v n listed.number listed.at_row (ap Some (sym (is ∙ ap value point))) e;
  }

  pub all_values : (n m : ℕ) (values : List K) → n ≡ m → AreValuesOn ring root coset n value values → AreValuesOn ring root coset m value values
  all_values n m values e listed = record { number = listed.number ∙ e; at_row = λ i h. listed.at_row i (omega arith) }

module _ {K : Type 0} {ring : RingOps K} {inverse : K → K} (laws : FieldLaws ring inverse) (adicity : ℕ) (root : ℕ → K) (generator : K) (two_adic : TwoAdicLaws ring adicity root generator) where
  itself : IsEmbedding ring ring (λ c. c)
  itself = record { keeps = record { zero = refl; one = refl; add = λ x y. refl; mul = λ x y. refl; neg = λ x. refl }; injective = λ x y e. e }

  module _ (c : TwoAdicCoset K) (valid : IsTwoAdicCoset ring adicity c) where
    -- the group of a coset, in its own field
    pub own_subgroup : (h : K) → h ≡ root c.log_size → IsSubgroup ring inverse (group_of inverse h c.log_size)
    own_subgroup h e = group_computed laws itself adicity root generator two_adic c valid h e

    -- where the shift is one, the vanishing value is x ^ n - 1
    pub unshifted_vanishing : c.shift ≡ ring.one → (x : K) → coset_vanishing ring (λ y. y) inverse (coset_size c) c.shift x ≡ subgroup_vanishing ring (coset_size c) x
    unshifted_vanishing unshifted x = vanishing_of_subgroup laws itself adicity root generator two_adic (coset_size c) c.shift x unshifted

    -- the points of a coset apart from a subgroup lie outside it
    pub apart_outside : c.shift ≡ ring.one → (d : TwoAdicCoset K) → AreDisjoint ring root c d → (i : ℕ) (x : K) → x ≡ coset_point ring root d i → subgroup_vanishing ring (coset_size c) x ≢ ring.zero
    apart_outside unshifted d disjoint i x at e =
        let point = only_on_points laws adicity root generator two_adic c valid x (unshifted_vanishing unshifted x ∙ e) in
        disjoint.apart point.0 i (sym point.2 ∙ at)
