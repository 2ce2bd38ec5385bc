-- The steps of the loop that computes a group's fraction.
use Rattle.std.proofs.Common.{◌≡◌, ◌∙◌, ℕ, ◌+◌, ◌<◌, List, ◌∷◌, length, get_or, map, drop, sym, ap, arith}
use Rattle.std.proofs.lemmas.List.{drop_all}
use Rattle.stark_support.proofs.Places.{from_place}
use Rattle.stark_support.specs.Ring.{RingOps, difference}
use Rattle.stark_logup.specs.Columns.{entry_of}
use Rattle.stark_logup.specs.Fractions.{denominator, numerator}

module _ {K : Type 0} (ring : RingOps K) (gamma : K) (group : List (K × K)) where
  abbrev pub Below : ℕ → K → Type 0
  Below i below = below ≡ denominator ring gamma (map entry_of (drop i group))

  abbrev pub Above : ℕ → K → Type 0
  Above i above = above ≡ numerator ring gamma (map entry_of (drop i group))

  pub none_below : (below : K) → below ≡ ring.one → Below (length group) below
  none_below below is = is ∙ sym (ap (λ t. denominator ring gamma (map entry_of t)) (drop_all (length group) group (omega arith)))

  pub none_above : (above : K) → above ≡ ring.zero → Above (length group) above
  none_above above is = is ∙ sym (ap (λ t. numerator ring gamma (map entry_of t)) (drop_all (length group) group (omega arith)))

  module _ (i j : ℕ) (p : K × K) (next : i + 1 ≡ j) (within : i < length group) (is : p ≡ get_or group i p) where
    opened : drop i group ≡ p ∷ drop j group
    opened = from_place group i j p next within is

    pub more_below : (gap below product : K) → gap ≡ difference ring gamma p.0 → product ≡ ring.mul gap below → Below j below → Below i product
    more_below gap below product is_gap is_product so_far =
        is_product ∙ ap (λ t. ring.mul t below) is_gap ∙ ap (ring.mul (difference ring gamma p.0)) so_far ∙ sym (ap (λ t. denominator ring gamma (map entry_of t)) opened)

    pub more_above : (gap below above first second sum : K) → gap ≡ difference ring gamma p.0 → first ≡ ring.mul p.1 below → second ≡ ring.mul gap above → sum ≡ ring.add first second
        → Below j below → Above j above → Above i sum
    more_above gap below above first second sum is_gap is_first is_second is_sum below_so_far above_so_far =
        is_sum ∙ ap (λ t. ring.add t second) (is_first ∙ ap (ring.mul p.1) below_so_far)
        ∙ ap (ring.add (ring.mul p.1 (denominator ring gamma (map entry_of (drop j group))))) (is_second ∙ ap (λ t. ring.mul t above) is_gap ∙ ap (ring.mul (difference ring gamma p.0)) above_so_far)
        ∙ sym (ap (λ t. numerator ring gamma (map entry_of t)) opened)
