-- In which rows the selectors at the points of H are zero.
use Rattle.std.proofs.Common.{◌≡◌, ◌≢◌, ◌∙◌, ap, sym, ℕ, suc, ◌^◌, ◌<◌, arith}
use Rattle.stark_support.specs.Ring.{RingOps, FieldLaws, difference}
use Rattle.stark_support.specs.RingFacts.{mul_zero, same_if_no_difference}
use Rattle.stark_support.specs.FieldFacts.{cancel_left, zero_factor}
use Rattle.stark_support.specs.Powers.{power, power_sum}
use Rattle.stark_support.specs.PowerFacts.{power_sum_telescopes}
use Rattle.stark_support.specs.TwoAdic.{HasOrder}
use Rattle.stark_support.specs.DivisionFacts.{vanishes_on_subgroup}
use Rattle.stark_support.specs.Selectors.{first_row_selector, last_row_selector, transition_selector}
use Rattle.stark_support.specs.Subgroup.{group_of}

module _ {K : Type 0} {ring : RingOps K} {inverse : K → K} (laws : FieldLaws ring inverse) (g : K) (log_size : ℕ) (order : HasOrder ring g (2 ^ log_size)) (nonzero : g ≢ ring.zero) where
  -- The first row's is, in each other row.
  pub first_elsewhere : (k : ℕ) → 0 < k → k < 2 ^ log_size → first_row_selector ring (λ c. c) (group_of inverse g log_size) (power ring g k) ≡ ring.zero
  first_elsewhere k later below =
      let x = power ring g k in
      zero_factor laws (difference ring x ring.one) (power_sum ring x (2 ^ log_size)) (λ e. order.first k later below (same_if_no_difference laws.of_ring x ring.one e))
      (power_sum_telescopes laws.of_ring x (2 ^ log_size) ∙ vanishes_on_subgroup laws.of_ring g (2 ^ log_size) k order.reaches)

  -- The last row's is, in each row before.
  pub last_elsewhere : (k : ℕ) → suc k < 2 ^ log_size → last_row_selector ring (λ c. c) (group_of inverse g log_size) (power ring g k) ≡ ring.zero
  unfolding power
  last_elsewhere k below = ap (ring.mul g) (first_elsewhere (suc k) (omega arith) below) ∙ mul_zero laws.of_ring g

  -- The transition's is, in the last row.
  pub transition_at_end : (k : ℕ) → suc k ≡ 2 ^ log_size → transition_selector ring (λ c. c) (group_of inverse g log_size) (power ring g k) ≡ ring.zero
  unfolding power
  transition_at_end k last =
      let whole : ring.mul g (power ring g k) ≡ ring.one = ap (power ring g) last ∙ order.reaches in
      ap (λ w. difference ring w (inverse g)) (cancel_left laws g (power ring g k) (inverse g) nonzero (whole ∙ sym (laws.mul_inverse g nonzero))) ∙ laws.of_ring.add_neg (inverse g)
