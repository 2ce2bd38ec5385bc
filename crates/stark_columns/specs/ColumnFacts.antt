-- Points of a coset in row order.
use Rattle.std.specs.Prelude.{◌≡◌, ℕ, zero, suc, ◌+◌, ◌-◌, ◌<◌, ◌≤◌, List, [], ◌∷◌, ◌++◌, map, length, Some, option_map}
use Rattle.std.specs.List.{slice_get}
use Rattle.std.proofs.Common.{sym, ap, ◌∙◌, arith, append_assoc, add-one}
use Rattle.std.proofs.lemmas.List.{length-map, append-nil}
use Rattle.std.proofs.lemmas.Option.{slice_get-map}
use Rattle.stark_support.specs.Ring.{RingOps}
use Rattle.stark_support.specs.Coset.{TwoAdicCoset, coset_point, coset_size}
use Rattle.stark_support.specs.Points.{powers_from}
use Rattle.stark_support.specs.PointFacts.{powers_length}
use Rattle.stark_support.specs.Powers.{power}
use Rattle.stark_columns.specs.ColumnPoints.{points_of}

pub power_at : {K : Type 0} (ring : RingOps K) (g : K) (m n r : ℕ) → r < n → slice_get (powers_from ring g m n) r ≡ Some (power ring g (m + r))
power_at ring g m zero r h = absurd (omega arith)
power_at ring g m (suc n) zero h = ap (λ k. Some (power ring g k)) (omega arith)
power_at ring g m (suc n) (suc r) h = power_at ring g (suc m) n r (omega arith) ∙ ap (λ k. Some (power ring g k)) (omega arith)

from_zero : (r : ℕ) → 0 + r ≡ r
from_zero r = omega arith

-- point r of the list
pub point_at : {K : Type 0} (ring : RingOps K) (root : ℕ → K) (coset : TwoAdicCoset K) (r : ℕ) → r < coset_size coset → slice_get (points_of ring root coset) r ≡ Some (coset_point ring root coset r)
point_at ring root coset r h =
    slice_get-map (ring.mul coset.shift) (powers_from ring (root coset.log_size) 0 (coset_size coset)) r
    ∙ ap (option_map (ring.mul coset.shift)) (power_at ring (root coset.log_size) 0 (coset_size coset) r h ∙ ap (λ k. Some (power ring (root coset.log_size) k)) (from_zero r))

pub points_number : {K : Type 0} (ring : RingOps K) (root : ℕ → K) (coset : TwoAdicCoset K) → length (points_of ring root coset) ≡ coset_size coset
points_number ring root coset = length-map (powers_from ring (root coset.log_size) 0 (coset_size coset)) (ring.mul coset.shift) ∙ powers_length ring (root coset.log_size) 0 (coset_size coset)

module _ {K : Type 0} (ring : RingOps K) (s g : K) where
  no_more : (m n : ℕ) → m < n → n - m ≡ suc (n - suc m)
  no_more m n h = omega arith

  pub first_point : (n : ℕ) (none : List K) (whole : List K) → none ≡ [] → map (ring.mul s) (powers_from ring g 0 n) ≡ whole → none ++ map (ring.mul s) (powers_from ring g 0 (n - 0)) ≡ whole
  first_point n none whole e h = ap (λ t. t ++ map (ring.mul s) (powers_from ring g 0 (n - 0))) e ∙ ap (λ k. map (ring.mul s) (powers_from ring g 0 k)) (omega arith) ∙ h

  pub one_more_point : (m n : ℕ) (p x : K) (done after whole : List K) → m < n → p ≡ power ring g m → x ≡ ring.mul s p → after ≡ done ++ x ∷ []
      → done ++ map (ring.mul s) (powers_from ring g m (n - m)) ≡ whole → after ++ map (ring.mul s) (powers_from ring g (m + 1) (n - (m + 1))) ≡ whole
  one_more_point m n p x done after whole below is_power is_point pushed so_far =
      ap (λ k. after ++ map (ring.mul s) (powers_from ring g k (n - k))) (add-one m)
      ∙ ap (λ t. t ++ map (ring.mul s) (powers_from ring g (suc m) (n - suc m))) (pushed ∙ ap (λ y. done ++ y ∷ []) (is_point ∙ ap (ring.mul s) is_power))
      ∙ append_assoc done (ring.mul s (power ring g m) ∷ []) (map (ring.mul s) (powers_from ring g (suc m) (n - suc m)))
      ∙ ap (λ k. done ++ map (ring.mul s) (powers_from ring g m k)) (sym (no_more m n below)) ∙ so_far

  nothing_left : (m n : ℕ) → n ≤ m → 0 ≡ n - m
  nothing_left m n h = omega arith

  pub all_points : (m n : ℕ) (done whole : List K) → n ≤ m → done ++ map (ring.mul s) (powers_from ring g m (n - m)) ≡ whole → done ≡ whole
  all_points m n done whole ended so_far =
      sym (append-nil done) ∙ ap (λ k. done ++ map (ring.mul s) (powers_from ring g m k)) (nothing_left m n ended) ∙ so_far

pub power_start : {K : Type 0} (ring : RingOps K) (x one : K) → one ≡ ring.one → one ≡ power ring x 0
unfolding power
power_start ring x one e = e

pub power_step : {K : Type 0} (ring : RingOps K) (x p next : K) (n : ℕ) → p ≡ power ring x n → next ≡ ring.mul x p → next ≡ power ring x (n + 1)
unfolding power
power_step ring x p next n e h = h ∙ ap (ring.mul x) e ∙ ap (power ring x) (sym (add-one n))
