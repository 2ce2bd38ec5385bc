-- An honest prover's queries lead to the values of the last folded polynomial.
use Rattle.std.specs.Prelude.{◌≡◌, ℕ, suc, ◌+◌, ◌-◌, ◌*◌, ◌^◌, ◌%◌, ◌<◌, ◌≤◌, Bool, cond, List, [], ◌∷◌, length, refl}
use Rattle.std.proofs.Common.{sym, ap, ◌∙◌, subst, inl, inr, arith, pow-suc}
use Rattle.std.proofs.Math.Arith.{digits_mod}
use Rattle.std.proofs.Math.Nat.{mod-eq_of_lt, mod-lt, mul_assoc}
use Rattle.std.proofs.lemmas.Nat.{pow_pos}
use Rattle.std.proofs.lemmas.Bool.Decides.{leb_tells}
use Rattle.stark_support.specs.Ring.{RingOps, FieldLaws}
use Rattle.stark_support.specs.FoldingFacts.{folded_length}
use Rattle.stark_support.specs.Polynomial.{value, HasDegreeBelow}
use Rattle.stark_support.specs.TwoAdic.{TwoAdicLaws}
use Rattle.stark_support.specs.Coset.{TwoAdicCoset, IsTwoAdicCoset, coset_point, coset_size}
use Rattle.stark_folding.specs.Fold.{folded, folded_pair, squared_coset}
use Rattle.stark_folding.specs.FoldFacts.{points_fold, squares_valid}
use Rattle.stark_folding.specs.Walk.{folded_all, half_size, steps_of_layers, last_coset, last_place, next_value, opposite_place, walked}

two_times : (k : ℕ) → 2 ^ suc k ≡ 2 * 2 ^ k
two_times k = omega (arith, pow-suc 2 k)

low_place : (i n : ℕ) → i < n → i % n ≡ i
low_place i n low = mod-eq_of_lt low

high_place : (i n : ℕ) → n ≤ i → i < 2 * n → i % n + n ≡ i
high_place i n high below =
    let r = i - n in
    let split : 1 * n + r ≡ i = omega arith in
    let small : r < n = omega arith in
    ap (λ t. t % n + n) (sym split) ∙ ap (λ t. t + n) (digits_mod 1 small) ∙ omega arith

place_below : (i k : ℕ) → i % 2 ^ k < 2 ^ k
place_below i k = mod-lt i (pow_pos k)

module _ {K : Type 0} {ring : RingOps K} {inverse : K → K} (laws : FieldLaws ring inverse) (adicity : ℕ) (root : ℕ → K) (generator : K) (two_adic : TwoAdicLaws ring adicity root generator) where
  -- One step: the polynomial's values at a place and at the opposite one lead to the folded polynomial's.
  next_is_folded : (c : TwoAdicCoset K) → IsTwoAdicCoset ring adicity c → 1 ≤ c.log_size → (beta : K) (p : List K) (i : ℕ) → i < coset_size c
      → next_value ring inverse root c beta i (value ring p (coset_point ring root c i)) (value ring p (coset_point ring root c (opposite_place c i)))
      ≡ value ring (folded ring beta p) (coset_point ring root (squared_coset ring c) (i % half_size c))
  next_is_folded c valid some beta p i within =
      let n = half_size c in
      let j = i % n in
      let x = coset_point ring root c j in
      let at = λ (m : ℕ). value ring p (coset_point ring root c m) in
      let whole : c.log_size ≡ suc (c.log_size - 1) = omega arith in
      let twice : coset_size c ≡ 2 * n = ap (λ m. 2 ^ m) whole ∙ two_times (c.log_size - 1) in
      let fold = points_fold laws adicity root generator two_adic c valid (c.log_size - 1) whole beta p j in
      let chosen = λ (b : Bool). cond b (folded_pair ring inverse beta x (at i) (at (cond b (j + n) j))) (folded_pair ring inverse beta x (at (cond b (j + n) j)) (at i)) in
      elim (leb_tells (suc i) n) [
        | inl w ↦ let low : i < n = w.1 in ap chosen w.0 ∙ ap (λ m. folded_pair ring inverse beta x (at m) (at (j + n))) (sym (low_place i n low)) ∙ fold
        | inr w ↦ let high : n < suc i = w.1 in ap chosen w.0 ∙ ap (λ m. folded_pair ring inverse beta x (at j) (at m)) (sym (high_place i n (omega arith) (omega (arith, twice)))) ∙ fold
      ]

  pub walk_of_layers : (c : TwoAdicCoset K) → IsTwoAdicCoset ring adicity c → (betas : List K) → length betas ≤ c.log_size → (p : List K) (i : ℕ) → i < coset_size c
      → walked ring inverse root c i (value ring p (coset_point ring root c i)) (steps_of_layers ring root c i p betas)
      ≡ value ring (folded_all ring betas p) (coset_point ring root (last_coset ring (length betas) c) (last_place ring (length betas) c i))
  unfolding walked steps_of_layers folded_all last_coset last_place
  walk_of_layers c valid [] few p i within = refl
  walk_of_layers c valid (beta ∷ betas) few p i within =
      let j = i % half_size c in
      let whole : c.log_size ≡ suc (c.log_size - 1) = omega arith in
      ap (λ v. walked ring inverse root (squared_coset ring c) j v (steps_of_layers ring root (squared_coset ring c) j (folded ring beta p) betas))
      (next_is_folded c valid (omega arith) beta p i within) ∙
      walk_of_layers (squared_coset ring c) (squares_valid laws adicity root generator two_adic c valid (c.log_size - 1) whole) betas (omega arith) (folded ring beta p) j
      (place_below i (c.log_size - 1))

module _ {K : Type 0} (ring : RingOps K) where
  -- Each fold halves the number of coefficients.
  pub folded_all_length : (betas p : List K) (n : ℕ) → HasDegreeBelow (2 ^ length betas * n) p → HasDegreeBelow n (folded_all ring betas p)
  unfolding folded_all
  folded_all_length [] p n below = omega arith
  folded_all_length (beta ∷ betas) p n below =
      folded_all_length betas (folded ring beta p) n (folded_length ring beta p (2 ^ length betas * n) (subst (λ m. length p ≤ m) (ap (λ t. t * n) (two_times (length betas)) ∙ mul_assoc 2 (2 ^ length betas) n) below))
