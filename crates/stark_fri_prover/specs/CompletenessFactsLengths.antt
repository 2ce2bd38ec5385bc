-- Lengths of folded polynomials, and places that are drawn.
use Rattle.std.specs.Prelude.{◌≡◌, ℕ, zero, suc, ◌*◌, ◌^◌, ◌<◌, List, [], ◌∷◌, length, refl}
use Rattle.std.proofs.Common.{ap, ◌∙◌, arith, pow-suc}
use Rattle.std.proofs.Math.Nat.{mod-lt}
use Rattle.std.proofs.lemmas.Nat.{pow_pos}
use Rattle.std.specs.List.{AllByRecursion}
use Rattle.stark_support.specs.Ring.{RingOps}
use Rattle.stark_support.specs.Sponge.{drawn_in_turn}
use Rattle.stark_folding.specs.Fold.{folded}
use Rattle.stark_folding.specs.Walk.{folded_all}
use Rattle.stark_fri.specs.Parts.{SpongeCalls}
use Rattle.stark_fri.specs.Transcript.{places_from}

double : (k n : ℕ) → 2 ^ suc k * n ≡ 2 * (2 ^ k * n)
double k n = ap (λ t. t * n) (pow-suc 2 k) ∙ omega arith

module _ {K : Type 0} (ring : RingOps K) where
  -- A fold of twice as many coefficients has this number.
  pub folded_halves : (beta : K) (p : List K) (n : ℕ) → length p ≡ 2 * n → length (folded ring beta p) ≡ n
  unfolding folded
  folded_halves beta [] n is = omega arith
  folded_halves beta (c ∷ []) n is = absurd (omega arith)
  folded_halves beta (c ∷ (d ∷ p)) zero is = absurd (omega arith)
  folded_halves beta (c ∷ (d ∷ p)) (suc n) is = ap suc (folded_halves beta p n (omega arith))

  -- So many folds leave the factor beside 2 to their number.
  pub folded_all_halves : (betas p : List K) (n : ℕ) → length p ≡ 2 ^ length betas * n → length (folded_all ring betas p) ≡ n
  unfolding folded_all
  folded_all_halves [] p n is = omega arith
  folded_all_halves (beta ∷ betas) p n is =
      folded_all_halves betas (folded ring beta p) n (folded_halves beta p (2 ^ length betas * n) (is ∙ double (length betas) n))

module _ {C F E : Type 0} (sponge : SpongeCalls C F E) where
  -- The drawn places are below the number of rows.
  pub places_below : (bits count : ℕ) (state : C) → AllByRecursion (λ place. place < 2 ^ bits) (places_from sponge bits count state)
  unfolding drawn_in_turn
  places_below bits zero state = tt
  places_below bits (suc count) state = (mod-lt (sponge.bits_of state bits) (pow_pos bits), places_below bits count (sponge.after_bits state bits))

  -- As many are drawn as are asked for.
  pub places_counted : (bits count : ℕ) (state : C) → length (places_from sponge bits count state) ≡ count
  unfolding drawn_in_turn
  places_counted bits zero state = refl
  places_counted bits (suc count) state = ap suc (places_counted bits count (sponge.after_bits state bits))
