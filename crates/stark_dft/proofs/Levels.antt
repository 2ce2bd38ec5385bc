-- A level of a transform, over plain values.
use Rattle.std.proofs.Common.{◌≡◌, ◌≢◌, ◌∙◌, ℕ, ◌+◌, ◌-◌, ◌*◌, ◌/◌, ◌^◌, ◌<◌, ◌≤◌, List, length, sym, ap, arith, subst, refl, add-one}
use Rattle.std.proofs.Math.Nat.{mul-add}
use Rattle.std.proofs.lemmas.Nat.{mul-le, pow_pos}
use Rattle.stark_support.specs.PowerFacts.{double, power-zero}
use Rattle.stark_support.specs.Polynomial.{scaled}
use Rattle.stark_support.specs.Ring.{RingOps, FieldLaws}
use Rattle.stark_support.specs.TwoAdic.{TwoAdicLaws}
use Rattle.stark_support.specs.Powers.{power, squarings}
use Rattle.stark_support.specs.CosetFacts.{root_nonzero}
use Rattle.stark_dft.specs.Passes.{entry, point_at, IsEvaluationPass, IsInterpolationPass}
use Rattle.stark_dft.specs.Strided.{AreRowsOn}
use Rattle.stark_dft.specs.Halving.{AreRoots, AreValuesInBlocks, LeadsTo, level_point}
use Rattle.stark_dft.specs.LevelFacts.{evaluated_blocks, interpolation_leads}
use Rattle.stark_dft.specs.RootFacts.{half_power, all_blocks, start_leads, two_halves, plus_itself, last_level, none_left, end_values, end_leads, undone, doubled_power, two_nonzero, squarings_nonzero, roots_of_level}

same_points : {K : Type 0} (ring : RingOps K) (first second ratio other : K) → first ≡ second → ratio ≡ other → (i : ℕ) → point_at ring first ratio i ≡ point_at ring second other i
same_points ring first second ratio other e f i = ap (λ s. point_at ring s ratio i) e ∙ ap (λ r. point_at ring second r i) f

back_level : (k d : ℕ) → d < k → k - d ≡ k - (d + 1) + 1
back_level k d h = omega arith

back_again : (k d : ℕ) → d < k → d ≡ k - (k - (d + 1) + 1)
back_again k d h = omega arith

below_top : (k d : ℕ) → d < k → k - (d + 1) < k
below_top k d h = omega arith

pub fewer_blocks : (k d blocks : ℕ) → d < k → blocks ≡ 2 ^ (k - d) → blocks / 2 ≡ 2 ^ (k - (d + 1))
fewer_blocks k d blocks h is = let parts = half_power k d h in omega arith

pub both_blocks : (k d blocks : ℕ) → d < k → blocks ≡ 2 ^ (k - d) → blocks / 2 + blocks / 2 ≡ blocks
both_blocks k d blocks h is = let parts = half_power k d h in omega arith

pub whole_length : (k d w block blocks : ℕ) → d < k → block ≡ w * 2 ^ d → blocks ≡ 2 ^ (k - d) → blocks / 2 * block + blocks / 2 * block ≡ w * 2 ^ k
whole_length k d w block blocks h block_is blocks_is =
    all_blocks w k (k - (d + 1)) block (blocks / 2) (below_top k d h) (block_is ∙ ap (λ n. w * 2 ^ n) (back_again k d h)) (fewer_blocks k d blocks h blocks_is)

pub larger_block : (w d block : ℕ) → block ≡ w * 2 ^ d → block * 2 ≡ w * 2 ^ (d + 1)
larger_block w d block is = let e : block * 2 ≡ w * 2 ^ d + w * 2 ^ d = omega arith in e ∙ sym (mul-add w (2 ^ d) (2 ^ d)) ∙ ap (λ n. w * n) (double d ∙ ap (λ n. 2 ^ n) (sym (add-one d)))

module _ {K : Type 0} {ring : RingOps K} {inverse : K → K} (laws : FieldLaws ring inverse) (adicity : ℕ) (root : ℕ → K) (generator : K) (two_adic : TwoAdicLaws ring adicity root generator) where
  pub evaluated_level : (shift : K) (k l w block blocks : ℕ) (first ratio : K) (coefficient : ℕ → K) (source target : List K) → l < k → k ≤ adicity → block ≡ w * 2 ^ (k - l) → blocks ≡ 2 ^ l
      → first ≡ squarings ring shift (k - (l + 1)) → ratio ≡ root (l + 1) → IsEvaluationPass ring (block / 2) first ratio (blocks * (block / 2)) source target
      → AreValuesInBlocks ring ring.one coefficient block blocks (level_point ring root shift k l) source
      → AreValuesInBlocks ring ring.one coefficient (block / 2) (blocks * 2) (level_point ring root shift k (l + 1)) target
  evaluated_level shift k l w block blocks first ratio coefficient source target h within block_is blocks_is first_is ratio_is pass before =
      subst (λ n. AreValuesInBlocks ring ring.one coefficient (block / 2) n (level_point ring root shift k (l + 1)) target) (sym (plus_itself blocks))
      (evaluated_blocks laws.of_ring ring.one coefficient (block / 2) blocks (level_point ring root shift k l) (level_point ring root shift k (l + 1)) first ratio source target
      (subst (λ n. AreRoots ring n (level_point ring root shift k l) (level_point ring root shift k (l + 1))) (sym blocks_is) (roots_of_level laws adicity root generator two_adic shift k l h within))
      (λ i. same_points ring (squarings ring shift (k - (l + 1))) first (root (l + 1)) ratio (sym first_is) (sym ratio_is) i)
      pass (subst (λ n. AreValuesInBlocks ring ring.one coefficient n blocks (level_point ring root shift k l) source) (sym (two_halves w k l block h block_is)) before))

  pub evaluated_all : (shift : K) (k l w block blocks : ℕ) (coefficients list : List K) → k ≤ l → l ≤ k → block ≡ w * 2 ^ (k - l) → blocks ≡ 2 ^ l → length list ≡ w * 2 ^ k
      → AreValuesInBlocks ring ring.one (entry ring coefficients) block blocks (level_point ring root shift k l) list → AreRowsOn ring root (record { shift = shift; log_size = k }) w coefficients list
  evaluated_all shift k l w block blocks coefficients list up down block_is blocks_is number before =
      let at_end : l ≡ k = last_level k l up down in
      let as_wide : block ≡ w = block_is ∙ ap (λ n. w * 2 ^ (k - n)) at_end ∙ ap (λ n. w * 2 ^ n) (none_left k) ∙ omega arith in
      let as_many : blocks ≡ 2 ^ k = blocks_is ∙ ap (λ n. 2 ^ n) at_end in
      end_values laws.of_ring root shift k w ring.one coefficients list refl number
      (subst (λ n. AreValuesInBlocks ring ring.one (entry ring coefficients) w (2 ^ k) (level_point ring root shift k n) list) at_end
      (subst (λ n. AreValuesInBlocks ring ring.one (entry ring coefficients) w n (level_point ring root shift k l) list) as_many
      (subst (λ n. AreValuesInBlocks ring ring.one (entry ring coefficients) n blocks (level_point ring root shift k l) list) as_wide before)))

  pub interpolated_level : (shift : K) (k d w block blocks : ℕ) (first ratio : K) (given source target : List K) → d < k → k ≤ adicity → shift ≢ ring.zero → blocks ≡ 2 ^ (k - d)
      → first ≡ inverse (squarings ring shift d) → ratio ≡ inverse (root (k - d)) → IsInterpolationPass ring block first ratio (blocks / 2 * block) source target
      → LeadsTo ring block blocks (level_point ring root shift k (k - d)) source (power ring (inverse (ring.add ring.one ring.one)) (k - d)) w (2 ^ k) (level_point ring root shift k k) given
      → LeadsTo ring (block * 2) (blocks / 2) (level_point ring root shift k (k - (d + 1))) target (power ring (inverse (ring.add ring.one ring.one)) (k - (d + 1))) w (2 ^ k) (level_point ring root shift k k) given
  interpolated_level shift k d w block blocks first ratio given source target h within nonzero blocks_is first_is ratio_is pass before =
      let l = k - (d + 1) in
      let half = inverse (ring.add ring.one ring.one) in
      let last = level_point ring root shift k k in
      let first_there : first ≡ inverse (squarings ring shift (k - (l + 1))) = first_is ∙ ap (λ n. inverse (squarings ring shift n)) (back_again k d h) in
      let ratio_there : ratio ≡ inverse (root (l + 1)) = ratio_is ∙ ap (λ n. inverse (root n)) (back_level k d h) in
      subst (λ n. LeadsTo ring n (blocks / 2) (level_point ring root shift k l) target (power ring half l) w (2 ^ k) last given) (sym (plus_itself block))
      (interpolation_leads laws.of_ring block (blocks / 2) (level_point ring root shift k l) (level_point ring root shift k (l + 1)) first ratio source target (power ring half (k - d)) (power ring half l) w (2 ^ k) last given
      (subst (λ n. AreRoots ring n (level_point ring root shift k l) (level_point ring root shift k (l + 1))) (sym (fewer_blocks k d blocks h blocks_is)) (roots_of_level laws adicity root generator two_adic shift k l (below_top k d h) within))
      (λ i. ap (ring.mul (level_point ring root shift k (l + 1) i)) (same_points ring first (inverse (squarings ring shift (k - (l + 1)))) ratio (inverse (root (l + 1))) first_there ratio_there i)
      ∙ undone laws (squarings ring shift (k - (l + 1))) (root (l + 1)) (squarings_nonzero laws adicity root generator two_adic shift (k - (l + 1)) nonzero) (root_nonzero laws adicity root generator two_adic (l + 1) (omega arith)) i)
      pass (doubled_power laws k d (two_nonzero laws adicity root generator two_adic) h)
      (subst (λ n. LeadsTo ring block n (level_point ring root shift k (l + 1)) source (power ring half (k - d)) w (2 ^ k) last given) (sym (both_blocks k d blocks h blocks_is))
      (subst (λ n. LeadsTo ring block blocks (level_point ring root shift k n) source (power ring half (k - d)) w (2 ^ k) last given) (back_level k d h) before)))

  pub interpolated_start : (shift : K) (k w blocks : ℕ) (scale : K) (given source : List K) → blocks ≡ 2 ^ k → scale ≡ power ring (inverse (ring.add ring.one ring.one)) k → length given ≡ w * 2 ^ k
      → source ≡ scaled ring scale given
      → LeadsTo ring w blocks (level_point ring root shift k (k - 0)) source (power ring (inverse (ring.add ring.one ring.one)) (k - 0)) w (2 ^ k) (level_point ring root shift k k) given
  interpolated_start shift k w blocks scale given source blocks_is scale_is number scaled_is =
      let same : k - 0 ≡ k = omega arith in
      start_leads laws.of_ring root shift k (k - 0) w blocks scale (power ring (inverse (ring.add ring.one ring.one)) (k - 0)) given source same blocks_is (ap (power ring (inverse (ring.add ring.one ring.one))) same ∙ sym scale_is) number scaled_is

  pub interpolated_all : (shift : K) (k d w block blocks : ℕ) (given source : List K) → k ≤ d → d ≤ k → blocks ≡ 2 ^ (k - d) → length given ≡ w * 2 ^ k
      → LeadsTo ring block blocks (level_point ring root shift k (k - d)) source (power ring (inverse (ring.add ring.one ring.one)) (k - d)) w (2 ^ k) (level_point ring root shift k k) given
      → AreRowsOn ring root (record { shift = shift; log_size = k }) w source given
  interpolated_all shift k d w block blocks given source up down blocks_is number before =
      let done : k - d ≡ 0 = omega arith in
      end_leads laws.of_ring root shift k w block blocks (level_point ring root shift k (k - d)) (power ring (inverse (ring.add ring.one ring.one)) (k - d)) given source
      (blocks_is ∙ ap (λ n. 2 ^ n) done) (ap (power ring (inverse (ring.add ring.one ring.one))) done ∙ power-zero laws.of_ring (inverse (ring.add ring.one ring.one))) number before

  -- the same of the vectors that the lists stand in
  pub evaluated_vector : (shift : K) (k l w block blocks : ℕ) (first ratio : K) (coefficient : ℕ → K) (source target stored after : List K) → source ≡ stored → after ≡ target → l < k → k ≤ adicity → block ≡ w * 2 ^ (k - l) → blocks ≡ 2 ^ l
      → first ≡ squarings ring shift (k - (l + 1)) → ratio ≡ root (l + 1) → IsEvaluationPass ring (block / 2) first ratio (blocks * (block / 2)) source target
      → AreValuesInBlocks ring ring.one coefficient block blocks (level_point ring root shift k l) stored
      → AreValuesInBlocks ring ring.one coefficient (block / 2) (blocks * 2) (level_point ring root shift k (l + 1)) after
  evaluated_vector shift k l w block blocks first ratio coefficient source target stored after e f h within block_is blocks_is first_is ratio_is pass before =
      subst (λ t. AreValuesInBlocks ring ring.one coefficient (block / 2) (blocks * 2) (level_point ring root shift k (l + 1)) t) (sym f)
      (evaluated_level shift k l w block blocks first ratio coefficient source target h within block_is blocks_is first_is ratio_is pass
      (subst (λ t. AreValuesInBlocks ring ring.one coefficient block blocks (level_point ring root shift k l) t) (sym e) before))

  pub interpolated_vector : (shift : K) (k d w block blocks : ℕ) (first ratio : K) (given source target stored after : List K) → source ≡ stored → after ≡ target → d < k → k ≤ adicity → shift ≢ ring.zero → blocks ≡ 2 ^ (k - d)
      → first ≡ inverse (squarings ring shift d) → ratio ≡ inverse (root (k - d)) → IsInterpolationPass ring block first ratio (blocks / 2 * block) source target
      → LeadsTo ring block blocks (level_point ring root shift k (k - d)) stored (power ring (inverse (ring.add ring.one ring.one)) (k - d)) w (2 ^ k) (level_point ring root shift k k) given
      → LeadsTo ring (block * 2) (blocks / 2) (level_point ring root shift k (k - (d + 1))) after (power ring (inverse (ring.add ring.one ring.one)) (k - (d + 1))) w (2 ^ k) (level_point ring root shift k k) given
  interpolated_vector shift k d w block blocks first ratio given source target stored after e f h within nonzero blocks_is first_is ratio_is pass before =
      subst (λ t. LeadsTo ring (block * 2) (blocks / 2) (level_point ring root shift k (k - (d + 1))) t (power ring (inverse (ring.add ring.one ring.one)) (k - (d + 1))) w (2 ^ k) (level_point ring root shift k k) given) (sym f)
      (interpolated_level shift k d w block blocks first ratio given source target h within nonzero blocks_is first_is ratio_is pass
      (subst (λ t. LeadsTo ring block blocks (level_point ring root shift k (k - d)) t (power ring (inverse (ring.add ring.one ring.one)) (k - d)) w (2 ^ k) (level_point ring root shift k k) given) (sym e) before))

pub twice_fits : (k d w block blocks : ℕ) → d < k → block ≡ w * 2 ^ d → blocks ≡ 2 ^ (k - d) → w * 2 ^ k < 2 ^ 64 → block * 2 < 2 ^ 64
twice_fits k d w block blocks h block_is blocks_is fits =
    let whole = whole_length k d w block blocks h block_is blocks_is in
    let some : 0 < blocks / 2 = subst (λ n. 0 < n) (sym (fewer_blocks k d blocks h blocks_is)) (pow_pos (k - (d + 1))) in
    let at_least = mul-le 1 block (blocks / 2) block some (omega arith) in
    omega arith
