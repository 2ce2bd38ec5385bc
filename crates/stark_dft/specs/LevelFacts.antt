-- What a pass makes of the values that stand in blocks.
use Rattle.std.specs.Prelude.{◌≡◌, ℕ, ◌+◌, ◌-◌, ◌*◌, ◌/◌, ◌<◌, ◌≤◌, List, [], ◌∷◌, refl}
use Rattle.std.proofs.Common.{sym, ap, ◌∙◌, arith, inl, inr, subst}
use Rattle.std.proofs.lemmas.Nat.{div-mul-add, mul-add-lt}
use Rattle.std.proofs.lemmas.Bool.{cases_lt}
use Rattle.std.proofs.Math.Nat.{mul-add, add-mul, mul_comm}
use Rattle.stark_support.specs.Ring.{RingOps, RingLaws, difference}
use Rattle.stark_support.specs.RingSolver.{solve, unit, ◌⊕◌, ◌⊖◌, ◌⊗◌, v0, v1, v2, v3, v4}
use Rattle.stark_support.specs.Polynomial.{value}
use Rattle.stark_dft.specs.Passes.{entry, doubled, point_at, opposite_difference, IsEvaluationPass, IsInterpolationPass}
use Rattle.stark_dft.specs.Strided.{strided}
use Rattle.stark_dft.specs.Halving.{AreRoots, AreValuesInBlocks, LeadsTo}
use Rattle.stark_dft.specs.HalvingFacts.{at_point, at_opposite}

-- where place q of block i stands
place_within : (blocks h i q : ℕ) → i < blocks → q < h → i * h + q < blocks * h
place_within blocks h i q a b = let fits = mul-add-lt i h q blocks a b in omega (arith, mul_comm h blocks)

first_of_pair : (h i q : ℕ) → i * h + (i * h + q) ≡ i * (h + h) + q
first_of_pair h i q = omega (arith, mul-add i h h)

second_of_pair : (h i q : ℕ) → i * h + (i * h + q) + h ≡ i * (h + h) + (q + h)
second_of_pair h i q = omega (arith, mul-add i h h)

later_block : (blocks h i q : ℕ) → (blocks + i) * h + q ≡ blocks * h + (i * h + q)
later_block blocks h i q = omega (arith, add-mul blocks i h)

offset_below : (blocks i : ℕ) → i < blocks + blocks → blocks ≤ i → i - blocks < blocks
offset_below blocks i a b = omega arith

offset_back : (blocks i : ℕ) → blocks ≤ i → i ≡ blocks + (i - blocks)
offset_back blocks i b = omega arith

sum_below : (q h : ℕ) → q < h → q + h < h + h
sum_below q h b = omega arith

first_below : (q h : ℕ) → q < h → q < h + h
first_below q h b = omega arith

module _ {K : Type 0} {ring : RingOps K} (laws : RingLaws ring) where
  evaluated_up : (f even x odd e o : K) → ring.mul f even ≡ e → ring.mul f odd ≡ o → ring.mul f (ring.add even (ring.mul x odd)) ≡ ring.add e (ring.mul x o)
  evaluated_up f even x odd e o is_even is_odd =
      solve laws (f ∷ even ∷ x ∷ odd ∷ []) (v0 ⊗ (v1 ⊕ v2 ⊗ v3)) (v0 ⊗ v1 ⊕ v2 ⊗ (v0 ⊗ v3)) refl
      ∙ ap (λ t. ring.add t (ring.mul x (ring.mul f odd))) is_even ∙ ap (λ t. ring.add e (ring.mul x t)) is_odd

  evaluated_down : (f even x odd e o : K) → ring.mul f even ≡ e → ring.mul f odd ≡ o → ring.mul f (difference ring even (ring.mul x odd)) ≡ difference ring e (ring.mul x o)
  evaluated_down f even x odd e o is_even is_odd =
      solve laws (f ∷ even ∷ x ∷ odd ∷ []) (v0 ⊗ (v1 ⊖ v2 ⊗ v3)) (v0 ⊗ v1 ⊖ v2 ⊗ (v0 ⊗ v3)) refl
      ∙ ap (λ t. difference ring t (ring.mul x (ring.mul f odd))) is_even ∙ ap (λ t. difference ring e (ring.mul x t)) is_odd

  -- From values at squares of points to values at the points.
  module _ (factor : K) (c : ℕ → K) (h blocks : ℕ) (coarse fine : ℕ → K) (first ratio : K) (source target : List K) (roots : AreRoots ring blocks coarse fine)
      (fine_is : (i : ℕ) → fine i ≡ point_at ring first ratio i) (pass : IsEvaluationPass ring h first ratio (blocks * h) source target)
      (before : AreValuesInBlocks ring factor c (h + h) blocks coarse source) where
    even_at : (i q : ℕ) → i < blocks → q < h → ring.mul factor (entry ring source (doubled h (i * h + q))) ≡ value ring (strided c q (h + h) blocks) (coarse i)
    even_at i q a b =
        ap (λ m. ring.mul factor (entry ring source (m * h + (i * h + q)))) (div-mul-add i h q b)
        ∙ ap (λ m. ring.mul factor (entry ring source m)) (first_of_pair h i q) ∙ before.value_at i q a (first_below q h b)

    odd_at : (i q : ℕ) → i < blocks → q < h → ring.mul factor (entry ring source (doubled h (i * h + q) + h)) ≡ value ring (strided c (q + h) (h + h) blocks) (coarse i)
    odd_at i q a b =
        ap (λ m. ring.mul factor (entry ring source (m * h + (i * h + q) + h))) (div-mul-add i h q b)
        ∙ ap (λ m. ring.mul factor (entry ring source m)) (second_of_pair h i q) ∙ before.value_at i (q + h) a (sum_below q h b)

    point_is : (i q : ℕ) → q < h → point_at ring first ratio ((i * h + q) / h) ≡ fine i
    point_is i q b = ap (point_at ring first ratio) (div-mul-add i h q b) ∙ sym (fine_is i)

    at_first : (i q : ℕ) → i < blocks → q < h → ring.mul factor (entry ring target (i * h + q)) ≡ value ring (strided c q h (blocks + blocks)) (fine i)
    at_first i q a b =
        let j = i * h + q in
        ap (ring.mul factor) (pass.one j (place_within blocks h i q a b)
        ∙ ap (λ t. ring.add (entry ring source (doubled h j)) (ring.mul t (entry ring source (doubled h j + h)))) (point_is i q b))
        ∙ evaluated_up factor (entry ring source (doubled h j)) (fine i) (entry ring source (doubled h j + h)) _ _ (even_at i q a b) (odd_at i q a b)
        ∙ sym (at_point laws c q h blocks (fine i) (coarse i) (roots.squared i))

    at_second : (i q : ℕ) → i < blocks → q < h → ring.mul factor (entry ring target (blocks * h + (i * h + q))) ≡ value ring (strided c q h (blocks + blocks)) (fine (blocks + i))
    at_second i q a b =
        let j = i * h + q in
        ap (ring.mul factor) (pass.two j (place_within blocks h i q a b)
        ∙ ap (λ t. difference ring (entry ring source (doubled h j)) (ring.mul t (entry ring source (doubled h j + h)))) (point_is i q b))
        ∙ evaluated_down factor (entry ring source (doubled h j)) (fine i) (entry ring source (doubled h j + h)) _ _ (even_at i q a b) (odd_at i q a b)
        ∙ sym (at_opposite laws c q h blocks (fine i) (fine (blocks + i)) (coarse i) (roots.squared i) (roots.opposite i))

    pub evaluated_blocks : AreValuesInBlocks ring factor c h (blocks + blocks) fine target
    evaluated_blocks = record {
      value_at = λ i q a b. elim (cases_lt i blocks) [
        | inl near ↦ at_first i q near b
        | inr far ↦
            let k = i - blocks in
            ap (λ m. ring.mul factor (entry ring target (m * h + q))) (offset_back blocks i far)
            ∙ ap (λ m. ring.mul factor (entry ring target m)) (later_block blocks h k q)
            ∙ at_second k q (offset_below blocks i a far) b
            ∙ ap (λ m. value ring (strided c q h (blocks + blocks)) (fine m)) (sym (offset_back blocks i far))
      ];
    }

  twice_here : (f a b x w : K) → ring.mul x w ≡ ring.one → ring.mul (ring.add f f) a ≡ ring.add (ring.mul f (ring.add a b)) (ring.mul x (ring.mul f (ring.mul w (difference ring a b))))
  twice_here f a b x w e =
      solve laws (f ∷ a ∷ b ∷ []) ((v0 ⊕ v0) ⊗ v1) (v0 ⊗ (v1 ⊕ v2) ⊕ unit ⊗ (v0 ⊗ (v1 ⊖ v2))) refl
      ∙ ap (λ t. ring.add (ring.mul f (ring.add a b)) (ring.mul t (ring.mul f (difference ring a b)))) (sym e)
      ∙ solve laws (f ∷ a ∷ b ∷ x ∷ w ∷ []) (v0 ⊗ (v1 ⊕ v2) ⊕ v3 ⊗ v4 ⊗ (v0 ⊗ (v1 ⊖ v2))) (v0 ⊗ (v1 ⊕ v2) ⊕ v3 ⊗ (v0 ⊗ (v4 ⊗ (v1 ⊖ v2)))) refl

  twice_opposite : (f a b x w : K) → ring.mul x w ≡ ring.one → ring.mul (ring.add f f) b ≡ difference ring (ring.mul f (ring.add a b)) (ring.mul x (ring.mul f (ring.mul w (difference ring a b))))
  twice_opposite f a b x w e =
      solve laws (f ∷ a ∷ b ∷ []) ((v0 ⊕ v0) ⊗ v2) (v0 ⊗ (v1 ⊕ v2) ⊖ unit ⊗ (v0 ⊗ (v1 ⊖ v2))) refl
      ∙ ap (λ t. difference ring (ring.mul f (ring.add a b)) (ring.mul t (ring.mul f (difference ring a b)))) (sym e)
      ∙ solve laws (f ∷ a ∷ b ∷ x ∷ w ∷ []) (v0 ⊗ (v1 ⊕ v2) ⊖ v3 ⊗ v4 ⊗ (v0 ⊗ (v1 ⊖ v2))) (v0 ⊗ (v1 ⊕ v2) ⊖ v3 ⊗ (v0 ⊗ (v4 ⊗ (v1 ⊖ v2)))) refl

  -- From values at points to twice the values of the halves at the squares.
  module _ (factor : K) (c : ℕ → K) (h blocks : ℕ) (coarse fine : ℕ → K) (first ratio : K) (source target : List K) (roots : AreRoots ring blocks coarse fine)
      (undone : (i : ℕ) → ring.mul (fine i) (point_at ring first ratio i) ≡ ring.one) (pass : IsInterpolationPass ring h first ratio (blocks * h) source target)
      (after : AreValuesInBlocks ring factor c (h + h) blocks coarse target) where
    -- the pass, at place q of block i
    sum_at : (i q : ℕ) → i < blocks → q < h → ring.mul factor (ring.add (entry ring source (i * h + q)) (entry ring source (blocks * h + (i * h + q)))) ≡ value ring (strided c q (h + h) blocks) (coarse i)
    sum_at i q a b =
        ap (ring.mul factor) (sym (pass.one (i * h + q) (place_within blocks h i q a b))
        ∙ ap (λ m. entry ring target (m * h + (i * h + q))) (div-mul-add i h q b) ∙ ap (entry ring target) (first_of_pair h i q))
        ∙ after.value_at i q a (first_below q h b)

    difference_at : (i q : ℕ) → i < blocks → q < h
        → ring.mul factor (ring.mul (point_at ring first ratio i) (opposite_difference ring (blocks * h) source (i * h + q))) ≡ value ring (strided c (q + h) (h + h) blocks) (coarse i)
    difference_at i q a b =
        ap (ring.mul factor) (ap (λ m. ring.mul (point_at ring first ratio m) (opposite_difference ring (blocks * h) source (i * h + q))) (sym (div-mul-add i h q b))
        ∙ sym (pass.two (i * h + q) (place_within blocks h i q a b))
        ∙ ap (λ m. entry ring target (m * h + (i * h + q) + h)) (div-mul-add i h q b) ∙ ap (entry ring target) (second_of_pair h i q))
        ∙ after.value_at i (q + h) a (sum_below q h b)

    from_first : (i q : ℕ) → i < blocks → q < h → ring.mul (ring.add factor factor) (entry ring source (i * h + q)) ≡ value ring (strided c q h (blocks + blocks)) (fine i)
    from_first i q a b =
        twice_here factor (entry ring source (i * h + q)) (entry ring source (blocks * h + (i * h + q))) (fine i) (point_at ring first ratio i) (undone i)
        ∙ ap (λ t. ring.add t (ring.mul (fine i) (ring.mul factor (ring.mul (point_at ring first ratio i) (opposite_difference ring (blocks * h) source (i * h + q)))))) (sum_at i q a b)
        ∙ ap (λ t. ring.add (value ring (strided c q (h + h) blocks) (coarse i)) (ring.mul (fine i) t)) (difference_at i q a b)
        ∙ sym (at_point laws c q h blocks (fine i) (coarse i) (roots.squared i))

    from_second : (i q : ℕ) → i < blocks → q < h → ring.mul (ring.add factor factor) (entry ring source (blocks * h + (i * h + q))) ≡ value ring (strided c q h (blocks + blocks)) (fine (blocks + i))
    from_second i q a b =
        twice_opposite factor (entry ring source (i * h + q)) (entry ring source (blocks * h + (i * h + q))) (fine i) (point_at ring first ratio i) (undone i)
        ∙ ap (λ t. difference ring t (ring.mul (fine i) (ring.mul factor (ring.mul (point_at ring first ratio i) (opposite_difference ring (blocks * h) source (i * h + q)))))) (sum_at i q a b)
        ∙ ap (λ t. difference ring (value ring (strided c q (h + h) blocks) (coarse i)) (ring.mul (fine i) t)) (difference_at i q a b)
        ∙ sym (at_opposite laws c q h blocks (fine i) (fine (blocks + i)) (coarse i) (roots.squared i) (roots.opposite i))

    interpolated_blocks : AreValuesInBlocks ring (ring.add factor factor) c h (blocks + blocks) fine source
    interpolated_blocks = record {
      value_at = λ i q a b. elim (cases_lt i blocks) [
        | inl near ↦ from_first i q near b
        | inr far ↦
            let k = i - blocks in
            ap (λ m. ring.mul (ring.add factor factor) (entry ring source (m * h + q))) (offset_back blocks i far)
            ∙ ap (λ m. ring.mul (ring.add factor factor) (entry ring source m)) (later_block blocks h k q)
            ∙ from_second k q (offset_below blocks i a far) b
            ∙ ap (λ m. value ring (strided c q h (blocks + blocks)) (fine m)) (sym (offset_back blocks i far))
      ];
    }

  factor_moved : (f s t : K) → t ≡ ring.add s s → ring.mul (ring.add f f) s ≡ ring.mul f t
  factor_moved f s t e = solve laws (f ∷ s ∷ []) ((v0 ⊕ v0) ⊗ v1) (v0 ⊗ (v1 ⊕ v1)) refl ∙ ap (ring.mul f) (sym e)

  -- The pass leads from what is left to do before it to what is left to do after it.
  pub interpolation_leads : (h blocks : ℕ) (coarse fine : ℕ → K) (first ratio : K) (source target : List K) (scale doubled_scale : K) (width height : ℕ) (last : ℕ → K) (given : List K)
      → AreRoots ring blocks coarse fine → ((i : ℕ) → ring.mul (fine i) (point_at ring first ratio i) ≡ ring.one) → IsInterpolationPass ring h first ratio (blocks * h) source target
      → doubled_scale ≡ ring.add scale scale
      → LeadsTo ring h (blocks + blocks) fine source scale width height last given → LeadsTo ring (h + h) blocks coarse target doubled_scale width height last given
  interpolation_leads h blocks coarse fine first ratio source target scale doubled_scale width height last given roots undone pass doubling before = record {
    leads = λ factor c after.
        subst (λ f. AreValuesInBlocks ring f c width height last given) (factor_moved factor scale doubled_scale doubling)
        (before.leads (ring.add factor factor) c (interpolated_blocks factor c h blocks coarse fine first ratio source target roots undone pass after));
  }
