-- The sum of polynomials, past the end of the shorter one.
use Rattle.std.proofs.Common.{◌≡◌, ◌∙◌, ◌⊎◌, ℕ, ◌-◌, ◌≤◌, List, [], ◌∷◌, ◌++◌, length, take, drop, ap, sym, arith, refl, inl, inr}
use Rattle.std.proofs.lemmas.List.{append_assoc, append-nil, drop_all, take_rest}
use Rattle.stark_support.specs.Ring.{RingOps}
use Rattle.stark_support.specs.Polynomial.{polynomial_sum}

first_ended : {K : Type 0} (ring : RingOps K) (p q : List K) → p ≡ [] → polynomial_sum ring p q ≡ p ++ q
first_ended ring [] q e = refl
first_ended ring (c ∷ p) q e = absurd (cc)

second_ended : {K : Type 0} (ring : RingOps K) (p q : List K) → q ≡ [] → polynomial_sum ring p q ≡ p ++ q
second_ended ring [] q e = refl
second_ended ring (c ∷ p) [] e = ap (λ t. c ∷ t) (sym (append-nil p))
second_ended ring (c ∷ p) (d ∷ q) e = absurd (cc)

one_ended : (n a b : ℕ) → n ≡ Prim.Native.Nat.min a b → (a ≤ n) ⊎ (b ≤ n)
one_ended n a b e = grind arith

pub sum_complete : {K : Type 0} (ring : RingOps K) (p q so_far with_p with_q : List K) (n index : ℕ) → n ≡ Prim.Native.Nat.min (length p) (length q) → index ≡ n
    → so_far ++ polynomial_sum ring (drop index p) (drop index q) ≡ polynomial_sum ring p q
    → with_p ≡ so_far ++ take (length p - n) (drop n p) → with_q ≡ with_p ++ take (length q - n) (drop n q) → with_q ≡ polynomial_sum ring p q
sum_complete ring p q so_far with_p with_q n index least is kept pushed_p pushed_q =
    let rest : polynomial_sum ring (drop n p) (drop n q) ≡ drop n p ++ drop n q = elim (one_ended n (length p) (length q) least) [
      | inl short ↦ first_ended ring (drop n p) (drop n q) (drop_all n p short)
      | inr short ↦ second_ended ring (drop n p) (drop n q) (drop_all n q short)
    ] in
    pushed_q ∙ ap (λ t. t ++ take (length q - n) (drop n q)) pushed_p
    ∙ ap (λ t. (so_far ++ t) ++ take (length q - n) (drop n q)) (take_rest p n)
    ∙ ap (λ t. (so_far ++ drop n p) ++ t) (take_rest q n)
    ∙ append_assoc so_far (drop n p) (drop n q)
    ∙ ap (λ t. so_far ++ t) (sym rest)
    ∙ ap (λ i. so_far ++ polynomial_sum ring (drop i p) (drop i q)) (sym is) ∙ kept
