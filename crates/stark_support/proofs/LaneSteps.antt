-- Lanes filled one after the other.
use Rattle.std.proofs.Common.{◌≡◌, ◌∙◌, inl, inr, ℕ, zero, suc, ◌+◌, ◌^◌, ◌<◌, List, [], ◌∷◌, Some, length, map, slice_set, ap, sym, arith, refl, subst}
use Rattle.std.specs.List.{slice_get}
use Rattle.stark_support.specs.LogarithmFacts.{two_power_at_most}
use Rattle.stark_support.specs.ListFacts.{last_or_below}

set_here : {F : Type 0} (xs : List F) (lane : ℕ) (v : F) → lane < length xs → slice_get (slice_set xs lane v) lane ≡ Some v
set_here [] lane v h = absurd (omega arith)
set_here (x ∷ xs) zero v h = refl
set_here (x ∷ xs) (suc lane) v h = set_here xs lane v (omega arith)

set_elsewhere : {F : Type 0} (xs : List F) (lane k : ℕ) (v : F) → k < lane → slice_get (slice_set xs lane v) k ≡ slice_get xs k
set_elsewhere [] lane k v h = refl
set_elsewhere (x ∷ xs) zero k v h = absurd (omega arith)
set_elsewhere (x ∷ xs) (suc lane) zero v h = refl
set_elsewhere (x ∷ xs) (suc lane) (suc k) v h = set_elsewhere xs lane k v (omega arith)

pub one_more_lane : {F : Type 0} (P : ℕ → F → Type 0) (before after : List F) (lane : ℕ) (v : F) → lane < length before → after ≡ slice_set before lane v → P lane v
    → ((k : ℕ) → k < lane → (value : F) × (P k value) × (slice_get before k ≡ Some value))
    → (k : ℕ) → k < lane + 1 → (value : F) × (P k value) × (slice_get after k ≡ Some value)
one_more_lane P before after lane v below is answers so_far k within = elim (last_or_below k lane within) [
  | inl last ↦ (v, subst (λ n. P n v) (sym last) answers, ap (λ t. slice_get t k) is ∙ ap (slice_get (slice_set before lane v)) last ∙ set_here before lane v below)
  | inr earlier ↦ let obtained = so_far k earlier in (obtained.0, obtained.1, ap (λ t. slice_get t k) is ∙ set_elsewhere before lane k v earlier ∙ obtained.2)
]

in_front : {F : Type 0} (xs : List F) (v : F) → 0 < length xs → slice_get (map (λ _. v) xs) 0 ≡ Some v
in_front [] v h = absurd (omega arith)
in_front (x ∷ xs) v h = refl

-- a power of two lanes, all with one value: the first has it
pub first_lane : {F : Type 0} (P : ℕ → F → Type 0) (xs ys : List F) (width exponent : ℕ) (v : F) → width ≡ 2 ^ exponent → length xs ≡ width → ys ≡ map (λ _. v) xs → P 0 v
    → (k : ℕ) → k < 1 → (value : F) × (P k value) × (slice_get ys k ≡ Some value)
first_lane P xs ys width exponent v power as_many is answers zero within =
    (v, answers, ap (λ t. slice_get t 0) is ∙ in_front xs v (omega (arith, as_many, power, two_power_at_most 0 exponent (omega arith))))
first_lane P xs ys width exponent v power as_many is answers (suc k) within = absurd (omega arith)
