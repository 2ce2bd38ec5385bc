-- The folded sum of an AIR's constraints.
use Rattle.std.specs.Prelude.{◌≡◌, ℕ, suc, List, [], ◌∷◌, ◌++◌, length, map, refl}
use Rattle.std.proofs.Common.{sym, ◌∙◌, ap}
use Rattle.stark_support.specs.Ring.{RingOps, RingLaws}
use Rattle.stark_support.specs.RingFacts.{zero_add, zero_mul}
use Rattle.stark_support.specs.RingSolver.{solve, ◌⊕◌, ◌⊗◌, v0, v1, v2, v3, v4}
use Rattle.stark_support.specs.Powers.{power}

-- The sum over j below n of a ^ (n - 1 - j) times value j.
abbrev pub folded : {E : Type 0} → RingOps E → E → List E → E
folded ring a [] = ring.zero
folded ring a (c ∷ cs) = ring.add (ring.mul (power ring a (length cs)) c) (folded ring a cs)

-- An accumulator after more values: times a, plus the value.
abbrev pub accumulated : {E : Type 0} → RingOps E → E → E → List E → E
accumulated ring a acc [] = acc
accumulated ring a acc (c ∷ cs) = accumulated ring a (ring.add (ring.mul acc a) c) cs

pub accumulated_append : {E A : Type 0} (ring : RingOps E) (a acc : E) (f : A → E) (xs ys : List A) → accumulated ring a acc (map f (xs ++ ys)) ≡ accumulated ring a (accumulated ring a acc (map f xs)) (map f ys)
accumulated_append ring a acc f [] ys = refl
accumulated_append ring a acc f (x ∷ xs) ys = accumulated_append ring a (ring.add (ring.mul acc a) (f x)) f xs ys

module _ {E : Type 0} {ring : RingOps E} (laws : RingLaws ring) where
  power_suc : (a : E) (n : ℕ) → power ring a (suc n) ≡ ring.mul a (power ring a n)
  unfolding power
  power_suc a n = refl

  power_zero : (a : E) → power ring a 0 ≡ ring.one
  unfolding power
  power_zero a = refl

  accumulated_from : (a acc : E) (cs : List E) → accumulated ring a acc cs ≡ ring.add (ring.mul acc (power ring a (length cs))) (folded ring a cs)
  accumulated_from a acc [] = sym (laws.add_zero _ ∙ ap (ring.mul acc) (power_zero a) ∙ laws.mul_one acc)
  accumulated_from a acc (c ∷ cs) =
      accumulated_from a (ring.add (ring.mul acc a) c) cs ∙
      solve laws (acc ∷ a ∷ c ∷ power ring a (length cs) ∷ folded ring a cs ∷ [])
      ((v0 ⊗ v1 ⊕ v2) ⊗ v3 ⊕ v4) (v0 ⊗ (v1 ⊗ v3) ⊕ (v3 ⊗ v2 ⊕ v4)) refl ∙
      ap (λ p. ring.add (ring.mul acc p) (folded ring a (c ∷ cs))) (sym (power_suc a (length cs)))

  -- From zero on, the accumulator is the folded sum.
  pub accumulated_is_folded : (a : E) (cs : List E) → accumulated ring a ring.zero cs ≡ folded ring a cs
  accumulated_is_folded a cs =
      accumulated_from a ring.zero cs ∙ ap (λ z. ring.add z (folded ring a cs)) (zero_mul laws _) ∙ zero_add laws _

  -- The folded sum, where the values are those of four rows by other names.
  pub folded_rows : (a start total : E) (values : List E → List E → List E → List E → List E) {r s t u current next preprocessed_current preprocessed_next : List E} → total ≡ accumulated ring a start (values r s t u) → start ≡ ring.zero → r ≡ current → s ≡ next → t ≡ preprocessed_current → u ≡ preprocessed_next → total ≡ folded ring a (values current next preprocessed_current preprocessed_next)
  folded_rows a start total values {r} {s} {t} {u} {current} {next} {preprocessed_current} {preprocessed_next} carried from_zero same_r same_s same_t same_u =
      carried ∙
      ap (λ (z : E). accumulated ring a z (values r s t u)) from_zero ∙
      accumulated_is_folded a (values r s t u) ∙
      ap (λ (x : List E). folded ring a (values x s t u)) same_r ∙
      ap (λ (x : List E). folded ring a (values current x t u)) same_s ∙
      ap (λ (x : List E). folded ring a (values current next x u)) same_t ∙
      ap (λ (x : List E). folded ring a (values current next preprocessed_current x)) same_u
