-- Constraints that are asserted in a loop, one for each place.
use Rattle.std.proofs.Common.{◌≡◌, ℕ, zero, suc, ◌+◌, ◌-◌, ◌≤◌, List, [], ◌∷◌, ◌++◌, Result, Ok, Err, IsErr, sym, ◌∙◌, ap, subst, map, arith, append-nil}
use Rattle.std.specs.List.{range_with_len}
use Rattle.std.proofs.lemmas.List.FromFn.{map-range_with_len_more}
use Rattle.stark_air.specs.Emission.{EmissionLaws, Asserted}
use Rattle.stark_air.specs.Layout.{Layout}
use Rattle.stark_air.specs.Tree.{Constraint}
use Rattle.stark_air.specs.Value.{Environment}

two_ranges : {X : Type 0} (f : ℕ → X) (first n m : ℕ) → map f (range_with_len first n) ++ map f (range_with_len (first + n) m) ≡ map f (range_with_len first (n + m))
two_ranges f first zero m =
    let start : first + 0 ≡ first = omega arith in
    let many : m ≡ 0 + m = omega arith in
    ap (λ (k : ℕ). map f (range_with_len k m)) start ∙ ap (λ (k : ℕ). map f (range_with_len first k)) many
two_ranges f first (suc n) m =
    let next : first + suc n ≡ (first + 1) + n = omega arith in
    let many : suc (n + m) ≡ suc n + m = omega arith in
    ap (λ (k : ℕ). f first ∷ (map f (range_with_len (first + 1) n) ++ map f (range_with_len k m))) next ∙ ap (λ l. f first ∷ l) (two_ranges f (first + 1) n m)
    ∙ ap (λ (k : ℕ). map f (range_with_len first k)) many

module _ {F : Type 0} {S : Type 0} {E : Type 0} {environment : S → Environment E} {layout : S → Layout} {after : S → List (Constraint F) → S → Type 0} (laws : EmissionLaws environment layout after) (f : ℕ → Constraint F) (first : ℕ) (s : S) where
  -- One more was asserted.
  pub each_one : (n place : ℕ) (t u : S) → first + n ≡ place → after s (map f (range_with_len first n)) t → after t (f place ∷ []) u → after s (map f (range_with_len first (n + 1))) u
  each_one n place t u there h k =
      subst (λ l. after s l u) (sym (map-range_with_len_more f first n place there)) (laws.both s t u (map f (range_with_len first n)) (f place ∷ []) h k)

  -- The next one was refused.
  pub each_some : {A : Type 0} {B : Type 0} (n count : ℕ) (t u : S) (r : Result A B) → n ≤ count → after s (map f (range_with_len first n)) t → IsErr r → after t [] u → Asserted after r s (map f (range_with_len first count)) u
  each_some n count t u (Ok v) within h is k = absurd (cc)
  each_some n count t u (Err v) within h is k =
      let many : n + (count - n) ≡ count = omega (arith, within) in
      record {
        beginning = map f (range_with_len first n) ++ [];
        rest = map f (range_with_len (first + n) (count - n));
        joined =
            ap (λ l. l ++ map f (range_with_len (first + n) (count - n))) (append-nil (map f (range_with_len first n))) ∙ two_ranges f first n (count - n) ∙ ap (λ (k : ℕ). map f (range_with_len first k)) many;
        asserted = laws.both s t u (map f (range_with_len first n)) [] h k;
      }

  -- Every one was asserted.
  pub each_all : (n count : ℕ) (t : S) → n ≡ count → after s (map f (range_with_len first n)) t → after s (map f (range_with_len first count)) t
  each_all n count t same h = subst (λ (k : ℕ). after s (map f (range_with_len first k)) t) same h
