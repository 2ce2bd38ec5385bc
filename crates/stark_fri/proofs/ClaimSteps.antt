-- Heights, widths and points of claims.
use Rattle.std.proofs.Common.{◌≡◌, ◌∙◌, ℕ, ◌+◌, ◌^◌, ◌<◌, ◌≤◌, ◌↔◌, IsTrue, Bool, true, false, not, List, [], ◌∷◌, length, get_or, drop, map, Option, None, Some, ap, refl, subst, sym}
use Rattle.std.specs.List.{AllByRecursion, slice_get}
use Rattle.std.proofs.lemmas.Bool.{false≢true}
use Rattle.std.proofs.lemmas.List.{drop_all}
use Rattle.std.proofs.lemmas.Option.{same_Some}
use Rattle.stark_support.specs.Ring.{RingLaws, RingOps, difference}
use Rattle.stark_support.specs.RingFacts.{same_if_no_difference}
use Rattle.stark_support.specs.Coset.{coset_vanishing}
use Rattle.stark_support.specs.Powers.{power, squarings}
use Rattle.stark_support.specs.PowerFacts.{squarings_is_power}
use Rattle.stark_support.proofs.Places.{from_place}
use Rattle.stark_fri.specs.Claims.{HasOneWidth, MatrixRead, RoundRead, first_height}

-- ---- the first height

module _ {A E : Type 0} (f : A → RoundRead E) (xs : List A) where
  -- a round without a matrix is passed
  pub height_passed : (i : ℕ) (x : A) (whole : Option ℕ) → i < length xs → x ≡ get_or xs i x → (f x).1 ≡ [] → first_height (map f (drop i xs)) ≡ whole → first_height (map f (drop (i + 1) xs)) ≡ whole
  unfolding first_height
  height_passed i x whole within is none so_far =
      let rest = map f (drop (i + 1) xs) in
      let opened : first_height (map f (drop i xs)) ≡ first_height (((f x).0, (f x).1) ∷ rest) = ap (λ t. first_height (map f t)) (from_place xs i (i + 1) x refl within is) in
      sym (opened ∙ ap (λ ms. first_height (((f x).0, ms) ∷ rest)) none) ∙ so_far

  -- the first matrix of a round that has some
  pub height_found : (i : ℕ) (x : A) (m : MatrixRead E) (ms : List (MatrixRead E)) (whole : Option ℕ) → i < length xs → x ≡ get_or xs i x → (f x).1 ≡ m ∷ ms
      → first_height (map f (drop i xs)) ≡ whole → Some m.0 ≡ whole
  unfolding first_height
  height_found i x m ms whole within is some so_far =
      let rest = map f (drop (i + 1) xs) in
      let opened : first_height (map f (drop i xs)) ≡ first_height (((f x).0, (f x).1) ∷ rest) = ap (λ t. first_height (map f t)) (from_place xs i (i + 1) x refl within is) in
      sym (opened ∙ ap (λ t. first_height (((f x).0, t) ∷ rest)) some) ∙ so_far

  pub height_ended : (i : ℕ) (whole : Option ℕ) → length xs ≤ i → first_height (map f (drop i xs)) ≡ whole → None ≡ whole
  unfolding first_height
  height_ended i whole ended so_far = ap (λ t. first_height (map f t)) (sym (drop_all i xs ended)) ∙ so_far

-- ---- widths

-- one width is that of the first
pub width_of_first : {E : Type 0} (p : E × List E) (ps : List (E × List E)) → AllByRecursion (λ q. length q.1 ≡ length p.1) (p ∷ ps) ↔ HasOneWidth (p ∷ ps)
width_of_first p ps = (λ all. all.1, λ rest. (refl, rest))

-- ---- points

module _ {F E : Type 0} {ring : RingOps E} (laws : RingLaws ring) (embed : F → E) (inverse : F → F) where
  pub off_where_other : (bits : ℕ) (shift : F) (x : E) → (squarings ring (ring.mul x (embed (inverse shift))) bits ≡ ring.one → ⊥)
      → coset_vanishing ring embed inverse (2 ^ bits) shift x ≡ ring.zero → ⊥
  off_where_other bits shift x other on =
      other (squarings_is_power laws (ring.mul x (embed (inverse shift))) bits ∙ same_if_no_difference laws (power ring (ring.mul x (embed (inverse shift))) (2 ^ bits)) ring.one on)

  pub other_where_off : (bits : ℕ) (shift : F) (x : E) → (coset_vanishing ring embed inverse (2 ^ bits) shift x ≡ ring.zero → ⊥)
      → squarings ring (ring.mul x (embed (inverse shift))) bits ≡ ring.one → ⊥
  other_where_off bits shift x off one =
      off (ap (λ y. difference ring y ring.one) (sym (squarings_is_power laws (ring.mul x (embed (inverse shift))) bits) ∙ one) ∙ laws.add_neg ring.one)

-- ---- first members

module _ {A E : Type 0} (f : A → E × List E) where
  -- All points have as many values as the first.
  pub one_width : (xs : List A) (x : A) (n : ℕ) (b : Bool) → slice_get xs 0 ≡ Some x → n ≡ length (f x).1
      → IsTrue b ↔ AllByRecursion (λ p. length p.1 ≡ n) (map f xs) → IsTrue b ↔ HasOneWidth (map f xs)
  one_width [] x n b is count all = absurd (cc)
  one_width (y ∷ ys) x n b is count all =
      let own : n ≡ length (f y).1 = count ∙ ap (λ z. length (f z).1) (sym (same_Some y x is)) in
      (λ t. subst (λ m. AllByRecursion (λ p. length p.1 ≡ m) (map f ys)) own (all.0 t).1, λ w. all.1 (sym own, subst (λ m. AllByRecursion (λ p. length p.1 ≡ m) (map f ys)) (sym own) w))

pub first_and_rest : {A B : Type 0} (g : A → B) (xs : List A) (x : A) → slice_get xs 0 ≡ Some x → map g xs ≡ g x ∷ map g (drop 1 xs)
first_and_rest g [] x is = absurd (cc)
first_and_rest g (y ∷ ys) x is = ap (λ z. g z ∷ map g ys) (same_Some y x is)

pub none_first : {A B : Type 0} (g : A → B) (xs : List A) → slice_get xs 0 ≡ None → map g xs ≡ []
none_first g [] is = refl
none_first g (y ∷ ys) is = absurd (cc)

-- a test of two elements, and whether they differ
pub tested : {A : Type 0} (test same : Bool) (x y : A) → test ≡ not same → (same ≡ true → x ≡ y) → (x ≡ y → same ≡ true) → IsTrue test ↔ (x ≡ y → ⊥)
tested test true x y is tells observed = (λ t. absurd (false≢true (sym is ∙ t)), λ differ. absurd (differ (tells refl)))
tested test false x y is tells observed = (λ t e. false≢true (observed e), λ differ. is)
