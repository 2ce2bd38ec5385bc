-- The steps of the loops that fold and reduce.
use Rattle.std.proofs.Common.{◌≡◌, ◌≢◌, ◌∙◌, ℕ, zero, suc, ◌+◌, ◌-◌, ◌*◌, ◌/◌, ◌^◌, ◌<◌, ◌≤◌, List, [], ◌∷◌, ◌++◌, length, get_or, drop, Some, sym, ap, refl, subst, arith, add-one, append_assoc, pow-suc}
use Rattle.std.proofs.lemmas.List.{at_drop_all, at_drop_more, append-nil}
use Rattle.std.proofs.lemmas.Option.{slice_get_read}
use Rattle.std.specs.List.{AllByRecursion, slice_get}
use Rattle.stark_support.specs.Ring.{RingOps, FieldLaws, difference}
use Rattle.stark_support.specs.RingFacts.{same_if_no_difference}
use Rattle.stark_support.specs.RingSolver.{solve, unit, ◌⊕◌, ◌⊖◌, ◌⊗◌, v0, v1, v2, v3, v4}
use Rattle.stark_support.specs.Polynomial.{value}
use Rattle.stark_support.specs.Powers.{power}
use Rattle.stark_support.specs.TwoAdic.{TwoAdicLaws}
use Rattle.stark_support.specs.Coset.{TwoAdicCoset, IsTwoAdicCoset, AreValuesOn, coset_point}
use Rattle.stark_support.specs.CosetValueFacts.{all_values, no_values, one_more_value}
use Rattle.stark_support.specs.Embedding.{IsEmbedding}
use Rattle.stark_support.specs.KeepsRing.{kept_power}
use Rattle.stark_folding.specs.Fold.{folded, folded_pair, half_of, squared_coset}
use Rattle.stark_folding.specs.FoldFacts.{points_fold}
use Rattle.stark_folding.specs.Reduce.{Seen, reduced_at}

-- ---- coefficients

module _ {K : Type 0} (ring : RingOps K) (beta : K) where
  pub folded_more : (p : List K) (i : ℕ) (a b v : K) (before after whole : List K) → 2 * i + 1 < length p → a ≡ get_or p (2 * i) a → b ≡ get_or p (2 * i + 1) b → v ≡ ring.add a (ring.mul beta b)
      → after ≡ before ++ v ∷ [] → before ++ folded ring beta (drop (2 * i) p) ≡ whole → after ++ folded ring beta (drop (2 * (i + 1)) p) ≡ whole
  unfolding folded
  folded_more p i a b v before after whole below is_a is_b is pushed so_far =
      let next : 2 * i + 1 + 1 ≡ 2 * (i + 1) = omega arith in
      let rest = folded ring beta (drop (2 * (i + 1)) p) in
      let opened : folded ring beta (drop (2 * i) p) ≡ v ∷ rest
      = at_drop_more (folded ring beta) p (2 * i) a (omega arith) ∙ ap (λ t. folded ring beta (t ∷ drop (2 * i + 1) p)) (sym is_a)
      ∙ at_drop_more (λ t. folded ring beta (a ∷ t)) p (2 * i + 1) b below ∙ ap (λ t. ring.add a (ring.mul beta t) ∷ folded ring beta (drop (2 * i + 1 + 1) p)) (sym is_b)
      ∙ ap (λ t. t ∷ folded ring beta (drop (2 * i + 1 + 1) p)) (sym is) ∙ ap (λ n. v ∷ folded ring beta (drop n p)) next in
      ap (λ t. t ++ rest) pushed ∙ append_assoc before (v ∷ []) rest ∙ ap (λ t. before ++ t) (sym opened) ∙ so_far

  pub folded_even : (p : List K) (i : ℕ) (before after whole : List K) → length p ≤ 2 * i → after ≡ before → before ++ folded ring beta (drop (2 * i) p) ≡ whole → after ≡ whole
  unfolding folded
  folded_even p i before after whole ended same so_far =
      same ∙ sym (append-nil before) ∙ ap (λ t. before ++ t) (sym (at_drop_all (folded ring beta) p (2 * i) ended)) ∙ so_far

  pub folded_odd : (p : List K) (i : ℕ) (a : K) (before after whole : List K) → length p ≡ 2 * i + 1 → a ≡ get_or p (2 * i) a → after ≡ before ++ a ∷ [] → before ++ folded ring beta (drop (2 * i) p) ≡ whole → after ≡ whole
  unfolding folded
  folded_odd p i a before after whole ended is pushed so_far =
      let opened : folded ring beta (drop (2 * i) p) ≡ a ∷ []
      = at_drop_more (folded ring beta) p (2 * i) a (omega arith) ∙ ap (λ t. folded ring beta (t ∷ drop (2 * i + 1) p)) (sym is)
      ∙ at_drop_all (λ t. folded ring beta (a ∷ t)) p (2 * i + 1) (omega arith) in
      pushed ∙ ap (λ t. before ++ t) (sym opened) ∙ so_far

-- ---- codewords

pub half_length : (n k : ℕ) → 1 ≤ k → n ≡ 2 ^ k → n / 2 ≡ 2 ^ (k - 1)
half_length n k some size =
    let whole : k ≡ suc (k - 1) = omega arith in
    let twice : 2 ^ suc (k - 1) ≡ 2 * 2 ^ (k - 1) = omega (arith, pow-suc 2 (k - 1)) in
    let double : n ≡ 2 * 2 ^ (k - 1) = size ∙ ap (λ m. 2 ^ m) whole ∙ twice in
    omega (arith, double)

pub zeroth_power : {K : Type 0} (ring : RingOps K) (g x : K) → x ≡ ring.one → x ≡ power ring g 0
unfolding power
zeroth_power ring g x e = e

pub next_power : {K : Type 0} (ring : RingOps K) (g : K) (i : ℕ) (x : K) → x ≡ power ring g i → ring.mul g x ≡ power ring g (i + 1)
unfolding power
next_power ring g i x e = ap (ring.mul g) e ∙ ap (power ring g) (sym (add-one i))

module _ {K : Type 0} {ring : RingOps K} {inverse : K → K} (laws : FieldLaws ring inverse) (adicity : ℕ) (root : ℕ → K) (generator : K) (two_adic : TwoAdicLaws ring adicity root generator)
    (c : TwoAdicCoset K) (beta : K) (codeword : List K) where
  -- So far the folded values of each polynomial whose values the codeword has.
  abbrev pub AreFoldedSoFar : ℕ → List K → Type 0
  AreFoldedSoFar n half = (p : List K) → AreValuesOn ring root c (2 ^ c.log_size) (value ring p) codeword → AreValuesOn ring root (squared_coset ring c) n (value ring (folded ring beta p)) half

  pub codeword_none : (half : List K) → half ≡ [] → AreFoldedSoFar 0 half
  codeword_none half e = λ p values. no_values ring root (squared_coset ring c) (value ring (folded ring beta p)) half e

  read_value : (n : ℕ) (a v : K) → a ≡ get_or codeword n a → n < length codeword → slice_get codeword n ≡ Some v → a ≡ v
  read_value n a v is below e = let read : slice_get codeword n ≡ Some a = slice_get_read codeword (length codeword) n a refl below is in (cc)

  pub codeword_more : IsTwoAdicCoset ring adicity c → 1 ≤ c.log_size → (n h : ℕ) (x a b v : K) (before after : List K) → length codeword ≡ 2 ^ c.log_size → h ≡ 2 ^ (c.log_size - 1) → n + h < length codeword
      → x ≡ coset_point ring root c n → a ≡ get_or codeword n a → b ≡ get_or codeword (n + h) b → v ≡ folded_pair ring inverse beta x a b → after ≡ before ++ v ∷ []
      → AreFoldedSoFar n before → AreFoldedSoFar (n + 1) after
  codeword_more valid some n h x a b v before after size half below at is_a is_b is pushed so_far = λ p values.
      let whole : c.log_size ≡ suc (c.log_size - 1) = omega arith in
      let pt = coset_point ring root c in
      let first : a ≡ value ring p (pt n) = read_value n a (value ring p (pt n)) is_a (omega arith) (values.at_row n (omega arith)) in
      let second : b ≡ value ring p (pt (n + h)) = read_value (n + h) b (value ring p (pt (n + h))) is_b below (values.at_row (n + h) (omega arith)) in
      one_more_value ring root (squared_coset ring c) (value ring (folded ring beta p)) n before after (coset_point ring root (squared_coset ring c) n) v (so_far p values) pushed refl
      (is ∙ ap (λ t. folded_pair ring inverse beta t a b) at ∙ ap (λ t. folded_pair ring inverse beta (pt n) t b) first
      ∙ ap (λ t. folded_pair ring inverse beta (pt n) (value ring p (pt n)) t) (second ∙ ap (λ m. value ring p (pt (n + m))) half)
      ∙ points_fold laws adicity root generator two_adic c valid (c.log_size - 1) whole beta p n)

  pub codeword_all : (n m : ℕ) (half : List K) → n ≡ m → AreFoldedSoFar n half → AreFoldedSoFar m half
  codeword_all n m half e so_far = λ p values. all_values ring root (squared_coset ring c) (value ring (folded ring beta p)) n m half e (so_far p values)

-- shift * g ^ i, embedded
pub embedded_point : {F E : Type 0} {base : RingOps F} {extension : RingOps E} {embed : F → E} (embeds : IsEmbedding base extension embed) (shift g : F) (i : ℕ)
    → embed (base.mul shift (power base g i)) ≡ extension.mul (embed shift) (power extension (embed g) i)
embedded_point {extension = extension} {embed = embed} embeds shift g i = embeds.keeps.mul shift (power _ g i) ∙ ap (extension.mul (embed shift)) (kept_power embeds.keeps g (embed g) i refl)

-- ---- pairs by weights

module _ {K : Type 0} {ring : RingOps K} {inverse : K → K} (laws : FieldLaws ring inverse) (beta : K) where
  -- Half of beta over a point.
  abbrev pub IsWeight : K → K → Type 0
  IsWeight x w = ring.mul w x ≡ ring.mul (half_of ring inverse) beta

  pub first_weight : (shift g w : K) → shift ≢ ring.zero → w ≡ ring.mul (ring.mul (half_of ring inverse) beta) (inverse shift) → IsWeight (ring.mul shift (power ring g 0)) w
  unfolding power
  first_weight shift g w nonzero is =
      let h = half_of ring inverse in
      ap (λ t. ring.mul t (ring.mul shift ring.one)) is
      ∙ solve laws.of_ring (h ∷ beta ∷ shift ∷ inverse shift ∷ []) (v0 ⊗ v1 ⊗ v3 ⊗ (v2 ⊗ unit)) (v2 ⊗ v3 ⊗ (v0 ⊗ v1)) refl
      ∙ ap (λ t. ring.mul t (ring.mul h beta)) (laws.mul_inverse shift nonzero) ∙ solve laws.of_ring (ring.mul h beta ∷ []) (unit ⊗ v0) v0 refl

  pub next_weight : (shift g s w v : K) (i : ℕ) → ring.mul g s ≡ ring.one → v ≡ ring.mul w s → IsWeight (ring.mul shift (power ring g i)) w → IsWeight (ring.mul shift (power ring g (i + 1))) v
  next_weight shift g s w v i undone is here =
      let p = power ring g i in
      ap (λ t. ring.mul t (ring.mul shift (power ring g (i + 1)))) is ∙ ap (λ t. ring.mul (ring.mul w s) (ring.mul shift t)) (sym (next_power ring g i p refl))
      ∙ solve laws.of_ring (w ∷ s ∷ shift ∷ g ∷ p ∷ []) (v0 ⊗ v1 ⊗ (v2 ⊗ (v3 ⊗ v4))) (v3 ⊗ v1 ⊗ (v0 ⊗ (v2 ⊗ v4))) refl
      ∙ ap (λ t. ring.mul t (ring.mul w (ring.mul shift p))) undone ∙ solve laws.of_ring (ring.mul w (ring.mul shift p) ∷ []) (unit ⊗ v0) v0 refl ∙ here

  pub weighted_pair : (x w a b v : K) → ring.add ring.one ring.one ≢ ring.zero → x ≢ ring.zero → IsWeight x w → v ≡ ring.add b (ring.mul (ring.add (half_of ring inverse) w) (difference ring a b))
      → v ≡ folded_pair ring inverse beta x a b
  weighted_pair x w a b v two nonzero weight is =
      let h = half_of ring inverse in
      let i = inverse x in
      let whole : w ≡ ring.mul (ring.mul h beta) i
      = solve laws.of_ring (w ∷ []) v0 (v0 ⊗ unit) refl ∙ ap (ring.mul w) (sym (laws.mul_inverse x nonzero))
      ∙ solve laws.of_ring (w ∷ x ∷ i ∷ []) (v0 ⊗ (v1 ⊗ v2)) (v0 ⊗ v1 ⊗ v2) refl ∙ ap (λ t. ring.mul t i) weight in
      is ∙ ap (λ t. ring.add b (ring.mul (ring.add h t) (difference ring a b))) whole
      ∙ ap (λ t. ring.add t (ring.mul (ring.add h (ring.mul (ring.mul h beta) i)) (difference ring a b))) (solve laws.of_ring (b ∷ []) v0 (unit ⊗ v0) refl ∙ ap (λ t. ring.mul t b) (sym (laws.mul_inverse (ring.add ring.one ring.one) two)))
      ∙ solve laws.of_ring (h ∷ beta ∷ i ∷ a ∷ b ∷ []) ((unit ⊕ unit) ⊗ v0 ⊗ v4 ⊕ (v0 ⊕ v0 ⊗ v1 ⊗ v2) ⊗ (v3 ⊖ v4)) (v0 ⊗ (v3 ⊕ v4 ⊕ v1 ⊗ v2 ⊗ (v3 ⊖ v4))) refl

-- ---- claims

module _ {K : Type 0} (ring : RingOps K) (inverse : K → K) (alpha x : K) where
  pub none_reduced : (claims : List (Seen K)) (s : K) → s ≡ ring.zero → s ≡ reduced_at ring inverse alpha x (drop (length claims) claims)
  unfolding reduced_at
  none_reduced claims s e = e ∙ sym (at_drop_all (reduced_at ring inverse alpha x) claims (length claims) (omega arith))

  pub one_more_reduced : (claims : List (Seen K)) (i j : ℕ) (c : Seen K) (d e q m n s t : K) → i < length claims → i + 1 ≡ j → c ≡ get_or claims i c → d ≡ difference ring c.0 c.1 → e ≡ difference ring x c.2
      → q ≡ inverse e → m ≡ ring.mul d q → n ≡ ring.mul alpha s → t ≡ ring.add m n
      → s ≡ reduced_at ring inverse alpha x (drop j claims) → t ≡ reduced_at ring inverse alpha x (drop i claims)
  unfolding reduced_at
  one_more_reduced claims i j c d e q m n s t below next is is_d is_e is_q is_m is_n is_t so_far =
      let rest : reduced_at ring inverse alpha x (drop (i + 1) claims) ≡ s = ap (λ k. reduced_at ring inverse alpha x (drop k claims)) next ∙ sym so_far in
      let opened : reduced_at ring inverse alpha x (drop i claims) ≡ ring.add (ring.mul (difference ring c.0 c.1) (inverse (difference ring x c.2))) (ring.mul alpha (reduced_at ring inverse alpha x (drop (i + 1) claims)))
      = at_drop_more (reduced_at ring inverse alpha x) claims i c below ∙ ap (λ k. reduced_at ring inverse alpha x (k ∷ drop (i + 1) claims)) (sym is) in
      is_t ∙ ap (λ k. ring.add k n) (is_m ∙ ap (λ k. ring.mul k q) is_d ∙ ap (ring.mul (difference ring c.0 c.1)) (is_q ∙ ap inverse is_e))
      ∙ ap (ring.add (ring.mul (difference ring c.0 c.1) (inverse (difference ring x c.2)))) (is_n ∙ ap (ring.mul alpha) (sym rest)) ∙ sym opened

all_at : {A : Type 0} (P : A → Type 0) (xs : List A) (i : ℕ) (a : A) → AllByRecursion P xs → slice_get xs i ≡ Some a → P a
all_at P [] i a all e = absurd (cc)
all_at P (x ∷ xs) zero a all e = let same : x ≡ a = (cc) in subst P same all.0
all_at P (x ∷ xs) (suc i) a all e = all_at P xs i a all.1 e

pub apart_at : {K : Type 0} {ring : RingOps K} {inverse : K → K} (laws : FieldLaws ring inverse) (x : K) (claims : List (Seen K)) (i : ℕ) (c : Seen K) (d : K) → AllByRecursion (λ (s : Seen K). x ≢ s.2) claims
    → i < length claims → c ≡ get_or claims i c → d ≡ difference ring x c.2 → d ≢ ring.zero
apart_at {ring = ring} laws x claims i c d apart below is is_d = λ e.
    all_at (λ s. x ≢ s.2) claims i c apart (slice_get_read claims (length claims) i c refl below is) (same_if_no_difference laws.of_ring x c.2 (sym is_d ∙ e))
