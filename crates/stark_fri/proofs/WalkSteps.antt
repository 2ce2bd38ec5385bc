-- The steps of a walk through the folds.
use Rattle.std.proofs.Common.{◌≡◌, ◌∙◌, ℕ, suc, ◌+◌, ◌-◌, ◌%◌, ◌<◌, ◌≤◌, cond, List, length, get_or, map, inl, inr, sym, ap, arith}
use Rattle.std.proofs.lemmas.Bool.Decides.{leb_tells}
use Rattle.std.proofs.lemmas.List.{get_or-map}
use Rattle.stark_support.specs.Coset.{TwoAdicCoset, coset_point}
use Rattle.stark_folding.specs.Fold.{folded_pair, squared_coset}
use Rattle.stark_folding.specs.Walk.{half_size, last_coset, last_place}
use Rattle.stark_fri.specs.Parts.{FriFields}
use Rattle.stark_fri.specs.Query.{extension_root, last_point, next_at}

-- ---- a pair, in order

module _ {F E : Type 0} (fields : FriFields F E) where
  module _ (c : TwoAdicCoset E) (place : ℕ) (v s beta : E) where
    abbrev at_point : E
    at_point = coset_point fields.ring (extension_root fields) c (place % half_size c)

    pub lower_value : place < half_size c → folded_pair fields.ring fields.inverse beta at_point v s ≡ next_at fields c beta place v s
    lower_value low = elim (leb_tells (suc place) (half_size c)) [
      | inl w ↦ ap (λ b. cond b (folded_pair fields.ring fields.inverse beta at_point v s) (folded_pair fields.ring fields.inverse beta at_point s v)) (sym w.0)
      | inr w ↦ let high : half_size c < suc place = w.1 in absurd (omega arith)
    ]

    pub upper_value : half_size c ≤ place → folded_pair fields.ring fields.inverse beta at_point s v ≡ next_at fields c beta place v s
    upper_value high = elim (leb_tells (suc place) (half_size c)) [
      | inl w ↦ let low : suc place ≤ half_size c = w.1 in absurd (omega arith)
      | inr w ↦ ap (λ b. cond b (folded_pair fields.ring fields.inverse beta at_point v s) (folded_pair fields.ring fields.inverse beta at_point s v)) (sym w.0)
    ]

-- ---- where the folds end

module _ {F E : Type 0} (fields : FriFields F E) where
  -- one fold less is left
  pub one_more_fold : (n i : ℕ) (c next : TwoAdicCoset E) (p q : ℕ) (whole : E) → i < n → next ≡ squared_coset fields.ring c → q ≡ p % half_size c
      → last_point fields (n - i) c p ≡ whole → last_point fields (n - (i + 1)) next q ≡ whole
  unfolding last_coset last_place
  one_more_fold n i c next p q whole below is_next is_q so_far =
      let left : n - i ≡ suc (n - (i + 1)) = omega arith in
      ap (λ d. last_point fields (n - (i + 1)) d q) is_next ∙ ap (last_point fields (n - (i + 1)) (squared_coset fields.ring c)) is_q
      ∙ ap (λ m. last_point fields m c p) (sym left) ∙ so_far

  pub all_folds : (n i : ℕ) (c : TwoAdicCoset E) (p : ℕ) (whole : E) → n ≤ i → last_point fields (n - i) c p ≡ whole → coset_point fields.ring (extension_root fields) c p ≡ whole
  unfolding last_coset last_place
  all_folds n i c p whole ended so_far = let none : 0 ≡ n - i = omega arith in ap (λ m. last_point fields m c p) none ∙ so_far

pub mapped_place : {A B : Type 0} (f : A → B) (xs : List A) (i : ℕ) (x : A) → i < length xs → x ≡ get_or xs i x → f x ≡ get_or (map f xs) i (f x)
mapped_place f xs i x below is = ap f is ∙ sym (get_or-map f xs i x (f x) below)
