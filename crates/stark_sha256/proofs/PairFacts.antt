-- The words of a block that two digests are.
use Rattle.std.proofs.Common.{◌≡◌, ◌∙◌, ap, arith, inl, inr, subst, sym, ℕ, ◌+◌, ◌-◌, ◌*◌, ◌<◌, List, ◌++◌, length, slice_index}
use Rattle.std.proofs.lemmas.Bool.{cases_lt}
use Rattle.std.proofs.lemmas.List.{get_or_append_left, get_or-append_right}
use Rattle.sha2.specs.Sha256.{word_at}
use Rattle.stark_sha256.proofs.TextFacts.{same_words}

module _ (left right : List ℕ) (is : length left ≡ 32) where
  pub word_of_left : (i : ℕ) → i < 8 → word_at (left ++ right) (4 * i) ≡ word_at left (4 * i)
  word_of_left i below = same_words (left ++ right) left (4 * i) (4 * i) (λ d small. get_or_append_left left right 0 (4 * i + d) (omega (arith, is)))

  pub word_of_right : (i : ℕ) → i < 8 → word_at (left ++ right) (4 * (8 + i)) ≡ word_at right (4 * i)
  word_of_right i below =
      same_words (left ++ right) right (4 * (8 + i)) (4 * i) (λ d small.
      let rest : 4 * (8 + i) + d - 32 ≡ 4 * i + d = omega arith in
      get_or-append_right left right 32 (4 * (8 + i) + d) 0 is (omega arith) ∙ ap (λ (at : ℕ). slice_index right at) rest)

  -- All sixteen words.
  pub words_of_both : (words : ℕ → ℕ) → ((i : ℕ) → i < 8 → words i ≡ word_at left (4 * i)) → ((i : ℕ) → i < 8 → words (8 + i) ≡ word_at right (4 * i))
      → (i : ℕ) → i < 16 → words i ≡ word_at (left ++ right) (4 * i)
  words_of_both words of_left of_right i below = elim (cases_lt i 8) [
    | inl low ↦ of_left i low ∙ sym (word_of_left i low)
    | inr high ↦
        let at : 8 + (i - 8) ≡ i = omega (arith, high) in
        let small : i - 8 < 8 = omega (arith, below) in
        subst (λ k. words k ≡ word_at (left ++ right) (4 * k)) at (of_right (i - 8) small ∙ sym (word_of_right (i - 8) small))
  ]
