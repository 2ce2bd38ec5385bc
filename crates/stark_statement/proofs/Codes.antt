-- Writings by words that can be read back, whatever follows them.
use Rattle.std.proofs.Common.{◌≡◌, ℕ, suc, ◌<◌, ◌^◌, List, [], ◌∷◌, ◌++◌, length, length-append, refl, sym, ap, ◌∙◌, append_assoc, arith}
use Rattle.std.specs.Prelude.{◌≢◌, Option, None, Some, flat_map}
use Rattle.std.proofs.lemmas.List.{append_cancel_left}
use Rattle.stark_support.specs.Seed.{number}
use Rattle.stark_support.specs.SeedFacts.{length-number, same_number, split_number}
use Rattle.stark_statement.specs.Words.{AreWords, word, optional, counted, label, labelled, framed}

-- Where two writings go on to the same words, what is written is the same, and so is what follows.
pub record IsCode {A : Type 0} (words : A → List ℕ) : Type 0 where
  pub read : (x y : A) (r s : List ℕ) → words x ++ r ≡ words y ++ s → (x ≡ y) × (r ≡ s)

heads : (a b : ℕ) (xs ys : List ℕ) → a ∷ xs ≡ b ∷ ys → (a ≡ b) × (xs ≡ ys)
heads a b xs ys e = ((cc), (cc))

differ : (a b : ℕ) (xs ys : List ℕ) → a ∷ xs ≡ b ∷ ys → a ≢ b → ⊥
differ a b xs ys e n = n (heads a b xs ys e).0

pub word_code : IsCode word
word_code = record { read = λ x y r s e. heads x y r s e }

-- What can be read off the words is what is written.
pub code_of_inverse : {A : Type 0} (words : A → List ℕ) (parse : List ℕ → A × List ℕ) → ((x : A) (r : List ℕ) → parse (words x ++ r) ≡ (x, r)) → IsCode words
code_of_inverse words parse back = record {
  read = λ x y r s e. let same = sym (back x r) ∙ ap parse e ∙ back y s in ((λ i. (same i).0), (λ i. (same i).1));
}

-- A writing of what something is turned into, which can be turned back.
pub turned_code : {A B : Type 0} (words : B → List ℕ) (turn : A → B) (back : B → A) → ((x : A) → back (turn x) ≡ x) → IsCode words → IsCode (λ x. words (turn x))
turned_code words turn back is code = record {
  read = λ x y r s e. let h = code.read (turn x) (turn y) r s e in (sym (is x) ∙ ap back h.0 ∙ is y, h.1);
}

pub pair_code : {A B : Type 0} (first : A → List ℕ) (second : B → List ℕ) → IsCode first → IsCode second → IsCode {A = A × B} (λ p. first p.0 ++ second p.1)
pair_code first second code_first code_second = record {
  read = λ x y r s e.
      let a = code_first.read x.0 y.0 (second x.1 ++ r) (second y.1 ++ s) (sym (append_assoc (first x.0) (second x.1) r) ∙ e ∙ append_assoc (first y.0) (second y.1) s) in
      let b = code_second.read x.1 y.1 r s a.1 in
      ((λ i. (a.0 i, b.0 i)), b.1);
}

module _ {A : Type 0} (words : A → List ℕ) (code : IsCode words) where
  read_optional : (x y : Option A) (r s : List ℕ) → optional words x ++ r ≡ optional words y ++ s → (x ≡ y) × (r ≡ s)
  read_optional None None r s e = (refl, (heads _ _ _ _ e).1)
  read_optional None (Some y) r s e = absurd (differ _ _ _ _ e (omega arith))
  read_optional (Some x) None r s e = absurd (differ _ _ _ _ e (omega arith))
  read_optional (Some x) (Some y) r s e = let h = code.read x y r s (heads _ _ _ _ e).1 in (ap Some h.0, h.1)

  pub optional_code : IsCode (optional words)
  optional_code = record { read = read_optional }

  read_each : (xs ys : List A) (r s : List ℕ) → length xs ≡ length ys → flat_map words xs ++ r ≡ flat_map words ys ++ s → (xs ≡ ys) × (r ≡ s)
  read_each [] [] r s l e = (refl, e)
  read_each [] (y ∷ ys) r s l e = absurd (omega arith)
  read_each (x ∷ xs) [] r s l e = absurd (omega arith)
  read_each (x ∷ xs) (y ∷ ys) r s l e =
      let a = code.read x y _ _ (sym (append_assoc (words x) (flat_map words xs) r) ∙ e ∙ append_assoc (words y) (flat_map words ys) s) in
      let k : length xs ≡ length ys = omega arith in
      let b = read_each xs ys r s k a.1 in
      ((λ i. a.0 i ∷ b.0 i), b.1)

  pub counted_code : IsCode (counted words)
  counted_code = record { read = λ xs ys r s e. let h = heads _ _ _ _ e in read_each xs ys r s h.0 h.1 }

-- ---- bytes

all_behind : (w : ℕ) (ws : List ℕ) → AreWords (w ∷ ws) → AreWords ws
all_behind w ws all = λ k d l. all (suc k) d (omega (arith, l))

all_first : (w : ℕ) (ws : List ℕ) → AreWords (w ∷ ws) → w < 2 ^ 64
all_first w ws all = all 0 0 (omega arith)

none_written : (w : ℕ) (ws : List ℕ) → [] ≡ number w ++ ws → ⊥
none_written w ws e = omega (arith, ap length e, length-append (number w) ws, length-number w)

same_words : (ws vs : List ℕ) → AreWords ws → AreWords vs → flat_map number ws ≡ flat_map number vs → ws ≡ vs
same_words [] [] a b e = refl
same_words [] (v ∷ vs) a b e = absurd (none_written v (flat_map number vs) e)
same_words (w ∷ ws) [] a b e = absurd (none_written w (flat_map number ws) (sym e))
same_words (w ∷ ws) (v ∷ vs) a b e =
    let h = split_number w v (flat_map number ws) (flat_map number vs) e in
    let first = same_number w v (all_first w ws a) (all_first v vs b) h.0 in
    let rest = same_words ws vs (all_behind w ws a) (all_behind v vs b) h.1 in
    λ i. first i ∷ rest i

-- Other words have other bytes.
pub words_of_bytes : (ws vs : List ℕ) → AreWords ws → AreWords vs → framed (labelled ws) ≡ framed (labelled vs) → ws ≡ vs
unfolding framed labelled
words_of_bytes ws vs a b e =
    let h = split_number (length (label ++ flat_map number ws)) (length (label ++ flat_map number vs)) (label ++ flat_map number ws) (label ++ flat_map number vs) e in
    same_words ws vs a b (append_cancel_left label (flat_map number ws) (flat_map number vs) h.1)
