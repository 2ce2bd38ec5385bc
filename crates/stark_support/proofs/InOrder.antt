-- A list that is made in order: the values of a function at 0, 1, ..
use Rattle.std.proofs.Common.{◌≡◌, ◌∙◌, ℕ, suc, ◌+◌, ◌-◌, ◌<◌, List, [], ◌∷◌, ◌++◌, ap, sym, arith, add-one}
use Rattle.std.proofs.lemmas.List.{append_assoc}

-- `values m n` are n of them, from the m-th on.
module _ {A : Type 0} (value : ℕ → A) (values : ℕ → ℕ → List A) (begins : (m n : ℕ) → values m (suc n) ≡ value m ∷ values (suc m) n) where
  pub none_listed : (n : ℕ) (start : List A) → start ≡ [] → start ++ values 0 (n - 0) ≡ values 0 n
  none_listed n start e = let all : n - 0 ≡ n = omega arith in ap (λ m. start ++ values 0 m) all ∙ ap (λ t. t ++ values 0 n) e

  pub next_listed : (n i : ℕ) (before after whole : List A) (x : A) → i < n → x ≡ value i → after ≡ before ++ x ∷ [] → before ++ values i (n - i) ≡ whole → after ++ values (i + 1) (n - (i + 1)) ≡ whole
  next_listed n i before after whole x below is pushed so_far =
      let left : n - i ≡ suc (n - (i + 1)) = omega arith in
      ap (λ t. t ++ values (i + 1) (n - (i + 1))) pushed ∙ append_assoc before (x ∷ []) (values (i + 1) (n - (i + 1)))
      ∙ ap (λ t. before ++ (t ∷ values (i + 1) (n - (i + 1)))) is
      ∙ ap (λ m. before ++ (value i ∷ values m (n - (i + 1)))) (add-one i)
      ∙ ap (λ t. before ++ t) (sym (ap (values i) left ∙ begins i (n - (i + 1)))) ∙ so_far
