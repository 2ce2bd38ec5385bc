-- A code of trees: the tree written after its parts.
use Rattle.std.specs.Prelude.{◌≡◌, ℕ, ◌⊎◌, List, [], ◌∷◌, ◌++◌, Option, refl}
use Rattle.std.specs.Coded.{Coded, code_by, coded_ℕ, coded_list, coded×, coded⊎, coded_option}
use Rattle.std.proofs.Common.{zero, suc, sym, ◌∙◌, ap, inl, inr, append_assoc, append-nil}
use Rattle.stark_air.specs.Tree.{Tree, constant, main_current, main_next, preprocessed_current, preprocessed_next, public_value, periodic_value, first_row, last_row, transition, sum, difference, product, negation}

abbrev pub push_two : {F : Type 0} → (Tree F → Tree F → Tree F) → List (Tree F) → List (Tree F)
push_two node [] = []
push_two node (u ∷ []) = []
push_two node (u ∷ (t ∷ s)) = node t u ∷ s

abbrev pub push_one : {F : Type 0} → (Tree F → Tree F) → List (Tree F) → List (Tree F)
push_one node [] = []
push_one node (t ∷ s) = node t ∷ s

abbrev pub step : {F : Type 0} → ℕ → ℕ → List (Tree F) → List (Tree F)
step zero c s = main_current c ∷ s
step (suc zero) c s = main_next c ∷ s
step (suc (suc zero)) c s = preprocessed_current c ∷ s
step (suc (suc (suc zero))) c s = preprocessed_next c ∷ s
step (suc (suc (suc (suc zero)))) c s = public_value c ∷ s
step (suc (suc (suc (suc (suc zero))))) c s = periodic_value c ∷ s
step (suc (suc (suc (suc (suc (suc zero)))))) c s = first_row ∷ s
step (suc (suc (suc (suc (suc (suc (suc zero))))))) c s = last_row ∷ s
step (suc (suc (suc (suc (suc (suc (suc (suc zero)))))))) c s = transition ∷ s
step (suc (suc (suc (suc (suc (suc (suc (suc (suc zero))))))))) c s = push_two sum s
step (suc (suc (suc (suc (suc (suc (suc (suc (suc (suc zero)))))))))) c s = push_two difference s
step (suc (suc (suc (suc (suc (suc (suc (suc (suc (suc (suc zero))))))))))) c s = push_two product s
step (suc (suc (suc (suc (suc (suc (suc (suc (suc (suc (suc (suc k)))))))))))) c s = push_one negation s

abbrev pub run : {F : Type 0} → List (F ⊎ (ℕ × ℕ)) → List (Tree F) → List (Tree F)
run [] s = s
run (inl k ∷ r) s = run r (constant k ∷ s)
run (inr p ∷ r) s = run r (step p.0 p.1 s)

abbrev pub written : {F : Type 0} → Tree F → List (F ⊎ (ℕ × ℕ))
written (constant k) = inl k ∷ []
written (main_current c) = inr (0, c) ∷ []
written (main_next c) = inr (1, c) ∷ []
written (preprocessed_current c) = inr (2, c) ∷ []
written (preprocessed_next c) = inr (3, c) ∷ []
written (public_value c) = inr (4, c) ∷ []
written (periodic_value c) = inr (5, c) ∷ []
written first_row = inr (6, 0) ∷ []
written last_row = inr (7, 0) ∷ []
written transition = inr (8, 0) ∷ []
written (sum t u) = written t ++ (written u ++ (inr (9, 0) ∷ []))
written (difference t u) = written t ++ (written u ++ (inr (10, 0) ∷ []))
written (product t u) = written t ++ (written u ++ (inr (11, 0) ∷ []))
written (negation t) = written t ++ (inr (12, 0) ∷ [])

module _ {F : Type 0} where
  run_pair : (a b last r : List (F ⊎ (ℕ × ℕ))) (s : List (Tree F)) → run ((a ++ (b ++ last)) ++ r) s ≡ run (a ++ (b ++ (last ++ r))) s
  run_pair a b last r s = ap (λ l. run l s) (append_assoc a (b ++ last) r ∙ ap (λ l. a ++ l) (append_assoc b last r))

  pub run_written : (t : Tree F) (r : List (F ⊎ (ℕ × ℕ))) (s : List (Tree F)) → run (written t ++ r) s ≡ run r (t ∷ s)
  run_written (constant k) r s = refl
  run_written (main_current c) r s = refl
  run_written (main_next c) r s = refl
  run_written (preprocessed_current c) r s = refl
  run_written (preprocessed_next c) r s = refl
  run_written (public_value c) r s = refl
  run_written (periodic_value c) r s = refl
  run_written first_row r s = refl
  run_written last_row r s = refl
  run_written transition r s = refl
  run_written (sum t u) r s = run_pair (written t) (written u) (inr (9, 0) ∷ []) r s ∙ run_written t _ s ∙ run_written u (inr (9, 0) ∷ r) (t ∷ s)
  run_written (difference t u) r s = run_pair (written t) (written u) (inr (10, 0) ∷ []) r s ∙ run_written t _ s ∙ run_written u (inr (10, 0) ∷ r) (t ∷ s)
  run_written (product t u) r s = run_pair (written t) (written u) (inr (11, 0) ∷ []) r s ∙ run_written t _ s ∙ run_written u (inr (11, 0) ∷ r) (t ∷ s)
  run_written (negation t) r s = ap (λ l. run l s) (append_assoc (written t) (inr (12, 0) ∷ []) r) ∙ run_written t (inr (12, 0) ∷ r) s

abbrev pub top : {F : Type 0} → List (Tree F) → Tree F
top [] = first_row
top (t ∷ s) = t

pub read_back : {F : Type 0} (t : Tree F) → top (run (written t) []) ≡ t
read_back {F} t = ap (λ (l : List (F ⊎ (ℕ × ℕ))). top (run l [])) (sym (append-nil (written t))) ∙ ap top (run_written t [] [])

abbrev pub tree_code : {F : Type 0} → Coded F → Coded (Tree F)
tree_code {F} code = code_by (List (F ⊎ (ℕ × ℕ))) (coded_list (coded⊎ code (coded× coded_ℕ coded_ℕ))) written (λ l. top (run l [])) read_back

abbrev pub expression_code : {F : Type 0} → Coded F → Coded (Option (Tree F))
expression_code code = coded_option (tree_code code)
