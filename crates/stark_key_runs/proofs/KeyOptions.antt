-- A word that is no option of a verifier that is given a key.
use Rattle.std.proofs.Common.{◌≡◌, ◌≤◌, ◌-◌, ◌∙◌, ℕ, List, [], ◌∷◌, Option, drop, map, take, length, get_or, codes, ap, arith, sym}
use Rattle.std.proofs.lemmas.List.{take_all}
use Rattle.stark_cli.proofs.Options.{other_word, otherwise}
use Rattle.stark_key_runs.specs.KeyWords.{inputs_if, is_key_named, judging}

-- It is the first of those that name inputs.
pub begins_inputs : {A : Type 0} (bytes : A → List ℕ) (key : Option (List ℕ)) (words : List A) (first : A) (word : List ℕ) → 1 ≤ length words → first ≡ get_or words 0 first → word ≡ bytes first
    → (word ≡ codes "--quiet" → ⊥) → (word ≡ codes "--at-least" → ⊥) → (word ≡ codes "--key" → ⊥) → judging key (map bytes words) ≡ inputs_if key (map bytes words)
begins_inputs bytes key [] first word some is same quiet floor named = absurd (omega arith)
begins_inputs bytes key (x ∷ rest) first word some is same quiet floor named =
    let here : word ≡ bytes x = same ∙ ap bytes is in
    otherwise _ _ _ (other_word (bytes x) _ (λ e. quiet (here ∙ e))) ∙ otherwise _ _ _ (other_word (bytes x) _ (λ e. floor (here ∙ e))) ∙ otherwise _ _ _ (other_word (bytes x) _ (λ e. named (here ∙ e)))

-- A word that isn't `--key` is passed.
pub passes_word : {A : Type 0} (bytes : A → List ℕ) (words : List A) (first : A) (word : List ℕ) → 1 ≤ length words → first ≡ get_or words 0 first → word ≡ bytes first → (word ≡ codes "--key" → ⊥)
    → is_key_named (map bytes words) ≡ is_key_named (map bytes (take (length words - 1) (drop 1 words)))
passes_word bytes [] first word some is same other = absurd (omega arith)
passes_word bytes (x ∷ rest) first word some is same other =
    let here : word ≡ bytes x = same ∙ ap bytes is in
    otherwise _ _ _ (other_word (bytes x) _ (λ e. other (here ∙ e))) ∙ ap (λ words. is_key_named (map bytes words)) (sym (take_all (length (x ∷ rest) - 1) rest (omega arith)))
