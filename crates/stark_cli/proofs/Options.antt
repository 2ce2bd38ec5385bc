-- A word that is no option.
use Rattle.std.proofs.Common.{◌≡◌, ◌≤◌, ◌∙◌, ℕ, Bool, true, false, if◌then◌else◌, List, [], ◌∷◌, map, length, get_or, codes, refl, ap, arith, Decides}
use Rattle.std.specs.Str.{bytes_eq}
use Rattle.std.proofs.lemmas.Slice.Eq.{bytes_eq-Decides}
use Rattle.stark_cli.specs.Arguments.{AskedVerb, task_of, with_inputs}

differs : (b : Bool) (P : Type 0) → Decides b P → (P → ⊥) → b ≡ false
differs true P decides other = absurd (other (decides.0 refl))
differs false P decides other = refl

pub other_word : (a b : List ℕ) → (a ≡ b → ⊥) → bytes_eq a b ≡ false
other_word a b other = differs _ _ (bytes_eq-Decides a b) other

-- A choice that isn't taken.
pub otherwise : {A : Type 0} (b : Bool) (x last : A) → b ≡ false → (if b then x else last) ≡ last
otherwise true x last other = absurd (let clash : true ≡ false = other in cc)
otherwise false x last other = refl

-- It is the first of those that name inputs.
pub begins_inputs : {A : Type 0} (bytes : A → List ℕ) (asked : AskedVerb) (words : List A) (first : A) (word : List ℕ) → 1 ≤ length words → first ≡ get_or words 0 first → word ≡ bytes first
    → (word ≡ codes "--quiet" → ⊥) → (word ≡ codes "--at-least" → ⊥) → (word ≡ codes "--unchecked" → ⊥) → (word ≡ codes "--binary" → ⊥) → (word ≡ codes "--output" → ⊥) → task_of asked (map bytes words) ≡ with_inputs asked (map bytes words)
begins_inputs bytes asked [] first word some is same quiet floor unchecked binary output = absurd (omega arith)
begins_inputs bytes asked (x ∷ rest) first word some is same quiet floor unchecked binary output =
    let here : word ≡ bytes x = same ∙ ap bytes is in
    otherwise _ _ _ (other_word (bytes x) _ (λ e. quiet (here ∙ e))) ∙ otherwise _ _ _ (other_word (bytes x) _ (λ e. floor (here ∙ e))) ∙ otherwise _ _ _ (other_word (bytes x) _ (λ e. unchecked (here ∙ e)))
    ∙ otherwise _ _ _ (other_word (bytes x) _ (λ e. binary (here ∙ e))) ∙ otherwise _ _ _ (other_word (bytes x) _ (λ e. output (here ∙ e)))
