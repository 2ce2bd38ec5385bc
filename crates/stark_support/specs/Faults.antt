-- The first of a list that is at fault, and lists that agree place by place.
use Rattle.std.specs.Prelude.{◌≡◌, ℕ, zero, suc, ⊤, List, [], ◌∷◌, Option, None, Some, ◌⊎◌, MatchResult, Result}
use Rattle.std.specs.List.{AllByRecursion}

-- Two lists are of one length, and what stands at the same place of them is related.
unfoldable pub PlaceByPlace : {A B : Type 0} → (A → B → Type 0) → List A → List B → Type 0
PlaceByPlace R [] [] = ⊤
PlaceByPlace R [] (y ∷ ys) = ⊥
PlaceByPlace R (x ∷ xs) [] = ⊥
PlaceByPlace R (x ∷ xs) (y ∷ ys) = R x y × PlaceByPlace R xs ys

-- Element i is the first of which P fails.
unfoldable pub IsFirstFault : {A : Type 0} → (A → Type 0) → List A → ℕ → Type 0
IsFirstFault P [] i = ⊥
IsFirstFault P (x ∷ xs) zero = P x → ⊥
IsFirstFault P (x ∷ xs) (suc i) = P x × IsFirstFault P xs i

-- The number of the first of which P fails; none where it holds of all.
abbrev pub FindsFirstFault : {A : Type 0} → (A → Type 0) → List A → Option ℕ → Type 0
FindsFirstFault P xs None = AllByRecursion P xs
FindsFirstFault P xs (Some i) = IsFirstFault P xs i

-- Element i is the first of which P fails, and this is why.
unfoldable pub IsFirstFaultWith : {A : Type 0} → (A → Type 0) → (A → Type 0) → List A → ℕ → Type 0
IsFirstFaultWith P Q [] i = ⊥
IsFirstFaultWith P Q (x ∷ xs) zero = Q x
IsFirstFaultWith P Q (x ∷ xs) (suc i) = P x × IsFirstFaultWith P Q xs i

pub no_first_fault : {A : Type 0} (P : A → Type 0) (xs : List A) (i : ℕ) → IsFirstFault P xs i → AllByRecursion P xs → ⊥
unfolding IsFirstFault
no_first_fault P [] i fault all = fault
no_first_fault P (x ∷ xs) zero fault all = fault all.0
no_first_fault P (x ∷ xs) (suc i) fault all = no_first_fault P xs i fault.1 all.1

pub no_first_fault_with : {A : Type 0} (P Q : A → Type 0) → ((x : A) → P x → Q x → ⊥) → (xs : List A) (i : ℕ) → IsFirstFaultWith P Q xs i → AllByRecursion P xs → ⊥
unfolding IsFirstFaultWith
no_first_fault_with P Q not_both [] i fault all = fault
no_first_fault_with P Q not_both (x ∷ xs) zero fault all = not_both x all.0 fault
no_first_fault_with P Q not_both (x ∷ xs) (suc i) fault all = no_first_fault_with P Q not_both xs i fault.1 all.1

-- An Ok where there is no fault, and else the fault.
abbrev pub NamesFault : {T E : Type 0} → Option E → Result T E → Type 0
NamesFault fault result = MatchResult result (λ _. fault ≡ None) (λ e. fault ≡ Some e)

-- The answer names the fault, where memory may be wanting, which is an error of its own.
abbrev pub NamesFaultOr : {T E : Type 0} → E → Option E → Result T E → Type 0
NamesFaultOr lacking fault result = MatchResult result (λ _. fault ≡ None) (λ e. (fault ≡ Some e) ⊎ (e ≡ lacking))
