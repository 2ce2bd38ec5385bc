-- What the symbolic builder's variables stand for.
use Rattle.std.specs.Prelude.{◌≡◌, ℕ, ◌<◌, List, [], ◌∷◌, ◌++◌, Option, Some, None, refl, length, All}
use Rattle.std.specs.List.{slice_get}
use Rattle.std.proofs.Common.{sym, ◌∙◌, ap, subst, arith, ◌⊎◌, inl, inr, ◌≤◌, get_or}
use Rattle.std.proofs.lemmas.Option.{slice_get_cases, slice_get-get_or}
use Rattle.std.proofs.lemmas.List.{length_push, get_or_append_left}
use Rattle.std.proofs.Math.Seq.{get_or-append_seam}
use Rattle.stark_air.specs.Tree.{Tree, public_value, periodic_value}
use Rattle.stark_air.specs.Value.{Environment, Shows, IsVariableOf}
use Rattle.stark_symbolic.specs.Symbolic.{Stands, symbolic_environment}
use Rattle.stark_symbolic.specs.SymbolicView.{variable_tree}
use Rattle.stark_symbolic.specs.declared.variable.BaseEntry.{BaseEntry}
use Rattle.stark_symbolic.specs.declared.variable.BaseEntry.TheVariants.{Public, Periodic}
use Rattle.stark_symbolic.specs.declared.variable.SymbolicVariable.{SymbolicVariable}
use Rattle.stark_symbolic.specs.declared.window.SymbolicWindow.{SymbolicWindow}

-- The tree of a variable, or another where there is none.
abbrev pub tree_at : {F : Type 0} → Tree F → Option (SymbolicVariable F) → Option (Tree F)
tree_at other None = Some other
tree_at other (Some v) = Some (variable_tree v.entry v.index)

-- Each public and periodic value is worth the variable in its place, and every other leaf itself.
abbrev pub row_environment : {F : Type 0} → List (SymbolicVariable F) → List (SymbolicVariable F) → Environment (Option (Tree F))
row_environment public_values periodic = record symbolic_environment {
  public_value = λ i. tree_at (public_value i) (slice_get public_values i);
  periodic_value = λ i. tree_at (periodic_value i) (slice_get periodic i);
}

-- Each variable of a list is the one of its place.
pub record AreVariables {F : Type 0} (entry : BaseEntry) (items : List (SymbolicVariable F)) : Type 0 where
  pub each : (i : ℕ) → tree_at (variable_tree entry i) (slice_get items i) ≡ Some (variable_tree entry i)

pub row_is_symbolic : {F : Type 0} (public_values periodic : List (SymbolicVariable F)) → AreVariables Public public_values → AreVariables Periodic periodic → row_environment public_values periodic ≡ symbolic_environment
row_is_symbolic public_values periodic h k = λ j. record symbolic_environment { public_value = λ i. h.each i j; periodic_value = λ i. k.each i j }

abbrev pub variable_gives : {F : Type 0} → SymbolicVariable F → Option (Tree F) → Type 0
variable_gives v x = x ≡ Some (variable_tree v.entry v.index)

tree_stands : {F : Type 0} (t : Tree F) (y : Option (Tree F)) → y ≡ Some t → Stands (Some t) y
tree_stands t None h = tt
tree_stands t (Some u) h = sym h

within_is_some : {A : Type 0} (xs : List A) (c : ℕ) → c < length xs → slice_get xs c ≡ None → ⊥
within_is_some {A} xs c within none = elim (slice_get_cases xs c).1 as (λ _. ⊥) [ inl p ↦ some_is_none (sym p.2 ∙ none) | inr q ↦ absurd (omega arith) ] where
  some_is_none : {x : A} → Some x ≡ None → ⊥
  some_is_none h = cc

-- The variables of a list stand for their trees.
pub list_shows : {F : Type 0} (other : ℕ → Tree F) (items : List (SymbolicVariable F)) → Shows variable_gives Stands (λ i. tree_at (other i) (slice_get items i)) (length items) (slice_get items)
list_shows {F} other items = record { shows = λ c within. go c (slice_get items c) (within_is_some items c within) } where
  go : (c : ℕ) (o : Option (SymbolicVariable F)) → (o ≡ None → ⊥) → IsVariableOf variable_gives Stands (tree_at (other c) o) o
  go c None obtained = obtained refl
  go c (Some v) obtained = λ y h. tree_stands (variable_tree v.entry v.index) y h

-- A row of variables of one entry shows that entry's leaves.
pub row_shows : {F : Type 0} (entry : BaseEntry) (items : List (SymbolicVariable F)) (count : ℕ) → length items ≡ count → AreVariables entry items → Shows variable_gives Stands (λ i. Some (variable_tree {F = F} entry i)) count (slice_get items)
row_shows {F} entry items count size h =
    subst (λ (n : ℕ). Shows variable_gives Stands (λ i. Some (variable_tree {F = F} entry i)) n (slice_get items)) size
    (subst (λ (f : ℕ → Option (Tree F)). Shows variable_gives Stands f (length items) (slice_get items)) (λ j i. h.each i j) (list_shows (λ i. variable_tree entry i) items))

pub no_variables : {F : Type 0} (entry : BaseEntry) → AreVariables {F = F} entry []
no_variables entry = record { each = λ i. refl }

pub one_more_variable : {F : Type 0} (entry : BaseEntry) (xs : List (SymbolicVariable F)) (v : SymbolicVariable F) → AreVariables entry xs → v.entry ≡ entry → v.index ≡ length xs → AreVariables entry (xs ++ v ∷ [])
one_more_variable {F} entry xs v h same place = record { each = λ i. go i (slice_get_cases xs i).1 } where
  is_other : (i : ℕ) → i ≡ length xs → variable_tree {F = F} v.entry v.index ≡ variable_tree {F = F} entry i
  is_other i e = ap (λ (b : BaseEntry). variable_tree {F = F} b v.index) same ∙ ap (λ (n : ℕ). variable_tree {F = F} entry n) (place ∙ sym e)

  go : (i : ℕ) → ((x : SymbolicVariable F) × (i < length xs) × (slice_get xs i ≡ Some x) × (get_or xs i x ≡ x)) ⊎ ((length xs ≤ i) × (slice_get xs i ≡ None)) → tree_at (variable_tree {F = F} entry i) (slice_get (xs ++ v ∷ []) i) ≡ Some (variable_tree {F = F} entry i)
  go i (inl p) =
      let within : i < length (xs ++ v ∷ []) = omega (arith, length_push xs v, p.1) in
      ap (tree_at (variable_tree {F = F} entry i)) (slice_get-get_or (xs ++ v ∷ []) i p.0 within ∙ ap (λ (x : SymbolicVariable F). Some x) (get_or_append_left xs (v ∷ []) p.0 i p.1 ∙ p.3) ∙ sym p.2) ∙ h.each i
  go i (inr q) = last (slice_get_cases (xs ++ v ∷ []) i).1 where
    last : ((x : SymbolicVariable F) × (i < length (xs ++ v ∷ [])) × (slice_get (xs ++ v ∷ []) i ≡ Some x) × (get_or (xs ++ v ∷ []) i x ≡ x)) ⊎ ((length (xs ++ v ∷ []) ≤ i) × (slice_get (xs ++ v ∷ []) i ≡ None)) → tree_at (variable_tree {F = F} entry i) (slice_get (xs ++ v ∷ []) i) ≡ Some (variable_tree {F = F} entry i)
    last (inl p) =
        let e : i ≡ length xs = omega (arith, length_push xs v, p.1, q.0) in
        let is_v : p.0 ≡ v = sym p.3 ∙ ap (λ (n : ℕ). get_or (xs ++ v ∷ []) n p.0) e ∙ get_or-append_seam xs v [] p.0 in
        ap (tree_at (variable_tree {F = F} entry i)) p.2 ∙ ap (λ (x : SymbolicVariable F). Some (variable_tree x.entry x.index)) is_v ∙ ap (λ (t : Tree F). Some t) (is_other i e)
    last (inr n) = ap (tree_at (variable_tree {F = F} entry i)) n.1

-- The variables in a window's two rows.
abbrev pub current_in : {F : Type 0} → SymbolicWindow F → ℕ → Option (SymbolicVariable F)
current_in w i = slice_get w.current.items i

abbrev pub next_in : {F : Type 0} → SymbolicWindow F → ℕ → Option (SymbolicVariable F)
next_in w i = slice_get w.next.items i

-- Each row has so many.
abbrev pub HasWidth : {F : Type 0} → ℕ → SymbolicWindow F → Type 0
HasWidth width w = (length w.current.items ≡ width) × (length w.next.items ≡ width)

-- The variables of the first row have this entry at offset 0, those of the second at offset 1.
abbrev pub HasEntries : {F : Type 0} → (ℕ → BaseEntry) → SymbolicWindow F → Type 0
HasEntries entry w = (All (λ v. v.entry ≡ entry 0) w.current.items) × (All (λ v. v.entry ≡ entry 1) w.next.items)
