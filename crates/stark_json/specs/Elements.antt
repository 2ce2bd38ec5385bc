-- Lists that JSON values spell, and the place of the first element that spells none.
use Rattle.std.specs.Prelude.{◌≡◌, ℕ, ◌+◌, List, [], ◌∷◌, Option, None, Some, IfSome, ok_or, Result, Ok, Err}
use Rattle.serde_json.specs.Data.{Data, Items, no_items, item}
use Rattle.serde_json.specs.Find.{as_array}
use Rattle.stark_json.specs.declared.element_faults.ElementsFault.{ElementsFault}
use Rattle.stark_json.specs.declared.element_faults.ListsFault.{ListsFault}

infixl 10 ◌>>=◌
abbrev pub ◌>>=◌ : {A B E : Type 0} → Result A E → (A → Result B E) → Result B E
(Ok a) >>= f = f a
(Err e) >>= f = Err e

-- What each item is read as, or the first fault; the first item's place is i.
abbrev pub each_from : {A E : Type 0} → (ℕ → Data → Result A E) → ℕ → Items → Result (List A) E
each_from read i no_items = Ok []
each_from read i (item d ds) = read i d >>= λ a. each_from read (i + 1) ds >>= λ rest. Ok (a ∷ rest)

-- Which element of which list is refused.
pub data ListRefusal : Type 0 where
  -- the list of this place is no array
  no_list : ℕ → ListRefusal
  -- of the list of this place, the element of this place
  no_element : ℕ → ℕ → ListRefusal

abbrev pub of_list : {A : Type 0} → ℕ → Result A ℕ → Result A ListRefusal
of_list i (Ok a) = Ok a
of_list i (Err j) = Err (no_element i j)

module _ {A : Type 0} (reading : Data → Option A) where
  abbrev pub element_at : ℕ → Data → Result A ℕ
  element_at i d = ok_or (reading d) i

  -- the elements, or the place of the first that is refused
  abbrev pub elements_from : ℕ → Items → Result (List A) ℕ
  elements_from i ds = each_from element_at i ds

  abbrev pub list_of_items : ℕ → Items → Result (List A) ListRefusal
  list_of_items i ds = of_list i (elements_from 0 ds)

  abbrev pub list_at : ℕ → Data → Result (List A) ListRefusal
  list_at i d = ok_or (as_array d) (no_list i) >>= list_of_items i

  -- the lists, or the first fault
  abbrev pub lists_from : ℕ → Items → Result (List (List A)) ListRefusal
  lists_from i ds = each_from list_at i ds

-- ---- what is returned

-- The place that an error names; want of memory names none.
abbrev pub refused_element : ElementsFault → Option ℕ
refused_element (ElementsFault.Element index) = Some index
refused_element ElementsFault.OutOfMemory = None

abbrev pub refused_list : ListsFault → Option ListRefusal
refused_list (ListsFault.List index) = Some (no_list index)
refused_list (ListsFault.Element list index) = Some (no_element list index)
refused_list ListsFault.OutOfMemory = None

-- What a reader returned, seen by view, is what reading gives: the value, or the fault that the error names, if it names one.
abbrev pub IsReading : {X Y E D : Type 0} → (E → Option D) → (X → Y) → Result X E → Result Y D → Type 0
IsReading fault view (Ok x) reading = reading ≡ Ok (view x)
IsReading fault view (Err error) reading = IfSome (fault error) (λ d. reading ≡ Err d)
