-- What the items of an array are read as, one by one.
use Rattle.std.proofs.Common.{◌≡◌, ℕ, zero, suc, ◌+◌, ◌<◌, List, [], ◌∷◌, ◌++◌, length, map, take, get_or, Option, Some, None, option_map, refl, subst, sym, ap, ◌∙◌, arith}
use Rattle.std.specs.Prelude.{slice_get}
use Rattle.std.proofs.lemmas.List.{get_or-map, length-map, take_more}
use Rattle.std.proofs.lemmas.Option.{slice_get-get_or}
use Rattle.serde_json.specs.Data.{Data}
use Rattle.serde_json.specs.View.{items_of, view}
use Rattle.serde_json.specs.declared.value.Value.{Value}
use Rattle.stark_support.specs.Json.{◌>>=◌, array_at, each_at}
use Rattle.stark_trace_json.specs.Faults.{HasNoElement, IsFaultOfItems, IsFaultOfRow, IsFirstUnread, IsNoArray}
use Rattle.stark_trace_json.specs.declared.fault.RowsFault.{RowsFault}
use Rattle.stark_trace_json.specs.declared.fault.RowsFault.TheVariants.{NoJson, NoArray, NoRow, NoElement, Uneven, OutOfMemory}

-- an item's reading before those of the rest
abbrev before : {A : Type 0} → Option (List A) → Option A → Option (List A)
before rest o = o >>= λ a. option_map (λ more. a ∷ more) rest

-- What two readings give together, they give each.
parts : {A : Type 0} (o : Option A) (rest : Option (List A)) (xs : List A) → before rest o ≡ Some xs → (a : A) × (more : List A) × (o ≡ Some a) × (rest ≡ Some more) × (xs ≡ a ∷ more)
parts None rest xs h = absurd (cc)
parts (Some a) None xs h = absurd (cc)
parts (Some a) (Some more) xs h = (a, more, refl, refl, cc)

unread_after : {A : Type 0} (o : Option A) (rest : Option (List A)) → rest ≡ None → before rest o ≡ None
unread_after None rest e = refl
unread_after (Some a) rest e = ap (option_map (λ more. a ∷ more)) e

module _ {A : Type 0} (each : Data → Option A) where
  each_behind : (ds : List Data) (xs : List A) (d : Data) (x : A) → each_at each (items_of ds) ≡ Some xs → each d ≡ Some x → each_at each (items_of (ds ++ d ∷ [])) ≡ Some (xs ++ x ∷ [])
  each_behind [] xs d x h e = let empty : [] ≡ xs = cc in ap (before (Some [])) e ∙ ap (λ l. Some (l ++ x ∷ [])) empty
  each_behind (b ∷ ds) xs d x h e =
      let p = parts (each b) (each_at each (items_of ds)) xs h in
      ap (before (each_at each (items_of (ds ++ d ∷ [])))) p.2 ∙ ap (option_map (λ more. p.0 ∷ more)) (each_behind ds p.1 d x p.3 e) ∙ ap (λ l. Some (l ++ x ∷ [])) (sym p.4)

  -- An item that isn't read leaves the array unread.
  pub each_unread : (ds : List Data) (i : ℕ) (d : Data) → slice_get ds i ≡ Some d → each d ≡ None → each_at each (items_of ds) ≡ None
  each_unread [] i d s e = absurd (cc)
  each_unread (b ∷ ds) zero d s e = let same : b ≡ d = cc in ap (before (each_at each (items_of ds))) (ap each same ∙ e)
  each_unread (b ∷ ds) (suc i) d s e = unread_after (each b) (each_at each (items_of ds)) (each_unread ds i d s e)

  -- one value more
  pub each_more : (vs : List Value) (i : ℕ) (v : Value) (xs : List A) (x : A) → i < length vs → v ≡ get_or vs i v → each_at each (items_of (take i (map view vs))) ≡ Some xs → each (view v) ≡ Some x
      → each_at each (items_of (take (i + 1) (map view vs))) ≡ Some (xs ++ x ∷ [])
  each_more vs i v xs x lt is h e =
      let here : get_or (map view vs) i (view v) ≡ view v = get_or-map view vs i v (view v) lt ∙ ap view (sym is) in
      let more = take_more (map view vs) i (view v) (omega (arith, length-map vs view)) ∙ ap (λ y. take i (map view vs) ++ y ∷ []) here in
      ap (λ l. each_at each (items_of l)) more ∙ each_behind (take i (map view vs)) xs (view v) x h e

-- A value stands among the views of values where it stands among them.
pub view_at : (vs : List Value) (i : ℕ) (v : Value) → i < length vs → v ≡ get_or vs i v → slice_get (map view vs) i ≡ Some (view v)
view_at vs i v lt is = slice_get-get_or (map view vs) i (view v) (omega (arith, length-map vs view)) ∙ ap Some (get_or-map view vs i v (view v) lt ∙ ap view (sym is))

-- The fault of an item as a row is that of the items, where those before it are read.
pub fault_of_items : {F : Type 0} (element : Data → Option F) (ds : List Data) (row : ℕ) (front : List (List F)) (d : Data) → each_at (array_at element) (items_of (take row ds)) ≡ Some front → slice_get ds row ≡ Some d
    → (fault : RowsFault) → IsFaultOfRow element row d fault → IsFaultOfItems element ds fault
fault_of_items element ds row front d read stands (NoRow at) h =
    subst (IsFirstUnread (array_at element) IsNoArray ds) (sym h.0) (record { before = front; here = d; read = read; stands = stands; fault = h.1 })
fault_of_items element ds row front d read stands (NoElement at column value) h =
    subst (IsFirstUnread (array_at element) (HasNoElement element column value) ds) (sym h.0) (record { before = front; here = d; read = read; stands = stands; fault = h.1 })
fault_of_items element ds row front d read stands OutOfMemory h = h
fault_of_items element ds row front d read stands NoJson h = h
fault_of_items element ds row front d read stands NoArray h = h
fault_of_items element ds row front d read stands (Uneven at expected got) h = h
