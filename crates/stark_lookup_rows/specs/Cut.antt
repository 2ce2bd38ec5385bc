-- The values of a row, cut into the entries of interactions.
use Rattle.std.specs.Prelude.{ℕ, ◌+◌, ◌-◌, ◌*◌, nat_lt, Bool, true, false, List, [], ◌∷◌, ◌++◌, drop, length, map, replicate, get_or, take}
use Rattle.std.specs.List.{sum_by}
use Rattle.std.specs.declared.vec.Vec.{Vec}
use Rattle.stark_support.specs.Ring.{RingOps}
use Rattle.stark_logup.specs.Fractions.{Entry, rows_below}
use Rattle.stark_lookup_trace.specs.declared.tuples.TupleEntry.{TupleEntry}
use Rattle.stark_lookup_extension.specs.declared.lookup.Direction.{Direction}
use Rattle.stark_lookup_extension.specs.declared.lookup.Direction.TheVariants.{Sent, Received}
use Rattle.stark_lookup_extension.specs.declared.lookup.Lookup.{Lookup}
use Rattle.stark_lookup_extension.specs.declared.lookup.LookupInteraction.{LookupInteraction}
use Rattle.stark_lookup_extension.specs.declared.lookup.LookupList.{LookupList}
use Rattle.stark_lookup_rows.specs.Cutting.{cut}
use Rattle.stark_lookup_rows.specs.declared.cut.KeyForm.{KeyForm}

abbrev pub entry_view : {F : Type 0} → TupleEntry F → Entry (List F) F
entry_view e = record { key = e.tuple.items; multiplicity = e.multiplicity }

abbrev pub entries_view : {F A : Type 0} → Vec (TupleEntry F) A → List (Entry (List F) F)
entries_view v = map entry_view v.items

-- Of groups nothing goes on from one to the next.
abbrev pub same_state : Unit {0} → Unit {0}
same_state s = s

-- What is received is counted down.
abbrev pub counted : {F : Type 0} → RingOps F → Direction → F → F
counted ring Sent x = x
counted ring Received x = ring.neg x

-- What a tuple begins with, where lookups are numbered.
abbrev pub tag_at : {F : Type 0} → Bool → F → List F
tag_at true number = number ∷ []
tag_at false number = []

-- How many values there are of an interaction, of a group, of groups and of all lookups.
abbrev pub interaction_size : LookupInteraction → ℕ
interaction_size e = length e.tuple.items + 1

abbrev pub group_size : List LookupInteraction → ℕ
group_size es = sum_by interaction_size es

abbrev pub groups_size : {A : Type 0} → List (Vec LookupInteraction A) → ℕ
groups_size gs = sum_by (λ g. group_size g.items) gs

abbrev pub lookups_size : List Lookup → ℕ
lookups_size xs = sum_by (λ x. groups_size x.groups.items) xs

module _ {F : Type 0} (ring : RingOps F) (width : ℕ) where
  -- An interaction takes the elements of its tuple, and after them its multiplicity.
  abbrev pub cut_entry : List F → LookupInteraction → List F → Entry (List F) F
  cut_entry tag e values = record {
    key = tag ++ take (length e.tuple.items) values ++ replicate (width - length e.tuple.items) ring.zero;
    multiplicity = counted ring e.direction (get_or values (length e.tuple.items) ring.zero);
  }

  abbrev pub entry_of : List F → Unit {0} → LookupInteraction → List F → List (Entry (List F) F)
  entry_of tag s e values = cut_entry tag e values ∷ []

  abbrev pub cut_group : List F → List LookupInteraction → List F → List (Entry (List F) F)
  cut_group tag es values = cut interaction_size same_state (entry_of tag) tt es values

  module _ {A : Type 0} where
    abbrev pub group_of : List F → Unit {0} → Vec LookupInteraction A → List F → List (List (Entry (List F) F))
    group_of tag s g values = cut_group tag g.items values ∷ []

    abbrev pub cut_groups : List F → List (Vec LookupInteraction A) → List F → List (List (Entry (List F) F))
    cut_groups tag gs values = cut (λ g. group_size g.items) same_state (group_of tag) tt gs values

  module _ (numbered : Bool) where
    abbrev pub lookup_of : F → Lookup → List F → List (List (Entry (List F) F))
    lookup_of number x values = cut_groups (tag_at numbered number) x.groups.items values

    abbrev pub cut_numbered : F → List Lookup → List F → List (List (Entry (List F) F))
    cut_numbered number xs values = cut (λ x. groups_size x.groups.items) (λ number. ring.add number ring.one) lookup_of number xs values

  -- The groups of all lookups, which are numbered where there are several.
  abbrev pub cut_lookups : List Lookup → List F → List (List (Entry (List F) F))
  cut_lookups xs values = cut_numbered (nat_lt 1 (length xs)) ring.zero xs values

  -- The groups of row r, where each row has so many values.
  abbrev pub cut_row : List Lookup → ℕ → List F → ℕ → List (List (Entry (List F) F))
  cut_row xs size values r = cut_lookups xs (drop (r * size) values)

-- The groups of a lookup, by what its tuples begin with.
abbrev pub cut_by : {F A : Type 0} → RingOps F → KeyForm F → List (Vec LookupInteraction A) → List F → List (List (Entry (List F) F))
cut_by ring form gs values = cut_groups ring form.width form.tag.items gs values

-- The groups of the rows below this one, where each row has so many values.
abbrev pub cut_rows : {F : Type 0} → RingOps F → LookupList → ℕ → List F → ℕ → List (List (Entry (List F) F))
cut_rows ring given size values rows = rows_below (cut_row ring given.width given.lookups.items size values) rows
