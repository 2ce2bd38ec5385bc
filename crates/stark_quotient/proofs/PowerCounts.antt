-- How many powers and values there are of base constraints and of those over the extension.
use Rattle.std.proofs.Common.{◌≡◌, ◌∙◌, ◌+◌, ◌-◌, ◌<◌, ℕ, refl, List, [], ◌∷◌, Some, map, option_map, slice_index_or, length, ap, sym, arith}
use Rattle.std.specs.List.{slice_get}
use Rattle.std.specs.Vec.{vec_items}
use Rattle.std.specs.declared.vec.Vec.{Vec}
use Rattle.std.proofs.lemmas.Option.{slice_get-get_or, slice_get-map}
use Rattle.std.proofs.lemmas.List.{length-map}
use Rattle.stark_support.specs.Ring.{RingOps}
use Rattle.stark_support.specs.Powers.{power}
use Rattle.stark_air.specs.Tree.{Tree, Constraint, base as over_base, extension as over_extension}
use Rattle.stark_symbolic.specs.Places.{base_places, extension_places, place_powers}
use Rattle.stark_support.specs.Operations.{Operations}
use Rattle.stark_air.specs.Layout.{Layout}
use Rattle.stark_air.specs.Value.{Environment, value}
use Rattle.stark_air.specs.CollectingBoth.{CollectedBoth, of_base, of_extension}
use Rattle.stark_quotient.specs.FoldedPlaces.{AreFoldingPowers}
use Rattle.stark_quotient.specs.FoldedLanes.{kept_from_nothing}

as_many_base : {F A : Type 0} (f : Tree F → A) (n : ℕ) (cs : List (Constraint F)) → length (base_places n cs) ≡ length (of_base f cs)
as_many_base f n [] = refl
as_many_base f n (over_base t ∷ cs) = (let h = as_many_base f (n + 1) cs in omega (arith, h))
as_many_base f n (over_extension t ∷ cs) = as_many_base f (n + 1) cs

as_many_extension : {F A : Type 0} (f : Tree F → A) (n : ℕ) (cs : List (Constraint F)) → length (extension_places n cs) ≡ length (of_extension f cs)
as_many_extension f n [] = refl
as_many_extension f n (over_base t ∷ cs) = as_many_extension f (n + 1) cs
as_many_extension f n (over_extension t ∷ cs) = (let h = as_many_extension f (n + 1) cs in omega (arith, h))

module _ {F E P S : Type 0} {ring : RingOps E} {coordinates : E → List F} {dimension : ℕ} {a : E} {cs : List (Constraint F)} {rows : List (List F)} {powers : List E} (are : AreFoldingPowers ring coordinates dimension a cs rows powers)
    {o : Operations F P} {above : P → List E} {environment : S → Environment P} {layout : S → Layout} {kept : S → List P} {kept_above : S → List (List E)} {s t : S} (collected : CollectedBoth o above environment layout kept kept_above s cs t) where
  -- A row has a power for each base value.
  row_length : kept s ≡ [] → (d : ℕ) (row : List F) → slice_get rows d ≡ Some row → length row ≡ length (kept t)
  row_length nothing d row h =
      let places = base_places 0 cs in
      let values = place_powers ring a (length cs) places in
      sym (length-map row (λ c. Some c)) ∙ ap length (are.base.each d row h) ∙ length-map values (λ x. slice_get (coordinates x) d) ∙
      length-map places (λ i. power ring a (length cs - 1 - i)) ∙ as_many_base (value o (environment s)) 0 cs ∙
      sym (ap length (kept_from_nothing (kept s) (kept t) (of_base (value o (environment s)) cs) collected.appended nothing))

  -- There is a power for each value over the extension.
  pub powers_length : kept_above s ≡ [] → {Q : Type 0} (lanes_above : Q → List E) (values : List Q) → map lanes_above values ≡ kept_above t → length values ≡ length powers
  powers_length nothing lanes_above values is =
      let places = extension_places 0 cs in
      let f = λ (c : Tree F). above (value o (environment s) c) in
      sym (length-map values lanes_above) ∙ ap length is ∙
      ap length (kept_from_nothing (kept_above s) (kept_above t) (of_extension f cs) collected.appended_above nothing) ∙
      sym (as_many_extension f 0 cs) ∙ sym (length-map places (λ i. power ring a (length cs - 1 - i))) ∙ sym (ap length are.extension)

module _ {F E P S A : Type 0} {ring : RingOps E} {coordinates : E → List F} {dimension : ℕ} {a : E} {cs : List (Constraint F)} (base : List (Vec F A)) {powers : List E} (are : AreFoldingPowers ring coordinates dimension a cs (map vec_items base) powers)
    {o : Operations F P} {above : P → List E} {environment : S → Environment P} {layout : S → Layout} {kept : S → List P} {kept_above : S → List (List E)} {s t : S} (collected : CollectedBoth o above environment layout kept kept_above s cs t) where
  -- So has each of some lists of powers.
  pub kept_rows_length : kept s ≡ [] → (k : ℕ) (d : Vec F A) → k < length base → length (vec_items (slice_index_or base k d)) ≡ length (kept t)
  kept_rows_length nothing k d below = row_length are {s = s} {t = t} collected nothing k _ (slice_get-map vec_items base k ∙ ap (option_map vec_items) (slice_get-get_or base k d below))
