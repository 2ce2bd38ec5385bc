-- Why each lane of what the prover's folder answers is a folded sum.
use Rattle.std.specs.Prelude.{◌≡◌, ◌<◌, ℕ, List, [], ◌∷◌, ◌++◌, map, slice_index_or, refl}
use Rattle.std.specs.Vec.{vec_items}
use Rattle.std.specs.declared.vec.Vec.{Vec}
use Rattle.std.proofs.Common.{sym, ◌∙◌, ap, subst}
use Rattle.std.proofs.lemmas.Simd.{map-map}
use Rattle.stark_support.specs.ListFacts.{mapped_at}
use Rattle.stark_support.specs.Ring.{RingOps, RingLaws}
use Rattle.stark_support.specs.Operations.{Operations, ring_operations}
use Rattle.stark_support.specs.Embedding.{IsEmbedding}
use Rattle.stark_support.specs.Extension.{IsBasis}
use Rattle.stark_support.specs.Lanes.{IsLaneByLane}
use Rattle.stark_air.specs.Tree.{Tree, Constraint, base as over_base, extension as over_extension}
use Rattle.stark_air.specs.Layout.{Layout}
use Rattle.stark_air.specs.Value.{Environment, value, constraint_values}
use Rattle.stark_air.specs.LaneValues.{lane_environment, lane_value}
use Rattle.stark_air.specs.CollectingBoth.{CollectedBoth, of_base, of_extension}
use Rattle.stark_parts.specs.Folded.{folded}
use Rattle.stark_prover_folder.specs.Finalized.{PackingOps, finalized, lane_values}
use Rattle.stark_quotient.specs.FoldedPlaces.{AreFoldingPowers, embedded, folded_places}

-- In each lane below the width stands the folded sum of the constraints over that lane's row, embedded.
abbrev pub AreFoldedLanes : {F E P : Type 0} → RingOps F → RingOps E → (F → E) → (P → List F) → ℕ → E → List (Constraint F) → Environment P → List E → Type 0
AreFoldedLanes base ring embed lanes width a cs row sums =
    (i : ℕ) → i < width → slice_index_or sums i ring.zero ≡ folded ring a (constraint_values (ring_operations ring embed) (embedded embed (lane_environment lanes i base.zero row)) cs)

-- Where the powers of an element fold these constraints, and are those that are held, each lane has the constraints' sum folded by
-- that element, over the row there.
abbrev pub FoldsRow : {F E P Q A : Type 0} → PackingOps F E P Q → Environment P → List (Vec F A) → List E → List (Constraint F) → Q → Type 0
FoldsRow {E = E} packing row base_powers powers cs packed = (a : E)
    → AreFoldingPowers packing.fields.ring packing.coordinates packing.fields.dimension a cs (map vec_items base_powers) powers
    → AreFoldedLanes packing.fields.base packing.fields.ring packing.fields.embed packing.lanes packing.width a cs row (packing.lanes_above packed)

module _ {F E P : Type 0} {base : RingOps F} {ring : RingOps E} {embed : F → E} (embeds : IsEmbedding base ring embed)
    {packed_base : RingOps F} {o : Operations F P} {width : ℕ} {lanes : P → List F} (same_base : packed_base ≡ base) (by_lane : IsLaneByLane packed_base o width lanes)
    (i : ℕ) (within : i < width) (environment : Environment P) where
  -- Lane i of a tree's value.
  in_lane : (t : Tree F) → slice_index_or (lanes (value o environment t)) i base.zero ≡ value (ring_operations base (λ x. x)) (lane_environment lanes i base.zero environment) t
  in_lane t = lane_value by_lane i base.zero within environment t ∙ ap (λ r. value (ring_operations r (λ x. x)) (lane_environment lanes i base.zero environment) t) same_base

  base_lane : (cs : List (Constraint F)) → lane_values lanes i base.zero (of_base (value o environment) cs) ≡ of_base (value (ring_operations base (λ x. x)) (lane_environment lanes i base.zero environment)) cs
  base_lane [] = refl
  base_lane (over_base t ∷ cs) =
      ap (λ x. x ∷ lane_values lanes i base.zero (of_base (value o environment) cs)) (in_lane t) ∙
      ap (λ l. value (ring_operations base (λ x. x)) (lane_environment lanes i base.zero environment) t ∷ l) (base_lane cs)
  base_lane (over_extension t ∷ cs) = base_lane cs

  extension_lane : (cs : List (Constraint F)) → map (λ l. slice_index_or l i ring.zero) (of_extension (λ c. map embed (lanes (value o environment c))) cs)
      ≡ of_extension (λ t. embed (value (ring_operations base (λ x. x)) (lane_environment lanes i base.zero environment) t)) cs
  extension_lane [] = refl
  extension_lane (over_base t ∷ cs) = extension_lane cs
  extension_lane (over_extension t ∷ cs) =
      let there = subst (λ n. i < n) (sym (by_lane.as_many (value o environment t))) within in
      let lane = mapped_at embed (lanes (value o environment t)) i base.zero ring.zero there ∙ ap embed (in_lane t) in
      ap (λ x. x ∷ map (λ l. slice_index_or l i ring.zero) (of_extension (λ c. map embed (lanes (value o environment c))) cs)) lane ∙
      ap (λ l. embed (value (ring_operations base (λ x. x)) (lane_environment lanes i base.zero environment) t) ∷ l) (extension_lane cs)

-- What was kept from nothing on.
pub kept_from_nothing : {A : Type 0} (before after rest : List A) → after ≡ before ++ rest → before ≡ [] → after ≡ rest
kept_from_nothing before after rest is nothing = is ∙ ap (λ l. l ++ rest) nothing

module _ {F E P : Type 0} {base : RingOps F} {ring : RingOps E} (laws : RingLaws ring) {embed : F → E} (embeds : IsEmbedding base ring embed)
    {packed_base : RingOps F} {o : Operations F P} {width : ℕ} {lanes : P → List F} (same_base : packed_base ≡ base) (by_lane : IsLaneByLane packed_base o width lanes) where
  -- Where a builder that had kept nothing keeps packed values, the answer in a lane is the folded sum of the constraints over
  -- that lane's row, embedded.
  pub folded_lane : {coordinates : E → List F} {dimension : ℕ} {basis : List E} → IsBasis ring embed dimension basis coordinates
      → {S : Type 0} {environment : S → Environment P} {layout : S → Layout} {kept : S → List P} {kept_above : S → List (List E)} {s t : S} {cs : List (Constraint F)}
      → CollectedBoth o (λ v. map embed (lanes v)) environment layout kept kept_above s cs t → kept s ≡ [] → kept_above s ≡ []
      → (a : E) (rows : List (List F)) (powers : List E) → AreFoldingPowers ring coordinates dimension a cs rows powers
      → {Q : Type 0} (lanes_above : Q → List E) (values_above : List Q) → map lanes_above values_above ≡ kept_above t
      → (nothing : F) (nothing_above : E) → nothing ≡ base.zero → nothing_above ≡ ring.zero → (i : ℕ) → i < width
      → finalized base nothing ring nothing_above embed basis rows powers (lane_values lanes i base.zero (kept t)) (lane_values lanes_above i ring.zero values_above)
      ≡ folded ring a (constraint_values (ring_operations ring embed) (embedded embed (lane_environment lanes i base.zero (environment s))) cs)
  folded_lane {basis = basis} is_basis {environment = environment} {kept = kept} {kept_above = kept_above} {s = s} {t = t} {cs = cs} collected first first_above a rows powers are lanes_above values_above above nothing nothing_above nothing_is nothing_above_is i within =
      let row = lane_environment lanes i base.zero (environment s) in
      let at = λ (l : List E). slice_index_or l i ring.zero in
      let kept_is = kept_from_nothing (kept s) (kept t) (of_base (value o (environment s)) cs) collected.appended first in
      let above_is = above ∙ kept_from_nothing (kept_above s) (kept_above t) (of_extension (λ c. map embed (lanes (value o (environment s) c))) cs) collected.appended_above first_above in
      ap (λ z. finalized base z ring nothing_above embed basis rows powers (lane_values lanes i base.zero (kept t)) (lane_values lanes_above i ring.zero values_above)) nothing_is ∙
      ap (λ z. finalized base base.zero ring z embed basis rows powers (lane_values lanes i base.zero (kept t)) (lane_values lanes_above i ring.zero values_above)) nothing_above_is ∙
      ap (λ l. finalized base base.zero ring ring.zero embed basis rows powers l (lane_values lanes_above i ring.zero values_above)) (ap (lane_values lanes i base.zero) kept_is ∙ base_lane embeds same_base by_lane i within (environment s) cs) ∙
      ap (finalized base base.zero ring ring.zero embed basis rows powers (of_base (value (ring_operations base (λ x. x)) row) cs))
      (sym (map-map at lanes_above values_above) ∙ ap (map at) above_is ∙ extension_lane embeds same_base by_lane i within (environment s) cs) ∙
      folded_places laws embeds is_basis a row cs rows powers are
