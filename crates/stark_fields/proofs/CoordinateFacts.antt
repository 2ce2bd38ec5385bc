-- An element of the basis times an embedded residue, and the rest: one coordinate changes.
use Rattle.std.proofs.Common.{◌≡◌, ◌∙◌, ℕ, zero, suc, ◌<◌, List, [], ◌∷◌, Some, map, slice_index_or, refl, ap, sym, arith}
use Rattle.std.specs.List.{slice_get}
use Rattle.std.proofs.lemmas.Option.{same_Some}
use Rattle.stark_support.specs.Lanes.{one_lane}
use Rattle.stark_support.specs.Ring.{RingOps, RingLaws}
use Rattle.stark_support.specs.RingSolver.{Expression, expressions, solve, v0, v1, v2, v3, v4, v5, ◌⊕◌}
use Rattle.stark_fields.specs.Residues.{residue, residue_ring, residue_ring_laws}
use Rattle.stark_fields.specs.Ext4Field.{basis_of, ext4, ext4_ring, embedded, same_ext4}
use Rattle.stark_fields.specs.ResidueLanes.{lane, lanes_of, lane_keeps, lanes_ring}
use Rattle.stark_fields.specs.Ext4Lanes.{element, elements_of, of_lane_coordinates}
use Rattle.stark_fields.specs.SmallResidues.{Residue12289}
use Rattle.stark_fields.specs.declared.ext4.Ext4.{Ext4}
use Rattle.stark_fields.specs.declared.lanes.Lanes.{Lanes}
use Rattle.stark_fields.specs.declared.extension_lanes.ExtensionLanes.{ExtensionLanes}

module _ {K : Type 0} {ring : RingOps K} (laws : RingLaws ring) (w : K) where
  abbrev over : Ext4 Expression
  over = ext4 v2 v3 v4 v5

  -- an element times a residue of the variable v1, and the rest
  abbrev quoted : Ext4 Expression → Ext4 Expression
  quoted b = (ext4_ring expressions v0).add ((ext4_ring expressions v0).mul b (embedded expressions v1)) over

  module _ (r : K) (x : Ext4 K) where
    abbrev sum_with : Ext4 K → Ext4 K
    sum_with b = (ext4_ring ring w).add ((ext4_ring ring w).mul b (embedded ring r)) x

    pub first_changed : ext4 (ring.add r x.c0) x.c1 x.c2 x.c3 ≡ sum_with (ext4 ring.one ring.zero ring.zero ring.zero)
    first_changed =
        let q = quoted (ext4 expressions.one expressions.zero expressions.zero expressions.zero) in
        let values = w ∷ r ∷ x.c0 ∷ x.c1 ∷ x.c2 ∷ x.c3 ∷ [] in
        same_ext4 _ _ _ _ _ _ _ _
        (solve laws values (v1 ⊕ v2) q.c0 refl)
        (solve laws values v3 q.c1 refl)
        (solve laws values v4 q.c2 refl)
        (solve laws values v5 q.c3 refl)

    pub second_changed : ext4 x.c0 (ring.add r x.c1) x.c2 x.c3 ≡ sum_with (ext4 ring.zero ring.one ring.zero ring.zero)
    second_changed =
        let q = quoted (ext4 expressions.zero expressions.one expressions.zero expressions.zero) in
        let values = w ∷ r ∷ x.c0 ∷ x.c1 ∷ x.c2 ∷ x.c3 ∷ [] in
        same_ext4 _ _ _ _ _ _ _ _
        (solve laws values v2 q.c0 refl)
        (solve laws values (v1 ⊕ v3) q.c1 refl)
        (solve laws values v4 q.c2 refl)
        (solve laws values v5 q.c3 refl)

    pub third_changed : ext4 x.c0 x.c1 (ring.add r x.c2) x.c3 ≡ sum_with (ext4 ring.zero ring.zero ring.one ring.zero)
    third_changed =
        let q = quoted (ext4 expressions.zero expressions.zero expressions.one expressions.zero) in
        let values = w ∷ r ∷ x.c0 ∷ x.c1 ∷ x.c2 ∷ x.c3 ∷ [] in
        same_ext4 _ _ _ _ _ _ _ _
        (solve laws values v2 q.c0 refl)
        (solve laws values v3 q.c1 refl)
        (solve laws values (v1 ⊕ v4) q.c2 refl)
        (solve laws values v5 q.c3 refl)

    pub fourth_changed : ext4 x.c0 x.c1 x.c2 (ring.add r x.c3) ≡ sum_with (ext4 ring.zero ring.zero ring.zero ring.one)
    fourth_changed =
        let q = quoted (ext4 expressions.zero expressions.zero expressions.zero expressions.one) in
        let values = w ∷ r ∷ x.c0 ∷ x.c1 ∷ x.c2 ∷ x.c3 ∷ [] in
        same_ext4 _ _ _ _ _ _ _ _
        (solve laws values v2 q.c0 refl)
        (solve laws values v3 q.c1 refl)
        (solve laws values v4 q.c2 refl)
        (solve laws values (v1 ⊕ v5) q.c3 refl)

module _ {M : Type 0} (index : ℕ) (residues : Lanes M) (x : ExtensionLanes M) where
  -- in each lane the element of the basis at the index, times the residue there, and the element there
  abbrev pub AreAdded : ExtensionLanes M → Type 0
  AreAdded y =
      (b : Ext4 (Residue12289 M)) → slice_get (basis_of residue_ring) index ≡ Some b → (i : ℕ) → i < 4
      → element y i ≡ (ext4_ring residue_ring (residue 11)).add ((ext4_ring residue_ring (residue 11)).mul b (embedded residue_ring (lane residues i))) (element x i)

  -- the same, read of the lanes in order
  pub read_in_lanes : (y : ExtensionLanes M) → AreAdded y → (b : Ext4 (Residue12289 M)) → slice_get (basis_of residue_ring) index ≡ Some b → (i : ℕ) → i < 4
      → slice_index_or (elements_of y) i (ext4_ring residue_ring (residue 11)).zero
      ≡ (ext4_ring residue_ring (residue 11)).add ((ext4_ring residue_ring (residue 11)).mul b (slice_index_or (map (embedded residue_ring) (lanes_of residues)) i (ext4_ring residue_ring (residue 11)).zero))
      (slice_index_or (elements_of x) i (ext4_ring residue_ring (residue 11)).zero)
  read_in_lanes y added b given zero h = added b given 0 h
  read_in_lanes y added b given (suc zero) h = added b given 1 h
  read_in_lanes y added b given (suc (suc zero)) h = added b given 2 h
  read_in_lanes y added b given (suc (suc (suc zero))) h = added b given 3 h
  read_in_lanes y added b given (suc (suc (suc (suc i)))) h = absurd (omega arith)

module _ {M : Type 0} (index : ℕ) (residues : Lanes M) (x : ExtensionLanes M) (sum : Lanes M) where
  at_place : (n : ℕ) (b e : Ext4 (Residue12289 M)) → index ≡ n → slice_get (basis_of residue_ring) n ≡ Some e → slice_get (basis_of residue_ring) index ≡ Some b → e ≡ b
  at_place n b e is there given = same_Some _ _ (sym there ∙ sym (ap (slice_get (basis_of residue_ring)) is) ∙ given)

  lane_sum : (y : Lanes M) → sum ≡ lanes_ring.add residues y → (i : ℕ) → i < 4 → lane sum i ≡ residue_ring.add (lane residues i) (lane y i)
  lane_sum y e i h = ap (λ z. lane z i) e ∙ (lane_keeps i h).add residues y

  abbrev times : Ext4 (Residue12289 M) → ℕ → Ext4 (Residue12289 M)
  times b i = (ext4_ring residue_ring (residue 11)).add ((ext4_ring residue_ring (residue 11)).mul b (embedded residue_ring (lane residues i))) (element x i)

  pub added_to_first : index ≡ 0 → sum ≡ lanes_ring.add residues x.c0 → AreAdded index residues x (of_lane_coordinates (record { c0 = sum; c1 = x.c1; c2 = x.c2; c3 = x.c3 }))
  added_to_first is e b given i h =
      ap (λ z. ext4 z (lane x.c1 i) (lane x.c2 i) (lane x.c3 i)) (lane_sum x.c0 e i h)
      ∙ first_changed residue_ring_laws (residue 11) (lane residues i) (element x i)
      ∙ ap (λ z. times z i) (at_place 0 b _ is refl given)

  pub added_to_second : index ≡ 1 → sum ≡ lanes_ring.add residues x.c1 → AreAdded index residues x (of_lane_coordinates (record { c0 = x.c0; c1 = sum; c2 = x.c2; c3 = x.c3 }))
  added_to_second is e b given i h =
      ap (λ z. ext4 (lane x.c0 i) z (lane x.c2 i) (lane x.c3 i)) (lane_sum x.c1 e i h)
      ∙ second_changed residue_ring_laws (residue 11) (lane residues i) (element x i)
      ∙ ap (λ z. times z i) (at_place 1 b _ is refl given)

  pub added_to_third : index ≡ 2 → sum ≡ lanes_ring.add residues x.c2 → AreAdded index residues x (of_lane_coordinates (record { c0 = x.c0; c1 = x.c1; c2 = sum; c3 = x.c3 }))
  added_to_third is e b given i h =
      ap (λ z. ext4 (lane x.c0 i) (lane x.c1 i) z (lane x.c3 i)) (lane_sum x.c2 e i h)
      ∙ third_changed residue_ring_laws (residue 11) (lane residues i) (element x i)
      ∙ ap (λ z. times z i) (at_place 2 b _ is refl given)

  pub added_to_fourth : index ≡ 3 → sum ≡ lanes_ring.add residues x.c3 → AreAdded index residues x (of_lane_coordinates (record { c0 = x.c0; c1 = x.c1; c2 = x.c2; c3 = sum }))
  added_to_fourth is e b given i h =
      ap (λ z. ext4 (lane x.c0 i) (lane x.c1 i) (lane x.c2 i) z) (lane_sum x.c3 e i h)
      ∙ fourth_changed residue_ring_laws (residue 11) (lane residues i) (element x i)
      ∙ ap (λ z. times z i) (at_place 3 b _ is refl given)

-- an element of the basis times an embedded element, and the rest, read of the one lane
pub read_alone : {F E : Type 0} (ring : RingOps E) (embed : F → E) (basis : List E) (index : ℕ) (c : F) (rest b z product sum : E)
    → slice_get basis index ≡ Some b → z ≡ embed c → product ≡ ring.mul b z → sum ≡ ring.add product rest
    → (e : E) → slice_get basis index ≡ Some e → (i : ℕ) → i < 1
    → slice_index_or (one_lane sum) i ring.zero ≡ ring.add (ring.mul e (slice_index_or (map embed (one_lane c)) i ring.zero)) (slice_index_or (one_lane rest) i ring.zero)
read_alone ring embed basis index c rest b z product sum at is_z is_product is_sum e given zero h =
    is_sum ∙ ap (λ p. ring.add p rest) (is_product ∙ ap (ring.mul b) is_z ∙ ap (λ k. ring.mul k (embed c)) (same_Some b e (sym at ∙ given)))
read_alone ring embed basis index c rest b z product sum at is_z is_product is_sum e given (suc i) h = absurd (omega arith)
