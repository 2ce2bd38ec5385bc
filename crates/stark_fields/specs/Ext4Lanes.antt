-- Four elements of the extension, by the lanes of their coordinates.
use Rattle.std.specs.Prelude.{◌≡◌, ℕ, ◌<◌, List, map, refl, Some}
use Rattle.std.proofs.Common.{◌∙◌, ap}
use Rattle.stark_support.specs.Ring.{RingOps}
use Rattle.stark_support.specs.KeepsRing.{KeepsRing, kept_sum, kept_product, kept_difference}
use Rattle.stark_support.specs.Operations.{ring_operations}
use Rattle.stark_support.specs.Lanes.{IsLaneByLane}
use Rattle.stark_fields.specs.Residues.{residue, residue_ring}
use Rattle.stark_fields.specs.Quartic.{Quartic, quartic_ring, renamed_ring}
use Rattle.stark_fields.specs.Ext4Field.{of_coordinates, ext4, ext4_ring, embedded, basis_of}
use Rattle.stark_fields.specs.ResidueLanes.{in_fours, in_fours_same, lane, lanes_of, in_each_lane, lanes_ring, same_lanes, lane_of_each, lane_keeps}
use Rattle.stark_fields.specs.SmallResidues.{Residue12289}
use Rattle.stark_fields.specs.declared.ext4.Ext4.{Ext4}
use Rattle.stark_fields.specs.declared.lanes.Lanes.{Lanes}
use Rattle.stark_fields.specs.declared.extension_lanes.ExtensionLanes.{ExtensionLanes}
use Rattle.std.specs.List.{slice_get}

-- the element in a lane
abbrev pub element : {M : Type 0} → ExtensionLanes M → ℕ → Ext4 (Residue12289 M)
element x i = ext4 (lane x.c0 i) (lane x.c1 i) (lane x.c2 i) (lane x.c3 i)

-- the elements in the lanes, in order
abbrev pub elements_of : {M : Type 0} → ExtensionLanes M → List (Ext4 (Residue12289 M))
elements_of x = in_fours (element x)

abbrev pub element_in_each_lane : {M : Type 0} → Ext4 (Residue12289 M) → ExtensionLanes M
element_in_each_lane x = record { c0 = in_each_lane x.c0; c1 = in_each_lane x.c1; c2 = in_each_lane x.c2; c3 = in_each_lane x.c3 }

-- residues as constants, lane by lane
abbrev pub embedded_lanes : {M : Type 0} → Lanes M → ExtensionLanes M
embedded_lanes x = record { c0 = x; c1 = in_each_lane (residue 0); c2 = in_each_lane (residue 0); c3 = in_each_lane (residue 0) }

abbrev pub lane_coordinates : {M : Type 0} → ExtensionLanes M → Quartic (Lanes M)
lane_coordinates x = record { c0 = x.c0; c1 = x.c1; c2 = x.c2; c3 = x.c3 }

abbrev pub of_lane_coordinates : {M : Type 0} → Quartic (Lanes M) → ExtensionLanes M
of_lane_coordinates x = record { c0 = x.c0; c1 = x.c1; c2 = x.c2; c3 = x.c3 }

-- the operations, by those on the lanes of coordinates: X^4 is 11 in each lane
abbrev pub extension_lanes_ring : {M : Type 0} → RingOps (ExtensionLanes M)
extension_lanes_ring = renamed_ring lane_coordinates of_lane_coordinates (quartic_ring lanes_ring (in_each_lane (residue 11)))

-- ---- a map that keeps the ring of the coordinates keeps the extension's
abbrev quartic : {K : Type 0} → K → K → K → K → Quartic K
quartic a b c d = record { c0 = a; c1 = b; c2 = c; c3 = d }

abbrev coordinatewise : {K L : Type 0} → (K → L) → Quartic K → Quartic L
coordinatewise f x = quartic (f x.c0) (f x.c1) (f x.c2) (f x.c3)

same_quartic : {K : Type 0} {a b c d a' b' c' d' : K} → a ≡ a' → b ≡ b' → c ≡ c' → d ≡ d' → quartic a b c d ≡ quartic a' b' c' d'
same_quartic p q r s = λ i. quartic (p i) (q i) (r i) (s i)

module _ {K L : Type 0} {from : RingOps K} {to : RingOps L} {f : K → L} (keeps : KeepsRing from to f) (w : K) (v : L) (constant : f w ≡ v) where
  kept_quartic_product : (a b : Quartic K) → coordinatewise f ((quartic_ring from w).mul a b) ≡ (quartic_ring to v).mul (coordinatewise f a) (coordinatewise f b)
  kept_quartic_product a b =
      let times = keeps.mul in
      same_quartic
      (kept_sum keeps _ _ _ _ (times a.c0 b.c0) (kept_product keeps _ _ _ _ constant (kept_sum keeps _ _ _ _ (times a.c1 b.c3) (kept_sum keeps _ _ _ _ (times a.c2 b.c2) (times a.c3 b.c1)))))
      (kept_sum keeps _ _ _ _ (kept_sum keeps _ _ _ _ (times a.c0 b.c1) (times a.c1 b.c0)) (kept_product keeps _ _ _ _ constant (kept_sum keeps _ _ _ _ (times a.c2 b.c3) (times a.c3 b.c2))))
      (kept_sum keeps _ _ _ _ (kept_sum keeps _ _ _ _ (times a.c0 b.c2) (kept_sum keeps _ _ _ _ (times a.c1 b.c1) (times a.c2 b.c0))) (kept_product keeps _ _ _ _ constant (times a.c3 b.c3)))
      (kept_sum keeps _ _ _ _ (kept_sum keeps _ _ _ _ (times a.c0 b.c3) (times a.c1 b.c2)) (kept_sum keeps _ _ _ _ (times a.c2 b.c1) (times a.c3 b.c0)))

  quartic_kept : KeepsRing (quartic_ring from w) (quartic_ring to v) (coordinatewise f)
  quartic_kept = record {
    zero = same_quartic keeps.zero keeps.zero keeps.zero keeps.zero;
    one = same_quartic keeps.one keeps.zero keeps.zero keeps.zero;
    add = λ a b. same_quartic (keeps.add a.c0 b.c0) (keeps.add a.c1 b.c1) (keeps.add a.c2 b.c2) (keeps.add a.c3 b.c3);
    mul = kept_quartic_product;
    neg = λ a. same_quartic (keeps.neg a.c0) (keeps.neg a.c1) (keeps.neg a.c2) (keeps.neg a.c3);
  }

module _ {M : Type 0} where
  -- a lane keeps the operations
  pub element_keeps : (i : ℕ) → i < 4 → KeepsRing (extension_lanes_ring {M = M}) (ext4_ring residue_ring (residue 11)) (λ x. element x i)
  element_keeps i h =
      let kept = quartic_kept (lane_keeps {M = M} i h) (in_each_lane (residue 11)) (residue 11) (lane_of_each (residue 11) i h) in
      record {
        zero = ap of_coordinates kept.zero;
        one = ap of_coordinates kept.one;
        add = λ x y. ap of_coordinates (kept.add (lane_coordinates x) (lane_coordinates y));
        mul = λ x y. ap of_coordinates (kept.mul (lane_coordinates x) (lane_coordinates y));
        neg = λ x. ap of_coordinates (kept.neg (lane_coordinates x));
      }

  -- the lanes say all
  pub same_elements : (x y : ExtensionLanes M) → elements_of x ≡ elements_of y → x ≡ y
  same_elements x y e =
      let first = same_lanes x.c0 y.c0 (ap (map (λ (a : Ext4 (Residue12289 M)). a.c0)) e) in
      let second = same_lanes x.c1 y.c1 (ap (map (λ (a : Ext4 (Residue12289 M)). a.c1)) e) in
      let third = same_lanes x.c2 y.c2 (ap (map (λ (a : Ext4 (Residue12289 M)). a.c2)) e) in
      let fourth = same_lanes x.c3 y.c3 (ap (map (λ (a : Ext4 (Residue12289 M)). a.c3)) e) in
      λ i. record { c0 = first i; c1 = second i; c2 = third i; c3 = fourth i }

  made_element : (x : Ext4 (Residue12289 M)) (i : ℕ) → i < 4 → element (element_in_each_lane x) i ≡ x
  made_element x i h = λ t. ext4 (lane_of_each x.c0 i h t) (lane_of_each x.c1 i h t) (lane_of_each x.c2 i h t) (lane_of_each x.c3 i h t)

  pub extension_is_lane_by_lane : IsLaneByLane (ext4_ring (residue_ring {K = M}) (residue 11)) (ring_operations extension_lanes_ring element_in_each_lane) 4 elements_of
  extension_is_lane_by_lane = record {
    exponent = 2;
    power_of_two = refl;
    as_many = λ x. refl;
    same = same_elements;
    embed = λ k x. in_fours_same _ _ (λ i h. made_element k i h);
    plus = λ x y. in_fours_same _ _ (λ i h. (element_keeps i h).add x y);
    minus = λ x y. in_fours_same _ _ (λ i h. kept_difference (element_keeps i h) x y _ _ refl refl);
    times = λ x y. in_fours_same _ _ (λ i h. (element_keeps i h).mul x y);
    negated = λ x. in_fours_same _ _ (λ i h. (element_keeps i h).neg x);
  }

  -- packed residues as constants are each embedded
  pub embedded_elements : (x : Lanes M) (y : ExtensionLanes M) → y ≡ embedded_lanes x → elements_of y ≡ map (embedded residue_ring) (lanes_of x)
  embedded_elements x y e =
      ap elements_of e
      ∙ in_fours_same (element (embedded_lanes x)) (λ i. embedded residue_ring (lane x i)) (λ i h. let zero = lane_of_each (residue 0) i h in λ t. ext4 (lane x i) (zero t) (zero t) (zero t))

-- Lane by lane an element of the basis times a residue, and the rest.
abbrev pub AddsCoordinate : {M : Type 0} → ℕ → Lanes M → ExtensionLanes M → ExtensionLanes M → Type 0
AddsCoordinate {M} index residues rest sum = (unit : Ext4 (Residue12289 M)) → slice_get (basis_of residue_ring) index ≡ Some unit → (i : ℕ) → i < 4
    → element sum i ≡ (ext4_ring residue_ring (residue 11)).add ((ext4_ring residue_ring (residue 11)).mul unit (embedded residue_ring (lane residues i))) (element rest i)
