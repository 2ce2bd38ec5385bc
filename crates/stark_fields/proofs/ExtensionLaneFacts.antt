-- Four elements of the extension: what is read of a lane, and what a lane is set to.
use Rattle.std.proofs.Common.{◌≡◌, ℕ, ◌<◌, List, [], ◌∷◌, slice_set, refl, zero, suc, arith, ◌∙◌}
use Rattle.stark_fields.specs.Ext4Field.{ext4}
use Rattle.stark_fields.specs.ResidueLanes.{lanes_of}
use Rattle.stark_fields.specs.Ext4Lanes.{elements_of, of_lane_coordinates}
use Rattle.stark_fields.specs.SmallResidues.{Residue12289}
use Rattle.stark_fields.specs.declared.ext4.Ext4.{Ext4}
use Rattle.stark_fields.specs.declared.lanes.Lanes.{Lanes}
use Rattle.stark_fields.specs.declared.extension_lanes.ExtensionLanes.{ExtensionLanes}

-- the elements with the coordinates
abbrev joined : {M : Type 0} → List (Residue12289 M) → List (Residue12289 M) → List (Residue12289 M) → List (Residue12289 M) → List (Ext4 (Residue12289 M))
joined (a ∷ p) (b ∷ q) (c ∷ r) (d ∷ s) = ext4 a b c d ∷ joined p q r s
joined [] q r s = []
joined (a ∷ p) [] r s = []
joined (a ∷ p) (b ∷ q) [] s = []
joined (a ∷ p) (b ∷ q) (c ∷ r) [] = []

module _ {M : Type 0} where
  set_at : (x : ExtensionLanes M) (i : ℕ) (y : Ext4 (Residue12289 M)) → i < 4
      → joined (slice_set (lanes_of x.c0) i y.c0) (slice_set (lanes_of x.c1) i y.c1) (slice_set (lanes_of x.c2) i y.c2) (slice_set (lanes_of x.c3) i y.c3) ≡ slice_set (elements_of x) i y
  set_at x zero y h = refl
  set_at x (suc zero) y h = refl
  set_at x (suc (suc zero)) y h = refl
  set_at x (suc (suc (suc zero))) y h = refl
  set_at x (suc (suc (suc (suc i)))) y h = absurd (omega arith)

  -- A lane's element is set by setting each of its coordinates.
  pub element_set : (x : ExtensionLanes M) (i : ℕ) (y : Ext4 (Residue12289 M)) → i < 4 → (c0 c1 c2 c3 : Lanes M)
      → lanes_of c0 ≡ slice_set (lanes_of x.c0) i y.c0 → lanes_of c1 ≡ slice_set (lanes_of x.c1) i y.c1
      → lanes_of c2 ≡ slice_set (lanes_of x.c2) i y.c2 → lanes_of c3 ≡ slice_set (lanes_of x.c3) i y.c3
      → elements_of (of_lane_coordinates (record { c0 = c0; c1 = c1; c2 = c2; c3 = c3 })) ≡ slice_set (elements_of x) i y
  element_set x i y h c0 c1 c2 c3 p q r s = (λ t. joined (p t) (q t) (r t) (s t)) ∙ set_at x i y h
