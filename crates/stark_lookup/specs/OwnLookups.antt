-- An AIR with its own lookups, over the products of an extension's basis.
use Rattle.std.specs.Prelude.{◌≡◌, ℕ, List, None}
use Rattle.stark_support.specs.Ring.{RingOps}
use Rattle.stark_logup.specs.Coordinates.{own_table}
use Rattle.stark_logup.specs.Fractions.{Decides}
use Rattle.stark_lookup_air.specs.LookupConstraints.{Lookups, light_trees}
use Rattle.stark_lookup_air.specs.LookupSoundness.{with_lookups}
use Rattle.stark_lookup_extension.specs.ExtendedAir.{HasLookups, HasRoom, extension_fault}
use Rattle.stark_lookup_extension.specs.Interactions.{lookups_over}
use Rattle.stark_security.specs.ConstraintPolynomial.{AirInstance}
use Rattle.stark_lookup.specs.declared.air.LookupAir.{LookupAir}

module _ {F E : Type 0} (dimension : ℕ) (coordinates : E → List F) (l : Lookups F) where
  -- One and the products of the basis by their own coordinates, and trees in which sums with zero and products with zero and one are folded.
  abbrev pub with_own_lookups : Decides F → AirInstance F E → AirInstance F E
  with_own_lookups same i = with_lookups i (light_trees same i.base) dimension (coordinates i.ring.one) (own_table i.ring i.basis coordinates) l

-- Over any subgroup, and however it is decided whether constants are the same, the instance of the second is that of the first with
-- its lookups.
abbrev pub IsWithLookups : {A F E : Type 0} → (A → F → ℕ → AirInstance F E) → ℕ → (E → List F) → Lookups F → A → A → Type 0
IsWithLookups {F = F} instance dimension coordinates l own extended =
    (same : Decides F) (generator : F) (log_size : ℕ) → instance extended generator log_size ≡ with_own_lookups dimension coordinates l same (instance own generator log_size)

-- The extended AIR is the author's with its lookups, which have no fault.
pub record IsExtended {F E : Type 0} (dimension : ℕ) (ring : RingOps E) (basis : List E) (coordinates : E → List F) (base : RingOps F) (air : LookupAir F) : Type 0 where
  pub constraints : HasLookups dimension ring basis coordinates base air.lookups air.own air.extended
  pub room : HasRoom dimension (lookups_over base air.own air.lookups) air.own air.extended
  pub without_fault : extension_fault base dimension air.lookups air.own ≡ None
  pub key_width : air.key_width ≡ (lookups_over base air.own air.lookups).width
