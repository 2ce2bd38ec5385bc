-- What JSON values spell of commitments in parts: an array of one, the whole, or of two, the parts in their order.
use Rattle.std.specs.Prelude.{◌≡◌, ◌≢◌, ◌<◌, ◌≤◌, List, [], ◌∷◌, length, Option, Some, None, option_map, refl}
use Rattle.std.proofs.Common.{ap, arith}
use Rattle.serde_json.specs.View.{items_view}
use Rattle.serde_json.specs.declared.value.Value.{Value}
use Rattle.serde_json.specs.Data.{Data, Items, null, array, no_items, item}
use Rattle.serde_json.specs.Find.{as_array}
use Rattle.stark_support.specs.Json.{◌>>=◌}
use Rattle.stark_fields.specs.ElementJson.{is_null}
use Rattle.stark_two_part.specs.declared.in_parts.InParts.{InParts}
use Rattle.stark_two_part.specs.declared.in_parts.InParts.TheVariants.{Whole, Parts}

-- one item or two
abbrev pub parts_of : {K : Type 0} → (Data → Option K) → Items → Option (InParts K)
parts_of reading no_items = None
parts_of reading (item a no_items) = option_map Whole (reading a)
parts_of reading (item a (item b no_items)) = reading a >>= λ k. option_map (Parts k) (reading b)
parts_of reading (item a (item b (item c rest))) = None

unfoldable pub parts_at : {K : Type 0} → (Data → Option K) → Data → Option (InParts K)
parts_at reading d = as_array d >>= parts_of reading

abbrev pub parts_written : {K : Type 0} → (K → Data) → InParts K → Data
parts_written writing (Whole k) = array (item (writing k) no_items)
parts_written writing (Parts k l) = array (item (writing k) (item (writing l) no_items))

pub parts_read_back : {K : Type 0} (reading : Data → Option K) (writing : K → Data) → ((k : K) → reading (writing k) ≡ Some k) → (x : InParts K)
    → parts_at reading (parts_written writing x) ≡ Some x
unfolding parts_at
parts_read_back reading writing back (Whole k) = rw (back k) refl
parts_read_back reading writing back (Parts k l) = rw (back k, back l) refl

pub parts_never_null : {K : Type 0} (writing : K → Data) (x : InParts K) → parts_written writing x ≢ null
parts_never_null writing (Whole k) e = let stated = ap is_null e in absurd (cc)
parts_never_null writing (Parts k l) e = let stated = ap is_null e in absurd (cc)

-- No item, and more than two, are nothing.
pub none_at_all : {K : Type 0} (reading : Data → Option K) (vs : List Value) → length vs < 1 → parts_of reading (items_view vs) ≡ None
none_at_all reading [] few = refl
none_at_all reading (v ∷ vs) few = absurd (omega (arith, few))

pub too_many : {K : Type 0} (reading : Data → Option K) (vs : List Value) → 3 ≤ length vs → parts_of reading (items_view vs) ≡ None
too_many reading [] many = refl
too_many reading (u ∷ []) many = absurd (omega (arith, many))
too_many reading (u ∷ (v ∷ [])) many = absurd (omega (arith, many))
too_many reading (u ∷ (v ∷ (w ∷ vs))) many = refl
