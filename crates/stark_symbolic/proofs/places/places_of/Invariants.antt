use Rattle.std.proofs.Common.{◌≡◌, ◌++◌, drop}
use Rattle.stark_symbolic.specs.Places.{marked_base_places, marked_extension_places}
use Rattle.stark_symbolic.proofs.places.places_of.Given as goal

abbrev pub invariant-loop-index : goal.invariant-loop-index
invariant-loop-index l =
    (l.base_indices.items ++ marked_base_places l.index (drop l.index l.constraints) ≡ marked_base_places 0 l.constraints)
    × (l.ext_indices.items ++ marked_extension_places l.index (drop l.index l.constraints) ≡ marked_extension_places 0 l.constraints)
