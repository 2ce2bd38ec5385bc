use Rattle.std.proofs.lemmas.List.{length-map}
use Rattle.stark_symbolic.specs.Places.{base_places_are, extension_places_are}
use Rattle.stark_symbolic.specs.DegreePair.{marked_degrees}
use Rattle.stark_symbolic.proofs.places.get_constraint_layout.Goals as goal

pub returns-clause-base_indices : goal.returns-clause-base_indices
returns-clause-base_indices g c = let multiples = c.trace_multiples-multiples.result in rw (← base_places_are multiples multiples 0 (g.A.Air.constraints c.args.air.now), ← c.in_ok-constraints.ensures, ← c.deref.ensures.value) c.places_of.ensures.base

pub returns-clause-ext_indices : goal.returns-clause-ext_indices
returns-clause-ext_indices g c = let multiples = c.trace_multiples-multiples.result in rw (← extension_places_are multiples multiples 0 (g.A.Air.constraints c.args.air.now), ← c.in_ok-constraints.ensures, ← c.deref.ensures.value) c.places_of.ensures.extension

pub returns-clause-total : goal.returns-clause-total
returns-clause-total g c = let multiples = c.trace_multiples-multiples.result in rw (← length-map (g.A.Air.constraints c.args.air.now) (marked_degrees multiples multiples), ← c.in_ok-constraints.ensures, ← c.deref.ensures.value) c.places_of.ensures.total

pub returns-clause-base_within : goal.returns-clause-base_within
returns-clause-base_within g c = let multiples = c.trace_multiples-multiples.result in rw (← length-map (g.A.Air.constraints c.args.air.now) (marked_degrees multiples multiples), ← c.in_ok-constraints.ensures, ← c.deref.ensures.value) c.places_of.ensures.base_within

pub returns-clause-ext_within : goal.returns-clause-ext_within
returns-clause-ext_within g c = let multiples = c.trace_multiples-multiples.result in rw (← length-map (g.A.Air.constraints c.args.air.now) (marked_degrees multiples multiples), ← c.in_ok-constraints.ensures, ← c.deref.ensures.value) c.places_of.ensures.ext_within
