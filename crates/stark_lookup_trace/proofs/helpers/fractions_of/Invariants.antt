use Rattle.std.proofs.Common.{◌≡◌, map, take}
use Rattle.stark_logup.specs.Fractions.{denominator, numerator}
use Rattle.stark_lookup_trace.specs.AuxiliaryColumns.{entries_of}
use Rattle.stark_lookup_trace.proofs.helpers.fractions_of.Given as goal

abbrev pub invariant-loop-group : goal.invariant-loop-group
invariant-loop-group g l =
    (l.numerators.items ≡ map (numerator g.K.Field.ring l.gamma) (entries_of (take l.group-index l.groups))) × (l.denominators.items ≡ map (denominator g.K.Field.ring l.gamma) (entries_of (take l.group-index l.groups)))
