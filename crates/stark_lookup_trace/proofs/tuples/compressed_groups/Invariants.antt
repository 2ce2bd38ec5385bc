use Rattle.std.proofs.Common.{◌≡◌, map, take}
use Rattle.stark_logup.specs.Lookups.{compressed}
use Rattle.stark_lookup_trace.specs.AuxiliaryColumns.{entries_of}
use Rattle.stark_lookup_trace.specs.Tuples.{entry_over}
use Rattle.stark_lookup_trace.proofs.tuples.compressed_groups.Given as goal

abbrev pub invariant-loop-group : goal.invariant-loop-group
invariant-loop-group g l =
    entries_of l.all.items
    ≡ map (λ v. map (compressed g.EF.Field.ring l.beta) (map (entry_over g.EF.ExtensionField.embed) v.items)) (take l.group-index l.groups)
