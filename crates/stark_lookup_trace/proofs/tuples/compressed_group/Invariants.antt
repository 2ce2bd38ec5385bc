use Rattle.std.proofs.Common.{◌≡◌, map, take}
use Rattle.stark_logup.specs.Lookups.{compressed}
use Rattle.stark_lookup_trace.specs.AuxiliaryColumns.{entry_pairs}
use Rattle.stark_lookup_trace.specs.Tuples.{entry_over}
use Rattle.stark_lookup_trace.proofs.tuples.compressed_group.Given as goal

abbrev pub invariant-loop-entry : goal.invariant-loop-entry
invariant-loop-entry g l =
    entry_pairs l.pairs.items ≡ map (λ e. compressed g.EF.Field.ring l.beta (entry_over g.EF.ExtensionField.embed e)) (take l.entry-index l.group)
