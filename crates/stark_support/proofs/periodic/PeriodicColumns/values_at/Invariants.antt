use Rattle.std.proofs.Common.{◌≡◌, ◌++◌, map, drop}
use Rattle.stark_support.specs.Periodic.{periodic_value}
use Rattle.stark_support.proofs.periodic.PeriodicColumns.values_at.Given as goal

abbrev pub invariant-loop-column : goal.invariant-loop-column
invariant-loop-column g l =
    l.values.items ++ map (λ column. periodic_value g.F.Field.ring g.F.Field.inverse_of l.generator l.self.trace_len g.EF.Field.ring g.EF.ExtensionField.embed column.items l.point) (drop l.column-index l.self.columns.now)
    ≡ map (λ column. periodic_value g.F.Field.ring g.F.Field.inverse_of l.generator l.self.trace_len g.EF.Field.ring g.EF.ExtensionField.embed column.items l.point) l.self.columns.now
