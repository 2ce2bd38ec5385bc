use Rattle.std.proofs.Common.{◌≡◌, ◌+◌, ◌-◌}
use Rattle.stark_fri.specs.Parts.{FriFields}
use Rattle.stark_fri.specs.Query.{extension_coset, last_point}
use Rattle.stark_fri.proofs.Members.{fields_by}
use Rattle.stark_fri.proofs.query.last_point.Given as goal

abbrev pub fields_of : (g : goal.Over) → FriFields g.row.F.Denot g.row.EF.Denot
fields_of g = fields_by g.F.TwoAdicField g.F.Field g.F.PrimeField64 g.EF.Field g.EF.ExtensionField

-- The folds that are left lead from here to the last point.
abbrev pub invariant-loop-fold : goal.invariant-loop-fold
invariant-loop-fold g l = record {
  size : l.log_size + l._fold ≡ l.bits;
  point : last_point (fields_of g) (l.folds - l._fold) (record { shift = g.EF.ExtensionField.embed l.shift; log_size = l.log_size }) l.place
      ≡ last_point (fields_of g) l.folds (extension_coset (fields_of g) l.bits) l.fn.start;
}
