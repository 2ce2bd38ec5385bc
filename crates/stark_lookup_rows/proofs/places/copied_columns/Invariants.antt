use Rattle.std.proofs.Common.{◌≡◌, ◌++◌, drop, map}
use Rattle.stark_lookup_rows.proofs.places.copied_columns.Given as goal

abbrev pub invariant-loop-column : goal.invariant-loop-column
invariant-loop-column g l = map (λ c. c.items) l.all.items ++ map (λ c. c.items) (drop l.column-index l.given) ≡ map (λ c. c.items) l.given
