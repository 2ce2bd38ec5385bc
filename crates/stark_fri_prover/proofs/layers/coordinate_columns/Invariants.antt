use Rattle.std.proofs.Common.{◌≡◌, map}
use Rattle.std.specs.List.{range_with_len}
use Rattle.stark_columns.specs.Columns.{columns_list}
use Rattle.stark_fri_prover.specs.Words.{coordinate_at}
use Rattle.stark_fri_prover.proofs.layers.coordinate_columns.Given as goal

abbrev pub invariant-loop-place : goal.invariant-loop-place
invariant-loop-place g l =
    columns_list l.columns ≡ map (λ place. map (coordinate_at g.EF.ExtensionField.coordinates g.F.Field.ring.zero place) l.polynomial) (range_with_len 0 l.place)
