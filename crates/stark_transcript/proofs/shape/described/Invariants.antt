use Rattle.std.proofs.Common.{◌≡◌, ◌++◌, map, drop}
use Rattle.stark_support.specs.Seed.{described, row_view, step_view}
use Rattle.stark_transcript.proofs.shape.described.Given as goal

-- What was taken, with what is there of the rest, is all.
abbrev pub invariant-loop-is_there : goal.invariant-loop-is_there
invariant-loop-is_there l = map step_view l.steps.items ++ described (map row_view (drop l.is_there-index l.table)) ≡ described (map row_view l.fn.table)
