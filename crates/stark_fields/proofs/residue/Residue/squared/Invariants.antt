use Rattle.std.proofs.Common.{◌≡◌}
use Rattle.stark_support.specs.Powers.{squarings}
use Rattle.stark_fields.specs.Residues.{residue_ring}
use Rattle.stark_fields.proofs.residue.Residue.squared.Given as goal

abbrev pub invariant-loop-step : goal.invariant-loop-step
invariant-loop-step g l = l.square ≡ squarings residue_ring l.fn.self l._step
