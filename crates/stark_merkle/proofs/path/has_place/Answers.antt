use Rattle.std.proofs.Common.{◌/◌, ◌^◌}
use Rattle.std.proofs.lemmas.Bool.{eq-eqb, eqb-true, le-leb}
use Rattle.std.proofs.Math.Nat.{div-eq_of_lt}
use Rattle.stark_merkle.proofs.Steps.{deep_has_place, place_of_no_rest}
use Rattle.stark_merkle.proofs.path.has_place.Goals as goal

pub returns-then-depth-ge64 : goal.returns-then-depth-ge64
returns-then-depth-ge64 c = (
  λ _. deep_has_place c.args.depth c.args.index c.if-depth-ge64.true c.ranges.index.fits,
  λ _. le-leb 64 c.args.depth c.if-depth-ge64.true,
)

pub returns-else-depth-ge64 : goal.returns-else-depth-ge64
returns-else-depth-ge64 c = (
  λ none. place_of_no_rest c.args.depth c.args.index (eqb-true (c.args.index / 2 ^ c.args.depth) 0 none),
  λ within. eq-eqb (c.args.index / 2 ^ c.args.depth) 0 (div-eq_of_lt within),
)
