use Rattle.std.proofs.Common.{◌≡◌, ◌+◌, ◌%◌, ◌<◌, ℕ, length, get_or, map}
use Rattle.stark_support.specs.Powers.{squarings}
use Rattle.stark_protocol.proofs.recomposition.are_cyclic.Given as goal

abbrev pub invariant-loop-i : goal.invariant-loop-i
invariant-loop-i g l =
    let base = g.D.Val.Field.ring in
    let nodes = map (λ (o : g.row.D.Denot). squarings base (g.D.PolynomialSpace.coset_of o).shift l.log_size) l.domains in
    (j : ℕ) → j < l.i → base.mul (get_or nodes ((j + 1) % length nodes) base.zero) (get_or nodes 0 base.zero) ≡ base.mul (get_or nodes j base.zero) (get_or nodes (1 % length nodes) base.zero)
