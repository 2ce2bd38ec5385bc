use Rattle.std.proofs.Common.{◌≡◌, ◌≤◌, ◌-◌, drop, length}
use Rattle.stark_support.specs.Polynomial.{quotient_by_root, value}
use Rattle.stark_support.specs.Powers.{power}
use Rattle.stark_fri_prover.proofs.batch.add_quotient.Given as goal

abbrev pub invariant-loop-i : goal.invariant-loop-i
invariant-loop-i g l = record {
  within : l.i ≤ length l.polynomial;
  number : length l.sum ≡ length l.fn.sum;
  carry : l.carry ≡ value g.E.Field.ring (drop l.i l.polynomial) l.point;
  sum : (x : g.row.E.Denot) → value g.E.Field.ring l.sum x
      ≡ g.E.Field.ring.add (value g.E.Field.ring l.fn.sum x) (g.E.Field.ring.mul (value g.E.Field.ring (quotient_by_root g.E.Field.ring l.point (drop (l.i - 1) l.polynomial)) x) (power g.E.Field.ring x (l.i - 1)));
}

abbrev pub decreases-loop-i : goal.decreases-loop-i
decreases-loop-i g l = l.i
