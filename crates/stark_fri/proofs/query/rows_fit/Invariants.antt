use Rattle.stark_merkle.specs.Tree.{items_of}
use Rattle.stark_support.proofs.Loops.{BothLeft}
use Rattle.stark_fri.specs.Claims.{matrix_seen}
use Rattle.stark_fri.specs.Query.{RowFits}
use Rattle.stark_fri.proofs.query.rows_fit.Given as goal

abbrev pub invariant-loop-m : goal.invariant-loop-m
invariant-loop-m g l = BothLeft (matrix_seen g.D.PolynomialSpace.coset_of) items_of RowFits l.matrices l.rows l.m
