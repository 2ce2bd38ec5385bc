use Rattle.std.proofs.Common.{rules, map, sym, subst}
use Rattle.std.specs.List.{AllByRecursion}
use Rattle.stark_support.proofs.Loops.{left_step, passed_step, passed_stop}
use Rattle.stark_fri.specs.Claims.{HasOneWidth, HasWidths, matrix_seen, round_seen}
use Rattle.stark_fri.proofs.claims.first_of_two_widths.Goals as goal

pub returns-then-not-has_widths : goal.returns-then-not-has_widths
returns-then-not-has_widths g c =
    let claim = c.index-claims-i.result in
    let seen = matrix_seen g.D.PolynomialSpace.coset_of in
    let not : AllByRecursion (λ m. HasOneWidth m.1) (map seen c.deref.result.now) → ⊥ = search rules in
    passed_stop (round_seen g.D.PolynomialSpace.coset_of) HasWidths c.args.claims.now c.loop-i.i claim c.loop-i-test.true c.index-claims-i.is
    (λ w. not (subst (λ t. AllByRecursion (λ m. HasOneWidth m.1) (map seen t)) (sym c.deref.ensures.value) w)) c.loop-i.invariant.1

pub loop-i-preserved : goal.loop-i-preserved
loop-i-preserved g c =
    let claim = c.index-claims-i.result in
    let seen = matrix_seen g.D.PolynomialSpace.coset_of in
    let all : AllByRecursion (λ m. HasOneWidth m.1) (map seen c.deref.result.now) = search rules in
    let yes : AllByRecursion (λ m. HasOneWidth m.1) (map seen claim.1.items) = subst (λ t. AllByRecursion (λ m. HasOneWidth m.1) (map seen t)) c.deref.ensures.value all in (
      left_step (round_seen g.D.PolynomialSpace.coset_of) HasWidths c.args.claims.now c.loop-i.i claim c.loop-i-test.true c.index-claims-i.is yes c.loop-i.invariant.0,
      passed_step (round_seen g.D.PolynomialSpace.coset_of) HasWidths c.args.claims.now c.loop-i.i claim c.loop-i-test.true c.index-claims-i.is yes c.loop-i.invariant.1,
    )
