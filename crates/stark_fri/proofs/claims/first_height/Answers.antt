use Rattle.std.proofs.Common.{◌≡◌, ◌∙◌, Some, None, ap, sym}
use Rattle.std.specs.List.{slice_get}
use Rattle.std.specs.Option.{option_copied}
use Rattle.stark_fri.specs.Claims.{matrix_seen, round_seen}
use Rattle.stark_fri.proofs.ClaimSteps.{first_and_rest, height_ended, height_found, height_passed, none_first}
use Rattle.stark_fri.proofs.claims.first_height.Goals as goal

pub returns-in-Some : goal.returns-in-Some
returns-in-Some g c =
    let coset_of = g.D.PolynomialSpace.coset_of in
    let claim = c.claim-item.result in
    let first : slice_get claim.1.items 0 ≡ Some c.in-Some.matrix.now = ap (λ t. slice_get t 0) (sym c.deref.ensures.value) ∙ sym c.first.ensures.value ∙ ap option_copied c.in-Some.is in
    ap Some c.log_size_of.ensures ∙
    height_found (round_seen coset_of) c.args.claims.now c.loop-claim.claim-index claim (matrix_seen coset_of c.in-Some.matrix.now) _ _ c.loop-claim-test.true c.claim-item.is
    (first_and_rest (matrix_seen coset_of) claim.1.items c.in-Some.matrix.now first) c.loop-claim.invariant

pub loop-claim-preserved : goal.loop-claim-preserved
loop-claim-preserved g c =
    let coset_of = g.D.PolynomialSpace.coset_of in
    let claim = c.claim-item.result in
    let none : slice_get claim.1.items 0 ≡ None = ap (λ t. slice_get t 0) (sym c.deref.ensures.value) ∙ sym c.first.ensures.value ∙ ap option_copied c.in_default.is in
    height_passed (round_seen coset_of) c.args.claims.now c.loop-claim.claim-index claim _ c.loop-claim-test.true c.claim-item.is (none_first (matrix_seen coset_of) claim.1.items none) c.loop-claim.invariant

pub returns : goal.returns
returns g c = height_ended (round_seen g.D.PolynomialSpace.coset_of) c.args.claims.now c.loop-claim.claim-index _ c.loop-claim-test.false c.loop-claim.invariant
