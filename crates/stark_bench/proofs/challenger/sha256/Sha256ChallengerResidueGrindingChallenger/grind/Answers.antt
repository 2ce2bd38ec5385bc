use Rattle.std.proofs.Common.{◌≡◌, ◌∙◌, ◌+◌, ◌*◌, Some, ap, arith, refl, subst}
use Rattle.stark_bench.specs.Challenges.{sha_passes}
use Rattle.stark_bench.specs.ChallengeFacts.{NonePassedBelow, eight_skipped, one_of_eight_found, search_finds, search_goes_on, search_starts}
use Rattle.stark_bench.proofs.challenger.sha256.Sha256ChallengerResidueGrindingChallenger.grind.Goals as goal

pub loop-group-init : goal.loop-group-init
loop-group-init g c = (refl, search_starts (sha_passes {M = g.row.M.Denot} {K = g.row.Kind.Denot} {G = g.M.Modulus}) c.args.self.now c.args.bits)

pub returns-in-Some-clause-answer : goal.returns-in-Some-clause-answer
returns-in-Some-clause-answer g c =
    ap Some c.new-witness.ensures ∙ one_of_eight_found {M = g.row.M.Denot} g.row.Kind.Denot g.M.Modulus c.args.self.now c.self.inside.state c.args.bits (8 * c.loop-group.group)
    (c.self.view_is ∙ c.loop-group.invariant.0) (omega (arith, c.loop-group-test.true, c.MODULUS-groups.ensures)) c.in-Some.number c.loop-group.invariant.1 c.in-Some.ensures

pub loop-group-preserved : goal.loop-group-preserved
loop-group-preserved g c =
    let passes = sha_passes {M = g.row.M.Denot} {K = g.row.Kind.Denot} {G = g.M.Modulus} in
    let next : 8 * c.loop-group.group + 8 ≡ 8 * (c.loop-group.group + 1) = omega arith in (
      c.loop-group.invariant.0,
      subst (λ n. NonePassedBelow passes c.args.self.now c.args.bits n) next
          (eight_skipped {M = g.row.M.Denot} g.row.Kind.Denot g.M.Modulus c.args.self.now c.self.inside.state c.args.bits (8 * c.loop-group.group)
          (c.self.view_is ∙ c.loop-group.invariant.0) (omega (arith, c.loop-group-test.true, c.MODULUS-groups.ensures)) c.loop-group.invariant.1 c.in_default.ensures),
    )

pub loop-number-preserved : goal.loop-number-preserved
loop-number-preserved g c =
    let passes = sha_passes {M = g.row.M.Denot} {K = g.row.Kind.Denot} {G = g.M.Modulus} in
    let at_first = c.copied-trial.ensures ∙ c.loop-number.invariant.0 in (
      c.loop-number.invariant.0,
      search_goes_on passes c.args.self.now c.args.bits c.loop-number.number c.loop-number.invariant.1 c.new-witness-in-loop-number.ensures
          (c.check_witness-in-loop-number.ensures.answer ∙ ap (λ s. passes s c.args.bits c.new-witness-in-loop-number.result) at_first) c.if-check_witness.false,
    )

pub returns-then-check_witness-clause-answer : goal.returns-then-check_witness-clause-answer
returns-then-check_witness-clause-answer g c =
    let passes = sha_passes {M = g.row.M.Denot} {K = g.row.Kind.Denot} {G = g.M.Modulus} in
    let at_first = c.copied-trial.ensures ∙ c.loop-number.invariant.0 in
    search_finds passes c.args.self.now c.args.bits c.loop-number.number c.loop-number.invariant.1 c.new-witness-in-loop-number.ensures
    (c.check_witness-in-loop-number.ensures.answer ∙ ap (λ s. passes s c.args.bits c.new-witness-in-loop-number.result) at_first) c.if-check_witness.true
    (omega (arith, c.loop-number-test.true, c.MODULUS-number-end.ensures))
