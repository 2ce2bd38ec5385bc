use Rattle.std.proofs.Common.{◌∙◌, map, subst, sym}
use Rattle.std.proofs.lemmas.Bool.{false≢true}
use Rattle.stark_fri.specs.Claims.{round_seen}
use Rattle.stark_fri.specs.Found.{PlaysTo}
use Rattle.stark_fri.specs.Parts.{SpongeCalls}
use Rattle.stark_fri.specs.Scheme.{instance_of}
use Rattle.stark_fri.specs.Transcript.{Instance}
use Rattle.stark_fri.proofs.Members.{sponge_by}
use Rattle.stark_fri.proofs.ReplaySteps.{replay_ends, replay_refuses}
use Rattle.stark_fri.proofs.replay.replay_proof.Given as given
use Rattle.stark_fri.proofs.replay.replay_proof.Goals as goal

abbrev sponge_of : (g : given.Over) → SpongeCalls g.row.C.Denot g.row.D-Val.Denot g.row.EF.Denot
sponge_of g = sponge_by g.D.Val.Field g.D.Val.PrimeField64 g.EF.ExtensionField g.C.CanObserve-1 g.C.CanObserve-2 g.C.CanSample g.C.CanSampleBits g.C.GrindingChallenger

pub returns-then-not-witness_passes : goal.returns-then-not-witness_passes
returns-then-not-witness_passes g c =
    let sponge = sponge_of g in
    let rounds = map (round_seen g.D.PolynomialSpace.coset_of) c.args.claims.now in
    let i : Instance g.row.C.Denot g.row.D-Val.Denot g.row.EF.Denot = instance_of c.args.parameters.now rounds c.args.proof.now c.args.challenger.now in
    replay_refuses sponge i c.args.bits c.observe_parameters.new.challenger c.observe_claims.new.challenger c.sample-alpha.new.self c.sample-alpha.result
    c.observe_parameters.ensures c.observe_claims.ensures c.sample-alpha.ensures.answer c.sample-alpha.ensures.state
    c.commit_proof_of_work_bits-commit_bits.result c.phases.result.now c.commit_proof_of_work_bits-commit_bits.ensures c.phases.ensures
    c.in-Ok.betas.items c.play_phases.new.challenger (subst (PlaysTo sponge c.commit_proof_of_work_bits-commit_bits.result c.sample-alpha.new.self c.phases.result.now c.play_phases.new.challenger) c.in-Ok.is c.in_ok-played.ensures)
    c.final_polynomial.result.now c.observe_values.new.challenger c.final_polynomial.ensures c.observe_values.ensures
    c.query_proof_of_work_bits-query_bits.result c.query_witness-witness.result.now c.query_proof_of_work_bits-query_bits.ensures c.query_witness-witness.ensures
    (λ passes. false≢true (sym c.if-not-witness_passes.true ∙ c.witness_passes.ensures.answer.1 passes))

pub returns : goal.returns
returns g c =
    let sponge = sponge_of g in
    let rounds = map (round_seen g.D.PolynomialSpace.coset_of) c.args.claims.now in
    let i : Instance g.row.C.Denot g.row.D-Val.Denot g.row.EF.Denot = instance_of c.args.parameters.now rounds c.args.proof.now c.args.challenger.now in
    replay_ends sponge i c.args.bits c.observe_parameters.new.challenger c.observe_claims.new.challenger c.sample-alpha.new.self c.sample-alpha.result
    c.observe_parameters.ensures c.observe_claims.ensures c.sample-alpha.ensures.answer c.sample-alpha.ensures.state
    c.commit_proof_of_work_bits-commit_bits.result c.phases.result.now c.commit_proof_of_work_bits-commit_bits.ensures c.phases.ensures
    c.in-Ok.betas.items c.play_phases.new.challenger (subst (PlaysTo sponge c.commit_proof_of_work_bits-commit_bits.result c.sample-alpha.new.self c.phases.result.now c.play_phases.new.challenger) c.in-Ok.is c.in_ok-played.ensures)
    c.final_polynomial.result.now c.observe_values.new.challenger c.final_polynomial.ensures c.observe_values.ensures
    c.query_proof_of_work_bits-query_bits.result c.query_witness-witness.result.now c.query_proof_of_work_bits-query_bits.ensures c.query_witness-witness.ensures
    (c.witness_passes.ensures.answer.0 c.if-not-witness_passes.false) c.witness_passes.new.challenger c.witness_passes.ensures.state c.num_queries-count.result c.num_queries-count.ensures
    c.in_ok-places.places.items c.in_ok-places.ensures
