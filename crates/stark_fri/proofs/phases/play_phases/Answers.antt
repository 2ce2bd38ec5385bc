use Rattle.std.proofs.Common.{◌≡◌, ◌∙◌, ap, subst, sym}
use Rattle.std.proofs.lemmas.Bool.{false≢true}
use Rattle.stark_fri.specs.Transcript.{Passes, asked, worked}
use Rattle.stark_fri.proofs.PlaySteps.{plays_end, plays_more, plays_start, plays_stop}
use Rattle.stark_fri.proofs.phases.play_phases.Invariants.{sponge_of}
use Rattle.stark_fri.proofs.phases.play_phases.Goals as goal

pub loop-i-init : goal.loop-i-init
loop-i-init g c = plays_start (sponge_of g) c.args.bits c.args.challenger.now c.args.phases.now c.new-betas.result.items c.new-betas.ensures.items

pub returns-then-not-witness_passes : goal.returns-then-not-witness_passes
returns-then-not-witness_passes g c =
    let sponge = sponge_of g in
    let bits = c.args.bits in
    let i = c.loop-i.i in
    let state = c.loop-i.challenger in
    let phase = c.index-phases-i.result in
    plays_stop sponge bits c.args.challenger.now c.args.phases.now i state c.loop-i.betas.items phase
    c.loop-i-test.true c.index-phases-i.is c.loop-i.invariant
    (λ passes. false≢true (sym c.if-not-witness_passes.true ∙ c.witness_passes.ensures.answer.1 (subst (λ s. Passes sponge bits (s, phase.witness)) (sym c.observe.ensures) passes)))

pub loop-i-preserved : goal.loop-i-preserved
loop-i-preserved g c =
    let sponge = sponge_of g in
    let i = c.loop-i.i in
    let bits = c.args.bits in
    let state = c.loop-i.challenger in
    let phase = c.index-phases-i.result in
    let passes : Passes sponge bits (asked sponge state phase, phase.witness)
    = subst (λ s. Passes sponge bits (s, phase.witness)) c.observe.ensures (c.witness_passes.ensures.answer.0 c.if-not-witness_passes.false) in
    let after : c.witness_passes.new.challenger ≡ worked sponge bits state phase = c.witness_passes.ensures.state ∙ ap (λ s. sponge.after_check s bits phase.witness) c.observe.ensures in
    plays_more sponge bits c.args.challenger.now c.args.phases.now i state c.loop-i.betas.items phase
    c.loop-i-test.true c.index-phases-i.is c.loop-i.invariant
    c.sample-beta.new.self c.push.new.self.items c.sample-beta.result passes (c.sample-beta.ensures.state ∙ ap sponge.after_draw after) (c.sample-beta.ensures.answer ∙ ap sponge.draw after) c.in_ok-push.ensures.items

pub returns : goal.returns
returns g c =
    plays_end (sponge_of g) c.args.bits c.args.challenger.now c.args.phases.now c.loop-i.i c.loop-i.challenger c.loop-i.betas.items
    c.loop-i-test.false c.loop-i.invariant
