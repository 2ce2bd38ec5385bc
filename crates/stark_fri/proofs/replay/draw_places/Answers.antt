use Rattle.std.proofs.Common.{◌≡◌, ◌∙◌, ◌++◌, ◌-◌, ap, arith}
use Rattle.stark_support.specs.Sponge.{drawn_in_turn}
use Rattle.stark_fri.specs.Transcript.{index_of}
use Rattle.stark_fri.proofs.ListSteps.{all_drawn, one_more_drawn}
use Rattle.stark_fri.proofs.replay.draw_places.Invariants.{sponge_of}
use Rattle.stark_fri.proofs.replay.draw_places.Goals as goal

pub loop-query-init : goal.loop-query-init
loop-query-init g c =
    let sponge = sponge_of g in
    let bits = c.args.bits in
    let all : c.args.count - 0 ≡ c.args.count = omega arith in
    ap (λ t. t ++ drawn_in_turn (index_of sponge bits) (λ s. sponge.after_bits s bits) (c.args.count - 0) c.args.challenger.now) c.new-places.ensures.items
    ∙ ap (λ n. drawn_in_turn (index_of sponge bits) (λ s. sponge.after_bits s bits) n c.args.challenger.now) all

pub loop-query-preserved : goal.loop-query-preserved
loop-query-preserved g c =
    let sponge = sponge_of g in
    let bits = c.args.bits in
    one_more_drawn (index_of sponge bits) (λ s. sponge.after_bits s bits) c.args.count c.loop-query._query c.loop-query.challenger c.draw_index-place.new.challenger c.draw_index-place.result
    c.loop-query.places.items c.push.new.self.items _ c.loop-query-test.true c.draw_index-place.ensures.answer c.draw_index-place.ensures.state c.in_ok-push.ensures.items c.loop-query.invariant

pub returns : goal.returns
returns g c =
    let sponge = sponge_of g in
    let bits = c.args.bits in
    all_drawn (index_of sponge bits) (λ s. sponge.after_bits s bits) c.args.count c.loop-query._query c.loop-query.challenger c.loop-query.places.items _ c.loop-query-test.false c.loop-query.invariant
