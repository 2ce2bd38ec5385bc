use Rattle.std.proofs.Common.{◌≡◌, ◌∙◌, ◌++◌, ◌∷◌, [], ◌^◌, ◌+◌, ap, arith, subst}
use Rattle.stark_support.specs.Coset.{TwoAdicCoset, AreValuesOn}
use Rattle.std.proofs.lemmas.Nat.{pow-add}
use Rattle.stark_support.specs.LogarithmFacts.{two_power_at_most}
use Rattle.stark_bench.proofs.PointLists.{first_step, next_step, one_point, points_doubled}
use Rattle.stark_bench.proofs.coset.Coset.points.Goals as goal

pub loop-round-init : goal.loop-round-init
loop-round-init g c =
    let laws = g.met.F.Field.field_laws.of_ring in
    let root = g.F.TwoAdicField.root in
    let coset : TwoAdicCoset g.row.F.Denot = record { shift = c.args.self.now.shift; log_size = c.args.self.now.log_size } in
    record {
      step = c.two_adic_generator-step.ensures ∙ first_step laws root coset;
      points = one_point laws root coset c.push.new.self.items (c.in_ok-push.ensures.items ∙ ap (λ l. l ++ coset.shift ∷ []) c.in_ok-points.ensures.items);
      room = omega (arith, c.push.ensures.capacity, c.in_ok-points.ensures.exact, c.size.ensures);
    }

pub push_own_scaled-requires : goal.push_own_scaled-requires
push_own_scaled-requires g c =
    let k = c.loop-round._round in
    let n = c.args.self.now.log_size in
    omega (arith, c.loop-round.invariant.points.number, c.loop-round.invariant.room, two_power_at_most (k + 1) n (omega arith), pow-add 2 k 1)

pub loop-round-preserved : goal.loop-round-preserved
loop-round-preserved g c =
    let laws = g.met.F.Field.field_laws.of_ring in
    let ring = g.F.Field.ring in
    let root = g.F.TwoAdicField.root in
    let coset : TwoAdicCoset g.row.F.Denot = record { shift = c.args.self.now.shift; log_size = c.args.self.now.log_size } in
    let k = c.loop-round._round in
    let step = c.loop-round.step in
    let points = c.loop-round.points.items in
    record {
      step = g.met.F.Field.mul_is _ _ _ c.mul-step.ensures ∙ next_step laws root coset k step c.loop-round.invariant.step;
      points = points_doubled laws root coset k step points c.push_own_scaled.new.all.items c.loop-round.invariant.step c.loop-round.invariant.points c.push_own_scaled.ensures.items;
      room = omega (arith, c.push_own_scaled.ensures.capacity, c.loop-round.invariant.room);
    }

pub returns : goal.returns
returns g c =
    let root = g.F.TwoAdicField.root in
    let coset : TwoAdicCoset g.row.F.Denot = record { shift = c.args.self.now.shift; log_size = c.args.self.now.log_size } in
    let end : c.loop-round._round ≡ coset.log_size = omega arith in
    subst (λ k. AreValuesOn g.F.Field.ring root coset (2 ^ k) (λ x. x) c.loop-round.points.items) end c.loop-round.invariant.points
