use Rattle.std.proofs.Common.{◌-◌, ◌^◌, ◌≤◌, arith}
use Rattle.std.proofs.lemmas.Result.{IfOk-weaker}
use Rattle.stark_support.specs.Coset.{TwoAdicCoset, IsTwoAdicCoset}
use Rattle.stark_support.specs.LogarithmFacts.{two_power_at_most}
use Rattle.stark_bench.proofs.SelectorLists.{last_rows_divided, no_last_listed}
use Rattle.stark_bench.proofs.TurnedLists.{last_rows_turned}
use Rattle.stark_bench.proofs.coset.Coset.last_rows_on.Goals as goal

pub quotients-requires-clause-nonzero : goal.quotients-requires-clause-nonzero
quotients-requires-clause-nonzero g c =
    let self : TwoAdicCoset g.row.F.Denot = record { shift = c.args.self.now.shift; log_size = c.args.self.now.log_size } in
    let valid : IsTwoAdicCoset g.F.Field.ring g.F.TwoAdicField.TWO_ADICITY self = record { shift_nonzero = c.args.self.now.shift_nonzero; within = c.args.self.now.within } in
    let coset : TwoAdicCoset g.row.F.Denot = record { shift = c.args.coset.now.shift; log_size = c.args.coset.now.log_size } in
    no_last_listed g.met.F.Field.field_laws _ g.F.TwoAdicField.root _ g.met.F.TwoAdicField.two_adic self valid c.requires.subgroup coset c.requires.disjoint (2 ^ coset.log_size) c.args.transitions.now c.requires.transitions

pub returns-then-self-coset : goal.returns-then-self-coset
returns-then-self-coset g c =
    let self : TwoAdicCoset g.row.F.Denot = record { shift = c.args.self.now.shift; log_size = c.args.self.now.log_size } in
    let valid : IsTwoAdicCoset g.F.Field.ring g.F.TwoAdicField.TWO_ADICITY self = record { shift_nonzero = c.args.self.now.shift_nonzero; within = c.args.self.now.within } in
    let coset : TwoAdicCoset g.row.F.Denot = record { shift = c.args.coset.now.shift; log_size = c.args.coset.now.log_size } in
    IfOk-weaker c.quotients.result _ _ (λ over quotients. last_rows_divided g.met.F.Field.field_laws _ g.F.TwoAdicField.root _ g.met.F.TwoAdicField.two_adic self valid c.requires.subgroup coset c.requires.disjoint (2 ^ coset.log_size) c.args.transitions.now c.requires.transitions
    c.args.vanishing.now over.items c.requires.vanishing quotients) c.quotients.ensures

pub turned-requires : goal.turned-requires
turned-requires g c = omega (arith, c.requires.first_rows.number, c.points_for_each-further.ensures, two_power_at_most (c.args.coset.now.log_size - c.args.self.now.log_size) c.args.coset.now.log_size (omega arith))

pub returns : goal.returns
returns g c =
    let coset : TwoAdicCoset g.row.F.Denot = record { shift = c.args.coset.now.shift; log_size = c.args.coset.now.log_size } in
    let valid : IsTwoAdicCoset g.F.Field.ring g.F.TwoAdicField.TWO_ADICITY coset = record { shift_nonzero = c.args.coset.now.shift_nonzero; within = c.args.coset.now.within } in
    let fits : c.args.self.now.log_size ≤ c.args.coset.now.log_size = omega arith in
    IfOk-weaker c.turned.result _ _ (λ all turned. last_rows_turned g.met.F.Field.field_laws _ g.F.TwoAdicField.root _ g.met.F.TwoAdicField.two_adic coset valid c.args.self.now.log_size fits c.two_adic_generator.result c.two_adic_generator.ensures c.points_for_each-further.result c.points_for_each-further.ensures
    c.args.first_rows.now all.items c.requires.first_rows turned) c.turned.ensures
