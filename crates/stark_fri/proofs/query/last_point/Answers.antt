use Rattle.std.proofs.Common.{◌≡◌, ◌∙◌, ◌-◌, ◌%◌, ap, arith}
use Rattle.stark_support.specs.Coset.{TwoAdicCoset}
use Rattle.stark_folding.proofs.Steps.{embedded_point}
use Rattle.stark_fri.specs.Query.{last_point}
use Rattle.stark_fri.proofs.WalkSteps.{all_folds, one_more_fold}
use Rattle.stark_fri.proofs.query.last_point.Invariants.{fields_of}
use Rattle.stark_fri.proofs.query.last_point.Goals as goal

pub loop-fold-init : goal.loop-fold-init
loop-fold-init g c =
    let fields = fields_of g in
    let coset : g.row.F.Denot → TwoAdicCoset g.row.EF.Denot = λ s. record { shift = g.EF.ExtensionField.embed s; log_size = c.args.bits } in
    let none : c.args.folds - 0 ≡ c.args.folds = omega arith in record {
      size = omega arith;
      point = ap (λ s. last_point fields (c.args.folds - 0) (coset s) c.args.start) c.GENERATOR-shift.ensures ∙ ap (λ n. last_point fields n (coset g.F.Field.GENERATOR) c.args.start) none;
    }

pub mul-shift-requires : goal.mul-shift-requires
mul-shift-requires g c = g.met.F.Field.may_mul _ _

pub loop-fold-preserved : goal.loop-fold-preserved
loop-fold-preserved g c =
    let fields = fields_of g in
    let embed = g.EF.ExtensionField.embed in
    let turn = c.loop-fold-test.true in
    let size = c.loop-fold.invariant.size in
    let folds = c.requires.folds in
    let log_size = c.loop-fold.log_size in
    let s = c.loop-fold.shift in
    let coset : TwoAdicCoset g.row.EF.Denot = record { shift = embed s; log_size = log_size } in
    let next : TwoAdicCoset g.row.EF.Denot = record { shift = embed c.mul-shift.result; log_size = log_size - 1 } in record {
      size = omega (arith, turn, size, folds);
      point = one_more_fold fields c.args.folds c.loop-fold._fold coset next c.loop-fold.place _ _ turn
          (ap (λ t. record { shift = t; log_size = log_size - 1 }) (ap embed (g.met.F.Field.mul_is _ _ _ c.mul-shift.ensures) ∙ g.met.EF.ExtensionField.embeds.keeps.mul s s))
          (ap (λ n. c.loop-fold.place % n) c.half_size-place.ensures) c.loop-fold.invariant.point;
    }

pub returns : goal.returns
returns g c =
    let fields = fields_of g in
    let embed = g.EF.ExtensionField.embed in
    let coset : TwoAdicCoset g.row.EF.Denot = record { shift = embed c.loop-fold.shift; log_size = c.loop-fold.log_size } in
    c.from_base.ensures ∙ ap embed c.point_at.ensures ∙ embedded_point g.met.EF.ExtensionField.embeds c.loop-fold.shift (g.F.TwoAdicField.root c.loop-fold.log_size) c.loop-fold.place
    ∙ all_folds fields c.args.folds c.loop-fold._fold coset c.loop-fold.place _ c.loop-fold-test.false c.loop-fold.invariant.point
