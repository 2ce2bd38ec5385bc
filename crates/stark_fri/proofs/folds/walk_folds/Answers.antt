use Rattle.std.proofs.Common.{◌≡◌, ◌∙◌, ◌-◌, ◌%◌, ◌<◌, [], ◌∷◌, ◌++◌, ap, arith, length, sym}
use Rattle.stark_support.specs.Coset.{TwoAdicCoset}
use Rattle.stark_support.specs.FieldFacts.{nonzero_product}
use Rattle.stark_folding.specs.Fold.{squared_coset}
use Rattle.stark_folding.specs.Walk.{half_size}
use Rattle.stark_fri.specs.Query.{next_at}
use Rattle.stark_fri.specs.Walks.{pair_on}
use Rattle.stark_fri.proofs.FoldSteps.{pairs_end, pairs_more, reached_end, reached_more}
use Rattle.stark_fri.proofs.folds.walk_folds.Invariants.{fields_of}
use Rattle.stark_fri.proofs.folds.walk_folds.Goals as goal

pub loop-i-preserved : goal.loop-i-preserved
loop-i-preserved g c =
    let fields = fields_of g in
    let embed = g.EF.ExtensionField.embed in
    let betas = c.args.betas.now in
    let layers = c.args.layers.now in
    let i = c.loop-i.i in
    let shift = c.loop-i.shift in
    let place = c.loop-i.place in
    let reached = c.loop-i.reached in
    let here : TwoAdicCoset g.row.EF.Denot = record { shift = embed shift; log_size = c.loop-i.log_size } in
    let next : TwoAdicCoset g.row.EF.Denot = record { shift = embed c.mul-shift.result; log_size = c.loop-i.log_size - 1 } in
    let beta = c.index-betas-i.result in
    let layer = c.index-layers-i.result in
    let turn = c.loop-i-test.true in
    let as_many = c.requires.layers in
    let in_layers : i < length layers = omega arith in
    let result = c.fold_at-pair.result in
    let is_pair : result.0 ≡ pair_on here place reached layer.sibling = ap (λ t. t.0) c.fold_at-pair.ensures ∙ ap (λ l. pair_on here place reached l.sibling) (sym c.index-layers-i.is) in
    let is_folded : result.1 ≡ next_at fields here beta place reached layer.sibling = ap (λ t. t.1) c.fold_at-pair.ensures ∙ ap (λ l. next_at fields here beta place reached l.sibling) (sym c.index-layers-i.is) in
    let is_next : next ≡ squared_coset fields.ring here
    = ap (λ t. record { shift = t; log_size = c.loop-i.log_size - 1 }) (ap embed (g.met.F.Field.mul_is _ _ _ c.mul-shift.ensures) ∙ g.met.EF.ExtensionField.embeds.keeps.mul shift shift) in
    let is_place : result.0.place ≡ place % half_size here = ap (λ p. p.place) is_pair in record {
      shift = λ e. nonzero_product g.met.F.Field.field_laws shift shift c.loop-i.invariant.shift c.loop-i.invariant.shift (sym (g.met.F.Field.mul_is _ _ _ c.mul-shift.ensures) ∙ e);
      size = omega arith;
      pairs = pairs_more fields betas layers i here place reached beta layer turn c.index-betas-i.is in_layers c.index-layers-i.is next _ _ is_next is_place is_folded
          c.loop-i.pairs.items _ _ (c.in_ok-push.ensures.items ∙ ap (λ p. c.loop-i.pairs.items ++ p ∷ []) is_pair) c.loop-i.invariant.pairs;
      reached = reached_more fields betas layers i here place reached beta layer turn c.index-betas-i.is in_layers c.index-layers-i.is next _ _ is_next is_place is_folded _ c.loop-i.invariant.reached;
    }

pub returns : goal.returns
returns g c =
    let fields = fields_of g in
    let here : TwoAdicCoset g.row.EF.Denot = record { shift = g.EF.ExtensionField.embed c.loop-i.shift; log_size = c.loop-i.log_size } in
    let ended = c.loop-i-test.false in (
      pairs_end fields c.args.betas.now c.args.layers.now c.loop-i.i here c.loop-i.place c.loop-i.reached ended _ _ c.loop-i.invariant.pairs,
      reached_end fields c.args.betas.now c.args.layers.now c.loop-i.i here c.loop-i.place c.loop-i.reached ended _ c.loop-i.invariant.reached,
    )
