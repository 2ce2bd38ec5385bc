use Rattle.std.proofs.Common.{◌∙◌, ap, sym, arith, set, add-one}
use Rattle.std.proofs.lemmas.List.{length-set}
use Rattle.stark_clear.proofs.MaskedColumns.{all_off, less_from, one_less}
use Rattle.stark_clear.proofs.masked.columns.take_off.Goals as goal

pub loop-place-preserved : goal.loop-place-preserved
loop-place-preserved g c =
    let ring = g.F.Field.ring in
    let from = c.loop-place.from.items in
    let place = c.loop-place.place in (
      length-set from place c.sub.result ∙ c.loop-place.invariant.0,
      ap (λ i. less_from ring i (set from place c.sub.result) c.args.p.now) (add-one place)
          ∙ one_less ring place from c.args.p.now c.index.result.now c.index-p-place.result c.sub.result (omega (arith, c.loop-place-test.true)) (omega (arith, c.requires, c.loop-place.invariant.0))
          c.index.ensures c.index-p-place.is (g.met.F.Field.sub_is _ _ _ c.sub.ensures) ∙ c.loop-place.invariant.1,
    )

pub returns : goal.returns
returns g c = sym (all_off g.F.Field.ring c.loop-place.place c.loop-place.from.items c.args.p.now (omega (arith, c.loop-place-test.false))) ∙ c.loop-place.invariant.1
