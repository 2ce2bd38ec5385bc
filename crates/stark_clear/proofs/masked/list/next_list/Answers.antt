use Rattle.std.proofs.Common.{◌+◌, ◌<◌, arith, length, rules}
use Rattle.std.proofs.lemmas.Nat.{mod_below}
use Rattle.stark_clear.proofs.MaskSteps.{next_number_place, one_more_number}
use Rattle.stark_clear.proofs.masked.list.next_list.Goals as goal

pub loop-number-preserved : goal.loop-number-preserved
loop-number-preserved g c =
    let masks = c.args.masks.now in
    let first = c.args.place.now in
    let count = c.loop-number._number in
    let below : c.loop-number.place < length c.args.masks.now =
    let wrapped = mod_below (first + count) (length masks) (omega (arith, c.requires)) in omega (arith, wrapped, c.loop-number.invariant.1) in (
      one_more_number g.F.Field.ring masks first c.loop-number.place count c.loop-number.list.items c.push.new.self.items c.index-masks-place.result c.index-masks-place.is below
          c.loop-number.invariant.1 c.in_ok-push.ensures.items c.loop-number.invariant.0,
      next_number_place (length masks) first c.loop-number.place count c.loop-number.invariant.1,
    )

pub returns : goal.returns
returns c = search rules
