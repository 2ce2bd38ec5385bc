use Rattle.std.proofs.Common.{◌∙◌, ◌%◌, Some, ap, length, sym, rules}
use Rattle.std.proofs.Math.Nat.{mod-lt}
use Rattle.std.proofs.lemmas.Option.{slice_get-get_or}
use Rattle.stark_bench.proofs.PointLists.{nothing_repeated, one_more_repeated}
use Rattle.stark_bench.proofs.coset.repeated.Goals as goal

pub loop-index-init : goal.loop-index-init
loop-index-init g c = nothing_repeated c.args.list.now c.in_ok-all.all.items c.in_ok-all.ensures.items

pub loop-index-preserved : goal.loop-index-preserved
loop-index-preserved g c =
    let list = c.args.list.now in
    let n = c.loop-index.index in
    let x = c.index-list-index.result in
    one_more_repeated list n c.loop-index.all.items c.push.new.self.items x c.loop-index.invariant c.in_ok-push.ensures.items
    (slice_get-get_or list (n % length list) x (mod-lt n c.requires) ∙ ap Some (sym c.index-list-index.is))

pub returns : goal.returns
returns g c = search rules
