use Rattle.std.proofs.Common.{◌≡◌, ◌∙◌, ◌%◌, Some, ap, get_or, length, map, option_map, sym}
use Rattle.std.proofs.Math.Nat.{mod-lt}
use Rattle.std.proofs.lemmas.Option.{slice_get-get_or, slice_get-map, get_or_from_slice_get}
use Rattle.stark_bench.proofs.PointLists.{no_quotients, one_more_quotient}
use Rattle.stark_bench.proofs.coset.quotients_by_inverses.Goals as goal

pub loop-index-init : goal.loop-index-init
loop-index-init g c = no_quotients g.F.Field.ring g.F.Field.inverse_of c.args.elements.now c.args.divisors.now c.in_ok-over.over.items c.in_ok-over.ensures.items

pub loop-index-preserved : goal.loop-index-preserved
loop-index-preserved g c =
    let elements = c.args.elements.now in
    let divisors = c.args.divisors.now in
    let n = c.loop-index.index in
    let ring = g.F.Field.ring in
    let inverse = g.F.Field.inverse_of in
    let place = n % length elements in
    let x = c.index-elements-index.result in
    let element : get_or elements place ring.zero ≡ x = get_or_from_slice_get elements place x ring.zero (slice_get-get_or elements place x (mod-lt n c.requires.some) ∙ ap Some (sym c.index-elements-index.is)) in
    let divisor = get_or divisors n ring.zero in
    let there = slice_get-map inverse divisors n ∙ ap (option_map inverse) (slice_get-get_or divisors n ring.zero c.loop-index-test.true) in
    let taken : c.index.result.now ≡ inverse divisor = c.index.ensures ∙ ap (λ l. get_or l n c.index.result.now) c.in_ok-inverses.ensures ∙ get_or_from_slice_get (map inverse divisors) n (inverse divisor) c.index.result.now there in
    one_more_quotient ring inverse elements divisors n c.loop-index.over.items c.push.new.self.items c.mul.result c.loop-index.invariant c.in_ok-push.ensures.items
    (g.met.F.Field.mul_is _ _ _ c.mul.ensures ∙ ap (λ y. ring.mul y c.index.result.now) (sym element) ∙ ap (ring.mul (get_or elements place ring.zero)) taken)
