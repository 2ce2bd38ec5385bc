use Rattle.std.proofs.Common.{◌∙◌, ◌++◌, ap, map, take}
use Rattle.stark_bench.proofs.PointLists.{turned_parts}
use Rattle.stark_bench.proofs.coset.turned.Goals as goal

pub returns : goal.returns
returns g c =
    let scale = g.F.Field.ring.mul c.args.factor in
    let elements = c.args.elements.now in
    let further = c.args.further in
    turned_parts g.F.Field.ring c.args.factor elements further c.requires c.push_scaled-2.new.all.items
    (c.push_scaled-2.ensures.items ∙ ap (λ l. l ++ map scale c.split_at.result.0.now) (c.push_scaled.ensures.items ∙ ap (λ l. l ++ map scale c.split_at.result.1.now) c.in_ok-all.ensures.items)
    ∙ ap (λ l. map scale c.split_at.result.1.now ++ map scale l) c.split_at.ensures.front ∙ ap (λ l. map scale l ++ map scale (take further elements)) c.split_at.ensures.back)
