use Rattle.std.proofs.Common.{◌≡◌, ◌∙◌, ◌++◌, ◌%◌, ◌<◌, ap, append-nil, length, map, subst, sym}
use Rattle.std.proofs.Math.Nat.{mod-lt}
use Rattle.std.proofs.lemmas.List.{drop_all, length-map}
use Rattle.std.proofs.lemmas.Simd.{map-map}
use Rattle.stark_dft.specs.Columns.{column_list}
use Rattle.stark_dft.specs.Passes.{entry}
use Rattle.stark_dft.specs.Repeated.{row_round}
use Rattle.stark_dft.proofs.PeriodicSteps.{mapped_here, one_more_mapped, one_more_row, read_round}
use Rattle.stark_dft.proofs.periodic.rows_round.Goals as goal

pub nonzero_rem-row : goal.nonzero_rem-row
nonzero_rem-row g c =
    let list = c.list-item.result in
    let long : c.len.result ≡ length list.items = c.len.ensures ∙ list.ok.0 in
    subst (λ n. 0 < n) (sym long) (c.requires c.loop-list.list-index list.items (mapped_here column_list c.args.lists.now c.loop-list.list-index list c.loop-list-test.true c.list-item.is))

pub index-requires : goal.index-requires
index-requires g c =
    let list = c.list-item.result in
    let long : c.len.result ≡ length list.items = c.len.ensures ∙ list.ok.0 in
    let some : 0 < c.len.result = subst (λ n. 0 < n) (sym long) (c.requires c.loop-list.list-index list.items (mapped_here column_list c.args.lists.now c.loop-list.list-index list c.loop-list-test.true c.list-item.is)) in
    subst (λ n. c.loop-row.row % c.len.result < n) c.len.ensures (mod-lt c.loop-row.row some)

pub loop-list-preserved : goal.loop-list-preserved
loop-list-preserved g c =
    let ring = g.F.Field.ring in
    let lists = c.args.lists.now in
    let list = c.list-item.result in
    let r = c.loop-row.row in
    let i = c.loop-list.list-index in
    let long : c.len.result ≡ length list.items = c.len.ensures ∙ list.ok.0 in
    let some : 0 < c.len.result = subst (λ n. 0 < n) (sym long) (c.requires i list.items (mapped_here column_list lists i list c.loop-list-test.true c.list-item.is)) in
    one_more_mapped (λ t. entry ring t.items (r % length t.items)) lists i list c.index.result.now c.loop-list.rows.items c.push.new.self.items _ c.loop-list-test.true c.list-item.is
    (read_round ring list.items r c.len.result c.index.result.now long some c.index.ensures) c.in_ok-push.ensures.items c.loop-list.invariant

pub loop-row-preserved : goal.loop-row-preserved
loop-row-preserved g c =
    let ring = g.F.Field.ring in
    let lists = c.args.lists.now in
    let r = c.loop-row.row in
    let made = c.loop-list.rows.items in
    let whole : made ≡ c.loop-row.rows.items ++ row_round ring (map column_list lists) r =
    sym (append-nil made) ∙ ap (λ t. made ++ map (λ list. entry ring list.items (r % length list.items)) t) (sym (drop_all c.loop-list.list-index lists c.loop-list-test.false)) ∙ c.loop-list.invariant
    ∙ ap (λ t. c.loop-row.rows.items ++ t) (sym (map-map (λ list. entry ring list (r % length list)) column_list lists)) in
    one_more_row (length lists) (row_round ring (map column_list lists)) (λ k. length-map (map column_list lists) (λ list. entry ring list (k % length list)) ∙ length-map lists column_list) r
    c.loop-row.rows.items made c.loop-row.invariant whole
