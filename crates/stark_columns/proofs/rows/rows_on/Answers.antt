use Rattle.std.proofs.Common.{arith, ◌≡◌, ◌∙◌, ℕ, ◌*◌, ◌%◌, ap, sym, length, map, subst}
use Rattle.std.specs.List.{slice_get}
use Rattle.std.specs.Prelude.{Some, option_map}
use Rattle.std.proofs.Math.Nat.{mul-mod_left}
use Rattle.std.proofs.lemmas.Option.{slice_get-map, slice_get-get_or, same_Some}
use Rattle.stark_support.specs.Scheme.{HasRows}
use Rattle.stark_columns.specs.Columns.{column_list, columns_list}
use Rattle.stark_columns.proofs.rows.rows_on.Goals as goal

whole_rows : (n a w v : ℕ) → n ≡ a * w → v ≡ w → n % v ≡ 0
whole_rows n a w v e f = ap (λ k. k % v) e ∙ ap (λ k. (a * w) % k) f ∙ mul-mod_left a w

pub new-requires-2 : goal.new-requires-2
new-requires-2 g c =
    let wide : c.len.result ≡ length c.deref.result.now = c.len.ensures ∙ c.index-matrices-index.result.ok.0 ∙ sym (ap length c.deref.ensures.value) in
    whole_rows (length c.in_ok-values.values.items) _ (length c.deref.result.now) c.len.result c.in_ok-values.ensures.number wide

pub returns : goal.returns
returns g c = λ columns there.
    let ring = g.F.Field.ring in
    let root = g.F.TwoAdicField.root in
    let wide : c.len.result ≡ length c.deref.result.now = c.len.ensures ∙ c.index-matrices-index.result.ok.0 ∙ sym (ap length c.deref.ensures.value) in
    let obtained : slice_get c.args.matrices.now c.args.index ≡ Some c.index-matrices-index.result = slice_get-get_or c.args.matrices.now c.args.index c.index-matrices-index.result (omega arith) ∙ ap Some (sym c.index-matrices-index.is) in
    let same : columns_list c.index-matrices-index.result ≡ columns = same_Some (columns_list c.index-matrices-index.result) columns (sym (slice_get-map columns_list c.args.matrices.now c.args.index ∙ ap (option_map columns_list) obtained) ∙ there) in
    let values : c.new-2.result.values.items ≡ c.in_ok-values.values.items = ap (λ v. v.items) c.new-2.ensures.values in
    subst (λ t. HasRows ring root (record { shift = c.args.domain.now.shift; log_size = c.args.domain.now.log_size }) t c.new-2.result.values.items c.new-2.result.width) (ap (map column_list) c.deref.ensures.value ∙ same)
    (subst (λ t. HasRows ring root (record { shift = c.args.domain.now.shift; log_size = c.args.domain.now.log_size }) (map column_list c.deref.result.now) t c.new-2.result.width) (sym values)
    (subst (λ n. HasRows ring root (record { shift = c.args.domain.now.shift; log_size = c.args.domain.now.log_size }) (map column_list c.deref.result.now) c.in_ok-values.values.items n) (sym (c.new-2.ensures.width ∙ wide)) c.in_ok-values.ensures))
