use Rattle.std.proofs.Common.{◌≡◌, ◌*◌, ◌%◌, ◌^◌, ◌<◌, sym, subst, arith, length, map}
use Rattle.std.proofs.lemmas.Nat.{one_shl}
use Rattle.std.proofs.lemmas.List.{length-map}
use Rattle.stark_dft.specs.Columns.{column_list}
use Rattle.stark_dft.specs.ColumnFacts.{has_rows_wide}
use Rattle.stark_dft.proofs.columns.evaluate_columns.Goals as goal

pub returns : goal.returns
returns g c =
    let bounded = g.met.F.TwoAdicField.two_adic.bounded in
    let whole : 1 * 2 ^ c.args.log_size % 2 ^ 64 ≡ 2 ^ c.args.log_size = one_shl c.args.log_size 64 (omega (arith, bounded, c.requires.within)) in
    has_rows_wide g.met.F.Field.field_laws.of_ring g.F.TwoAdicField.root (record { shift = c.args.shift; log_size = c.args.log_size }) (map column_list c.args.columns.now) c.in_ok-rows.rows.items c.in_ok-values.values.items
    (length c.args.columns.now) (length-map c.args.columns.now column_list) c.requires.room (λ t k below inside. c.in_ok-rows.ensures.each t k (subst (λ n. t < n) (sym whole) below) inside)
    c.in_ok-values.ensures
