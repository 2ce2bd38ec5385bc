use Rattle.std.proofs.Common.{◌≡◌, ◌∙◌, ◌^◌, ◌≤◌, ℕ, List, Some, length, map, subst, sym}
use Rattle.std.specs.Int.{IsPowerOfTwo}
use Rattle.std.specs.List.{slice_get}
use Rattle.std.proofs.lemmas.List.{length-map}
use Rattle.stark_support.specs.Periodic.{periodic_value}
use Rattle.stark_dft.specs.Columns.{column_list}
use Rattle.stark_dft.specs.Repeated.{AreExtended, AreRowsOf, row_round}
use Rattle.stark_dft.proofs.PeriodicSteps.{has_periodic_values}
use Rattle.stark_support.specs.LogarithmFacts.{same_exponent}
use Rattle.stark_dft.proofs.periodic.periodic_lde_table.Goals as goal

pub extended_columns-requires-clause-height : goal.extended_columns-requires-clause-height
extended_columns-requires-clause-height g c =
    let coset = g.D.PolynomialSpace.coset_of c.args.trace_domain.now in
    let same : c.log2_strict_usize-log_height.result ≡ coset.log_size =
    same_exponent c.log2_strict_usize-log_height.result coset.log_size (c.log2_strict_usize-log_height.ensures ∙ c.size.ensures ∙ g.met.D.PolynomialSpace.size_is c.args.trace_domain.now) in
    subst (λ k. k ≤ g.D.Val.TwoAdicField.TWO_ADICITY) (sym same) (g.met.D.PolynomialSpace.lawful c.args.trace_domain.now).within

pub extended_columns-requires-clause-size : goal.extended_columns-requires-clause-size
extended_columns-requires-clause-size g c =
    let coset = g.D.PolynomialSpace.coset_of c.args.quotient_domain.now in
    let same : c.log2_strict_usize-log_size.result ≡ coset.log_size =
    same_exponent c.log2_strict_usize-log_size.result coset.log_size (c.log2_strict_usize-log_size.ensures ∙ c.size-2.ensures ∙ g.met.D.PolynomialSpace.size_is c.args.quotient_domain.now) in
    subst (λ k. k ≤ g.D.Val.TwoAdicField.TWO_ADICITY) (sym same) (g.met.D.PolynomialSpace.lawful c.args.quotient_domain.now).within

pub returns : goal.returns
returns g c =
    let ring = g.D.Val.Field.ring in
    let inverse = g.D.Val.Field.inverse_of in
    let root = g.D.Val.TwoAdicField.root in
    let trace = g.D.PolynomialSpace.coset_of c.args.trace_domain.now in
    let domain = g.D.PolynomialSpace.coset_of c.args.quotient_domain.now in
    let columns = c.args.columns.now.columns.now in
    let lists = c.in_ok-extended.extended.items in
    let table = c.new.result in
    let n = c.log2_strict_usize-log_height.result in
    let m = c.log2_strict_usize-log_size.result in
    let high : n ≡ trace.log_size = same_exponent n trace.log_size (c.log2_strict_usize-log_height.ensures ∙ c.size.ensures ∙ g.met.D.PolynomialSpace.size_is c.args.trace_domain.now) in
    let wide : m ≡ domain.log_size = same_exponent m domain.log_size (c.log2_strict_usize-log_size.ensures ∙ c.size-2.ensures ∙ g.met.D.PolynomialSpace.size_is c.args.quotient_domain.now) in
    let period : table.period ≡ c.longest-period.result = c.new.ensures.period in
    let width : table.width ≡ length lists = c.new.ensures.width ∙ c.len.ensures ∙ c.in_ok-extended.extended.ok.0 in
    let of = λ (k : ℕ). periodic_value ring inverse (root k) (2 ^ k) ring (λ x. x) in
    let extended : AreExtended ring root domain (of trace.log_size) (map column_list columns) (length (map column_list columns)) (map column_list lists) =
    subst (λ k. AreExtended ring root domain (of trace.log_size) (map column_list columns) k (map column_list lists)) (sym (length-map columns column_list))
    (subst (λ k. AreExtended ring root domain (of k) (map column_list columns) (length columns) (map column_list lists)) high
    (subst (λ k. AreExtended ring root (record { shift = domain.shift; log_size = k }) (of n) (map column_list columns) (length columns) (map column_list lists)) wide
    (subst (λ s. AreExtended ring root (record { shift = s; log_size = m }) (of n) (map column_list columns) (length columns) (map column_list lists)) c.first_point-shift.ensures c.in_ok-extended.ensures))) in
    let none_longer : (k : ℕ) (list : List g.row.D-Val.Denot) → slice_get (map column_list lists) k ≡ Some list → length list ≤ table.period =
    subst (λ t. (k : ℕ) (list : List g.row.D-Val.Denot) → slice_get (map column_list lists) k ≡ Some list → length list ≤ t) (sym period)
    (subst (λ t. (k : ℕ) (list : List g.row.D-Val.Denot) → slice_get (map column_list t) k ≡ Some list → length list ≤ c.longest-period.result) c.deref.ensures.value c.longest-period.ensures.none_longer) in
    let rows : AreRowsOf table.width (row_round ring (map column_list lists)) table.period table.values.items =
    subst (λ t. AreRowsOf t (row_round ring (map column_list lists)) table.period table.values.items) (sym width)
    (subst (λ t. AreRowsOf (length lists) (row_round ring (map column_list lists)) t table.values.items) (sym period)
    (subst (λ t. AreRowsOf (length lists) (row_round ring (map column_list lists)) c.longest-period.result t.items) (sym c.new.ensures.values)
    (subst (λ t. AreRowsOf (length t) (row_round ring (map column_list t)) c.longest-period.result c.in_ok-values.values.items) c.deref-2.ensures.value c.in_ok-values.ensures))) in
    has_periodic_values ring inverse root trace domain (map column_list columns) (map column_list lists) table.values.items table.width table.period extended
    (subst IsPowerOfTwo (sym period) c.longest-period.ensures.power) none_longer (width ∙ sym (length-map lists column_list)) rows
