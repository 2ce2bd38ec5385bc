use Rattle.std.proofs.Common.{◌≡◌, ◌∙◌, ℕ, ◌+◌, ◌*◌, ◌%◌, ◌^◌, ◌<◌, ◌≤◌, ◌∷◌, [], ap, subst, arith, length, map}
use Rattle.std.proofs.lemmas.Nat.{mul-add-lt, one_shl}
use Rattle.std.proofs.lemmas.List.{map-append}
use Rattle.stark_support.specs.Polynomial.{value}
use Rattle.stark_dft.specs.Columns.{AreSplit, column_list}
use Rattle.stark_dft.specs.Passes.{entry}
use Rattle.stark_dft.specs.Strided.{strided}
use Rattle.stark_dft.specs.SplitFacts.{same_picked, one_more_split, are_columns}
use Rattle.stark_dft.proofs.columns.interpolate_columns.Goals as goal

shifted_one : (k adicity : ℕ) → k ≤ adicity → adicity < 64 → 1 * 2 ^ k % 2 ^ 64 ≡ 2 ^ k
shifted_one k adicity within bounded = one_shl k 64 (omega arith)

column_inside : (column width height i n : ℕ) → i < height → column < width → n ≡ width * height → column + i * width < n
column_inside column width height i n a b e = let fits = mul-add-lt i width column height a b in omega arith

pub picked_rows-requires : goal.picked_rows-requires
picked_rows-requires g c = λ k r inside below.
    let whole = shifted_one c.args.log_size g.F.TwoAdicField.TWO_ADICITY c.requires.adicity g.met.F.TwoAdicField.two_adic.bounded in
    c.requires.within k r inside (subst (λ n. r < n) whole below)

pub strided_column-requires-clause-inside : goal.strided_column-requires-clause-inside
strided_column-requires-clause-inside g c = λ i below.
    let whole = shifted_one c.args.log_size g.F.TwoAdicField.TWO_ADICITY c.requires.adicity g.met.F.TwoAdicField.two_adic.bounded in
    column_inside c.loop-column.column c.args.width (2 ^ c.args.log_size) i (length c.deref.result.now) (subst (λ n. i < n) whole below) c.loop-column-test.true
    (ap length c.deref.ensures.value ∙ c.in_ok-coefficients.ensures.number)

pub loop-column-preserved : goal.loop-column-preserved
loop-column-preserved g c =
    let ring = g.F.Field.ring in
    let whole = shifted_one c.args.log_size g.F.TwoAdicField.TWO_ADICITY c.requires.adicity g.met.F.TwoAdicField.two_adic.bounded in
    one_more_split g.met.F.Field.field_laws.of_ring c.in_ok-coefficients.coefficients.items c.args.width (2 ^ c.args.log_size) c.args.size c.loop-column.column (map column_list c.loop-column.columns.items) (map column_list c.push.new.self.items) c.in_ok-p.p.items
    c.loop-column.invariant c.in_ok-p.ensures.number
    (λ x. c.in_ok-p.ensures.values x ∙ ap (λ l. value ring (strided (entry ring l) c.loop-column.column c.args.width (1 * 2 ^ c.args.log_size % 2 ^ 64)) x) c.deref.ensures.value
    ∙ ap (λ n. value ring (strided (entry ring c.in_ok-coefficients.coefficients.items) c.loop-column.column c.args.width n) x) whole)
    (ap (map column_list) c.in_ok-push.ensures.items ∙ map-append column_list c.loop-column.columns.items (c.in_ok-p.p ∷ []))

pub returns : goal.returns
returns g c =
    let ring = g.F.Field.ring in
    let whole = shifted_one c.args.log_size g.F.TwoAdicField.TWO_ADICITY c.requires.adicity g.met.F.TwoAdicField.two_adic.bounded in
    let all : c.loop-column.column ≡ c.args.width = omega arith in
    are_columns g.met.F.Field.field_laws.of_ring g.F.TwoAdicField.root (record { shift = c.args.shift; log_size = c.args.log_size }) c.args.values.now c.args.first c.args.step c.args.width c.args.size
    c.in_ok-rows.rows.items c.in_ok-coefficients.coefficients.items (map column_list c.loop-column.columns.items)
    (same_picked c.args.values.now c.args.first c.args.step c.args.width (1 * 2 ^ c.args.log_size % 2 ^ 64 * c.args.width) (2 ^ c.args.log_size * c.args.width) c.in_ok-rows.rows.items (ap (λ n. n * c.args.width) whole) c.in_ok-rows.ensures)
    c.in_ok-coefficients.ensures.rows
    (subst (λ n. AreSplit ring c.in_ok-coefficients.coefficients.items c.args.width (2 ^ c.args.log_size) c.args.size n (map column_list c.loop-column.columns.items)) all c.loop-column.invariant)
