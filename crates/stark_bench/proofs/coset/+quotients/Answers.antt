use Rattle.std.specs.Simd.Lanes.{zip2}
use Rattle.std.proofs.lemmas.Simd.{length-zip2}
use Rattle.std.proofs.Common.{◌≡◌, ◌∙◌, ◌%◌, ◌++◌, ap, arith, length, refl, rules, subst}
use Rattle.stark_bench.specs.PointLists.{AreQuotients}
use Rattle.stark_bench.proofs.HalfLists.{both_nonzero, halves}
use Rattle.stark_bench.proofs.coset.«+quotients».Goals as goal

pub quotients-requires : goal.quotients-requires
quotients-requires g t c κs within =
    let front = c.split_at.result.0.now in
    let back = c.split_at.result.1.now in
    let same : length back ≡ length front = omega (arith, c.split_at.ensures.front_len, c.split_at.ensures.back_len, c.if-divisors-ne0.false) in
    let both : c.as_slice.result.now ≡ zip2 g.F.Field.ring.mul front back = c.as_slice.ensures.value ∙ c.in_ok-both.ensures in
    let number : length c.as_slice.result.now ≡ length front = ap length both ∙ length-zip2 g.F.Field.ring.mul front back (omega (arith, same)) in (
      omega (arith, c.decreases, number, c.split_at.ensures.front_len, c.if-half-lt16.false),
      (
        search rules,
        (
          c.requires.some,
          both_nonzero g.met.F.Field.field_laws c.args.elements.now front back c.args.divisors.now (length front) refl same c.split_at.ensures.by_index.0 c.requires.nonzero c.as_slice.result.now both,
        ),
      ),
    )

pub push_products-requires-clause-number : goal.push_products-requires-clause-number
push_products-requires-clause-number g t c =
    let front = c.split_at.result.0.now in
    let back = c.split_at.result.1.now in
    let same : length back ≡ length front = omega (arith, c.split_at.ensures.front_len, c.split_at.ensures.back_len, c.if-divisors-ne0.false) in
    let number = ap length (c.as_slice.ensures.value ∙ c.in_ok-both.ensures) ∙ length-zip2 g.F.Field.ring.mul front back (omega (arith, same)) in
    omega (arith, ap length c.as_slice-2.ensures.value, c.in_ok-shared.ensures.number, number, same)

pub push_products-requires-clause-room : goal.push_products-requires-clause-room
push_products-requires-clause-room g t c =
    let front = c.split_at.result.0.now in
    let back = c.split_at.result.1.now in
    let same : length back ≡ length front = omega (arith, c.split_at.ensures.front_len, c.split_at.ensures.back_len, c.if-divisors-ne0.false) in
    let number = ap length (c.as_slice.ensures.value ∙ c.in_ok-both.ensures) ∙ length-zip2 g.F.Field.ring.mul front back (omega (arith, same)) in
    omega (arith, ap length c.as_slice-2.ensures.value, c.in_ok-shared.ensures.number, number, c.in_ok-over.ensures.len, c.in_ok-over.ensures.exact, c.split_at.ensures.back_len)

pub push_products-requires-2-clause-number : goal.push_products-requires-2-clause-number
push_products-requires-2-clause-number g t c =
    let front = c.split_at.result.0.now in
    let back = c.split_at.result.1.now in
    let same : length back ≡ length front = omega (arith, c.split_at.ensures.front_len, c.split_at.ensures.back_len, c.if-divisors-ne0.false) in
    let number = ap length (c.as_slice.ensures.value ∙ c.in_ok-both.ensures) ∙ length-zip2 g.F.Field.ring.mul front back (omega (arith, same)) in
    omega (arith, ap length c.as_slice-3.ensures.value, c.in_ok-shared.ensures.number, number)

pub push_products-requires-2-clause-room : goal.push_products-requires-2-clause-room
push_products-requires-2-clause-room g t c =
    let front = c.split_at.result.0.now in
    let back = c.split_at.result.1.now in
    let same : length back ≡ length front = omega (arith, c.split_at.ensures.front_len, c.split_at.ensures.back_len, c.if-divisors-ne0.false) in
    let shown = ap length (c.as_slice.ensures.value ∙ c.in_ok-both.ensures) ∙ length-zip2 g.F.Field.ring.mul front back (omega (arith, same)) in
    let second : length c.as_slice-2.result.now ≡ length back = omega (arith, ap length c.as_slice-2.ensures.value, c.in_ok-shared.ensures.number, shown, same) in
    let grown : length c.push_products.new.all.items ≡ length back = ap length (c.push_products.ensures.items ∙ ap (λ l. l ++ zip2 g.F.Field.ring.mul c.as_slice-2.result.now back) c.in_ok-over.ensures.items) ∙ length-zip2 g.F.Field.ring.mul c.as_slice-2.result.now back second ∙ second in
    omega (arith, grown, ap length c.as_slice-3.ensures.value, c.in_ok-shared.ensures.number, shown, c.push_products.ensures.capacity, c.in_ok-over.ensures.exact, c.split_at.ensures.back_len, same)

pub returns : goal.returns
returns g t c =
    let laws = g.met.F.Field.field_laws in
    let ring = g.F.Field.ring in
    let inverse = g.F.Field.inverse_of in
    let elements = c.args.elements.now in
    let divisors = c.args.divisors.now in
    let front = c.split_at.result.0.now in
    let back = c.split_at.result.1.now in
    let half = length front in
    let same : length back ≡ half = omega (arith, c.split_at.ensures.front_len, c.split_at.ensures.back_len, c.if-divisors-ne0.false) in
    let whole : half % length elements ≡ 0 = ap (λ n. n % length elements) c.split_at.ensures.front_len ∙ omega (arith, c.if-half-elements-ne0.false) in
    let shared = c.in_ok-shared.shared.items in
    let both = zip2 ring.mul front back in
    let quotients : AreQuotients ring inverse elements both (length both) shared = subst (λ l. AreQuotients ring inverse elements l (length l) shared) (c.as_slice.ensures.value ∙ c.in_ok-both.ensures) c.in_ok-shared.ensures in
    halves laws elements front back divisors half refl same c.split_at.ensures.by_index.0 c.requires.nonzero whole shared
    (subst (λ n. AreQuotients ring inverse elements both n shared) (length-zip2 ring.mul front back (omega (arith, same))) quotients) c.push_products-2.new.all.items
    (c.push_products-2.ensures.items ∙ ap (λ l. l ++ zip2 ring.mul c.as_slice-3.result.now front) (c.push_products.ensures.items ∙ ap (λ l. l ++ zip2 ring.mul c.as_slice-2.result.now back) c.in_ok-over.ensures.items)
    ∙ ap (λ s. zip2 ring.mul s back ++ zip2 ring.mul c.as_slice-3.result.now front) c.as_slice-2.ensures.value ∙ ap (λ s. zip2 ring.mul shared back ++ zip2 ring.mul s front) c.as_slice-3.ensures.value)
