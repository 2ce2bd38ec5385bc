use Rattle.std.proofs.Common.{◌≡◌, ℕ, ◌-◌, ◌*◌, ◌/◌, ◌^◌, ◌<◌, ◌≤◌, ◌∙◌, arith}
use Rattle.stark_fields.specs.Residues.{positive, residue, same_value}
use Rattle.stark_fields.specs.Quotients.{multiple_within, rest_below_twice, rest_is_same}
use Rattle.stark_fields.proofs.residue.arithmetic.ResidueTwoAdicField.times_factor.Goals as goal

at_most : (x y m n : ℕ) → x ≡ m → y ≡ n → m ≤ n → x ≤ y
at_most x y m n e f h = omega (arith, e, f, h)

rest_below : (x y m n k : ℕ) → x ≡ m → y ≡ n → n - m < k → y - x < k
rest_below x y m n k e f h = omega (arith, e, f, h)

below_word : (n p : ℕ) → n < 2 * p → p < 2 ^ 31 → n < 2 ^ 32
below_word n p h below = omega (arith, h, below)

short : (a p : ℕ) → a < p → p < 2 ^ 31 → a < 2 ^ 32
short a p h below = omega (arith, h, below)

pub overflow_sub-rest : goal.overflow_sub-rest
overflow_sub-rest g c =
    at_most _ _ _ _ (λ i. c.from.ensures i * (c.from-2.ensures ∙ c.requires) i / 2 ^ 32 * (c.from-3.ensures ∙ c.MODULUS.ensures) i) c.wide_product.ensures.product
    (multiple_within g.M.Modulus.MODULUS c.args.factor.value c.args.self.value (positive g.M.Modulus))

pub of_sum-requires : goal.of_sum-requires
of_sum-requires g c =
    rest_below _ _ _ _ _ (λ i. c.from.ensures i * (c.from-2.ensures ∙ c.requires) i / 2 ^ 32 * (c.from-3.ensures ∙ c.MODULUS.ensures) i) c.wide_product.ensures.product
    (rest_below_twice g.M.Modulus.MODULUS c.args.factor.value c.args.self.value (positive g.M.Modulus) (short _ _ c.args.self.in_range g.M.Modulus.prime.below))

pub overflow_cast-rest : goal.overflow_cast-rest
overflow_cast-rest g c =
    let below = rest_below_twice g.M.Modulus.MODULUS c.args.factor.value c.args.self.value (positive g.M.Modulus) (short _ _ c.args.self.in_range g.M.Modulus.prime.below) in
    record {
      fits = below_word _ g.M.Modulus.MODULUS (rest_below _ _ _ _ (2 * g.M.Modulus.MODULUS) (λ i. c.from.ensures i * (c.from-2.ensures ∙ c.requires) i / 2 ^ 32 * (c.from-3.ensures ∙ c.MODULUS.ensures) i) c.wide_product.ensures.product below) g.M.Modulus.prime.below;
    }

pub returns : goal.returns
returns g c =
    c.of_sum.ensures
    ∙ (λ i. residue (c.wide_product.ensures.product i - c.from.ensures i * (c.from-2.ensures ∙ c.requires) i / 2 ^ 32 * (c.from-3.ensures ∙ c.MODULUS.ensures) i))
    ∙ same_value _ _ (rest_is_same g.M.Modulus.MODULUS c.args.factor.value c.args.self.value (positive g.M.Modulus))
