use Rattle.std.proofs.Common.{◌+◌, ◌∙◌}
use Rattle.stark_fields.specs.Residues.{residue, residue_of_four}
use Rattle.stark_fields.proofs.residue.arithmetic.ResidueQuarticBase.sum_of_products.Goals as goal

pub returns : goal.returns
returns g c =
    c.of_product.ensures
    ∙ (λ i. residue ((c.wide_product.ensures.product i + c.wide_product-2.ensures.product i) + (c.wide_product-3.ensures.product i + c.wide_product-4.ensures.product i)))
    ∙ residue_of_four _ _ _ _
