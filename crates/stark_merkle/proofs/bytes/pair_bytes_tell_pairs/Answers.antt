use Rattle.std.specs.Prelude.{map}
use Rattle.std.proofs.Common.{◌∙◌, ap, sym}
use Rattle.stark_support.specs.Extension.{basis_sum}
use Rattle.stark_merkle.proofs.BytesRead.{pairs_stated}
use Rattle.stark_merkle.proofs.bytes.pair_bytes_tell_pairs.Goals as goal

pub returns : goal.returns
returns g c =
    let basis = g.met.EF.ExtensionField.is_basis in
    pairs_stated g.F.PrimeField64.BYTES g.F.PrimeField64.number_of g.F.PrimeField64.of_number g.F.PrimeField64.ORDER g.met.F.PrimeField64.below g.met.F.PrimeField64.fits_bytes g.met.F.PrimeField64.same_number
    g.EF.ExtensionField.coordinates g.EF.ExtensionField.DIMENSION basis.count
    (λ x y e. basis.sum x ∙ ap (λ cs. basis_sum g.EF.Field.ring (λ c. c) g.EF.ExtensionField.basis (map g.EF.ExtensionField.embed cs)) e ∙ sym (basis.sum y))
