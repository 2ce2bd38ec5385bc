use Rattle.stark_merkle.proofs.BytesRead.{rows_stated}
use Rattle.stark_merkle.proofs.bytes.row_bytes_tell_rows.Goals as goal

pub returns : goal.returns
returns g c = rows_stated g.F.PrimeField64.BYTES g.F.PrimeField64.number_of g.F.PrimeField64.of_number g.F.PrimeField64.ORDER g.met.F.PrimeField64.below g.met.F.PrimeField64.fits_bytes g.met.F.PrimeField64.same_number
