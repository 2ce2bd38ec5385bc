use Rattle.stark_merkle.proofs.BytesRead.{rows_stated}
use Rattle.stark_merkle.specs.Bytes.{element_bytes, row_bytes_of}
use Rattle.stark_merkle.specs.TreeFacts.{rows_collide}
use Rattle.stark_merkle.proofs.bytes.opened_rows_bind.Goals as goal

pub returns : goal.returns
returns g c = λ root rows others p q digests other_digests counted other_counted differ leads other_leads.
    let stated = rows_stated g.F.PrimeField64.BYTES g.F.PrimeField64.number_of g.F.PrimeField64.of_number g.F.PrimeField64.ORDER g.met.F.PrimeField64.below g.met.F.PrimeField64.fits_bytes g.met.F.PrimeField64.same_number in
    rows_collide g.H.TreeHash.digests g.met.H.TreeHash.are_digests root c.args._depth c.args._index (row_bytes_of (element_bytes g.F.PrimeField64.BYTES g.F.PrimeField64.number_of) rows) (row_bytes_of (element_bytes g.F.PrimeField64.BYTES g.F.PrimeField64.number_of) others) p q
    digests other_digests (λ same. differ (stated rows others counted other_counted same)) leads other_leads
