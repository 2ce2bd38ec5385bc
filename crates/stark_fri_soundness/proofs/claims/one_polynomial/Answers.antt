use Rattle.stark_fri_soundness.specs.ClaimFacts.{one_polynomial}
use Rattle.stark_fri_soundness.proofs.claims.one_polynomial.Goals as goal

pub returns : goal.returns
returns g c = one_polynomial g.met.F.Field.field_laws
