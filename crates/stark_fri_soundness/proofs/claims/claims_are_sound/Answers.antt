use Rattle.stark_fri_soundness.specs.ClaimFacts.{claims_are_sound}
use Rattle.stark_fri_soundness.proofs.claims.claims_are_sound.Goals as goal

pub returns : goal.returns
returns g c = claims_are_sound g.met.F.Field.field_laws
