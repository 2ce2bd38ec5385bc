use Rattle.stark_fri_soundness.specs.BaseWordFacts.{base_claims_follow}
use Rattle.stark_fri_soundness.specs.Claims.{ColumnIndex}
use Rattle.stark_fri_soundness.proofs.claims.base_claims_follow.Goals as goal

pub returns : goal.returns
returns g c = base_claims_follow g.met.F.Field.field_laws g.met.EF.Field.field_laws g.met.EF.ExtensionField.embeds ColumnIndex
