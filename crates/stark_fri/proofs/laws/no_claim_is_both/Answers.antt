use Rattle.stark_fri.specs.Scheme.{fri_calls}
use Rattle.stark_fri.specs.SchemeFacts.{fri_laws}
use Rattle.stark_fri.proofs.laws.no_claim_is_both.Goals as goal

pub returns : goal.returns
returns g c = λ ops bound. fri_laws ops (λ s. s) (λ t. t) (λ p. p) (fri_calls ops.fields.base ops.fields.root (λ t. t)) bound
