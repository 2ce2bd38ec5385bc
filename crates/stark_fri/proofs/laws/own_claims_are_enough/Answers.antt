use Rattle.std.proofs.Common.{subst, sym}
use Rattle.std.proofs.lemmas.List.{map-id}
use Rattle.stark_support.specs.Scheme.{handed}
use Rattle.std.specs.Prelude.{map}
use Rattle.stark_fri.specs.Accept.{Accepted}
use Rattle.stark_fri.specs.Scheme.{fri_calls, instance_of, own_rounds}
use Rattle.stark_fri.specs.SchemeFacts.{own_is_true}
use Rattle.stark_fri.proofs.laws.own_claims_are_enough.Goals as goal

pub returns : goal.returns
returns g c = λ ops s made proof state index stand accepted.
    own_is_true ops (λ s. s) (λ t. t) (λ p. p) (fri_calls ops.fields.base ops.fields.root (λ t. t)) s made proof state index stand
    (subst (λ rounds. Accepted ops (instance_of s (own_rounds ops rounds) proof state)) (sym (map-id (map handed made))) accepted)
