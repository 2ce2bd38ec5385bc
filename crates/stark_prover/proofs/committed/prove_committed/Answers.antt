use Rattle.std.proofs.Common.{◌∙◌, refl}
use Rattle.stark_prover.proofs.AcceptableSteps.{still_there}
use Rattle.stark_prover.proofs.CommittedSteps.{committed_acceptable, committed_accepted}
use Rattle.stark_prover.proofs.committed.prove_committed.Goals as goal

pub returns-clause-acceptable : goal.returns-clause-acceptable
returns-clause-acceptable g c =
    let given = c.requires in
    committed_acceptable _ _ _ given.within given.public_values (still_there _ _ ∙ given.there) given.same given.stands g.met.SC.Pcs.UnivariateStarkPcs.scheme_laws given.committed
    (λ x. g.met.SC.Pcs.Domain.Val.Eq.laws.refl x) _ c.prove_of_height.ensures.made

pub returns-clause-complete : goal.returns-clause-complete
returns-clause-complete g c =
    let given = c.requires in
    let base_laws = g.met.SC.Pcs.Domain.Val in
    let extension_laws = g.met.SC.Challenge in
    committed_accepted _ _ _ given.within given.public_values (still_there _ _ ∙ given.there) given.same given.stands g.met.SC.Pcs.UnivariateStarkPcs.scheme_laws (record {
      base = base_laws.Field.field_laws;
      extension = extension_laws.Field.field_laws;
      embeds = extension_laws.ExtensionField.embeds;
      two_adic = base_laws.TwoAdicField.two_adic;
      is_basis = extension_laws.ExtensionField.is_basis;
    })
    (g.met.A.Air.leaves_within c.args.air.now) _ (g.met.A.BaseAir.as_declared c.args.air.now) (λ key. refl) _ c.prove_of_height.ensures.made (returns-clause-acceptable g c)
