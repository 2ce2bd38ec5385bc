use Rattle.std.proofs.Common.{◌∙◌, refl, Option}
use Rattle.stark_proof.specs.ProofView.{proof_view}
use Rattle.stark_protocol.specs.Instance.{Instance}
use Rattle.stark_protocol.specs.declared.preprocessed.PreprocessedVerifierKey.{PreprocessedVerifierKey}
use Rattle.stark_prover.proofs.AcceptableSteps.{answer_acceptable, still_there}
use Rattle.stark_prover.proofs.CompletenessAnswer.{answer_accepted, degree_at, fault_at_heights}
use Rattle.stark_prover.proofs.prover.prove_with_preprocessed.Goals as goal

pub log_height_of-log_height-requires-clause-columns : goal.log_height_of-log_height-requires-clause-columns
log_height_of-log_height-requires-clause-columns g c = c.requires.fits.columns

pub prove_sized-requires-clause-columns : goal.prove_sized-requires-clause-columns
prove_sized-requires-clause-columns g c = c.requires.fits.columns

pub prove_sized-requires-clause-width : goal.prove_sized-requires-clause-width
prove_sized-requires-clause-width g c = c.requires.fits.width

pub prove_sized-requires-clause-public_values : goal.prove_sized-requires-clause-public_values
prove_sized-requires-clause-public_values g c = c.requires.fits.public_values

pub prove_sized-requires-clause-there : goal.prove_sized-requires-clause-there
prove_sized-requires-clause-there g c = c.requires.fits.there

pub prove_sized-requires-clause-stands : goal.prove_sized-requires-clause-stands
prove_sized-requires-clause-stands g c = c.requires.fits.stands

pub returns-clause-acceptable : goal.returns-clause-acceptable
returns-clause-acceptable g c =
    answer_acceptable _ _ _ _ _ _ c.requires.fits.width c.requires.fits.public_values (still_there _ _ ∙ c.requires.fits.there) c.requires.fits.stands _ c.log_height_of-log_height.ensures c.requires.height
    (λ x. g.met.SC.Pcs.Domain.Val.Eq.laws.refl x) g.met.SC.Pcs.UnivariateStarkPcs.scheme_laws proof_view _ c.prove_sized.ensures.made

pub returns-clause-complete : goal.returns-clause-complete
returns-clause-complete g c =
    let base_laws = g.met.SC.Pcs.Domain.Val in
    let extension_laws = g.met.SC.Challenge in
    let known = c.log_height_of-log_height.ensures in
    let config = g.SC.StarkGenericConfig.config in
    let air = g.A.BaseAir in
    let instance : Option (PreprocessedVerifierKey g.row.SC-Pcs-Commitment.Denot) → Instance g.row.SC-Pcs.Denot g.row.SC-Pcs-Domain-Val.Denot g.row.SC-Challenger.Denot g.row.SC-Pcs-Commitment.Denot = λ key. record {
      scheme = config.scheme c.args.config.now;
      first_state = config.first_state c.args.config.now;
      ood_bits = config.ood_bits c.args.config.now;
      constraint_bits = config.constraint_bits c.args.config.now;
      layout = air.layout c.args.air.now;
      main_next_columns = air.main_next_row_columns c.args.air.now;
      preprocessed_next_columns = air.preprocessed_next_row_columns c.args.air.now;
      periodic_columns = air.periodic_columns c.args.air.now;
      degree_hint = air.degree_hint c.args.air.now;
      constraints = g.A.Air.constraints c.args.air.now;
      public_values = c.args.public_values.now;
      key = key;
    } in
    answer_accepted _ instance g.SC.Challenge.ExtensionField.coordinates _ _ _ _ (record {
      base = base_laws.Field.field_laws;
      extension = extension_laws.Field.field_laws;
      embeds = extension_laws.ExtensionField.embeds;
      two_adic = base_laws.TwoAdicField.two_adic;
      is_basis = extension_laws.ExtensionField.is_basis;
    })
    g.met.SC.Pcs.UnivariateStarkPcs.scheme_laws (g.met.A.Air.leaves_within c.args.air.now) (g.met.A.BaseAir.as_declared c.args.air.now)
    (degree_at _ _ _ _ known c.requires.height.0 c.requires.height.1 c.requires.height.3) (λ key. refl) proof_view _ _ _ known _ c.prove_sized.ensures.made (returns-clause-acceptable g c)

pub returns-clause-fault : goal.returns-clause-fault
returns-clause-fault g c = fault_at_heights _ _ _ _ _ _ _ c.log_height_of-log_height.ensures _ c.prove_sized.ensures.fault
