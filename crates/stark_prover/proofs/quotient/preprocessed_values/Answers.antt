use Rattle.std.proofs.Common.{option_map, subst}
use Rattle.stark_prover.proofs.CommitSteps.{preprocessed_rows}
use Rattle.stark_prover.specs.CommittedColumns.{IsPreprocessedCommitment}
use Rattle.stark_prover.proofs.quotient.preprocessed_values.Goals as goal

pub returns-in_ok-rows-in-Some : goal.returns-in_ok-rows-in-Some
returns-in_ok-rows-in-Some g c = λ preprocessed stands.
    preprocessed_rows g.SC.Pcs.Pcs.scheme _ _ g.SC.Pcs.Domain.Val.Field.ring _ c.pcs-pcs.ensures _ preprocessed c.in-Some.preprocessed_data.now _ _ c.in_ok-rows-in-Some.ensures
    (subst (λ o. IsPreprocessedCommitment g.SC.Pcs.Pcs.scheme (g.SC.StarkGenericConfig.config.scheme c.args.instance.now.config.now) g.SC.Pcs.Domain.Val.Field.ring preprocessed (option_map (λ preprocessed_data. preprocessed_data.now) o)) c.in-Some.is stands)
