use Rattle.std.proofs.Common.{arith, refl}
use Rattle.serde_json.specs.Read.{max_depth}
use Rattle.stark_bench.specs.CommitmentJson.{commitment_written}
use Rattle.stark_clear.specs.ClearScheme.{clear_pcs}
use Rattle.stark_clear.specs.declared.clear.call.ClearCall.TheVariants.{Verify}
use Rattle.stark_statement.specs.StatementView.{statement_view}
use Rattle.stark_answers.proofs.Depths.{proof_within}
use Rattle.stark_answers.proofs.NoFloats.{no_float_in_proof}
use Rattle.stark_service.proofs.OneKey.{clear_commits_once, fri_commits_once, sets_up_once}
use Rattle.stark_service.proofs.SchemeDepths.{commitment_within, nests_within, opening_within, root_within}
use Rattle.stark_service.proofs.SchemeFloats.{no_float_in_commitment, no_float_in_opening, no_float_in_root}
use Rattle.stark_service.proofs.SchemeSteps.{accepted_by_numbers, accepted_in_the_clear, file_by_numbers, file_in_the_clear, found_by_numbers, stops_nowhere}
use Rattle.stark_service.proofs.schemes.answer_by.Goals as goal

pub answer_with-requires-clause-able : goal.answer_with-requires-clause-able
answer_with-requires-clause-able g c = record {
  any_height = refl;
  complete = tt;
  no_float = no_float_in_proof _ _ _ _ _ _ no_float_in_root c.requires.extension (no_float_in_opening _ _ c.requires.base c.requires.extension) c.requires.base;
}

pub returns-in-Fri-clause-finds : goal.returns-in-Fri-clause-finds
returns-in-Fri-clause-finds g c = rw c.in-Fri.is (
    found_by_numbers _ c.config_for-config.result.pcs c.new-pcs.result (λ pcs. pcs.parameters) c.in-Fri.parameters c.config_for-config.result.challenger c.in-Ok.bound _ (statement_view c.args.statement.now)
    c.config_for-config.ensures.pcs c.new-pcs.ensures c.config_for-config.ensures.challenger c.in-Ok.ensures _ c.args.asked _ c.answer_with.ensures.finds
    )

pub returns-in-Fri-clause-proof : goal.returns-in-Fri-clause-proof
returns-in-Fri-clause-proof g c = rw c.in-Fri.is (
    file_by_numbers _ c.config_for-config.result.pcs c.new-pcs.result (λ pcs. pcs.parameters) c.in-Fri.parameters c.config_for-config.result.challenger c.in-Ok.bound _ (statement_view c.args.statement.now)
    c.config_for-config.ensures.pcs c.new-pcs.ensures c.config_for-config.ensures.challenger c.in-Ok.ensures _ _ c.answer_with.ensures.proof
    )

pub answer_with-requires-in-Clear-clause-able : goal.answer_with-requires-in-Clear-clause-able
answer_with-requires-in-Clear-clause-able g c = record {
  any_height = refl;
  complete = stops_nowhere c.config_for-config-in-Clear.result.pcs c.new-pcs-in-Clear.result c.config_for-config-in-Clear.ensures.pcs c.new-pcs-in-Clear.ensures Verify;
  no_float = no_float_in_proof _ _ _ _ _ _ (no_float_in_commitment _ c.requires.base) c.requires.extension (λ proof. refl) c.requires.base;
}

pub returns-in-Clear-clause-proof : goal.returns-in-Clear-clause-proof
returns-in-Clear-clause-proof g c = rw c.in-Clear.is (
    file_in_the_clear _ c.config_for-config-in-Clear.result.pcs c.new-pcs-in-Clear.result clear_pcs c.config_for-config-in-Clear.result.challenger c.in-Ok.bound _ (statement_view c.args.statement.now)
    c.config_for-config-in-Clear.ensures.pcs c.new-pcs-in-Clear.ensures c.config_for-config-in-Clear.ensures.challenger c.in-Ok.ensures _ _ c.answer_with-in-Clear.ensures.proof
    )

pub returns-in-Fri-clause-accepted : goal.returns-in-Fri-clause-accepted
returns-in-Fri-clause-accepted g c = rw c.in-Fri.is (
    accepted_by_numbers _ c.config_for-config.result.pcs c.new-pcs.result (λ pcs. pcs.parameters) c.in-Fri.parameters c.config_for-config.result.challenger c.in-Ok.bound _ (statement_view c.args.statement.now)
    c.config_for-config.ensures.pcs c.new-pcs.ensures c.config_for-config.ensures.challenger c.in-Ok.ensures c.args.asked _ (c.answer_with.ensures.accepted (record {
      one_key = sets_up_once _ _ _ _ _ refl (λ n within width row ps qs commitment other held others takes also stands standing.
          fri_commits_once _ g.met.F.Field.field_laws g.met.F.TwoAdicField.two_adic _ n within width row ps qs commitment other _ _ takes also stands.0 standing.0);
      shallow =
          nests_within 9 max_depth _ (omega arith) (proof_within _ _ _ _ _ _ 5 (root_within 7) (nests_within 1 5 _ (omega arith) c.requires.shallow_extension)
          (opening_within _ _ 1 c.requires.shallow_base c.requires.shallow_extension 8 (omega arith)) (nests_within 1 8 _ (omega arith) c.requires.shallow_base));
    }))
    )

pub returns-in-Clear-clause-accepted : goal.returns-in-Clear-clause-accepted
returns-in-Clear-clause-accepted g c = rw c.in-Clear.is (
    accepted_in_the_clear _ c.config_for-config-in-Clear.result.pcs c.new-pcs-in-Clear.result clear_pcs c.config_for-config-in-Clear.result.challenger c.in-Ok.bound _ (statement_view c.args.statement.now)
    c.config_for-config-in-Clear.ensures.pcs c.new-pcs-in-Clear.ensures c.config_for-config-in-Clear.ensures.challenger c.in-Ok.ensures c.args.asked _ (c.answer_with-in-Clear.ensures.accepted (record {
      one_key = sets_up_once _ _ _ _ _ refl (λ n within width row ps qs commitment other held others takes also stands standing.
          clear_commits_once _ _ g.met.F.Field.field_laws _ _ _ g.met.F.TwoAdicField.two_adic n within width row ps qs commitment other takes also stands.0 stands.2.0 standing.0 standing.2.0);
      shallow =
          nests_within 9 max_depth _ (omega arith) (proof_within _ _ _ _ _ _ 5 (nests_within 4 7 (commitment_written (λ x. g.F.JsonCodec.writing x)) (omega arith) (commitment_within _ 1 c.requires.shallow_base)) (nests_within 1 5 _ (omega arith) c.requires.shallow_extension)
          (λ proof. omega arith) (nests_within 1 8 _ (omega arith) c.requires.shallow_base));
    }))
    )
