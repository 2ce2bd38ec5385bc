use Rattle.std.proofs.Common.{refl}
use Rattle.stark_merkle.specs.Sha.{sha_are_digests, sha_digests}
use Rattle.stark_fri.proofs.BoundSteps.{names_by, short_row}
use Rattle.stark_fri_prover.specs.Commit.{data_seen}
use Rattle.stark_clear.specs.ClearScheme.{clear_pcs}
use Rattle.stark_statement.specs.StatementView.{statement_view}
use Rattle.stark_service.proofs.SchemeSteps.{sound_by_numbers, sound_in_the_clear, verdict_by_numbers}
use Rattle.stark_service.proofs.schemes.verify_by.Goals as goal

pub returns-in-Fri-clause-verdict : goal.returns-in-Fri-clause-verdict
returns-in-Fri-clause-verdict g c = rw c.in-Fri.is (
    verdict_by_numbers _ c.config_for-config.result.pcs c.new-pcs.result (λ pcs. pcs.parameters) c.in-Fri.parameters c.config_for-config.result.challenger c.in-Ok.bound _ (statement_view c.args.statement.now)
    c.config_for-config.ensures.pcs c.new-pcs.ensures c.config_for-config.ensures.challenger c.in-Ok.ensures _ _ c.verify_with.ensures.verdict
    )

pub returns-in-Fri-clause-sound : goal.returns-in-Fri-clause-sound
returns-in-Fri-clause-sound g c = rw c.in-Fri.is (
    λ accepted.
    sound_by_numbers _ c.config_for-config.result.pcs c.new-pcs.result (λ pcs. pcs.parameters) c.in-Fri.parameters c.config_for-config.result.challenger c.in-Ok.bound _ (statement_view c.args.statement.now)
    c.config_for-config.ensures.pcs c.new-pcs.ensures c.config_for-config.ensures.challenger c.in-Ok.ensures _ _ (record {
      plain = refl;
      ring = refl;
      embed = refl;
      accepts = λ s asked proof state index accepts. accepts;
      fields = record {
        base = g.met.F.Field.field_laws;
        extension = g.met.EF.Field.field_laws;
        embeds = g.met.EF.ExtensionField.embeds;
        two_adic = g.met.F.TwoAdicField.two_adic;
      };
      bytes = names_by g.F.TwoAdicField g.F.Field g.F.PrimeField64 g.EF.Field g.EF.ExtensionField g.met.F.PrimeField64.below g.met.F.PrimeField64.above g.met.F.PrimeField64.fits_bytes g.met.F.PrimeField64.same_number
          g.met.EF.ExtensionField.is_basis sha_digests sha_are_digests;
      laws = g.met.EF.Field.field_laws;
      embeds = g.met.EF.ExtensionField.embeds;
      two_adic = g.met.F.TwoAdicField.two_adic;
    })
    (record {
      adicity = refl;
      base = refl;
      root = refl;
      data_of = λ d. data_seen d.root d.domain.log_size d.matrices d.extended;
      stands = λ s root stored matrices is. is.0;
      plain = λ s domain values width made is. is;
      digests = sha_are_digests;
      short = short_row g.F.PrimeField64.BYTES g.F.PrimeField64.number_of g.met.F.PrimeField64.few_bytes;
    })
    _ _ c.verify_with.ensures.verdict accepted
    )

pub returns-in-Clear-clause-sound : goal.returns-in-Clear-clause-sound
returns-in-Clear-clause-sound g c = rw c.in-Clear.is (
    λ accepted.
    sound_in_the_clear _ c.config_for-config-in-Clear.result.pcs c.new-pcs-in-Clear.result clear_pcs c.config_for-config-in-Clear.result.challenger c.in-Ok.bound _ (statement_view c.args.statement.now)
    c.config_for-config-in-Clear.ensures.pcs c.new-pcs-in-Clear.ensures c.config_for-config-in-Clear.ensures.challenger c.in-Ok.ensures
    (λ log_rows within. record {
      plain = refl;
      base_laws = g.met.F.Field.field_laws;
      laws = g.met.EF.Field.field_laws;
      embeds = g.met.EF.ExtensionField.embeds;
      two_adic = g.met.F.TwoAdicField.two_adic;
      has_group = within;
      accepts = λ s claims proof state index h. h.0;
      stands = λ s commitment prover_data matrices h. (h.0, h.2);
    })
    _ _ c.verify_with-in-Clear.ensures.verdict accepted
    )
