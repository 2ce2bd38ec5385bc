use Rattle.std.proofs.Common.{arith, refl}
use Rattle.stark_fields.specs.Residues.{residue}
use Rattle.stark_fields.specs.SmallResidues.{small_laws, small_two_adic}
use Rattle.stark_fields.specs.Ext4Field.{embedded_is_embedding}
use Rattle.stark_commands.specs.Airs.{sample}
use Rattle.stark_commands.specs.Check.{laws_of_elements}
use Rattle.stark_commands.proofs.Soundly.{accepted_of_sample, sample_declared, sample_within}
use Rattle.stark_commands.proofs.VerdictSteps.{verified_for_sample}
use Rattle.stark_commands.proofs.verify.verify_sample.Goals as goal

pub returns-in-Ok-clause-verified : goal.returns-in-Ok-clause-verified
returns-in-Ok-clause-verified c = verified_for_sample _ _ _ _ _ _ _ c.args.air _ _ c.in-Ok.ensures.declared c.verify_input.ensures

pub returns-in-Ok-clause-sound : goal.returns-in-Ok-clause-sound
returns-in-Ok-clause-sound c = λ accepted.
    accepted_of_sample _ _ 2 _ _ _
    (record { plain = refl; base_laws = small_laws; laws = laws_of_elements; embeds = embedded_is_embedding small_laws.of_ring (residue 11); two_adic = small_two_adic; has_group = omega arith; accepts = λ s claims proof state index h. h.0; stands = λ s commitment prover_data matrices h. (h.0, h.2) })
    (record { plain = refl; base_laws = small_laws; laws = laws_of_elements; embeds = embedded_is_embedding small_laws.of_ring (residue 11); two_adic = small_two_adic; has_group = omega arith; accepts = λ s claims proof state index h. h.0; stands = λ s commitment prover_data matrices h. (h.0, h.2) })
    (sample c.args.air) (sample_within c.args.air) (sample_declared c.args.air) _ _
    (verified_for_sample _ _ _ _ _ _ _ c.args.air _ _ c.in-Ok.ensures.declared c.verify_input.ensures) accepted
