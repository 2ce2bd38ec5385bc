use Rattle.std.proofs.Common.{refl}
use Rattle.stark_fri.proofs.BoundSteps.{names_by}
use Rattle.stark_over_fri.proofs.AcceptedSteps.{accepted_are_shown, both_on_ok}
use Rattle.stark_over_fri.proofs.verify.verify_shown.Goals as goal

pub returns-clause-shown : goal.returns-clause-shown
returns-clause-shown g c =
    both_on_ok c.verify_with_preprocessed.result _ _ _
    (accepted_are_shown _ _ _ _ _ _ (record {
      plain = refl;
      ring = refl;
      embed = refl;
      accepts = λ s asked proof state index accepts. accepts;
      fields = record {
        base = g.met.F.Field.field_laws;
        extension = g.met.EF.Field.field_laws;
        embeds = g.met.EF.ExtensionField.embeds;
        two_adic = g.met.F.TwoAdicField.two_adic;
      };
      bytes = names_by g.F.TwoAdicField g.F.Field g.F.PrimeField64 g.EF.Field g.EF.ExtensionField g.met.F.PrimeField64.below g.met.F.PrimeField64.above g.met.F.PrimeField64.fits_bytes g.met.F.PrimeField64.same_number
          g.met.EF.ExtensionField.is_basis g.H.TreeHash.digests g.met.H.TreeHash.are_digests;
      laws = g.met.EF.Field.field_laws;
      embeds = g.met.EF.ExtensionField.embeds;
      two_adic = g.met.F.TwoAdicField.two_adic;
    })) c.verify_with_preprocessed.ensures.accepted c.verify_with_preprocessed.ensures.sound
