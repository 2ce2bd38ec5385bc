use Rattle.std.proofs.Common.{refl}
use Rattle.stark_fri.proofs.BoundSteps.{names_by}
use Rattle.stark_over_fri.proofs.AcceptedSteps.{both_on_ok}
use Rattle.stark_lookup_over_fri.proofs.LookupTableSteps.{tables_are_sound, wider_with_lookups}
use Rattle.stark_lookup_over_fri.proofs.verify.verify_shown.Goals as goal

pub returns-clause-shown : goal.returns-clause-shown
returns-clause-shown g c =
    both_on_ok c.verify_with_lookups.result _ _ _
    (tables_are_sound _ _ _ _ _ _ (record {
      plain = refl;
      ring = refl;
      embed = refl;
      accepts = λ s asked proof state index accepts. accepts;
      fields = record {
        base = g.met.F.Field.field_laws;
        extension = g.met.EF.Field.field_laws;
        embeds = g.met.EF.ExtensionField.embeds;
        two_adic = g.met.F.TwoAdicField.two_adic;
      };
      bytes = names_by g.F.TwoAdicField g.F.Field g.F.PrimeField64 g.EF.Field g.EF.ExtensionField g.met.F.PrimeField64.below g.met.F.PrimeField64.above g.met.F.PrimeField64.fits_bytes g.met.F.PrimeField64.same_number
          g.met.EF.ExtensionField.is_basis g.H.TreeHash.digests g.met.H.TreeHash.are_digests;
      laws = g.met.EF.Field.field_laws;
      embeds = g.met.EF.ExtensionField.embeds;
      two_adic = g.met.F.TwoAdicField.two_adic;
      instance_has = λ config air values key. record { scheme = refl; key_is = refl; main = refl };
    }) (wider_with_lookups _ _ _ _ _ _ c.requires.extended)) c.verify_with_lookups.ensures.accepted c.verify_with_lookups.ensures.sound
