use Rattle.std.proofs.Common.{◌∙◌, inr, refl}
use Rattle.std.specs.Option.{option_copied}
use Rattle.stark_protocol.proofs.Carried.{carried}
use Rattle.stark_two_part.specs.InPartsFacts.{kept_laws}
use Rattle.stark_lookup.proofs.VerdictSteps.{refused_exactly, refused_with, sound_with}
use Rattle.stark_lookup.proofs.verify.verify_with_lookups.Goals as goal

pub returns-in_err-config-clause-exact : goal.returns-in_err-config-clause-exact
returns-in_err-config-clause-exact g c = carried _ _ _ c.from_residual.ensures (refused_exactly (kept_laws g.P.Pcs.scheme g.met.P.UnivariateStarkPcs.scheme_laws) (inr c.in_err-config.ensures.fault))

pub returns-in_err-verify_with_preprocessed-clause-refused : goal.returns-in_err-verify_with_preprocessed-clause-refused
returns-in_err-verify_with_preprocessed-clause-refused g c =
    carried _ _ _ c.from_residual-in_err-verify_with_preprocessed.ensures
    (refused_with c.in_ok-config.ensures.started c.deref.result.now (option_copied c.as_ref.result) c.requires.extended (c.deref.ensures.value ∙ c.in_ok-values.ensures) (c.as_ref.ensures.value ∙ c.in_ok-key.ensures) c.in_err-verify_with_preprocessed.ensures.refused)

pub returns-in_err-verify_with_preprocessed-clause-exact : goal.returns-in_err-verify_with_preprocessed-clause-exact
returns-in_err-verify_with_preprocessed-clause-exact g c =
    carried _ _ _ c.from_residual-in_err-verify_with_preprocessed.ensures
    (refused_exactly (kept_laws g.P.Pcs.scheme g.met.P.UnivariateStarkPcs.scheme_laws)
    (refused_with c.in_ok-config.ensures.started c.deref.result.now (option_copied c.as_ref.result) c.requires.extended (c.deref.ensures.value ∙ c.in_ok-values.ensures) (c.as_ref.ensures.value ∙ c.in_ok-key.ensures) c.in_err-verify_with_preprocessed.ensures.refused))

pub returns-clause-sound : goal.returns-clause-sound
returns-clause-sound g c =
    sound_with c.in_ok-config.ensures.started c.deref.result.now (option_copied c.as_ref.result) c.requires.extended (c.deref.ensures.value ∙ c.in_ok-values.ensures) (c.as_ref.ensures.value ∙ c.in_ok-key.ensures)
    (record {
      laws = g.met.EF.Field.field_laws;
      same = g.met.P.Domain.Val.Field.field_laws.decides;
      embeds = g.met.EF.ExtensionField.embeds;
      two_adic = g.met.P.Domain.Val.TwoAdicField.two_adic;
      is_basis = g.met.EF.ExtensionField.is_basis;
      instance_reads = λ config air values key. record { constraints = refl; periodic = refl; public_values = refl; number = refl };
    }) c.in_ok-verify_with_preprocessed.ensures.accepted c.in_ok-verify_with_preprocessed.ensures.sound
