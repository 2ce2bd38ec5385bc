use Rattle.stark_support.specs.FieldPair.{FieldsOps}
use Rattle.stark_completeness.proofs.BalanceOfTrace.{row_by_row}
use Rattle.stark_completeness.proofs.laws.satisfaction_is_row_by_row.Goals as goal

pub returns : goal.returns
returns g c =
    let val = g.SC.Pcs.Domain.Val in
    let challenge = g.SC.Challenge in
    let base_laws = g.met.SC.Pcs.Domain.Val in
    let extension_laws = g.met.SC.Challenge in
    let fields : FieldsOps g.row.SC-Pcs-Domain-Val.Denot g.row.SC-Challenge.Denot = record {
      base = val.Field.ring;
      base_inverse = val.Field.inverse_of;
      same = val.PartialEq.eq;
      adicity = val.TwoAdicField.TWO_ADICITY;
      root = val.TwoAdicField.root;
      generator = val.Field.GENERATOR;
      ring = challenge.Field.ring;
      inverse = challenge.Field.inverse_of;
      embed = challenge.ExtensionField.embed;
      dimension = challenge.ExtensionField.DIMENSION;
      basis = challenge.ExtensionField.basis;
    } in
    row_by_row fields challenge.ExtensionField.coordinates (record {
      base = base_laws.Field.field_laws;
      extension = extension_laws.Field.field_laws;
      embeds = extension_laws.ExtensionField.embeds;
      two_adic = base_laws.TwoAdicField.two_adic;
      is_basis = extension_laws.ExtensionField.is_basis;
    })
    (g.A.Air.constraints c.args._air.now) (g.A.BaseAir.periodic_columns c.args._air.now) c.args.log_height (g.A.BaseAir.layout c.args._air.now) (g.met.A.Air.leaves_within c.args._air.now) c.requires.within c.requires.fitting
