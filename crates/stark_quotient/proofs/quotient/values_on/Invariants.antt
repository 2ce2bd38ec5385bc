use Rattle.std.proofs.Common.{◌≡◌, ◌-◌, min, option_map}
use Rattle.stark_security.specs.ConstraintPolynomial.{AirInstance}
use Rattle.stark_quotient.specs.PointwiseQuotient.{AreFirstQuotients, matrix_or_empty, rows_of_matrices}
use Rattle.stark_quotient.proofs.quotient.values_on.Given as goal

abbrev pub invariant-loop-start : goal.invariant-loop-start
invariant-loop-start g l =
    let trace = g.SC.Pcs.Domain.PolynomialSpace.coset_of l.on.trace_domain in
    let air : AirInstance g.row.SC-Pcs-Domain-Val.Denot g.row.SC-Challenge.Denot = record {
      base = g.SC.Pcs.Domain.Val.Field.ring;
      base_inverse = g.SC.Pcs.Domain.Val.Field.inverse_of;
      ring = g.SC.Challenge.Field.ring;
      inverse = g.SC.Challenge.Field.inverse_of;
      embed = g.SC.Challenge.ExtensionField.embed;
      basis = g.SC.Challenge.ExtensionField.basis;
      generator = g.SC.Pcs.Domain.Val.TwoAdicField.root trace.log_size;
      log_size = trace.log_size;
      constraints = g.A.Air.constraints l.air;
      periodic = g.A.BaseAir.periodic_columns l.air;
    } in
    let rows = rows_of_matrices g.SC.Pcs.Domain.Val.Field.ring g.SC.Pcs.Domain.Val.TwoAdicField.root (g.SC.Pcs.Domain.PolynomialSpace.coset_of l.on.quotient_domain)
    (record { width = l.on.main.now.width; values = l.on.main.now.values.items }) (matrix_or_empty (option_map (λ m. record { width = m.now.width; values = m.now.values.items }) l.on.preprocessed)) l.on.public_values.now in
    AreFirstQuotients air rows l.on.powers.alpha (min l.start rows.size) l.values.items
    × (l.rows.main_width ≡ (g.A.BaseAir.layout l.air).main) × (l.rows.preprocessed_width ≡ (g.A.BaseAir.layout l.air).preprocessed)

abbrev pub decreases-loop-start : goal.decreases-loop-start
decreases-loop-start g l = l.on.size - l.start
