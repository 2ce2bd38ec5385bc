use Rattle.std.proofs.Common.{◌≡◌, ◌∙◌, ◌^◌, ℕ, ap, inr, length, map, sym, vec_len}
use Rattle.std.proofs.lemmas.Bool.{false≢true}
use Rattle.stark_support.specs.Coset.{coset_size}
use Rattle.stark_support.specs.Periodic.{first_fault, periodic_value}
use Rattle.stark_support.specs.Powers.{power}
use Rattle.stark_protocol.proofs.Carried.{carried}
use Rattle.stark_verifier.proofs.PointSteps.{point_fault, sampled_of, same_fault, same_values}
use Rattle.stark_verifier.proofs.Verdicts.{point_fault_at}
use Rattle.stark_verifier.proofs.point.check_point.Goals as goal

pub returns-in_err-columns-clause-fault : goal.returns-in_err-columns-clause-fault
returns-in_err-columns-clause-fault g c =
    carried _ _ _ c.from_residual.ensures
    (point_fault_at (λ k. (i : ℕ) × (c.args.zeta ≡ power g.SC.Challenge.Field.ring (g.SC.Challenge.ExtensionField.embed (g.SC.Pcs.Domain.Val.TwoAdicField.root k)) i))
    (λ k. first_fault (2 ^ k) 0 (map (λ column. length column) (g.A.BaseAir.periodic_columns c.args.on.now.air.now)))
    (ap (λ coset. coset.log_size) c.requires.domains.is_trace)
    (inr (point_fault c.lies_in-inside.ensures.point.0 c.lies_in-inside.ensures.point.1
    (λ error. same_fault (λ column. column.items) vec_len (λ column. column.ok.0) c.periodic_columns.result.now (g.A.BaseAir.periodic_columns c.args.on.now.air.now) c.periodic_columns.ensures
    c.size.result (coset_size (g.SC.Pcs.Domain.PolynomialSpace.coset_of c.args.domains.trace)) _ (c.size.ensures ∙ g.met.SC.Pcs.Domain.PolynomialSpace.size_is c.args.domains.trace)) c.in_err-columns.ensures.fault)))

pub returns-clause-sampled : goal.returns-clause-sampled
returns-clause-sampled g c =
    sampled_of c.requires.domains.is_trace c.args.zeta
    (λ point. false≢true (sym c.in_ok-columns.ensures.outside ∙ c.lies_in-inside.ensures.point.1 point))
    (λ zero. false≢true (sym c.in_ok-columns.ensures.outside ∙ c.lies_in-inside.ensures.vanishing.1 zero))
    (same_fault (λ column. column.items) vec_len (λ column. column.ok.0) c.periodic_columns.result.now (g.A.BaseAir.periodic_columns c.args.on.now.air.now) c.periodic_columns.ensures
    c.size.result (coset_size (g.SC.Pcs.Domain.PolynomialSpace.coset_of c.args.domains.trace)) _ (c.size.ensures ∙ g.met.SC.Pcs.Domain.PolynomialSpace.size_is c.args.domains.trace) c.in_ok-columns.ensures.fitting)
    _
    (same_values (λ column. column.items) vec_len (λ column. column.ok.0) c.periodic_columns.result.now (g.A.BaseAir.periodic_columns c.args.on.now.air.now) c.periodic_columns.ensures
    (λ column. periodic_value g.SC.Pcs.Domain.Val.Field.ring g.SC.Pcs.Domain.Val.Field.inverse_of (g.SC.Pcs.Domain.Val.TwoAdicField.root (g.SC.Pcs.Domain.PolynomialSpace.coset_of c.args.domains.trace).log_size)
    (coset_size (g.SC.Pcs.Domain.PolynomialSpace.coset_of c.args.domains.trace)) g.SC.Challenge.Field.ring g.SC.Challenge.ExtensionField.embed column c.args.zeta)
    _ _ c.in_ok-columns.ensures.columns c.in_ok-values.ensures)
