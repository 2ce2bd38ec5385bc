use Rattle.std.proofs.Common.{◌∙◌, ap, inr, refl, subst, sym}
use Rattle.stark_answers.specs.TraceShape.{FitsShape}
use Rattle.stark_answers.specs.declared.finding.Finding.TheVariants as finding
use Rattle.stark_service.specs.Fitting.{IsFitting, IsUnfit}
use Rattle.stark_answers.proofs.TraceSteps.{values_whole}
use Rattle.stark_service.proofs.StatementSteps.{same_declared}
use Rattle.stark_service.proofs.fitting.fitting_trace.Goals as goal

pub new-requires : goal.new-requires
new-requires g c =
    let list = c.requires.read.0 in
    let has = c.requires.read.1 in
    values_whole c.in-Ok.shape c.args.log_rows c.args.greatest list c.args.statement.now.public_values.items c.in-Some._log_height (c.in-Some.ensures.some list has) c.args.rows.values.items has.values

pub returns : goal.returns
returns g c = λ list has.
    let d = c.args.statement.now.air.declaration in
    let l = c.args.statement.now.air.list in
    subst (λ a. IsFitting c.args.greatest c.args.log_rows a c.args.statement.now.public_values.items list c.new.result) (same_declared d l)
    (record {
      log_height = c.in-Some._log_height;
      fits = subst (λ k. FitsShape k c.args.log_rows c.args.greatest list c.args.statement.now.public_values.items c.in-Some._log_height) c.in-Ok.ensures (c.in-Some.ensures.some list has);
      width = c.new.ensures.width ∙ ap (λ k. k.width) c.in-Ok.ensures;
      values = ap (λ v. v.items) c.new.ensures.values ∙ has.values;
    })

pub returns-in_default-log_height_of_read : goal.returns-in_default-log_height_of_read
returns-in_default-log_height_of_read g c = λ list has.
    let d = c.args.statement.now.air.declaration in
    let l = c.args.statement.now.air.list in
    inr (
      subst (λ a. IsUnfit c.args.greatest c.args.log_rows a c.args.statement.now.public_values.items list) (same_declared d l)
          (λ height fits. c.in_default-log_height_of_read.ensures.none refl list has height
          (subst (λ k. FitsShape k c.args.log_rows c.args.greatest list c.args.statement.now.public_values.items height) (sym c.in-Ok.ensures) fits)),
      c.as_finding-in_default-log_height_of_read.ensures ∙ ap (λ v. finding.Verdict v) c.unfit-report.ensures,
    )
