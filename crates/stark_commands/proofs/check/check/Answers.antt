use Rattle.std.proofs.Common.{◌≡◌, ◌⊎◌, subst, ℕ}
use Rattle.stark_commands.specs.Check.{checked}
use Rattle.stark_commands.specs.Numbers.{numbers}
use Rattle.stark_answers.specs.CheckedAir.{checked_air}
use Rattle.stark_security.proofs.ErrorBoundSteps.{same_ceiling}
use Rattle.stark_answers.specs.declared.verdict.Verdict.TheVariants.{Refused}
use Rattle.stark_answers.specs.declared.verdict.Refusal.TheVariants.{OutOfMemory}
use Rattle.stark_commands.proofs.check.check.Goals as goal

pub returns-in-Ok : goal.returns-in-Ok
returns-in-Ok g c = λ log_chunks cut.
    subst (λ (k : ℕ). (c.check_cut.result ≡ checked (checked_air (g.A.BaseAir.layout c.args.air.now) (g.A.BaseAir.main_next_row_columns c.args.air.now) (g.A.BaseAir.periodic_columns c.args.air.now) (g.A.BaseAir.degree_hint c.args.air.now) (g.A.Air.constraints c.args.air.now) (g.A.BaseAir.preprocessed_trace c.args.air.now) (g.A.BaseAir.preprocessed_next_row_columns c.args.air.now)) k (numbers c.args.input.now)) ⊎ (c.check_cut.result ≡ Refused OutOfMemory))
    (same_ceiling c.in-Ok.log_chunks log_chunks _ c.in-Ok.ensures cut) c.check_cut.ensures
