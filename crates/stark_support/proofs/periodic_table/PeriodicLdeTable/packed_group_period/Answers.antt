use Rattle.std.proofs.Common.{◌≡◌, ◌*◌, ◌/◌, arith}
use Rattle.stark_support.proofs.TableSteps.{begins_again, divided}
use Rattle.stark_support.proofs.periodic_table.PeriodicLdeTable.packed_group_period.Goals as goal

pub returns-then-group-self-eq0-clause-begins_again : goal.returns-then-group-self-eq0-clause-begins_again
returns-then-group-self-eq0-clause-begins_again g c r column =
    let n = c.args.group in
    let p = c.args.self.now.period in
    let e : 1 * n ≡ n / p * p = omega (arith, divided n p c.if-group-self-eq0.true) in
    begins_again _ _ p _ (n / p) r column e

pub returns-then-self-group-eq0-clause-begins_again : goal.returns-then-self-group-eq0-clause-begins_again
returns-then-self-group-eq0-clause-begins_again g c r column =
    let n = c.args.group in
    let p = c.args.self.now.period in
    let e : p / n * n ≡ 1 * p = omega (arith, divided p n c.if-self-group-eq0.true) in
    begins_again _ _ p _ 1 r column e

pub returns-clause-begins_again : goal.returns-clause-begins_again
returns-clause-begins_again g c r column =
    let n = c.args.group in
    let p = c.args.self.now.period in
    let e : p * n ≡ n * p = grind arith in
    begins_again _ _ p _ n r column e
