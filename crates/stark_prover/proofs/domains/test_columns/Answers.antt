use Rattle.std.proofs.Common.{vec_len}
use Rattle.stark_prover.proofs.Columns.{fault_of_lists}
use Rattle.stark_prover.proofs.domains.test_columns.Goals as goal

pub returns-in-Ok-clause-fitting : goal.returns-in-Ok-clause-fitting
returns-in-Ok-clause-fitting g c =
    fault_of_lists (λ column. column.items) vec_len (λ column. column.ok.0) c.periodic_columns.result.now (g.A.BaseAir.periodic_columns c.args.air.now) c.periodic_columns.ensures _ _ c.power_of_two.ensures _ c.in-Ok.ensures.fault

pub returns-in-Err-clause-fault : goal.returns-in-Err-clause-fault
returns-in-Err-clause-fault g c =
    fault_of_lists (λ column. column.items) vec_len (λ column. column.ok.0) c.periodic_columns.result.now (g.A.BaseAir.periodic_columns c.args.air.now) c.periodic_columns.ensures _ _ c.power_of_two.ensures _ c.in-Err.ensures.fault
