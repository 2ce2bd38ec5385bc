use Rattle.std.proofs.Common.{arith, rules}
use Rattle.std.proofs.lemmas.Grind.{common_steps}
use Rattle.stark_prover.proofs.Faults.{scheme_fault_at}
use Rattle.stark_prover.proofs.commit.commit_flat.Goals as goal

pub returns-in-Err-clause-fault : goal.returns-in-Err-clause-fault
returns-in-Err-clause-fault g c =
    scheme_fault_at _ (λ s n. g.SC.Pcs.Pcs.scheme.RefusesQuotient s (g.SC.Pcs.Domain.PolynomialSpace.coset_of c.args.domains.quotient) c.args.flat.values.items c.args.flat.width n) _ _ _ _ c.in-Err.fault _ c.pcs.ensures c.power_of_two-count.ensures c.in-Err.ensures.refused c.in_phase.ensures

pub returns-in-Ok : goal.returns-in-Ok
returns-in-Ok c = grind (arith, common_steps)

pub returns-in-Err-clause-stands : goal.returns-in-Err-clause-stands
returns-in-Err-clause-stands c = search rules
