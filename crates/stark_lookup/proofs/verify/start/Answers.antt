use Rattle.std.proofs.Common.{refl, rules}
use Rattle.stark_lookup.specs.LookupVerdict.{in_trace, in_witness}
use Rattle.stark_lookup.proofs.VerdictSteps.{started_from, work_fault}
use Rattle.stark_lookup.proofs.verify.start.Goals as goal

pub returns-in_default-clause-fault : goal.returns-in_default-clause-fault
returns-in_default-clause-fault g c = in_trace c.in_default.is

pub returns-then-not-is_canonical-clause-fault : goal.returns-then-not-is_canonical-clause-fault
returns-then-not-is_canonical-clause-fault g c = in_witness c.in-Parts.is (c.is_canonical.ensures.other (search rules))

pub returns-in_default-draw_lookups-clause-fault : goal.returns-in_default-draw_lookups-clause-fault
returns-in_default-draw_lookups-clause-fault g c =
    work_fault _ _ c.in-Parts.is (c.is_canonical.ensures.canonical (search rules)) c.in_parts-config.result _ _ c.commitment_of.ensures c.in_parts-config.ensures c.draw_lookups.result c.draw_lookups.ensures.answer c.in_default-draw_lookups.is

pub returns-clause-started : goal.returns-clause-started
returns-clause-started g c =
    started_from _ _ c.in-Parts.is (c.is_canonical.ensures.canonical (search rules)) c.in_parts-config.result _ _ c.commitment_of.ensures c.in_parts-config.ensures c.draw_lookups.result c.draw_lookups.ensures.answer c.in-Some.draws _ refl c.in-Some.is c.draw_lookups.ensures.state
