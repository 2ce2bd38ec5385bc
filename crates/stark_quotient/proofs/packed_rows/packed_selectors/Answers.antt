use Rattle.std.proofs.Common.{rules}
use Rattle.stark_quotient.proofs.packed_rows.packed_selectors.Goals as goal

pub returns-clause-first_row : goal.returns-clause-first_row
returns-clause-first_row g c = search rules

pub returns-clause-last_row : goal.returns-clause-last_row
returns-clause-last_row g c = search rules

pub returns-clause-transition : goal.returns-clause-transition
returns-clause-transition g c = search rules

pub returns-clause-inv_vanishing : goal.returns-clause-inv_vanishing
returns-clause-inv_vanishing g c = search rules
