use Rattle.stark_quotient.proofs.quotient.prepare.Goals as goal

pub selectors_on_coset-requires-clause-subgroup : goal.selectors_on_coset-requires-clause-subgroup
selectors_on_coset-requires-clause-subgroup g c = c.requires.subgroup

pub selectors_on_coset-requires-clause-disjoint : goal.selectors_on_coset-requires-clause-disjoint
selectors_on_coset-requires-clause-disjoint g c = c.requires.disjoint

pub returns : goal.returns
returns g c = record {
  first_row = c.in_ok-selectors.ensures.first_row;
  last_row = c.in_ok-selectors.ensures.last_row;
  transition = c.in_ok-selectors.ensures.transition;
  inv_vanishing = c.in_ok-selectors.ensures.inv_vanishing;
  periodic = c.in_ok-periodic.ensures;
}
