use Rattle.std.proofs.Common.{◌∙◌, ap}
use Rattle.stark_symbolic.specs.DegreePair.{all_greatest}
use Rattle.stark_symbolic.specs.declared.degree_expression.DegreePair.{DegreePair}
use Rattle.stark_symbolic.proofs.degree.greatest_degrees.Goals as goal

pub returns-clause-first : goal.returns-clause-first
returns-clause-first g c = ap (λ (x : DegreePair). x.first) (c.greatest_of-greatest.ensures ∙ all_greatest c.args.first c.args.second _ (g.A.Air.constraints c.args.air.now) (c.deref.ensures.value ∙ c.in_ok-constraints.ensures))

pub returns-clause-second : goal.returns-clause-second
returns-clause-second g c = ap (λ (x : DegreePair). x.second) (c.greatest_of-greatest.ensures ∙ all_greatest c.args.first c.args.second _ (g.A.Air.constraints c.args.air.now) (c.deref.ensures.value ∙ c.in_ok-constraints.ensures))
