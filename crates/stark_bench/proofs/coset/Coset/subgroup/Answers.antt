use Rattle.std.proofs.Common.{◌∙◌, sym, rules}
use Rattle.stark_bench.proofs.coset.Coset.subgroup.Goals as goal

pub new-requires-clause-nonzero : goal.new-requires-clause-nonzero
new-requires-clause-nonzero g c = λ e. g.met.F.Field.field_laws.one_not_zero (sym (c.ONE.ensures ∙ g.met.F.Field.one_is) ∙ e)

pub returns : goal.returns
returns c = search rules
