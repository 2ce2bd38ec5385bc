use Rattle.stark_folding.specs.ReduceFacts.{reduced_length, reduced_value}
use Rattle.stark_folding.proofs.reduce.reductions_agree.Goals as goal

pub returns-clause-same : goal.returns-clause-same
returns-clause-same g c = reduced_value g.met.F.Field.field_laws c.args._alpha

pub returns-clause-degree : goal.returns-clause-degree
returns-clause-degree g c = reduced_length g.F.Field.ring c.args._alpha
