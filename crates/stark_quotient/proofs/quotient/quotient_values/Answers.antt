use Rattle.std.proofs.Common.{subst, sym}
use Rattle.stark_quotient.specs.PointwiseQuotient.{HasShape, rows_in, rows_or_none}
use Rattle.stark_quotient.proofs.quotient.quotient_values.Goals as goal

pub values_on-requires-clause-placed : goal.values_on-requires-clause-placed
values_on-requires-clause-placed g c = record {
  size = c.points_of-size.ensures.size;
  step = c.rows_to_next-step.ensures;
  room = c.points_of-size.ensures.room;
  subgroup = c.requires.subgroup;
  disjoint = c.requires.disjoint;
}

pub values_on-requires-clause-rows : goal.values_on-requires-clause-rows
values_on-requires-clause-rows g c = record {
  main = subst (λ n. HasShape (g.A.BaseAir.layout c.args.air.now).main n (rows_in c.args.trace.now)) (sym c.points_of-size.ensures.size) c.requires.trace;
  preprocessed = subst (λ n. HasShape (g.A.BaseAir.layout c.args.air.now).preprocessed n (rows_or_none c.args.preprocessed)) (sym c.points_of-size.ensures.size) c.requires.preprocessed;
  public_values = c.requires.public_values;
}

pub values_on-requires-clause-prepared : goal.values_on-requires-clause-prepared
values_on-requires-clause-prepared g c = c.in_ok-prepared.ensures

pub values_on-requires-else-BENEFITS_FROM_LOCKSTEP_EVALUATION-clause-placed : goal.values_on-requires-else-BENEFITS_FROM_LOCKSTEP_EVALUATION-clause-placed
values_on-requires-else-BENEFITS_FROM_LOCKSTEP_EVALUATION-clause-placed g c = record {
  size = c.points_of-size.ensures.size;
  step = c.rows_to_next-step.ensures;
  room = c.points_of-size.ensures.room;
  subgroup = c.requires.subgroup;
  disjoint = c.requires.disjoint;
}

pub values_on-requires-else-BENEFITS_FROM_LOCKSTEP_EVALUATION-clause-rows : goal.values_on-requires-else-BENEFITS_FROM_LOCKSTEP_EVALUATION-clause-rows
values_on-requires-else-BENEFITS_FROM_LOCKSTEP_EVALUATION-clause-rows g c = record {
  main = subst (λ n. HasShape (g.A.BaseAir.layout c.args.air.now).main n (rows_in c.args.trace.now)) (sym c.points_of-size.ensures.size) c.requires.trace;
  preprocessed = subst (λ n. HasShape (g.A.BaseAir.layout c.args.air.now).preprocessed n (rows_or_none c.args.preprocessed)) (sym c.points_of-size.ensures.size) c.requires.preprocessed;
  public_values = c.requires.public_values;
}

pub values_on-requires-else-BENEFITS_FROM_LOCKSTEP_EVALUATION-clause-prepared : goal.values_on-requires-else-BENEFITS_FROM_LOCKSTEP_EVALUATION-clause-prepared
values_on-requires-else-BENEFITS_FROM_LOCKSTEP_EVALUATION-clause-prepared g c = c.in_ok-prepared.ensures
