use Rattle.std.proofs.Common.{sym, ◌∙◌, ap}
use Rattle.std.proofs.lemmas.Iterator.Adapters.{YieldsList-from_vec}
use Rattle.std.proofs.lemmas.Iterator.Consumers.{YieldsList-end}
use Rattle.std.proofs.lemmas.List.{map-id}
use Rattle.stark_symbolic.specs.SymbolicTrees.{base_part, extension_part, one_more_base, one_more_extension}
use Rattle.stark_symbolic.proofs.constraints.parts_of.Goals as goal

pub loop-constraint-preserved-in-Continue-1 : goal.loop-constraint-preserved-in-Continue-1
loop-constraint-preserved-in-Continue-1 g c =
    one_more_base c.loop-constraint.yielded c.in-Some.constraint c.in-Base.x _ _ _ c.in-Base.is c.in_ok-push-in-Base.ensures.items c.loop-constraint.invariant.0 c.loop-constraint.invariant.1

pub loop-constraint-preserved : goal.loop-constraint-preserved
loop-constraint-preserved g c =
    one_more_extension c.loop-constraint.yielded c.in-Some.constraint c.in-Extension.x _ _ _ c.in-Extension.is c.in_ok-push-in-Extension.ensures.items c.loop-constraint.invariant.0 c.loop-constraint.invariant.1

pub returns-clause-base : goal.returns-clause-base
returns-clause-base g c =
    let given = c.into_iter-constraint-iterator.ensures.into_iter_gives in
    let all = YieldsList-end (YieldsList-from_vec {s = c.into_iter-constraint-iterator.result} c.args.constraints.items given.0 (given.1 ∙ c.args.constraints.ok.0)) c.loop-constraint.yielded c.loop-constraint.constraint-iterator c.loop-constraint.yielded_by c.next.result c.next.new.self c.in-None.is c.next.ensures.steps in
    c.loop-constraint.invariant.0 ∙ ap base_part (sym (map-id c.loop-constraint.yielded) ∙ all.0)

pub returns-clause-extension : goal.returns-clause-extension
returns-clause-extension g c =
    let given = c.into_iter-constraint-iterator.ensures.into_iter_gives in
    let all = YieldsList-end (YieldsList-from_vec {s = c.into_iter-constraint-iterator.result} c.args.constraints.items given.0 (given.1 ∙ c.args.constraints.ok.0)) c.loop-constraint.yielded c.loop-constraint.constraint-iterator c.loop-constraint.yielded_by c.next.result c.next.new.self c.in-None.is c.next.ensures.steps in
    c.loop-constraint.invariant.1 ∙ ap extension_part (sym (map-id c.loop-constraint.yielded) ∙ all.0)
