use Rattle.std.proofs.Common.{◌∙◌, ap, arith}
use Rattle.stark_merkle.specs.Tree.{sole}
use Rattle.stark_merkle.proofs.Steps.{top_at, top_of_none}
use Rattle.stark_merkle.proofs.tree.root_in.Goals as goal

pub returns-in-Some : goal.returns-in-Some
returns-in-Some c =
    let last = c.in-Some.ensures in
    let top = top_at c.args.layers.now c.in-Some.last c.index-layers-last.result (omega (arith, last.0, last.1)) in
    let same = c.index-layers-last.is in
    c.sole.ensures ∙ ap sole c.deref.ensures.value ∙ ap (λ l. sole l.items) same ∙ top

pub returns-in-None : goal.returns-in-None
returns-in-None c = top_of_none c.args.layers.now (λ some. c.in-None.ensures some)
