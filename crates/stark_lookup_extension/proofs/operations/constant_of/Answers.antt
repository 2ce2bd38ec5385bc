use Rattle.std.proofs.Common.{◌≡◌, ◌∙◌, sym}
use Rattle.stark_lookup_extension.proofs.Constants.{not_indexed, other_node, shown}
use Rattle.stark_lookup_extension.proofs.operations.constant_of.Goals as goal

pub returns-in-Some : goal.returns-in-Some
returns-in-Some g c l ts p t h at there =
    shown c.args.list.now l ts p t h at c.args.node c.in-Some.index there (sym c.constant_index.ensures ∙ c.in-Some.is) c.deref.result.now c.deref.ensures.value c.get.result c.copied.result c.copied.ensures c.get.ensures.lookup

pub returns-in-None : goal.returns-in-None
returns-in-None g c l ts p t h at there = λ k. other_node c.args.list.now l ts p t h at c.args.node k there (not_indexed c.args.node (sym c.constant_index.ensures ∙ c.in-None.is))
