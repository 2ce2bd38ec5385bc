use Rattle.std.proofs.Common.{◌∙◌, sym}
use Rattle.stark_language.specs.Nodes.{entry_view}
use Rattle.stark_language.proofs.Naming.{place_here, place_later, place_nowhere}
use Rattle.stark_language.proofs.writer.place_of.Goals as goal

pub returns-then-eq-clause-exact : goal.returns-then-eq-clause-exact
returns-then-eq-clause-exact c = sym (place_here entry_view c.args.names.now c.args.name.now c.loop-place.place _ c.loop-place-test.true (sym c.eq.ensures ∙ c.if-eq.true) c.loop-place.invariant)

pub loop-place-preserved : goal.loop-place-preserved
loop-place-preserved c = place_later entry_view c.args.names.now c.args.name.now c.loop-place.place _ c.loop-place-test.true (sym c.eq.ensures ∙ c.if-eq.false) c.loop-place.invariant

pub returns-clause-exact : goal.returns-clause-exact
returns-clause-exact c = sym (place_nowhere entry_view c.args.names.now c.args.name.now c.loop-place.place c.loop-place-test.false c.loop-place.invariant)
