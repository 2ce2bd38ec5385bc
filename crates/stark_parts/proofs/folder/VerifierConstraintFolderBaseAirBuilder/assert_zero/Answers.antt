use Rattle.std.proofs.Common.{ap, ◌∙◌}
use Rattle.stark_parts.specs.Folding.{carried_on}
use Rattle.stark_parts.proofs.folder.VerifierConstraintFolderBaseAirBuilder.assert_zero.Goals as goal

pub returns-clause-asserted : goal.returns-clause-asserted
returns-clause-asserted g c = λ t h.
    let laws = g.met.SC.Challenge.ExtensionField in
    ap (λ z. record c.args.self.now { accumulator = z })
    (carried_on g.SC.Challenge.Field.ring laws.operations_above _ _ _ _ _ _ t (g.met.SC.Challenge.Field.mul_is _ _ _ c.mul.ensures) (g.met.SC.Challenge.Field.add_is _ _ _ c.add-self.ensures) (laws.exact_above _ _ h))

pub returns-clause-carried : goal.returns-clause-carried
returns-clause-carried g c =
    let laws = g.met.SC.Challenge.Field in
    laws.add_is _ _ _ c.add-self.ensures ∙ ap (λ m. g.SC.Challenge.Field.ring.add m c.args.x) (laws.mul_is _ _ _ c.mul.ensures)
