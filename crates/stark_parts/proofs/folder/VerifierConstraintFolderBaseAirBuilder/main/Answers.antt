use Rattle.std.proofs.Common.{◌∙◌}
use Rattle.stark_parts.proofs.Windows.{window_shows}
use Rattle.stark_parts.proofs.folder.VerifierConstraintFolderBaseAirBuilder.main.Goals as goal

pub returns-clause-rows : goal.returns-clause-rows
returns-clause-rows g c =
    window_shows _ g.SC.Challenge.Algebra.stands g.SC.Challenge.Field.ring.zero g.met.SC.Challenge.Algebra.stands_itself (λ x y h. h) _ _ c.over.result.current.now c.over.result.next.now
    (c.over.ensures.current ∙ c.from_two_rows.ensures.current) (c.over.ensures.next ∙ c.from_two_rows.ensures.next)
