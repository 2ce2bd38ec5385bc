use Rattle.stark_air.proofs.Steps.{slice_shows}
use Rattle.stark_parts.specs.Folding.{exact_embedding}
use Rattle.stark_parts.proofs.folder.VerifierConstraintFolderBaseAirBuilder.public_values.Goals as goal

pub returns : goal.returns
returns g c =
    slice_shows g.SC.Challenge.From.from_gives g.SC.Challenge.Algebra.stands g.SC.Challenge.ExtensionField.embed c.args.self.now.public_values.now g.SC.Pcs.Domain.Val.Field.ring.zero
    λ k x h. exact_embedding g.SC.Challenge.Field.ring g.met.SC.Challenge.ExtensionField.operations_above g.SC.Challenge.Algebra.stands k x (g.met.SC.Challenge.Algebra.embed_stands k x h)
