use Rattle.std.proofs.Common.{◌∙◌}
use Rattle.stark_support.specs.SeedFacts.{seed_joined, no_other_shape, seed_without_first_work}
use Rattle.stark_transcript.specs.Shape.{shape_numbers}
use Rattle.stark_transcript.proofs.shape.StarkShape.domain_separator.Goals as goal

pub returns-clause-seed : goal.returns-clause-seed
returns-clause-seed g c =
    seed_joined 1 g.EF.ExtensionField.DIMENSION (shape_numbers c.args.self.now) c.in_ok-separator.separator c.in_ok-pattern.pattern c.flag.result c.flag-2.result
    c.in_ok-separator.ensures c.in_ok-pattern.ensures c.flag.ensures c.flag-2.ensures

pub returns-clause-without_first_work : goal.returns-clause-without_first_work
returns-clause-without_first_work g c = λ none.
    seed_joined 1 g.EF.ExtensionField.DIMENSION (shape_numbers c.args.self.now) c.in_ok-separator.separator c.in_ok-pattern.pattern c.flag.result c.flag-2.result
    c.in_ok-separator.ensures c.in_ok-pattern.ensures c.flag.ensures c.flag-2.ensures ∙
    seed_without_first_work 1 g.EF.ExtensionField.DIMENSION (shape_numbers c.args.self.now) none

pub returns-clause-of_this_shape : goal.returns-clause-of_this_shape
returns-clause-of_this_shape g c =
    no_other_shape 1 g.EF.ExtensionField.DIMENSION (shape_numbers c.args.self.now) c.in_ok-separator.separator c.known_numbers.ensures
    (seed_joined 1 g.EF.ExtensionField.DIMENSION (shape_numbers c.args.self.now) c.in_ok-separator.separator c.in_ok-pattern.pattern c.flag.result c.flag-2.result
    c.in_ok-separator.ensures c.in_ok-pattern.ensures c.flag.ensures c.flag-2.ensures)
