use Rattle.stark_support.specs.SchemeFacts.{refused_map}
use Rattle.parts_tests.proofs.clear_scheme.check_accepted.Goals as goal

pub returns : goal.returns
returns g c = refused_map _ _ c.verify_with_preprocessing.result (λ error r. g.met.P.UnivariateStarkPcs.scheme_laws.excludes _ _ _ _ _ error c.requires r) c.verify_with_preprocessing.ensures.refused
