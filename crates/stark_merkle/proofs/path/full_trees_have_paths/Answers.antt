use Rattle.stark_merkle.specs.TreeFacts.{full_has_path}
use Rattle.stark_merkle.proofs.path.full_trees_have_paths.Goals as goal

pub returns : goal.returns
returns g c = λ leaves i. full_has_path g.H.TreeHash.digests.node c.args._depth leaves i
