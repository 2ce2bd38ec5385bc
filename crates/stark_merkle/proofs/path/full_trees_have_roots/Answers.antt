use Rattle.stark_merkle.specs.TreeFacts.{full_has_root}
use Rattle.stark_merkle.proofs.path.full_trees_have_roots.Goals as goal

pub returns : goal.returns
returns g c = λ leaves. full_has_root g.H.TreeHash.digests.node c.args._depth leaves
