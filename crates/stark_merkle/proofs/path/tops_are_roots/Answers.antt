use Rattle.stark_merkle.specs.TreeFacts.{top_is_root}
use Rattle.stark_merkle.proofs.path.tops_are_roots.Goals as goal

pub returns : goal.returns
returns g c = λ leaves root. top_is_root g.H.TreeHash.digests.node c.args._depth leaves root
