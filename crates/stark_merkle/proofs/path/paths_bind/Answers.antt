use Rattle.stark_merkle.specs.TreeFacts.{paths_collide}
use Rattle.stark_merkle.proofs.path.paths_bind.Goals as goal

pub returns : goal.returns
returns g c = paths_collide g.H.TreeHash.digests g.met.H.TreeHash.are_digests c.args._index
