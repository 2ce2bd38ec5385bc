use Rattle.stark_merkle.specs.TreeFacts.{rows_collide}
use Rattle.stark_merkle.proofs.path.rows_bind.Goals as goal

pub returns : goal.returns
returns g c = λ root a b p q. rows_collide g.H.TreeHash.digests g.met.H.TreeHash.are_digests root c.args._depth c.args._index a b p q
