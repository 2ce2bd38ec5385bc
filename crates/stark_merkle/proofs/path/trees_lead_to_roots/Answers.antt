use Rattle.stark_merkle.specs.TreeFacts.{led_to_root, path_in_layers}
use Rattle.stark_merkle.proofs.path.trees_lead_to_roots.Goals as goal

pub returns : goal.returns
returns g c = λ leaves root index x path whole here way.
    led_to_root g.H.TreeHash.digests.node c.args._depth leaves root index x path whole here (path_in_layers g.H.TreeHash.digests.node c.args._depth leaves index path way)
