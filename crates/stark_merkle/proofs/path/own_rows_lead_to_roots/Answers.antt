use Rattle.stark_merkle.specs.TreeFacts.{own_row_leads}
use Rattle.stark_merkle.proofs.path.own_rows_lead_to_roots.Goals as goal

pub returns : goal.returns
returns g c = λ leaves root row i path. own_row_leads g.H.TreeHash.digests c.args._depth leaves root row i path
