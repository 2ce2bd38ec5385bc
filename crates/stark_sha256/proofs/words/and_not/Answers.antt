use Rattle.stark_sha256.proofs.WordFacts.{and_not_lane}
use Rattle.stark_sha256.proofs.words.and_not.Goals as goal

pub returns : goal.returns
returns g c j h = and_not_lane g.row.N c.args.x c.args.y j c.fits-x.0 c.fits-y.0 h
