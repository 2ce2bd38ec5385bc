use Rattle.std.proofs.lemmas.Simd.{shifts_fit_splat}
use Rattle.stark_sha256.proofs.WordFacts.{shifted_lane}
use Rattle.stark_sha256.proofs.words.shift_right.Goals as goal

pub overflow_shr-result : goal.overflow_shr-result
overflow_shr-result g c = shifts_fit_splat 32 c.args.x g.row.N c.args.count c.requires

pub returns : goal.returns
returns g c j h = shifted_lane g.row.N c.args.x c.args.count j c.fits-x.0 h
