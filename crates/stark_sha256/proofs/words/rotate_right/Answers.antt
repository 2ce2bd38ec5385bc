use Rattle.std.proofs.Common.{◌-◌, arith}
use Rattle.std.proofs.lemmas.Simd.{shifts_fit_splat}
use Rattle.stark_sha256.proofs.WordFacts.{rotated_lane}
use Rattle.stark_sha256.proofs.words.rotate_right.Goals as goal

pub overflow_shr-result : goal.overflow_shr-result
overflow_shr-result g c = shifts_fit_splat 32 c.args.x g.row.N c.args.count c.requires.below

pub overflow_shl-result : goal.overflow_shl-result
overflow_shl-result g c = shifts_fit_splat 32 c.args.x g.row.N (32 - c.args.count) (omega (arith, c.requires.some))

pub returns : goal.returns
returns g c j h = rotated_lane g.row.N c.args.x c.args.count j c.requires.some c.requires.below c.fits-x.0 h
