use Rattle.std.proofs.Common.{slice_index}
use Rattle.stark_sha256.proofs.WordFacts.{maj_by_differences}
use Rattle.stark_sha256.proofs.words.maj.Goals as goal

pub returns : goal.returns
returns g c j h =
    rw (c.xor-3.ensures j h, c.and.ensures j h, c.xor.ensures j h, c.xor-2.ensures j h)
    (maj_by_differences (slice_index c.args.x j) (slice_index c.args.y j) (slice_index c.args.z j))
