use Rattle.std.proofs.Common.{◌≡◌, ◌∙◌, ap, length}
use Rattle.stark_sha256.specs.Pieces.{piece}
use Rattle.stark_sha256.proofs.LaneFacts.{one_further}
use Rattle.stark_sha256.proofs.TextFacts.{piece_at}
use Rattle.stark_sha256.proofs.digest.have_length.Goals as goal

pub loop-j-preserved : goal.loop-j-preserved
loop-j-preserved g c =
    one_further (λ i. length (piece c.args.slices.now i) ≡ c.args.len) c.loop-j.j c.loop-j.invariant
    (ap length (piece_at c.args.slices.now c.loop-j.j) ∙ c.if-slices-j.false)
