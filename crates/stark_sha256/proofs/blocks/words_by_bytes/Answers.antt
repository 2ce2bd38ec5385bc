use Rattle.std.proofs.Common.{◌≡◌, ◌∙◌, arith, length-set}
use Rattle.sha2.specs.Sha256.{word_at}
use Rattle.stark_sha256.specs.Texts.{padded_in}
use Rattle.stark_sha256.proofs.LaneFacts.{one_more}
use Rattle.stark_sha256.proofs.blocks.words_by_bytes.Goals as goal

pub loop-j-preserved : goal.loop-j-preserved
loop-j-preserved g c = (
  length-set c.loop-j.words c.loop-j.j c.word_by_bytes.result ∙ c.loop-j.invariant.0,
  one_more (λ i x. x ≡ word_at (padded_in c.args.texts.now i) c.args.at) c.loop-j.words c.loop-j.j c.word_by_bytes.result 0 (omega arith)
      c.loop-j.invariant.1 c.word_by_bytes.ensures,
)
