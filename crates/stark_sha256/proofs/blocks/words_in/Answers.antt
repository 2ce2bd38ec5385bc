use Rattle.std.proofs.Common.{◌≡◌, ◌+◌, ◌≤◌, ◌∙◌, ap, arith, length, length-set, subst, sym}
use Rattle.sha2.specs.Sha256.{word_at}
use Rattle.stark_sha256.specs.Pieces.{piece}
use Rattle.stark_sha256.proofs.LaneFacts.{one_more}
use Rattle.stark_sha256.proofs.TextFacts.{piece_at}
use Rattle.stark_sha256.proofs.blocks.words_in.Goals as goal

pub word_in-requires : goal.word_in-requires
word_in-requires g c =
    subst (λ x. c.args.at + 4 ≤ length x) (piece_at c.args.slices.now c.loop-j.j) (c.requires.within c.loop-j.j c.loop-j-test.true)

pub loop-j-preserved : goal.loop-j-preserved
loop-j-preserved g c =
    let at = c.args.at in
    let slices = c.args.slices.now in (
      length-set c.loop-j.words c.loop-j.j c.word_in.result ∙ c.loop-j.invariant.0,
      one_more (λ i x. x ≡ word_at (piece slices i) at) c.loop-j.words c.loop-j.j c.word_in.result 0 (omega arith) c.loop-j.invariant.1
          (c.word_in.ensures ∙ ap (λ x. word_at x at) (sym (piece_at slices c.loop-j.j))),
    )
