use Rattle.std.proofs.Common.{◌≡◌, ◌+◌, ◌*◌, ◌∙◌, ℕ, [], arith, length, length-set, slice_index_or}
use Rattle.sha2.specs.Sha256.{word_at}
use Rattle.stark_sha256.proofs.LaneFacts.{one_further, one_more}
use Rattle.stark_sha256.proofs.pairs.words_of_digests.Goals as goal

pub loop-j-preserved : goal.loop-j-preserved
loop-j-preserved g c =
    let digest = λ (i : ℕ). slice_index_or c.args.digests.now (2 * i + c.args.from) [] in (
      length-set c.loop-j.words c.loop-j.j c.word_in.result ∙ c.loop-j.invariant.0,
      one_more (λ i x. x ≡ word_at (digest i) (4 * c.args.place)) c.loop-j.words c.loop-j.j c.word_in.result 0 (omega arith)
          c.loop-j.invariant.1 c.word_in.ensures,
      one_further (λ (i : ℕ). length (digest i) ≡ 32) c.loop-j.j c.loop-j.invariant.2 (c.told-digests (2 * c.loop-j.j + c.args.from) (omega (arith, c.requires.digests, c.requires.from))),
    )
