use Rattle.std.proofs.Common.{◌≡◌, ◌+◌, ◌*◌, ◌^◌, ◌<◌, ◌≤◌, ◌/◌, ◌∙◌, List, ℕ, ap, arith, length, lit<, sym}
use Rattle.sha2.specs.Sha256.{compress, hash_after, initial_hash_256, padded_message}
use Rattle.sha2.proofs.Absorbing256.{hash_after_next}
use Rattle.stark_sha256.specs.Pieces.{padded_len}
use Rattle.stark_sha256.specs.Texts.{block_in, len_of, padded_in, text_in}
use Rattle.stark_sha256.proofs.TextFacts.{block_count, length_in_lane, length_of_padded}
use Rattle.stark_sha256.proofs.digest.final_state.Goals as goal

pub loop-block-init : goal.loop-block-init
unfolding hash_after
loop-block-init g c = c.in_each_lane-state.ensures

pub loop-block-preserved : goal.loop-block-preserved
loop-block-preserved g c j low =
    let block = block_in c.args.texts.now c.loop-block.block j in
    c.compress-next.ensures j low block (c.block_words-words.ensures j low)
    ∙ ap (λ (h : List ℕ). compress h block) (c.loop-block.invariant j low)
    ∙ sym (hash_after_next initial_hash_256 (padded_in c.args.texts.now j) c.loop-block.block)

pub returns : goal.returns
unfolding padded_in
returns g c j low =
    let text = text_in c.args.texts.now j in
    let len = len_of c.args.texts.now in
    let all : length (padded_message text) ≡ padded_len len =
    length_of_padded text ∙ ap padded_len (length_in_lane c.args.texts.now j low) in
    let done : c.loop-block.block ≡ length (padded_message text) / 64 =
    omega (arith, block_count len) in
    c.loop-block.invariant j low ∙ ap (hash_after initial_hash_256 (padded_message text)) done

pub block_words-words-requires : goal.block_words-words-requires
block_words-words-requires g c =
    let len = len_of c.args.texts.now in
    let window : 16 * (g.row.N * 4) < 2 ^ 63 = omega (arith, c.requires) in
    let word : g.row.N * 4 < 2 ^ 63 = omega (arith, c.requires) in
    let block : 64 * (c.loop-block.block + 1) ≤ padded_len len = omega (arith, c.loop-block-test.true, block_count len) in
    (lit< tt, (window, (word, block)))

pub compress-next-requires : goal.compress-next-requires
compress-next-requires g c =
    let window : 16 * (g.row.N * 4) < 2 ^ 63 = omega (arith, c.requires) in
    let word : g.row.N * 4 < 2 ^ 63 = omega (arith, c.requires) in
    let state : 8 * (g.row.N * 4) < 2 ^ 63 = omega (arith, c.requires) in
    (state, (word, window))
