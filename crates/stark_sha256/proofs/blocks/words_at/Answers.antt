use Rattle.std.proofs.Common.{◌∙◌, arith, sym}
use Rattle.std.proofs.lemmas.Simd.{get_or-replicate}
use Rattle.stark_sha256.proofs.TextFacts.{word_in_first, word_in_padding, word_in_second}
use Rattle.stark_sha256.proofs.blocks.words_at.Goals as goal

pub returns-then-at-len : goal.returns-then-at-len
returns-then-at-len g c j low =
    get_or-replicate g.row.N j c.padding_word.result 0 low ∙ c.padding_word.ensures
    ∙ sym (word_in_padding c.args.texts.now j c.args.at low c.if-at-len.true)

pub returns-then-at-len-2 : goal.returns-then-at-len-2
returns-then-at-len-2 g c j low =
    c.words_in.ensures j low
    ∙ sym (word_in_second c.args.texts.now j c.args.at low (omega arith) (omega arith))

pub returns-then-at-second_at-2 : goal.returns-then-at-second_at-2
returns-then-at-second_at-2 g c j low =
    c.words_in-then-at-second_at-2.ensures j low
    ∙ sym (word_in_first c.args.texts.now j c.args.at low (omega arith) (omega arith))
