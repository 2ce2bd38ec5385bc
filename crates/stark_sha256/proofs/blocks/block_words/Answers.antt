use Rattle.std.proofs.Common.{◌<◌, ◌∙◌, arith, slice_index, sym}
use Rattle.std.proofs.lemmas.List.{length-map}
use Rattle.stark_sha256.specs.Texts.{padded_in}
use Rattle.stark_sha256.proofs.LaneFacts.{word_in_lane}
use Rattle.stark_sha256.proofs.TextFacts.{word_of_block}
use Rattle.stark_sha256.proofs.blocks.block_words.Goals as goal

pub returns : goal.returns
returns g c j low = (
  length-map c.loop-place.words (λ word. slice_index word j) ∙ c.loop-place.invariant.0,
  λ i below.
      let within : i < c.loop-place.place = omega arith in
      word_in_lane j c.loop-place.words i ∙ c.loop-place.invariant.1 i within j low
      ∙ sym (word_of_block (padded_in c.args.texts.now j) c.args.block i below),
)
