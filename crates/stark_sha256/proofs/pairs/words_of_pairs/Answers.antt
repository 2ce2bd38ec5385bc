use Rattle.std.proofs.Common.{◌≡◌, ◌+◌, ◌*◌, ◌<◌, ◌∙◌, ℕ, List, [], ap, arith, length, slice_index, slice_index_or, sym}
use Rattle.std.proofs.lemmas.List.{length-map}
use Rattle.sha2.specs.Sha256.{word_at}
use Rattle.stark_sha256.specs.Lanes.{lane}
use Rattle.stark_sha256.proofs.LaneFacts.{word_in_lane}
use Rattle.stark_sha256.proofs.PairFacts.{words_of_both}
use Rattle.stark_sha256.proofs.pairs.words_of_pairs.Goals as goal

pub returns : goal.returns
returns g c j low =
    let read = c.loop-place.invariant in
    let words = lane j c.loop-place.words in
    let even : 2 * j + 0 ≡ 2 * j = omega arith in
    let digest : ℕ → List ℕ = λ k. slice_index_or c.args.pairs.now k [] in
    let long : length (digest (2 * j)) ≡ 32 = ap (λ k. length (digest k)) (sym even) ∙ read.3 (omega arith) j low in
    let left : (i : ℕ) → i < 8 → slice_index words i ≡ word_at (digest (2 * j)) (4 * i) =
    λ i below. word_in_lane j c.loop-place.words i ∙ read.1 i (omega arith) j low ∙ ap (λ k. word_at (digest k) (4 * i)) even in (
      length-map c.loop-place.words (λ word. slice_index word j) ∙ read.0,
      words_of_both (digest (2 * j)) (digest (2 * j + 1)) long (λ i. slice_index words i) left
          (λ i below. word_in_lane j c.loop-place.words (8 + i) ∙ read.2 i (omega arith) j low),
    )
