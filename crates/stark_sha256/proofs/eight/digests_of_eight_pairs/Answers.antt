use Rattle.std.proofs.Common.{◌≡◌, ◌∙◌, ◌+◌, ◌-◌, ◌*◌, ◌<◌, ℕ, List, [], ap, arith, drop, length, slice_index_or, take}
use Rattle.std.proofs.lemmas.List.{get_or-drop, get_or-take}
use Rattle.stark_sha256.specs.Pairs.{pair_digest}
use Rattle.stark_sha256.proofs.LaneFacts.{in_both_halves}
use Rattle.stark_sha256.proofs.eight.digests_of_eight_pairs.Goals as goal

pub returns : goal.returns
returns c =
    let pairs = c.args.pairs.now in
    let rest = length pairs - 8 in
    let digest : ℕ → List ℕ = λ k. slice_index_or pairs k [] in
    let later : ℕ → List ℕ = λ k. slice_index_or (take rest (drop 8 pairs)) k [] in
    let later_is : (k : ℕ) → k < rest → later k ≡ digest (8 + k) = λ k below. get_or-take rest (drop 8 pairs) k [] below ∙ get_or-drop 8 pairs k [] in
    in_both_halves (λ i. slice_index_or c.joined.result i [] ≡ pair_digest (digest (2 * i)) (digest (2 * i + 1)))
    (λ i low. c.joined.ensures.low i low ∙ c.compress_pairs-2.ensures i low)
    (λ i low.
    let even : 8 + 2 * i ≡ 2 * (4 + i) = omega arith in
    let odd : 8 + (2 * i + 1) ≡ 2 * (4 + i) + 1 = omega arith in
    c.joined.ensures.high i low ∙ c.compress_pairs-3.ensures i low
    ∙ ap (λ (x : List ℕ). pair_digest x (later (2 * i + 1))) (later_is (2 * i) (omega (arith, c.requires, low)) ∙ ap digest even)
    ∙ ap (λ (y : List ℕ). pair_digest (digest (2 * (4 + i))) y) (later_is (2 * i + 1) (omega (arith, c.requires, low)) ∙ ap digest odd))
