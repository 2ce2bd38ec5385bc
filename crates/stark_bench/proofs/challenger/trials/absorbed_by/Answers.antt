use Rattle.std.proofs.Common.{◌≡◌, ◌∙◌, ◌∷◌, ◌++◌, ℕ, List, [], ap, slice_index, slice_index_or, sym}
use Rattle.sha2.specs.Sha256.{sha256}
use Rattle.stark_sha256.specs.Pieces.{piece, text_of}
use Rattle.stark_sha256.proofs.LaneFacts.{in_each_of_eight}
use Rattle.stark_bench.proofs.challenger.trials.absorbed_by.Goals as goal

pub returns : goal.returns
returns c j low =
    let state : ℕ → List ℕ = λ k. slice_index_or c.args.states.now k [] in
    let tag : ℕ → ℕ = λ k. slice_index (state k) 0 in
    let text : ℕ → List ℕ = λ k. piece c.args.texts.now k in
    let tags = tag 0 ∷ tag 1 ∷ tag 2 ∷ tag 3 ∷ tag 4 ∷ tag 5 ∷ tag 6 ∷ tag 7 ∷ [] in
    let rests =
    c.rest_of.result ∷ c.rest_of-2.result ∷ c.rest_of-3.result ∷ c.rest_of-4.result ∷ c.rest_of-5.result ∷ c.rest_of-6.result ∷ c.rest_of-7.result ∷ c.rest_of-8.result ∷ [] in
    let one : (k : ℕ) (rest : List ℕ) → state k ≡ tag k ∷ rest → text_of (tag k) rest (text k) ≡ state k ++ text k = λ k rest is. ap (λ t. t ++ text k) (sym is) in
    c.sha256_eight.ensures j low
    ∙ ap sha256
    (in_each_of_eight (λ k. text_of (slice_index tags k) (piece rests k) (text k) ≡ state k ++ text k)
    (one 0 _ c.rest_of.ensures) (one 1 _ c.rest_of-2.ensures) (one 2 _ c.rest_of-3.ensures) (one 3 _ c.rest_of-4.ensures)
    (one 4 _ c.rest_of-5.ensures) (one 5 _ c.rest_of-6.ensures) (one 6 _ c.rest_of-7.ensures) (one 7 _ c.rest_of-8.ensures) j low)
