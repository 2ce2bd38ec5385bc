use Rattle.std.proofs.Common.{◌∙◌, ℕ, List, ap}
use Rattle.sha2.specs.Sha256.{digest_bytes, sha256}
use Rattle.stark_sha256.proofs.digest.sha256_lanes.Goals as goal

pub returns-then-have_length-2 : goal.returns-then-have_length-2
unfolding sha256
returns-then-have_length-2 g c i low =
    c.digests_in_lanes.ensures i low ∙ ap (λ (h : List ℕ). digest_bytes h 8) (c.final_state.ensures i low)
