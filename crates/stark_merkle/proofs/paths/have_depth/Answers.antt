use Rattle.std.proofs.Common.{◌≡◌, ◌∙◌, ℕ, length, sym}
use Rattle.stark_merkle.specs.Eight.{path_at}
use Rattle.stark_sha256.proofs.LaneFacts.{one_further}
use Rattle.stark_merkle.proofs.PathSteps.{path_length_is}
use Rattle.stark_merkle.proofs.paths.have_depth.Goals as goal

pub returns-then-paths-i : goal.returns-then-paths-i
returns-then-paths-i c = (
  λ t. absurd (cc),
  λ all. absurd (c.if-paths-i.true (sym (path_length_is c.args.paths.now c.loop-i.i) ∙ all c.loop-i.i c.loop-i-test.true)),
)

pub loop-i-preserved : goal.loop-i-preserved
loop-i-preserved c =
    one_further (λ k. length (path_at c.args.paths.now k) ≡ c.args.depth) c.loop-i.i c.loop-i.invariant
    (path_length_is c.args.paths.now c.loop-i.i ∙ c.if-paths-i.false)
