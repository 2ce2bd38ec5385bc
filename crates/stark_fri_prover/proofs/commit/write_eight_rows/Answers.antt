use Rattle.std.proofs.Common.{◌≡◌, ◌∙◌, ◌+◌, ℕ, [], arith, length-set}
use Rattle.stark_merkle.specs.Bytes.{element_bytes}
use Rattle.stark_merkle.specs.Tree.{items_of}
use Rattle.stark_fri_prover.specs.Commit.{text_at}
use Rattle.stark_fri.proofs.EightSteps.{mapped_more}
use Rattle.stark_fri_prover.proofs.commit.write_eight_rows.Goals as goal

pub loop-j-preserved : goal.loop-j-preserved
loop-j-preserved g c =
    let texts = c.loop-j.texts in
    let long = c.loop-j.invariant.0 in
    let turn = c.loop-j-test.true in (
      length-set texts c.loop-j.j _ ∙ long,
      mapped_more items_of (λ (k : ℕ) x. x ≡ text_at (element_bytes g.F.PrimeField64.BYTES g.F.PrimeField64.number_of) c.args.extended.now (c.args.place + k)) texts c.loop-j.j _ []
          (omega (arith, long, turn)) c.loop-j.invariant.1 c.in_ok-write_rows_at.ensures,
    )
