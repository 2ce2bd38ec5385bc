use Rattle.std.proofs.Common.{◌≡◌, ◌∙◌, ◌+◌, ℕ, [], arith, length-set}
use Rattle.stark_merkle.specs.Bytes.{element_bytes}
use Rattle.stark_merkle.specs.Tree.{items_of}
use Rattle.stark_fri_prover.specs.Layers.{pair_of}
use Rattle.stark_fri.proofs.EightSteps.{mapped_more}
use Rattle.stark_fri_prover.proofs.layers.write_eight_pairs.Goals as goal

pub loop-j-preserved : goal.loop-j-preserved
loop-j-preserved g c =
    let texts = c.loop-j.texts in
    let long = c.loop-j.invariant.0 in
    let turn = c.loop-j-test.true in
    let bytes = λ (k : ℕ). pair_of (element_bytes g.F.PrimeField64.BYTES g.F.PrimeField64.number_of) g.EF.ExtensionField.coordinates g.EF.Field.ring.zero c.args.values.now c.args.half (c.args.place + k) in (
      length-set texts c.loop-j.j _ ∙ long,
      mapped_more items_of (λ k x. x ≡ bytes k) texts c.loop-j.j _ [] (omega (arith, long, turn)) c.loop-j.invariant.1 c.in_ok-write_pair_at.ensures,
    )
