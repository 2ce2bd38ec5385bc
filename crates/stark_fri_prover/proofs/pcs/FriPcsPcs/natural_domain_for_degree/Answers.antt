use Rattle.std.proofs.Common.{◌∙◌, ◌-◌, ◌^◌, ap, arith}
use Rattle.stark_support.specs.LogarithmFacts.{exponent_at_most}
use Rattle.stark_support.specs.SchemeFacts.{natural_of_size}
use Rattle.stark_fri_prover.proofs.pcs.FriPcsPcs.natural_domain_for_degree.Goals as goal

pub subgroup-requires : goal.subgroup-requires
subgroup-requires g c =
    let below = exponent_at_most c.log2_strict_usize.result (g.F.TwoAdicField.TWO_ADICITY - c.args.self.now.parameters.log_blowup) (omega (arith, c.log2_strict_usize.ensures, c.requires.within)) in
    omega arith

pub returns-clause-natural : goal.returns-clause-natural
returns-clause-natural g c = λ k power.
    natural_of_size g.F.Field.ring (record { shift = c.subgroup.result.shift; log_size = c.subgroup.result.log_size }) c.args.degree k c.subgroup.ensures.shift (ap (λ n. 2 ^ n) c.subgroup.ensures.size ∙ c.log2_strict_usize.ensures) power
