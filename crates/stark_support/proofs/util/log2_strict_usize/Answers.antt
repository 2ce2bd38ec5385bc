use Rattle.stark_support.specs.LogarithmFacts.{strict_log}
use Rattle.stark_support.proofs.util.log2_strict_usize.Goals as goal

pub returns : goal.returns
returns c = strict_log c.ilog2.result c.requires.0 c.args.n c.ilog2.ensures.power_le c.ilog2.ensures.next_power_gt c.requires.1
