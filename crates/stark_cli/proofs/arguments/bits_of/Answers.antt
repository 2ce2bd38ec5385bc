use Rattle.std.proofs.Common.{◌∙◌}
use Rattle.stark_cli.proofs.Numbers.{bits_are}
use Rattle.stark_cli.proofs.arguments.bits_of.Goals as goal

pub returns : goal.returns
returns c = c.ok.ensures.value ∙ bits_are c.args.word.now c.parse.result c.parse.ensures.value.0
