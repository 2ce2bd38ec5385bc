use Rattle.stark_language.proofs.Grammars.{each_is_read}
use Rattle.stark_language.proofs.grammar.each_expression_is_read.Goals as goal

pub returns : goal.returns
returns c = each_is_read
