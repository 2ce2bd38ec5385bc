use Rattle.std.proofs.Common.{◌<◌, ◌^◌, arith}
use Rattle.std.proofs.lemmas.List.Elements.{All-from_get_or}
use Rattle.stark_statement.proofs.writing.known_words.Goals as goal

pub returns : goal.returns
returns c = All-from_get_or (λ w. w < 2 ^ 64) c.args.words.now 0 (λ i _. omega (arith, c.type_inv.words i))
