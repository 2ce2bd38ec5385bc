use Rattle.std.proofs.Common.{rules}
use Rattle.stark_verifier.proofs.preprocessed.check_rows_and_key.Goals as goal

pub returns : goal.returns
returns c = search rules

pub returns-in_err-check_key_width : goal.returns-in_err-check_key_width
returns-in_err-check_key_width g c = search rules
