use Rattle.std.proofs.Common.{rules}
use Rattle.stark_prover_folder.proofs.prover_folder.ProverConstraintFolderExtensionBuilder.assert_zero_ext.Goals as goal

pub returns-in_err-push : goal.returns-in_err-push
returns-in_err-push g c = search rules
