use Rattle.stark_fri_proof.specs.Paths.{digests_of_roots}
use Rattle.stark_fri_proof.proofs.path.MerklePath.new.Goals as goal

pub returns : goal.returns
returns c = digests_of_roots _ _
