use Rattle.std.proofs.Common.{◌∙◌, ap, sym}
use Rattle.stark_fri_proof.specs.Paths.{digests_of, digests_of_roots}
use Rattle.stark_fri_proof.proofs.path.MerklePath.digests.Goals as goal

pub returns : goal.returns
returns c = c.deref.ensures.value ∙ sym (digests_of_roots _ c.self.inside.are) ∙ ap digests_of c.self.view_is
