use Rattle.std.proofs.Common.{ap, ◌∙◌}
use Rattle.stark_fri_proof.specs.Paths.{digests_of}
use Rattle.stark_proof_bytes.specs.Roots.{path_read}
use Rattle.stark_proof_bytes.proofs.roots.MerklePathBytesCodec.read_from.Goals as goal

pub returns : goal.returns
returns c =
    path_read c.args.reader.now c.in_ok-roots.roots.items c.new.result c.read_list.new.reader c.in_ok-roots.ensures
    (c.new.ensures ∙ c.in_ok-digests.ensures ∙ ap digests_of c.deref.ensures.value)
