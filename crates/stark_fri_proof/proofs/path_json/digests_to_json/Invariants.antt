use Rattle.std.proofs.Common.{◌≡◌, take, map}
use Rattle.serde_json.specs.View.{view}
use Rattle.stark_fri_proof.specs.PathJson.{digest_written}
use Rattle.stark_fri_proof.proofs.path_json.digests_to_json.Given as goal

abbrev pub invariant-loop-digest : goal.invariant-loop-digest
invariant-loop-digest l = map view l.values.items ≡ map digest_written (take l.digest-index l.digests)
