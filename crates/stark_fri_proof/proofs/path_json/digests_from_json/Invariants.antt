use Rattle.std.proofs.Common.{◌≡◌, drop}
use Rattle.serde_json.specs.View.{items_view}
use Rattle.stark_support.specs.Json.{each_at}
use Rattle.stark_support.proofs.Readings.{with_front}
use Rattle.stark_fri_proof.specs.PathJson.{digest_at}
use Rattle.stark_fri_proof.proofs.path_json.digests_from_json.Given as goal

abbrev pub invariant-loop-value : goal.invariant-loop-value
invariant-loop-value l = with_front l.digests.items (each_at digest_at (items_view (drop l.value-index l.values))) ≡ each_at digest_at (items_view l.values)
