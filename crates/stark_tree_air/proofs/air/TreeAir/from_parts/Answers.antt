use Rattle.std.proofs.Common.{subst}
use Rattle.serde_json.specs.View.{view}
use Rattle.stark_json.specs.Apart.{rows_apart}
use Rattle.stark_tree_air.specs.TreeJson.{Decodes, air_view}
use Rattle.stark_tree_air.proofs.ApartSteps.{air_is}
use Rattle.stark_tree_air.proofs.air.TreeAir.from_parts.Goals as goal

pub returns : goal.returns
returns g c =
    record { decoded = subst (Decodes (λ air. air_view air.declaration air.list) c.air_from_json.result) (air_is g.F.JsonCodec.reading (rows_apart c.args.rows.now) (view c.args.value.now)) c.air_from_json.ensures }
