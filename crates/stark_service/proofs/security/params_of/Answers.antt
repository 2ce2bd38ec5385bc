use Rattle.std.proofs.Common.{ap}
use Rattle.stark_statement.specs.Configuration.{fri_numbers}
use Rattle.stark_security.specs.Params.{params_are}
use Rattle.stark_service.proofs.SecuritySteps.{if_three_ok, tree_batched, tree_degree, tree_params, tree_sized}
use Rattle.stark_service.proofs.security.params_of.Goals as goal

pub from_air-requires-2-clause-degree : goal.from_air-requires-2-clause-degree
from_air-requires-2-clause-degree g c = tree_degree c.args.air.now (fri_numbers c.args.parameters.now) _ (ap (λ regime. regime.log_blowup) c.fri_regime.ensures) c.requires.flat

pub from_air-requires-2-clause-sized : goal.from_air-requires-2-clause-sized
from_air-requires-2-clause-sized g c = tree_sized c.args.air.now _ c.requires.roomy

pub from_air-requires-2-clause-batched : goal.from_air-requires-2-clause-batched
from_air-requires-2-clause-batched g c = tree_batched c.args.air.now _ c.requires.roomy _ _ _ _ c.from_air.ensures.main_width c.from_air.ensures.preprocessed_width

pub returns : goal.returns
returns g c =
    let air = c.args.air.now in
    let layout = c.from_air.ensures in
    if_three_ok _ _ _ _ c.from_air-2.result (λ params chunks given counted. tree_params air _ c.args.parameters.now c.fri_regime.result c.field_bits.result c.order.result c.DIMENSION.result c.args.ood_bits c.from_air.result params c.fri_regime.ensures c.order.ensures c.DIMENSION.ensures c.field_bits.ensures
    layout.main_width layout.preprocessed_width chunks (params_are given counted)) c.from_air-2.ensures.chunks c.from_air-2.ensures.given c.from_air-2.ensures.counted
