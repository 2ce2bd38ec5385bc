use Rattle.stark_show.proofs.Sizes.{small_multiple}
use Rattle.stark_statement.specs.Configuration.{fri_numbers}
use Rattle.stark_service.proofs.SecuritySteps.{flat_tree, refused, steep_tree, tested, tree_chunks, tree_crowded, tree_room}
use Rattle.stark_service.proofs.security.stated_of.Goals as goal

pub returns-then-degree-most : goal.returns-then-degree-most
returns-then-degree-most g c = steep_tree c.args.air.now (fri_numbers c.args.parameters.now) _ _ c.in_ok-degree.ensures c.most_degree-most.ensures c.if-degree-most.true

pub has_room-requires : goal.has_room-requires
has_room-requires g c = c.get_log_num_quotient_chunks_for_degree-log_chunks.ensures.least 64 (small_multiple _)

pub returns-then-not-has_room : goal.returns-then-not-has_room
returns-then-not-has_room g c =
    let air = c.args.air.now in
    let layout = c.from_air-layout.ensures in
    let chunks = tree_chunks air _ _ c.in_ok-degree.ensures c.get_log_num_quotient_chunks_for_degree-log_chunks.ensures in (
      flat_tree air (fri_numbers c.args.parameters.now) _ _ c.in_ok-degree.ensures c.most_degree-most.ensures c.if-degree-most.false,
      (_, chunks, tree_crowded air _ _ _ _ _ layout.main_width layout.preprocessed_width c.DIMENSION.ensures (refused _ _ c.has_room.ensures c.if-not-has_room.true)),
    )

pub params_of-requires-clause-flat : goal.params_of-requires-clause-flat
params_of-requires-clause-flat g c = flat_tree c.args.air.now (fri_numbers c.args.parameters.now) _ _ c.in_ok-degree.ensures c.most_degree-most.ensures c.if-degree-most.false

pub params_of-requires-clause-roomy : goal.params_of-requires-clause-roomy
params_of-requires-clause-roomy g c = (_, tree_chunks c.args.air.now _ _ c.in_ok-degree.ensures c.get_log_num_quotient_chunks_for_degree-log_chunks.ensures, tree_room c.args.air.now _ _ _ _ _ c.from_air-layout.ensures.main_width c.from_air-layout.ensures.preprocessed_width c.DIMENSION.ensures (tested _ _ c.has_room.ensures c.if-not-has_room.false))

pub returns : goal.returns
returns g c =
    let air = c.args.air.now in
    let layout = c.from_air-layout.ensures in
    let chunks = tree_chunks air _ _ c.in_ok-degree.ensures c.get_log_num_quotient_chunks_for_degree-log_chunks.ensures in (
      flat_tree air (fri_numbers c.args.parameters.now) _ _ c.in_ok-degree.ensures c.most_degree-most.ensures c.if-degree-most.false,
      (_, chunks, tree_room air _ _ _ _ _ layout.main_width layout.preprocessed_width c.DIMENSION.ensures (tested _ _ c.has_room.ensures c.if-not-has_room.false)),
      c.in_ok-params.ensures,
    )
