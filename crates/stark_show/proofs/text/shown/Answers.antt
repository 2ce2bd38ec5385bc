use Rattle.std.proofs.Common.{◌+◌, ◌^◌, refl, length, string_bytes}
use Rattle.stark_tree_air.specs.FaultFacts.{all_fit}
use Rattle.stark_tree_air.specs.Faults.{tree_layout}
use Rattle.stark_show.proofs.Fitting.{nodes_name}
use Rattle.stark_show.proofs.Sections.{chunks_are, sections_are, whole_are}
use Rattle.stark_show.proofs.Sizes.{small_multiple}
use Rattle.stark_show.proofs.text.shown.Goals as goal

pub shown_list-requires-clause-nodes : goal.shown_list-requires-clause-nodes
shown_list-requires-clause-nodes g c =
    let air = c.args.air.now in
    let ns = air.list.nodes.items in
    nodes_name (tree_layout air.declaration.columns ns) (length air.list.constants.items) 0 ns (all_fit air.declaration.columns air.list.constants.items ns air.list.constraints.items air.without_fault).0

pub shown_list-requires-clause-constraints : goal.shown_list-requires-clause-constraints
shown_list-requires-clause-constraints g c =
    let air = c.args.air.now in
    (all_fit air.declaration.columns air.list.constants.items air.list.nodes.items air.list.constraints.items air.without_fault).1

pub chunk_count-requires : goal.chunk_count-requires
chunk_count-requires g c = c.in_ok-log.ensures.least 64 (small_multiple _)

pub returns-clause-shown : goal.returns-clause-shown
returns-clause-shown g c =
    let log = c.in_ok-log.log in
    record {
      chunks = 2 ^ (log + 0);
      bound = c.in_ok-bound_at.field-0;
      sized = record { log = log; sized = c.in_ok-log.ensures; number = refl };
      bounded = c.in_ok-bound_at.ensures;
      lines = sections_are _ (string_bytes c.in_ok-columns.columns) (string_bytes c.in_ok-list.list.constraints) (string_bytes c.in_ok-list.list.long) (string_bytes c.in_ok-chunks.chunks) (string_bytes c.in_ok-bound.bound) _ _ _ _ _ c.in_ok-text.ensures c.in_ok-columns.ensures c.in_ok-list.ensures.constraints c.in_ok-list.ensures.long (chunks_are _ _ log c.in_ok-chunks.ensures c.chunk_count.ensures) c.in_ok-bound.ensures;
    }

pub returns-clause-whole : goal.returns-clause-whole
returns-clause-whole g c =
    let air = c.args.air.now in
    let ns = air.list.nodes.items in
    let fit = all_fit air.declaration.columns air.list.constants.items ns air.list.constraints.items air.without_fault in
    let names = nodes_name (tree_layout air.declaration.columns ns) (length air.list.constants.items) 0 ns fit.0 in
    whole_are g.F.PrimeField64.number_of air.declaration air.list _ _ (sections_are _ (string_bytes c.in_ok-columns.columns) (string_bytes c.in_ok-list.list.constraints) (string_bytes c.in_ok-list.list.long) (string_bytes c.in_ok-chunks.chunks) (string_bytes c.in_ok-bound.bound) _ _ _ _ _ c.in_ok-text.ensures c.in_ok-columns.ensures c.in_ok-list.ensures.constraints c.in_ok-list.ensures.long refl refl) names fit.1
