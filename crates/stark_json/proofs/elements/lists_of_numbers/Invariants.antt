use Rattle.std.proofs.Common.{◌≡◌, drop, map}
use Rattle.serde_json.specs.View.{items_of}
use Rattle.stark_json.specs.Apart.{lists_of, parted, row_data}
use Rattle.stark_json.specs.Elements.{lists_from}
use Rattle.stark_json.proofs.ElementSteps.{with_front}
use Rattle.stark_json.proofs.elements.lists_of_numbers.Given as goal

abbrev pub invariant-loop-index : goal.invariant-loop-index
invariant-loop-index g l =
    with_front (map (λ list. list.items) l.lists.items) (lists_from g.T.JsonCodec.reading l.index (items_of (map row_data (parted (drop l.index l.rows.lengths.items) l.rest))))
    ≡ lists_from g.T.JsonCodec.reading 0 (items_of (map row_data (lists_of l.rows)))
