use Rattle.std.proofs.Common.{◌≡◌, ◌<◌, ◌-◌, ◌++◌, ◌∷◌, ◌∙◌, [], None, Some, ap, length, length-append, map, refl, subst, sym, arith}
use Rattle.json.specs.Json.{after_end_array}
use Rattle.serde_json.specs.View.{items_of}
use Rattle.stark_json.specs.Apart.{row_data}
use Rattle.stark_json.specs.Tokens.{value_at}
use Rattle.stark_json.proofs.Parted.{row_behind, rows_parted}
use Rattle.stark_json.proofs.SoFar.{item_more, items_ended, no_item_yet}
use Rattle.stark_json.proofs.rows.read_more.Goals as goal

pub items-init : goal.items-init
items-init c =
    ([], record { numbers_are = c.new-numbers.ensures.items; lengths_are = c.new-lengths.ensures.items }, no_item_yet row_data c.args.depth c.args.reader.now [] refl)

pub items-preserved : goal.items-preserved
items-preserved c =
    let going : (after_end_array c.items.reader ≡ None) × (c.take_end_array.new.self ≡ c.items.reader) = grind arith in
    let rest = c.read_row.new.reader in
    let read = c.in_ok-read_row.ensures.read in
    let row = read.0 in
    let rows = c.items.invariant.0 in
    let one = subst (λ ts. value_at c.args.depth ts ≡ Some (row_data row, rest)) going.1 read.2 in
    let less = subst (λ ts. length rest < length ts) going.1 c.in_ok-read_row.ensures.shorter in (
      rows ++ row ∷ [],
      row_behind c.items.numbers.items _ c.items.lengths.items _ _ row rows c.items.invariant.1 read.1 c.in_ok-push.ensures.items (omega (arith, ap length read.1, length-append c.items.numbers.items row)),
      item_more row_data c.args.depth c.args.reader.now c.items.reader rest rows _ row c.items.invariant.2 going.0 one less refl,
    )

pub overflow_sub-len : goal.overflow_sub-len
overflow_sub-len c = let read = c.in_ok-read_row.ensures.read in omega (arith, ap length read.1, length-append c.items.numbers.items read.0)

pub returns-clause-read : goal.returns-clause-read
returns-clause-read c =
    let over : after_end_array c.items.reader ≡ Some c.take_end_array.new.self = grind arith in
    let rows = c.items.invariant.0 in
    let r = c.take_end_array.new.self in
    (items_ended row_data c.args.depth c.args.reader.now c.items.reader r rows c.items.invariant.2 over).0
    ∙ ap (λ lists. Some (items_of (map row_data lists), r)) (sym (rows_parted c.items.numbers.items c.items.lengths.items rows c.items.invariant.1))

pub returns-clause-shorter : goal.returns-clause-shorter
returns-clause-shorter c =
    let over : after_end_array c.items.reader ≡ Some c.take_end_array.new.self = grind arith in
    (items_ended row_data c.args.depth c.args.reader.now c.items.reader c.take_end_array.new.self c.items.invariant.0 c.items.invariant.2 over).1
