use Rattle.std.proofs.Common.{◌≡◌, ◌<◌, ◌++◌, ◌∷◌, ◌∙◌, [], None, Some, ap, append-nil, append_assoc, length, refl, subst, sym, arith}
use Rattle.json.specs.Json.{after_end_array}
use Rattle.stark_json.specs.Apart.{number_data}
use Rattle.stark_json.specs.Tokens.{value_at}
use Rattle.stark_json.proofs.SoFar.{item_more, items_ended, no_item_yet}
use Rattle.stark_json.proofs.rows.read_numbers.Goals as goal

pub items-init : goal.items-init
items-init c = ([], sym (append-nil _), no_item_yet number_data c.args.depth c.args.reader.now [] refl)

pub items-preserved : goal.items-preserved
items-preserved c =
    let going : (after_end_array c.items.reader ≡ None) × (c.take_end_array.new.self ≡ c.items.reader) = grind arith in
    let rest = c.read_number.new.reader in
    let n = c.in_ok-number.number in
    let row = c.items.invariant.0 in
    let one = subst (λ ts. value_at c.args.depth ts ≡ Some (number_data n, rest)) going.1 (c.in_ok-number.ensures.read c.args.depth) in
    let less = subst (λ ts. length rest < length ts) going.1 c.in_ok-number.ensures.shorter in (
      row ++ n ∷ [],
      c.in_ok-push.ensures.items ∙ ap (λ ns. ns ++ n ∷ []) c.items.invariant.1 ∙ append_assoc c.args.numbers.now.items row (n ∷ []),
      item_more number_data c.args.depth c.args.reader.now c.items.reader rest row _ n c.items.invariant.2 going.0 one less refl,
    )

pub returns-clause-read : goal.returns-clause-read
returns-clause-read c =
    let over : after_end_array c.items.reader ≡ Some c.take_end_array.new.self = grind arith in
    let row = c.items.invariant.0 in
    (row, c.items.invariant.1, (items_ended number_data c.args.depth c.args.reader.now c.items.reader c.take_end_array.new.self row c.items.invariant.2 over).0)

pub returns-clause-shorter : goal.returns-clause-shorter
returns-clause-shorter c =
    let over : after_end_array c.items.reader ≡ Some c.take_end_array.new.self = grind arith in
    (items_ended number_data c.args.depth c.args.reader.now c.items.reader c.take_end_array.new.self c.items.invariant.0 c.items.invariant.2 over).1
