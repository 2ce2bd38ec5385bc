use Rattle.std.proofs.Common.{◌≡◌, ◌∙◌, ◌+◌, ◌-◌, ◌++◌, [], ◌∷◌, Err, ap, arith, map, rules, suc, sym}
use Rattle.std.specs.Prelude.{IfSome}
use Rattle.std.proofs.lemmas.Grind.{common_steps}
use Rattle.stark_merkle.specs.Tree.{items_of}
use Rattle.stark_proof_bytes.specs.Bytes.{behind, each_reading, list_ops, list_reading, named}
use Rattle.stark_proof_bytes.specs.BytesFacts.{all_read, list_laws, no_more, one_more, stated_more}
use Rattle.stark_proof_bytes.proofs.lists.read_lists.Goals as goal

pub returns-in_err-list : goal.returns-in_err-list
returns-in_err-list g c =
    let ops = list_ops g.T.BytesCodec.bytes in
    let left = c.in_ok-count.count - c.loop-place._place in
    let next = c.in_ok-count.count - (c.loop-place._place + 1) in
    let falls : left ≡ suc next = omega arith in
    let read_so_far = map items_of c.loop-place.lists.items in
    let stated : IfSome (named c.in_err-list.field-0.0) (λ fault. list_reading ops c.args.reader.now ≡ Err fault) =
    stated_more c.in_err-list.field-0.0 (ops.reading c.loop-place.reader) (list_reading ops c.args.reader.now)
    (λ fault is. c.loop-place.invariant ∙ no_more ops (list_laws g.T.BytesCodec.bytes g.met.T.BytesCodec.bytes_laws) left next c.loop-place.reader fault read_so_far falls is) c.in_err-list.ensures in
    search rules

pub loop-place-preserved : goal.loop-place-preserved
loop-place-preserved g c =
    let ops = list_ops g.T.BytesCodec.bytes in
    let left = c.in_ok-count.count - c.loop-place._place in
    let next = c.in_ok-count.count - (c.loop-place._place + 1) in
    let falls : left ≡ suc next = omega arith in
    let read_so_far = map items_of c.loop-place.lists.items in
    let grown : map items_of c.push.new.self.items ≡ read_so_far ++ items_of c.in_ok-list.list ∷ [] = grind (arith, common_steps) in
    c.loop-place.invariant ∙ one_more ops (list_laws g.T.BytesCodec.bytes g.met.T.BytesCodec.bytes_laws) left next c.loop-place.reader (items_of c.in_ok-list.list) c.read_list.new.reader read_so_far falls c.in_ok-list.ensures
    ∙ ap (λ xs. behind xs (each_reading ops next c.read_list.new.reader)) (sym grown)

pub returns : goal.returns
returns g c =
    let ops = list_ops g.T.BytesCodec.bytes in
    let left = c.in_ok-count.count - c.loop-place._place in
    let none : left ≡ 0 = omega arith in
    c.loop-place.invariant ∙ all_read ops (list_laws g.T.BytesCodec.bytes g.met.T.BytesCodec.bytes_laws) left c.loop-place.reader (map items_of c.loop-place.lists.items) none
