use Rattle.std.proofs.Common.{◌≡◌, ◌∙◌, ◌+◌, ◌-◌, ◌++◌, [], ◌∷◌, Err, ap, arith, rules, suc, sym}
use Rattle.std.specs.Prelude.{IfSome}
use Rattle.std.proofs.lemmas.Grind.{common_steps}
use Rattle.stark_proof_bytes.specs.Bytes.{behind, each_reading, list_reading, named}
use Rattle.stark_proof_bytes.specs.BytesFacts.{all_read, no_more, one_more, stated_more}
use Rattle.stark_proof_bytes.proofs.lists.read_list.Goals as goal

pub returns-in_err-value : goal.returns-in_err-value
returns-in_err-value g c =
    let ops = g.T.BytesCodec.bytes in
    let left = c.in_ok-count.count - c.loop-place._place in
    let next = c.in_ok-count.count - (c.loop-place._place + 1) in
    let falls : left ≡ suc next = omega arith in
    let read_so_far = c.loop-place.values.items in
    let stated : IfSome (named c.in_err-value.field-0.0) (λ fault. list_reading ops c.args.reader.now ≡ Err fault) =
    stated_more c.in_err-value.field-0.0 (ops.reading c.loop-place.reader) (list_reading ops c.args.reader.now)
    (λ fault is. c.loop-place.invariant ∙ no_more ops (g.met.T.BytesCodec.bytes_laws) left next c.loop-place.reader fault read_so_far falls is) c.in_err-value.ensures in
    search rules

pub loop-place-preserved : goal.loop-place-preserved
loop-place-preserved g c =
    let ops = g.T.BytesCodec.bytes in
    let left = c.in_ok-count.count - c.loop-place._place in
    let next = c.in_ok-count.count - (c.loop-place._place + 1) in
    let falls : left ≡ suc next = omega arith in
    let read_so_far = c.loop-place.values.items in
    let grown : c.push.new.self.items ≡ read_so_far ++ c.in_ok-value.value ∷ [] = grind (arith, common_steps) in
    c.loop-place.invariant ∙ one_more ops (g.met.T.BytesCodec.bytes_laws) left next c.loop-place.reader (c.in_ok-value.value) c.read_from.new.reader read_so_far falls c.in_ok-value.ensures
    ∙ ap (λ xs. behind xs (each_reading ops next c.read_from.new.reader)) (sym grown)

pub returns : goal.returns
returns g c =
    let ops = g.T.BytesCodec.bytes in
    let left = c.in_ok-count.count - c.loop-place._place in
    let none : left ≡ 0 = omega arith in
    c.loop-place.invariant ∙ all_read ops (g.met.T.BytesCodec.bytes_laws) left c.loop-place.reader (c.loop-place.values.items) none
