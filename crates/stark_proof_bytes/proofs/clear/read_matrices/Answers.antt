use Rattle.std.proofs.Common.{◌≡◌, ◌∙◌, ◌+◌, ◌-◌, ◌++◌, [], ◌∷◌, Err, ap, arith, map, rules, suc, sym}
use Rattle.std.specs.Prelude.{IfSome}
use Rattle.std.proofs.lemmas.Grind.{common_steps}
use Rattle.stark_merkle.specs.Tree.{items_of}
use Rattle.stark_bench.specs.CommitmentJson.{matrices_list}
use Rattle.stark_proof_bytes.specs.Bytes.{behind, each_reading, list_ops, list_reading, named}
use Rattle.stark_proof_bytes.specs.BytesFacts.{all_read, list_laws, no_more, one_more, stated_more}
use Rattle.stark_proof_bytes.proofs.clear.read_matrices.Goals as goal

pub returns-in_err-matrix : goal.returns-in_err-matrix
returns-in_err-matrix g c =
    let ops = list_ops (list_ops g.F.BytesCodec.bytes) in
    let left = c.in_ok-count.count - c.loop-place._place in
    let next = c.in_ok-count.count - (c.loop-place._place + 1) in
    let falls : left ≡ suc next = omega arith in
    let read_so_far = matrices_list c.loop-place.matrices.items in
    let stated : IfSome (named c.in_err-matrix.field-0.0) (λ fault. list_reading ops c.args.reader.now ≡ Err fault) =
    stated_more c.in_err-matrix.field-0.0 (ops.reading c.loop-place.reader) (list_reading ops c.args.reader.now)
    (λ fault is. c.loop-place.invariant ∙ no_more ops (list_laws (list_ops g.F.BytesCodec.bytes) (list_laws g.F.BytesCodec.bytes g.met.F.BytesCodec.bytes_laws)) left next c.loop-place.reader fault read_so_far falls is) c.in_err-matrix.ensures in
    search rules

pub loop-place-preserved : goal.loop-place-preserved
loop-place-preserved g c =
    let ops = list_ops (list_ops g.F.BytesCodec.bytes) in
    let left = c.in_ok-count.count - c.loop-place._place in
    let next = c.in_ok-count.count - (c.loop-place._place + 1) in
    let falls : left ≡ suc next = omega arith in
    let read_so_far = matrices_list c.loop-place.matrices.items in
    let grown : matrices_list c.push.new.self.items ≡ read_so_far ++ (map items_of c.in_ok-matrix.matrix.items) ∷ [] = grind (arith, common_steps) in
    c.loop-place.invariant ∙ one_more ops (list_laws (list_ops g.F.BytesCodec.bytes) (list_laws g.F.BytesCodec.bytes g.met.F.BytesCodec.bytes_laws)) left next c.loop-place.reader (map items_of c.in_ok-matrix.matrix.items) c.read_lists.new.reader read_so_far falls c.in_ok-matrix.ensures
    ∙ ap (λ xs. behind xs (each_reading ops next c.read_lists.new.reader)) (sym grown)

pub returns : goal.returns
returns g c =
    let ops = list_ops (list_ops g.F.BytesCodec.bytes) in
    let left = c.in_ok-count.count - c.loop-place._place in
    let none : left ≡ 0 = omega arith in
    c.loop-place.invariant ∙ all_read ops (list_laws (list_ops g.F.BytesCodec.bytes) (list_laws g.F.BytesCodec.bytes g.met.F.BytesCodec.bytes_laws)) left c.loop-place.reader (matrices_list c.loop-place.matrices.items) none
