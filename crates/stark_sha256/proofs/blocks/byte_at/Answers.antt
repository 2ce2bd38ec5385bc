use Rattle.std.proofs.Common.{◌<◌, ◌+◌, ◌-◌, ◌∙◌, ap, arith, length, slice_index, subst, sym}
use Rattle.stark_sha256.proofs.TextFacts.{byte_in_first, byte_in_padding, byte_in_second, first_byte, piece_at}
use Rattle.stark_sha256.proofs.blocks.byte_at.Goals as goal

pub bounds-texts-at : goal.bounds-texts-at
bounds-texts-at g c =
    let texts = c.args.texts.now in
    let long = texts.first_alike c.args.j c.requires.lane in
    subst (λ x. c.args.at - 1 < length x) (piece_at texts.first.now c.args.j) (omega (arith, long))

pub bounds-texts-at-then-at-len : goal.bounds-texts-at-then-at-len
bounds-texts-at-then-at-len g c =
    let texts = c.args.texts.now in
    let long = texts.second_alike c.args.j c.requires.lane in
    subst (λ x. c.args.at - (1 + texts.first_len) < length x) (piece_at texts.second.now c.args.j) (omega (arith, long))

pub returns-then-at-eq0 : goal.returns-then-at-eq0
returns-then-at-eq0 g c =
    let texts = c.args.texts.now in
    rw c.if-at-eq0.true (sym (first_byte texts c.args.j))

pub returns-then-at-second_at : goal.returns-then-at-second_at
returns-then-at-second_at g c =
    let texts = c.args.texts.now in
    ap (λ x. slice_index x (c.args.at - 1)) (sym (piece_at texts.first.now c.args.j))
    ∙ sym (byte_in_first texts c.args.j c.args.at c.requires.lane (omega arith) (omega arith))

pub returns-then-at-len : goal.returns-then-at-len
returns-then-at-len g c =
    let texts = c.args.texts.now in
    ap (λ x. slice_index x (c.args.at - (1 + texts.first_len))) (sym (piece_at texts.second.now c.args.j))
    ∙ sym (byte_in_second texts c.args.j c.args.at c.requires.lane (omega arith) (omega arith))

pub returns : goal.returns
returns g c = c.padding_byte.ensures ∙ sym (byte_in_padding c.args.texts.now c.args.j c.args.at c.requires.lane (omega arith))
