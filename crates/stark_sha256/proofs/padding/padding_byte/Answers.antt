use Rattle.std.proofs.Common.{◌≡◌, ◌*◌, ◌%◌, ◌^◌, ◌-◌, arith, sym}
use Rattle.stark_sha256.proofs.TextFacts.{padding_length}
use Rattle.stark_sha256.proofs.padding.padding_byte.Goals as goal

pub returns-else-at-zeros : goal.returns-else-at-zeros
returns-else-at-zeros c =
    let bits : 8 * c.args.len ≡ c.args.len * 8 % 2 ^ 64 = omega arith in
    rw (c.to_be_bytes.ensures, bits)
    (let place = c.args.at - 1 - c.zeros_behind-zeros.result in
    sym (padding_length c.args.len c.args.at place (omega arith)))
