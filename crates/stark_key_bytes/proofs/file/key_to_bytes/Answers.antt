use Rattle.std.proofs.Common.{◌≡◌, ◌∙◌, ap, rules}
use Rattle.stark_key_bytes.specs.KeyBytes.{key_reading, key_writing}
use Rattle.stark_key_bytes.proofs.KeyLaws.{written_is_read}
use Rattle.stark_key_bytes.proofs.file.key_to_bytes.Goals as goal

pub returns-clause-read_back : goal.returns-clause-read_back
returns-clause-read_back g c =
    let ops = g.Com.BytesCodec.bytes in
    let written : c.write_key.new.out.items ≡ key_writing ops c.args.key.now = search rules in
    ap (λ bytes. key_reading ops bytes) written ∙ written_is_read ops g.met.Com.BytesCodec.bytes_laws c.args.key.now c.in_ok-write_key.ensures.fits
