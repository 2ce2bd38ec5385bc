-- Commitments in parts as bytes: the whole or the first part, and after it the other part, if there is one.
use Rattle.std.specs.Prelude.{◌≡◌, Option, None, Some, refl}
use Rattle.stark_two_part.specs.declared.in_parts.InParts.{InParts}
use Rattle.stark_two_part.specs.declared.in_parts.InParts.TheVariants.{Whole, Parts}
use Rattle.stark_proof_bytes.specs.Bytes.{BytesLaws, BytesOps, option_ops, pair_ops, turned_ops}
use Rattle.stark_proof_bytes.specs.BytesFacts.{option_laws, pair_laws, turned_laws}

abbrev pub taken_apart : {K : Type 0} → InParts K → K × Option K
taken_apart (Whole k) = (k, None)
taken_apart (Parts k l) = (k, Some l)

abbrev pub put_together : {K : Type 0} → K × Option K → InParts K
put_together (k, None) = Whole k
put_together (k, Some l) = Parts k l

abbrev pub parts_ops : {K : Type 0} → BytesOps K → BytesOps (InParts K)
parts_ops ops = turned_ops taken_apart put_together (pair_ops ops (option_ops ops))

together : {K : Type 0} (x : InParts K) → put_together (taken_apart x) ≡ x
together (Whole k) = refl
together (Parts k l) = refl

apart : {K : Type 0} (x : K × Option K) → taken_apart (put_together x) ≡ x
apart (k, None) = refl
apart (k, Some l) = refl

pub parts_laws : {K : Type 0} (ops : BytesOps K) → BytesLaws ops → BytesLaws (parts_ops ops)
parts_laws ops laws = turned_laws taken_apart put_together together apart (pair_ops ops (option_ops ops)) (pair_laws ops (option_ops ops) laws (option_laws ops laws))
