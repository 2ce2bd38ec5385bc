use Rattle.std.proofs.Common.{◌+◌, ◌*◌, ap, refl, subst}
use Rattle.std.specs.List.{AllByRecursion}
use Rattle.std.specs.Prelude.{slice_range}
use Rattle.stark_merkle.proofs.ByteSteps.{all_rows, one_more_row}
use Rattle.stark_support.proofs.Places.{from_place}
use Rattle.stark_merkle.specs.Bytes.{element_bytes}
use Rattle.stark_fri_prover.specs.Commit.{HasRow, row_of}
use Rattle.stark_fri_prover.proofs.commit.write_rows_at.Goals as goal

pub loop-matrix-preserved : goal.loop-matrix-preserved
loop-matrix-preserved g c =
    let extended = c.args.extended.now in
    let i = c.loop-matrix.matrix-index in
    let matrix = c.matrix-item.result in
    let start = c.args.place * matrix.width in (
      (subst (AllByRecursion (HasRow c.args.place)) (from_place extended i (i + 1) matrix refl c.loop-matrix-test.true c.matrix-item.is) c.loop-matrix.invariant.0).1,
      one_more_row (element_bytes g.F.PrimeField64.BYTES g.F.PrimeField64.number_of) (row_of c.args.place) extended i matrix (slice_range c.deref.result.now start (start + matrix.width)) c.loop-matrix.bytes.items c.push_row.new.bytes.items _ c.loop-matrix-test.true c.matrix-item.is
          (ap (λ values. slice_range values start (start + matrix.width)) c.deref.ensures.value) c.in_ok-push_row.ensures c.loop-matrix.invariant.1,
    )

pub returns : goal.returns
returns g c =
    all_rows (element_bytes g.F.PrimeField64.BYTES g.F.PrimeField64.number_of) (row_of c.args.place) c.args.extended.now c.loop-matrix.matrix-index c.loop-matrix.bytes.items _ c.loop-matrix-test.false c.loop-matrix.invariant.1
