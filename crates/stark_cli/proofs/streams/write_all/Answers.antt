use Rattle.std.proofs.Common.{rules, subst, sym}
use Rattle.std.proofs.Math.Seq.{take-add}
use Rattle.std.proofs.lemmas.List.{take_rest}
use Rattle.std.proofs.KnownBytes.{Appends-trans}
use Rattle.std.specs.Io.KnownBytes.{Appends}
use Rattle.stark_cli.proofs.streams.write_all.Goals as goal

pub pieces-preserved : goal.pieces-preserved
pieces-preserved g c =
    let written = rw (take_rest c.args.bytes.now c.pieces.done) at c.in-Ok.ensures.bytes in (
      search rules,
      search rules,
      subst (Appends _ _) (sym (take-add c.pieces.done c.in-Ok.count c.args.bytes.now))
          (Appends-trans _ _ _ _ _ c.pieces.invariant.2 written),
    )
