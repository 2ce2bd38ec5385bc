use Rattle.std.proofs.Common.{◌<◌, ◌∙◌, arith, get_or, length, map}
use Rattle.stark_tree_air.specs.declared.node.TreeConstraint.TheVariants.{Base}
use Rattle.stark_show.specs.Expressions.{phrase_view}
use Rattle.stark_show.proofs.Passes.{fits_here, one_more_line, read_at}
use Rattle.stark_show.proofs.lines.constraint_lines.Goals as goal

pub loop-number-preserved : goal.loop-number-preserved
loop-number-preserved c =
    let cs = c.args.constraints.now in
    let i = c.loop-number.number in
    let within : i < length cs = omega arith in
    let x = get_or cs i (Base 0) in
    let is = read_at cs i (Base 0) within in (
      one_more_line cs i x within is (map phrase_view c.args.phrases.now) c.args.degrees.now _ _ _ _ c.loop-number.invariant.0
          (c.deref.ensures ∙ c.in_ok-line.ensures)
          c.in_ok-push_str.ensures.bytes,
      (fits_here cs i x within is _ c.loop-number.invariant.1).1,
      (fits_here cs i x within is _ c.loop-number.invariant.2).1,
    )
