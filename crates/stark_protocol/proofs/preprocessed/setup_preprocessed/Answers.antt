use Rattle.std.proofs.Common.{option_map, ap, arith, sym, ◌∙◌}
use Rattle.stark_air.specs.Declaration.{Trace}
use Rattle.stark_support.specs.declared.matrix.RowMajorMatrix.{RowMajorMatrix}
use Rattle.stark_protocol.proofs.preprocessed.setup_preprocessed.Goals as goal

pub committed_trace-requires-clause-height : goal.committed_trace-requires-clause-height
committed_trace-requires-clause-height g c =
    c.requires.height (record { width = c.in-Some.trace.width; values = c.in-Some.trace.values.items })
    (sym c.in_ok-trace.ensures ∙ ap (λ o. option_map (λ (m : RowMajorMatrix _). let trace : Trace _ = record { width = m.width; values = m.values.items } in trace) o) c.in-Some.is)
    (omega (arith, c.if-width-eq0.false, c.width.ensures))

pub committed_trace-requires-clause-within : goal.committed_trace-requires-clause-within
committed_trace-requires-clause-within g c =
    c.requires.within (record { width = c.in-Some.trace.width; values = c.in-Some.trace.values.items })
    (sym c.in_ok-trace.ensures ∙ ap (λ o. option_map (λ (m : RowMajorMatrix _). let trace : Trace _ = record { width = m.width; values = m.values.items } in trace) o) c.in-Some.is)
    (omega (arith, c.if-width-eq0.false, c.width.ensures))
