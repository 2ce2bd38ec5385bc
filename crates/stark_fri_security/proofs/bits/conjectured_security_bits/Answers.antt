use Rattle.std.proofs.Common.{◌≡◌, ◌∙◌, ◌-◌, ◌^◌, ap, arith}
use Rattle.std.specs.Prelude.{min}
use Rattle.stark_fri_security.proofs.Saturation.{least_saturates}
use Rattle.stark_fri_security.proofs.bits.conjectured_security_bits.Goals as goal

-- what the code finds, as a least number
pub returns : goal.returns
returns c =
    let queries = c.saturating_add-queries.result in
    let batch = c.saturating_sub-batch.result in
    let point = c.saturating_sub-point.result in
    let constraints = c.saturating_sub-constraints.result in
    let strength = c.args.params.now.collision_resistance in
    let obtained : c.saturating_sub-3.result ≡ min (min (min (min queries batch) point) constraints) strength - 1 =
    c.saturating_sub-3.ensures ∙ ap (λ t. t - 1) (c.min-3.ensures ∙ ap (λ t. min t strength) (c.min-least.ensures ∙ ap (λ t. min t constraints) (c.min-2.ensures ∙ ap (λ t. min t point) c.min.ensures))) in
    let unsaturated = ap (λ t. t - 1) (least_saturates (2 ^ 64 - 1) _ _ c.saturating_mul.result queries batch point constraints strength (omega arith) c.saturating_mul.ensures c.saturating_add-queries.ensures) in record {
      log_batch = c.log2_ceil_usize-log_batch.result;
      log_degree = c.log2_ceil_usize-log_degree.result;
      log_constraints = c.log2_ceil_usize-log_constraints.result;
      batch = rw c.max.ensures at c.log2_ceil_usize-log_batch.ensures;
      degree = rw (c.max-2.ensures, c.max-degree.ensures) at c.log2_ceil_usize-log_degree.ensures;
      constraints = rw c.max-3.ensures at c.log2_ceil_usize-log_constraints.ensures;
      least = obtained ∙ unsaturated ∙ (cc);
    }
