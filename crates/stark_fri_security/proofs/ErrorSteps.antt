-- The bounds that are answered for columns and chunks of degree at most the height.
use Rattle.std.proofs.Common.{◌≡◌, ◌∙◌, ap, sym, subst, refl, arith, ℕ, ◌+◌, ◌-◌, ◌*◌, ◌^◌, ◌<◌, ◌≤◌, max, List, Option, Some, None}
use Rattle.stark_support.specs.Ring.{RingOps, FieldLaws}
use Rattle.stark_support.specs.Powers.{power}
use Rattle.stark_support.specs.KeepsRing.{kept_power}
use Rattle.stark_support.specs.Embedding.{IsEmbedding}
use Rattle.stark_support.specs.TwoAdic.{HasOrder}
use Rattle.stark_support.specs.Logarithm.{IsCeilingOfLog}
use Rattle.stark_support.specs.LogarithmFacts.{two_power_at_most}
use Rattle.stark_air.specs.Tree.{Constraint}
use Rattle.stark_parts.specs.ConstraintBound.{greatest_bound}
use Rattle.stark_parts.specs.Sizing.{constraint_degree, quotient_multiple}
use Rattle.stark_symbolic.specs.Fitting.{fitting, past}
use Rattle.stark_symbolic.specs.LeafDegrees.{greatest_degree_by}
use Rattle.stark_symbolic.specs.declared.leaf_degrees.LeafDegrees.{LeafDegrees}
use Rattle.stark_security.specs.ConstraintPolynomial.{AirInstance}
use Rattle.stark_security.specs.DegreeBound.{alpha_bound, bound_leaves, zeta_bound}
use Rattle.stark_security.specs.ErrorBound.{FewBadDraws, IsChunkCount}
use Rattle.stark_security.proofs.BoundSteps.{bound_found, bound_missing, greatest_bound_is_degree, quotient_points}
use Rattle.stark_security.proofs.ErrorBoundSteps.{few_bad_draws, same_ceiling}
use Rattle.stark_security.proofs.Fitting.{some_fits}
use Rattle.stark_fri_security.specs.FriErrors.{IsFriErrorBound}

no_more : (a : ℕ) → a + 0 ≡ a
no_more a = omega arith

column_degree : (a : ℕ) → a + 1 - 1 ≡ a
column_degree a = omega arith

none_taken : (a : ℕ) → a - 0 ≡ a
none_taken a = omega arith

above : (x a n b c : ℕ) → x ≤ n → x ≤ max a (n + b + c)
above x a n b c h = omega arith

-- The degrees of leaves that are answered.
pub leaves_answered : (n : ℕ) → record { column = n; periodic = n - 1; boundary = n - 1; transition = 1 } ≡ bound_leaves (n + 1) n
leaves_answered n = ap (λ (c : ℕ). record { column = c; periodic = n - 1; boundary = n - 1; transition = 1 }) (sym (column_degree n))

module _ {F : Type 0} (constraints : List (Constraint F)) (hint : Option ℕ) (k log : ℕ) (sized : IsCeilingOfLog log (quotient_multiple (constraint_degree 0 constraints hint) 0)) where
  abbrev zetas_bound : ℕ
  zetas_bound = zeta_bound (2 ^ k + 1) (2 ^ k) (2 ^ log) constraints

  chunk_count : IsChunkCount 0 constraints hint 0 (2 ^ log)
  chunk_count = record { log = log; sized = sized; number = ap (λ l. 2 ^ l) (sym (no_more log)) }

  recomposed_degree : 2 ^ k + (2 ^ log - 1) * 2 ^ k + (2 ^ k + 1 - 1) ≡ 2 ^ (log + k) + 2 ^ k
  recomposed_degree =
      let points : 2 ^ k + (2 ^ (log + 0) - 1) * 2 ^ k ≡ 2 ^ (log + k) = subst (λ t. 2 ^ t + (2 ^ (log + 0) - 1) * 2 ^ t ≡ 2 ^ (log + k)) (none_taken k) (quotient_points log k 0 (omega arith)) in
      let plain : 2 ^ k + (2 ^ log - 1) * 2 ^ k ≡ 2 ^ (log + k) = subst (λ t. 2 ^ k + (2 ^ t - 1) * 2 ^ k ≡ 2 ^ (log + k)) (no_more log) points in
      ap (λ t. t + (2 ^ k + 1 - 1)) plain ∙ ap (λ t. 2 ^ (log + k) + t) (column_degree (2 ^ k))

  -- The bound on zetas, by the two numbers of which it is the greater.
  pub zetas_answered : (leaves : LeafDegrees) (second recomposed answer : Option ℕ) → leaves ≡ bound_leaves (2 ^ k + 1) (2 ^ k) → second ≡ fitting (greatest_degree_by leaves constraints) → recomposed ≡ fitting (2 ^ (log + k) + 2 ^ k)
      → ((a b : ℕ) → second ≡ fitting a → recomposed ≡ fitting b → answer ≡ fitting (max a b)) → answer ≡ fitting zetas_bound
  zetas_answered leaves second recomposed answer are second_fits recomposed_fits greater =
      let bound = greatest_bound (2 ^ k + 1) (2 ^ k) constraints in
      let folded : second ≡ fitting bound = second_fits ∙ ap (λ l. fitting (greatest_degree_by l constraints)) are ∙ ap fitting (sym (greatest_bound_is_degree (2 ^ k + 1) (2 ^ k) constraints)) in
      greater bound (2 ^ (log + k) + 2 ^ k) folded recomposed_fits ∙ ap (λ b. fitting (max bound b)) (sym recomposed_degree)

  pub bound_answered : (n z : ℕ) → n ≡ alpha_bound constraints → Some z ≡ fitting zetas_bound → IsFriErrorBound constraints hint k (Some (n, z))
  bound_answered n z is fit = record { chunks = 2 ^ log; sized = chunk_count; exact = bound_found (alpha_bound constraints) zetas_bound n z is fit }

  pub no_bound_answered : None ≡ fitting zetas_bound → IsFriErrorBound constraints hint k None
  no_bound_answered none = record { chunks = 2 ^ log; sized = chunk_count; exact = bound_missing (alpha_bound constraints) zetas_bound none }

  too_high : 63 < k → 2 ^ 64 ≤ zetas_bound
  too_high high = let rows : 2 ^ 64 ≤ 2 ^ k = two_power_at_most 64 k high in above (2 ^ 64) (greatest_bound (2 ^ k + 1) (2 ^ k) constraints) (2 ^ k) ((2 ^ log - 1) * 2 ^ k) (2 ^ k + 1 - 1) rows

  -- From 2^64 rows on it is no number of 64 bits.
  pub no_bound_above : 63 < k → IsFriErrorBound constraints hint k None
  no_bound_above high = no_bound_answered (sym (past zetas_bound (too_high high)))

  module _ {E : Type 0} {base : RingOps F} (base_inverse : F → F) {ring : RingOps E} {inverse : E → E} {embed : F → E} (laws : FieldLaws ring inverse) (embeds : IsEmbedding base ring embed)
      (basis : List E) (generator : F) (order : HasOrder base generator (2 ^ k)) (periodic : List (List F)) where
    -- The numbers that are answered bound the bad draws.
    pub answered_counts : (chunks n z : ℕ) → IsChunkCount 0 constraints hint 0 chunks → n ≡ alpha_bound constraints → Some z ≡ fitting zetas_bound
        → FewBadDraws (record { base = base; base_inverse = base_inverse; ring = ring; inverse = inverse; embed = embed; basis = basis; generator = generator; log_size = k; constraints = constraints; periodic = periodic }) (2 ^ k + 1) chunks n z
    answered_counts chunks n z count is fit =
        let over_rows : AirInstance F E = record { base = base; base_inverse = base_inverse; ring = ring; inverse = inverse; embed = embed; basis = basis; generator = generator; log_size = k; constraints = constraints; periodic = periodic } in
        let same_log = same_ceiling count.log log _ count.sized sized in
        let number : chunks ≡ 2 ^ log = count.number ∙ ap (λ l. 2 ^ (l + 0)) same_log ∙ ap (λ l. 2 ^ l) (no_more log) in
        let reaches : power ring (embed generator) (2 ^ k) ≡ ring.one =
        sym (kept_power embeds.keeps generator (embed generator) (2 ^ k) refl) ∙ ap embed order.reaches ∙ embeds.keeps.one in
        let counts = few_bad_draws over_rows laws reaches (2 ^ k + 1) (2 ^ log) in
        subst (λ c. FewBadDraws over_rows (2 ^ k + 1) c n z) (sym number)
        (subst (λ a. FewBadDraws over_rows (2 ^ k + 1) (2 ^ log) a z) (sym is)
        (subst (λ b. FewBadDraws over_rows (2 ^ k + 1) (2 ^ log) (alpha_bound constraints) b) (sym (some_fits zetas_bound z fit).1) counts))
