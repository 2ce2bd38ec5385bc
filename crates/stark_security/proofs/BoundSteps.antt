-- The bounds that are answered, by the degrees of an AIR's constraints.
use Rattle.std.proofs.Common.{◌≡◌, ◌∙◌, ap, sym, subst, refl, arith, ℕ, zero, suc, ◌+◌, ◌-◌, ◌*◌, ◌^◌, ◌≤◌, max, unwrap_or, Option, None, Some, List, [], ◌∷◌}
use Rattle.std.proofs.lemmas.Nat.{pow-add}
use Rattle.stark_support.specs.Logarithm.{IsCeilingOfLog}
use Rattle.stark_support.specs.LogarithmFacts.{two_power_at_most}
use Rattle.stark_air.specs.Tree.{Tree, Constraint, base, extension, constant, main_current, main_next, preprocessed_current, preprocessed_next, public_value, periodic_value, first_row, last_row, transition, sum, difference, product, negation}
use Rattle.stark_symbolic.specs.Degree.{greatest_degree}
use Rattle.stark_symbolic.specs.Fitting.{fitting, is_below, not_below, past, saturated_fits}
use Rattle.stark_symbolic.specs.LeafDegrees.{degree_by, greatest_degree_by, greatest_is_saturated, trace_multiples}
use Rattle.stark_symbolic.specs.Symbolic.{ap_two}
use Rattle.stark_symbolic.specs.declared.leaf_degrees.LeafDegrees.{LeafDegrees}
use Rattle.stark_parts.specs.ConstraintBound.{tree_bound, greatest_bound}
use Rattle.stark_parts.specs.Sizing.{constraint_degree, quotient_multiple}
use Rattle.stark_security.specs.DegreeBound.{bound_leaves, error_bound, zeta_bound}
use Rattle.stark_security.proofs.Fitting.{some_fits, none_past}

module _ {F : Type 0} (m n : ℕ) where
  -- The bound of a tree is its degree over these leaves.
  bound_is_degree : (t : Tree F) → tree_bound m n t ≡ degree_by (bound_leaves m n) t
  bound_is_degree (constant k) = refl
  bound_is_degree (main_current c) = refl
  bound_is_degree (main_next c) = refl
  bound_is_degree (preprocessed_current c) = refl
  bound_is_degree (preprocessed_next c) = refl
  bound_is_degree (public_value i) = refl
  bound_is_degree (periodic_value c) = refl
  bound_is_degree first_row = refl
  bound_is_degree last_row = refl
  bound_is_degree transition = refl
  bound_is_degree (sum t u) = ap_two max (bound_is_degree t) (bound_is_degree u)
  bound_is_degree (difference t u) = ap_two max (bound_is_degree t) (bound_is_degree u)
  bound_is_degree (product t u) = ap_two (λ (a : ℕ) (b : ℕ). a + b) (bound_is_degree t) (bound_is_degree u)
  bound_is_degree (negation t) = bound_is_degree t

  pub greatest_bound_is_degree : (cs : List (Constraint F)) → greatest_bound m n cs ≡ greatest_degree_by (bound_leaves m n) cs
  greatest_bound_is_degree [] = refl
  greatest_bound_is_degree (base t ∷ cs) = ap_two max (bound_is_degree t) (greatest_bound_is_degree cs)
  greatest_bound_is_degree (extension t ∷ cs) = ap_two max (bound_is_degree t) (greatest_bound_is_degree cs)

-- The number of chunks that is answered, by the greatest degree multiple as far as 64 bits hold it.
chunks_answered : {F : Type 0} (cs : List (Constraint F)) (hint : Option ℕ) (is_zk log : ℕ) (leaves : LeafDegrees) (first : Option ℕ) (degree : ℕ) → leaves ≡ trace_multiples 0 → first ≡ fitting (greatest_degree_by leaves cs)
    → degree ≡ unwrap_or first (2 ^ 64 - 1) → IsCeilingOfLog log (quotient_multiple (max degree (unwrap_or hint 0)) is_zk) → IsCeilingOfLog log (quotient_multiple (constraint_degree 0 cs hint) is_zk)
chunks_answered cs hint is_zk log leaves first degree are fit is sized =
    let exact : degree ≡ greatest_degree 0 cs =
    is ∙ ap (λ x. unwrap_or x (2 ^ 64 - 1)) (fit ∙ ap (λ l. fitting (greatest_degree_by l cs)) are) ∙ saturated_fits (greatest_degree_by (trace_multiples 0) cs) ∙ sym (greatest_is_saturated 0 (omega arith) cs) in
    subst (λ d. IsCeilingOfLog log (quotient_multiple (max d (unwrap_or hint 0)) is_zk)) exact sized

whole_times : (m n : ℕ) → 1 ≤ m → n + (m - 1) * n ≡ m * n
whole_times zero n h = absurd (omega arith)
whole_times (suc k) n h = let less : suc k - 1 ≡ k = omega arith in rw less (omega arith)

-- all chunks' cosets together have 2 ^ (log + degree_bits) points
pub quotient_points : (log degree_bits is_zk : ℕ) → is_zk ≤ degree_bits → 2 ^ (degree_bits - is_zk) + (2 ^ (log + is_zk) - 1) * 2 ^ (degree_bits - is_zk) ≡ 2 ^ (log + degree_bits)
quotient_points log degree_bits is_zk h =
    let sum : (log + is_zk) + (degree_bits - is_zk) ≡ log + degree_bits = omega arith in
    whole_times (2 ^ (log + is_zk)) (2 ^ (degree_bits - is_zk)) (two_power_at_most 0 (log + is_zk) (omega arith)) ∙ sym (pow-add 2 (log + is_zk) (degree_bits - is_zk)) ∙ ap (λ e. 2 ^ e) sum

-- the degree of Z_H times the recomposed chunks
pub recomposed_degree : (log degree_bits is_zk : ℕ) → is_zk ≤ degree_bits
    → 2 ^ (degree_bits - is_zk) + (2 ^ (log + is_zk) - 1) * 2 ^ (degree_bits - is_zk) + (2 ^ degree_bits - 1) ≡ 2 ^ (log + degree_bits) + (2 ^ degree_bits - 1)
recomposed_degree log degree_bits is_zk h = ap (λ q. q + (2 ^ degree_bits - 1)) (quotient_points log degree_bits is_zk h)

-- The bound on zetas, by the two numbers of which it is the greater.
zetas_answered : {F : Type 0} (cs : List (Constraint F)) (log degree_bits is_zk : ℕ) (leaves : LeafDegrees) (second recomposed answer : Option ℕ) → is_zk ≤ degree_bits → leaves ≡ bound_leaves (2 ^ degree_bits) (2 ^ (degree_bits - is_zk))
    → second ≡ fitting (greatest_degree_by leaves cs) → recomposed ≡ fitting (2 ^ (log + degree_bits) + (2 ^ degree_bits - 1)) → ((a b : ℕ) → second ≡ fitting a → recomposed ≡ fitting b → answer ≡ fitting (max a b))
    → answer ≡ fitting (zeta_bound (2 ^ degree_bits) (2 ^ (degree_bits - is_zk)) (2 ^ (log + is_zk)) cs)
zetas_answered cs log degree_bits is_zk leaves second recomposed answer masked are folded_fits recomposed_fits greater =
    let m = 2 ^ degree_bits in
    let n = 2 ^ (degree_bits - is_zk) in
    let folded : second ≡ fitting (greatest_bound m n cs) = folded_fits ∙ ap (λ l. fitting (greatest_degree_by l cs)) are ∙ ap fitting (sym (greatest_bound_is_degree m n cs)) in
    greater (greatest_bound m n cs) (2 ^ (log + degree_bits) + (2 ^ degree_bits - 1)) folded recomposed_fits ∙ ap (λ b. fitting (max (greatest_bound m n cs) b)) (sym (recomposed_degree log degree_bits is_zk masked))

-- Both that are answered of an AIR's degrees: the quotient's chunks, and the bound on the zetas.
pub counts_answered : {F : Type 0} (cs : List (Constraint F)) (hint : Option ℕ) (degree_bits is_zk log degree : ℕ) (multiples leaves : LeafDegrees) (first second recomposed answer : Option ℕ) → multiples ≡ trace_multiples 0
    → first ≡ fitting (greatest_degree_by multiples cs) → degree ≡ unwrap_or first (2 ^ 64 - 1) → IsCeilingOfLog log (quotient_multiple (max degree (unwrap_or hint 0)) is_zk)
    → is_zk ≤ degree_bits → leaves ≡ bound_leaves (2 ^ degree_bits) (2 ^ (degree_bits - is_zk)) → second ≡ fitting (greatest_degree_by leaves cs) → recomposed ≡ fitting (2 ^ (log + degree_bits) + (2 ^ degree_bits - 1))
    → ((a b : ℕ) → second ≡ fitting a → recomposed ≡ fitting b → answer ≡ fitting (max a b))
    → IsCeilingOfLog log (quotient_multiple (constraint_degree 0 cs hint) is_zk) × (answer ≡ fitting (zeta_bound (2 ^ degree_bits) (2 ^ (degree_bits - is_zk)) (2 ^ (log + is_zk)) cs))
counts_answered cs hint degree_bits is_zk log degree multiples leaves first second recomposed answer are first_fits is sized masked bounds second_fits recomposed_fits greater =
    (chunks_answered cs hint is_zk log multiples first degree are first_fits is sized, zetas_answered cs log degree_bits is_zk leaves second recomposed answer masked bounds second_fits recomposed_fits greater)

-- where all chunks' cosets together have 2 ^ 64 points or more, the bound doesn't fit
pub too_many : (log degree_bits more : ℕ) → 64 ≤ log + degree_bits → fitting (2 ^ (log + degree_bits) + more) ≡ None
too_many log degree_bits more large =
    let grown : 2 ^ 64 ≤ 2 ^ (log + degree_bits) = two_power_at_most 64 (log + degree_bits) large in
    past (2 ^ (log + degree_bits) + more) (omega (arith, grown))

-- The bounds as they are answered.
pub bound_found : (a d n z : ℕ) → n ≡ a → Some z ≡ fitting d → Some (n, z) ≡ error_bound a d
bound_found a d n z is fit =
    let obtained = some_fits d z fit in
    rw (is_below d (2 ^ 64) obtained.0) (ap (λ (x : ℕ). Some (x, z)) is ∙ ap (λ (y : ℕ). Some (a, y)) obtained.1)

pub bound_missing : (a d : ℕ) → None ≡ fitting d → None ≡ error_bound a d
bound_missing a d none = rw (not_below d (2 ^ 64) (none_past d none)) refl
