-- The bounds on bad draws, as one statement.
use Rattle.std.proofs.Common.{◌≡◌, ◌∙◌, ap, sym, subst, refl, arith, ℕ, ◌+◌, ◌^◌, ◌-◌, List, Option, Some, None}
use Rattle.stark_support.specs.Ring.{RingOps, FieldLaws}
use Rattle.stark_support.specs.Powers.{power}
use Rattle.stark_support.specs.KeepsRing.{kept_power}
use Rattle.stark_support.specs.Embedding.{IsEmbedding}
use Rattle.stark_support.specs.TwoAdic.{HasOrder}
use Rattle.stark_support.specs.Logarithm.{IsCeilingOfLog}
use Rattle.stark_support.specs.Polynomial.{HoldsOfAtMost}
use Rattle.stark_air.specs.Tree.{Constraint}
use Rattle.stark_parts.specs.Sizing.{constraint_degree, quotient_multiple}
use Rattle.stark_security.specs.ConstraintPolynomial.{AirInstance, height}
use Rattle.stark_symbolic.specs.Fitting.{fitting}
use Rattle.stark_security.specs.DegreeBound.{alpha_bound, zeta_bound}
use Rattle.stark_security.specs.BadValues.{IsBadAlpha, IsBalanced, IsBadZeta}
use Rattle.stark_security.specs.ErrorBound.{FewBadDraws, IsChunkCount, IsErrorBound}
use Rattle.stark_security.proofs.BadValueSteps.{first_broken_row, bad_or_not, few_bad_alphas, few_bad_zetas, few_balanced}
use Rattle.stark_security.proofs.Counting.{pairs_at_most}
use Rattle.stark_security.proofs.Fitting.{some_fits}
use Rattle.stark_security.proofs.BoundSteps.{bound_found, bound_missing}

module _ {F E : Type 0} (i : AirInstance F E) (laws : FieldLaws i.ring i.inverse) (reaches : power i.ring (i.embed i.generator) (height i) ≡ i.ring.one) (m count : ℕ) where
  abbrev bound : ℕ
  bound = zeta_bound m (height i) count i.constraints

  pub few_bad_draws : FewBadDraws i m count (alpha_bound i.constraints) bound
  few_bad_draws = record {
    alphas = λ columns fit breaks. let obtained = first_broken_row i laws columns breaks in few_bad_alphas i laws columns obtained.0 obtained.1;
    zetas = λ columns fit breaks a good shifts chunks number chunks_fit.
        let obtained = first_broken_row i laws columns breaks in
        subst (λ n. HoldsOfAtMost (zeta_bound m (height i) n i.constraints) (IsBadZeta i columns shifts chunks a)) number
        (few_bad_zetas i laws columns obtained.0 obtained.1 reaches shifts chunks a good m fit chunks_fit);
    pairs = λ columns fit breaks shifts answer number answers_fit decide alphas zetas distinct_alphas distinct_zetas.
        let obtained = first_broken_row i laws columns breaks in
        pairs_at_most {P = λ a z. IsBalanced i columns shifts (answer a) a z} {Bad = IsBadAlpha i columns} decide (bad_or_not i laws columns obtained.0 obtained.1) (alpha_bound i.constraints) bound
        (few_bad_alphas i laws columns obtained.0 obtained.1)
        (λ a good. subst (λ n. HoldsOfAtMost (zeta_bound m (height i) n i.constraints) (IsBalanced i columns shifts (answer a) a)) number
        (few_balanced i laws columns obtained.0 obtained.1 reaches shifts (answer a) a good m fit (answers_fit a)))
        alphas zetas distinct_alphas distinct_zetas;
  }

pub same_ceiling : (k l n : ℕ) → IsCeilingOfLog k n → IsCeilingOfLog l n → k ≡ l
same_ceiling k l n first other = let up = first.least l other.covers in let down = other.least k first.covers in omega arith

module _ {F : Type 0} (constraints : List (Constraint F)) (hint : Option ℕ) (degree_bits is_zk log : ℕ) (sized : IsCeilingOfLog log (quotient_multiple (constraint_degree 0 constraints hint) is_zk)) where
  abbrev zetas_bound : ℕ
  zetas_bound = zeta_bound (2 ^ degree_bits) (2 ^ (degree_bits - is_zk)) (2 ^ (log + is_zk)) constraints

  pub bound_answered : (n z : ℕ) → n ≡ alpha_bound constraints → Some z ≡ fitting zetas_bound → IsErrorBound constraints hint degree_bits is_zk (Some (n, z))
  bound_answered n z is fit = record {
    chunks = 2 ^ (log + is_zk);
    sized = record { log = log; sized = sized; number = refl };
    exact = bound_found (alpha_bound constraints) zetas_bound n z is fit;
  }

  pub no_bound_answered : None ≡ fitting zetas_bound → IsErrorBound constraints hint degree_bits is_zk None
  no_bound_answered none = record {
    chunks = 2 ^ (log + is_zk);
    sized = record { log = log; sized = sized; number = refl };
    exact = bound_missing (alpha_bound constraints) zetas_bound none;
  }

  module _ {E : Type 0} {base : RingOps F} (base_inverse : F → F) {ring : RingOps E} {inverse : E → E} {embed : F → E} (laws : FieldLaws ring inverse) (embeds : IsEmbedding base ring embed)
      (basis : List E) (generator : F) (order : HasOrder base generator (2 ^ (degree_bits - is_zk))) (periodic : List (List F)) where
    -- The numbers that are answered bound the bad draws.
    pub answered_counts : (chunks n z : ℕ) → IsChunkCount 0 constraints hint is_zk chunks → n ≡ alpha_bound constraints → Some z ≡ fitting zetas_bound
        → FewBadDraws (record { base = base; base_inverse = base_inverse; ring = ring; inverse = inverse; embed = embed; basis = basis; generator = generator; log_size = degree_bits - is_zk; constraints = constraints; periodic = periodic }) (2 ^ degree_bits) chunks n z
    answered_counts chunks n z count is fit =
        let over_rows : AirInstance F E = record { base = base; base_inverse = base_inverse; ring = ring; inverse = inverse; embed = embed; basis = basis; generator = generator; log_size = degree_bits - is_zk; constraints = constraints; periodic = periodic } in
        let same_log = same_ceiling count.log log _ count.sized sized in
        let number : chunks ≡ 2 ^ (log + is_zk) = count.number ∙ ap (λ l. 2 ^ (l + is_zk)) same_log in
        let reaches : power ring (embed generator) (2 ^ (degree_bits - is_zk)) ≡ ring.one =
        sym (kept_power embeds.keeps generator (embed generator) (2 ^ (degree_bits - is_zk)) refl) ∙ ap embed order.reaches ∙ embeds.keeps.one in
        let counts = few_bad_draws over_rows laws reaches (2 ^ degree_bits) (2 ^ (log + is_zk)) in
        subst (λ c. FewBadDraws over_rows (2 ^ degree_bits) c n z) (sym number)
        (subst (λ a. FewBadDraws over_rows (2 ^ degree_bits) (2 ^ (log + is_zk)) a z) (sym is)
        (subst (λ b. FewBadDraws over_rows (2 ^ degree_bits) (2 ^ (log + is_zk)) (alpha_bound constraints) b) (sym (some_fits zetas_bound z fit).1) counts))
