-- The equation over a proof's own domains is the one that acceptance names.
use Rattle.std.proofs.Common.{◌≡◌, ◌∙◌, ◌⊎◌, ◌+◌, ◌-◌, ◌^◌, ◌≤◌, ap, arith, inl, inr, subst, sym, ℕ, List}
use Rattle.stark_support.specs.Coset.{TwoAdicCoset}
use Rattle.stark_support.specs.Recomposition.{recomposition}
use Rattle.stark_support.specs.Scheme.{natural_coset, zk_bits}
use Rattle.stark_support.specs.Subgroup.{subgroup_of}
use Rattle.stark_transcript.specs.declared.error.VerificationError.{VerificationError}
use Rattle.stark_transcript.specs.declared.error.VerificationError.TheVariants.{OutOfMemory}
use Rattle.stark_protocol.specs.Equation.{EquationHolds}
use Rattle.stark_protocol.specs.Instance.{Instance, ProtocolOps, log_height, trace_coset}
use Rattle.stark_proof.specs.ProofView.{ProofView}
use Rattle.stark_protocol.specs.Acceptance.{IsBalanced, log_parts, periodic_values, quotient_value, rows_of}
use Rattle.stark_protocol.specs.FirstFault.{EquationFault, in_balance}
use Rattle.stark_protocol.specs.Sizes.{chunk_shifts, quotient_coset}

module _ {S F E C K T P X Y : Type 0} (ops : ProtocolOps S F E C K T P X Y) (i : Instance S F C K) (p : ProofView K E P F) (trace quotient : TwoAdicCoset F) (log_chunks : ℕ) (periodic : List E) (alpha zeta : E) where
  -- The equation as it is computed, over these domains and periodic columns' values.
  abbrev pub Computed : Type 0
  Computed = EquationHolds ops.opening.fields.base ops.opening.fields.ring ops.opening.fields.embed (subgroup_of ops.opening.fields.inverse ops.opening.fields.embed ops.opening.fields.root trace) i.constraints
      (rows_of ops.opening.fields.ring.zero i.layout.main i.layout.preprocessed p.opened_values periodic i.public_values) zeta alpha
      (recomposition ops.opening.fields.ring ops.opening.fields.ring (λ c. c) ops.opening.fields.inverse (2 ^ (quotient.log_size - log_chunks)) ops.opening.fields.basis
      (chunk_shifts ops.opening.fields.base ops.opening.fields.root ops.opening.fields.embed quotient log_chunks) p.opened_values.quotient_chunks zeta)

  module _ (is_trace : trace ≡ trace_coset ops.opening.fields.base ops.opening.is_zk p.degree_bits)
      (is_quotient : quotient ≡ quotient_coset ops.opening.fields.base ops.opening.fields.generator (natural_coset ops.opening.fields.base p.degree_bits) (log_parts ops i p))
      (are_chunks : log_chunks ≡ log_parts ops i p + zk_bits ops.opening.is_zk) (extended : zk_bits ops.opening.is_zk ≤ p.degree_bits)
      (are_periodic : periodic ≡ periodic_values ops.opening.fields i.periodic_columns (log_height ops.opening.is_zk p.degree_bits) zeta) where
    height_of_parts : quotient.log_size - log_chunks ≡ log_height ops.opening.is_zk p.degree_bits
    height_of_parts = let size : quotient.log_size ≡ p.degree_bits + log_parts ops i p = ap (λ (c : TwoAdicCoset F). c.log_size) is_quotient in omega (arith, are_chunks, extended, size)

    balanced_is : Computed ≡ EquationHolds ops.opening.fields.base ops.opening.fields.ring ops.opening.fields.embed
        (subgroup_of ops.opening.fields.inverse ops.opening.fields.embed ops.opening.fields.root (trace_coset ops.opening.fields.base ops.opening.is_zk p.degree_bits)) i.constraints
        (rows_of ops.opening.fields.ring.zero i.layout.main i.layout.preprocessed p.opened_values (periodic_values ops.opening.fields i.periodic_columns (log_height ops.opening.is_zk p.degree_bits) zeta) i.public_values)
        zeta alpha (quotient_value ops.opening.fields p.degree_bits (log_parts ops i p) ops.opening.is_zk p.opened_values.quotient_chunks zeta)
    balanced_is =
        let fields = ops.opening.fields in
        let at : TwoAdicCoset F → List E → ℕ → TwoAdicCoset F → ℕ → Type 0 = λ t values height q chunks.
        EquationHolds fields.base fields.ring fields.embed (subgroup_of fields.inverse fields.embed fields.root t) i.constraints
        (rows_of fields.ring.zero i.layout.main i.layout.preprocessed p.opened_values values i.public_values) zeta alpha
        (recomposition fields.ring fields.ring (λ c. c) fields.inverse (2 ^ height) fields.basis (chunk_shifts fields.base fields.root fields.embed q chunks) p.opened_values.quotient_chunks zeta) in
        let height = log_height ops.opening.is_zk p.degree_bits in
        let values = periodic_values fields i.periodic_columns height zeta in
        let whole = quotient_coset fields.base fields.generator (natural_coset fields.base p.degree_bits) (log_parts ops i p) in
        ap (λ t. at t periodic (quotient.log_size - log_chunks) quotient log_chunks) is_trace ∙
        ap (λ v. at (trace_coset fields.base ops.opening.is_zk p.degree_bits) v (quotient.log_size - log_chunks) quotient log_chunks) are_periodic ∙
        ap (λ (h : ℕ). at (trace_coset fields.base ops.opening.is_zk p.degree_bits) values h quotient log_chunks) height_of_parts ∙
        ap (λ q. at (trace_coset fields.base ops.opening.is_zk p.degree_bits) values height q log_chunks) is_quotient ∙
        ap (λ (k : ℕ). at (trace_coset fields.base ops.opening.is_zk p.degree_bits) values height whole k) are_chunks

    balance : Computed → IsBalanced ops i p alpha zeta
    balance holds = record { equation = subst (λ (P : Type 0). P) balanced_is holds }

    computed : IsBalanced ops i p alpha zeta → Computed
    computed balanced = subst (λ (P : Type 0). P) (sym balanced_is) balanced.equation

in_balance_of : {X : Type 0} {P Q : Type 0} (error : VerificationError X) → (Q → P) → EquationFault P error → EquationFault Q error
in_balance_of error back (in_balance fails) = in_balance (λ balanced. fails (back balanced))

-- Where the domains, the number of chunks and the periodic columns' values are the proof's own, the computed equation is
-- that of acceptance.
pub balanced_held : {S F E C K T P X Y : Type 0} {ops : ProtocolOps S F E C K T P X Y} {i : Instance S F C K} {p : ProofView K E P F} {alpha zeta : E} (trace quotient : TwoAdicCoset F) (log_chunks : ℕ) (periodic : List E)
    → trace ≡ trace_coset ops.opening.fields.base ops.opening.is_zk p.degree_bits
    → quotient ≡ quotient_coset ops.opening.fields.base ops.opening.fields.generator (natural_coset ops.opening.fields.base p.degree_bits) (log_parts ops i p)
    → log_chunks ≡ log_parts ops i p + zk_bits ops.opening.is_zk → zk_bits ops.opening.is_zk ≤ p.degree_bits
    → periodic ≡ periodic_values ops.opening.fields i.periodic_columns (log_height ops.opening.is_zk p.degree_bits) zeta
    → Computed ops i p trace quotient log_chunks periodic alpha zeta → IsBalanced ops i p alpha zeta
balanced_held {ops = ops} {i = i} {p = p} {alpha = alpha} {zeta = zeta} trace quotient log_chunks periodic t q c e v holds = balance ops i p trace quotient log_chunks periodic alpha zeta t q c e v holds

pub balanced_fault : {S F E C K T P X Y : Type 0} {ops : ProtocolOps S F E C K T P X Y} {i : Instance S F C K} {p : ProofView K E P F} {alpha zeta : E} {error : VerificationError X} (trace quotient : TwoAdicCoset F) (log_chunks : ℕ) (periodic : List E)
    → trace ≡ trace_coset ops.opening.fields.base ops.opening.is_zk p.degree_bits
    → quotient ≡ quotient_coset ops.opening.fields.base ops.opening.fields.generator (natural_coset ops.opening.fields.base p.degree_bits) (log_parts ops i p)
    → log_chunks ≡ log_parts ops i p + zk_bits ops.opening.is_zk → zk_bits ops.opening.is_zk ≤ p.degree_bits
    → periodic ≡ periodic_values ops.opening.fields i.periodic_columns (log_height ops.opening.is_zk p.degree_bits) zeta
    → (error ≡ OutOfMemory) ⊎ EquationFault (Computed ops i p trace quotient log_chunks periodic alpha zeta) error → (error ≡ OutOfMemory) ⊎ EquationFault (IsBalanced ops i p alpha zeta) error
balanced_fault trace quotient log_chunks periodic t q c e v (inl memory) = inl memory
balanced_fault {ops = ops} {i = i} {p = p} {alpha = alpha} {zeta = zeta} {error = error} trace quotient log_chunks periodic t q c e v (inr fault) =
    inr (in_balance_of error (computed ops i p trace quotient log_chunks periodic alpha zeta t q c e v) fault)
