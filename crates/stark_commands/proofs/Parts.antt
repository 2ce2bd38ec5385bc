-- The trace's domain and the quotient's.
use Rattle.std.proofs.Common.{◌≡◌, ◌∙◌, ap, arith, sym, ℕ, ◌+◌, ◌^◌, ◌<◌, Bool, true, Option, Some, None, IfSome}
use Rattle.std.proofs.lemmas.Nat.{pow_below}
use Rattle.stark_support.specs.Ring.{RingOps}
use Rattle.stark_support.specs.Coset.{TwoAdicCoset}
use Rattle.stark_support.specs.Logarithm.{IsCeilingOfLog}
use Rattle.stark_support.specs.LogarithmFacts.{exponent_below}
use Rattle.stark_fields.specs.Residues.{residue}
use Rattle.stark_commands.specs.Input.{Base}
use Rattle.stark_protocol.specs.Sizes.{quotient_coset}
use Rattle.stark_protocol.specs.QuotientFacts.{domain_of_size}
use Rattle.stark_commands.specs.Check.{trace_coset}

-- the same of a domain that may not be there
pub domain_if_some : {D F : Type 0} (view : D → TwoAdicCoset F) (base : RingOps F) (generator : F) (coset : TwoAdicCoset F) (log_height log_chunks size : ℕ) (domain : Option D)
    → log_height ≡ coset.log_size → size ≡ 2 ^ (log_height + log_chunks)
    → IfSome domain (λ d. (view d).shift ≡ base.mul coset.shift generator) → IfSome domain (λ d. IsCeilingOfLog (view d).log_size size)
    → IfSome domain (λ d. view d ≡ quotient_coset base generator coset log_chunks)
domain_if_some view base generator coset log_height log_chunks size None height is shift log = tt
domain_if_some view base generator coset log_height log_chunks size (Some d) height is shift log =
    domain_of_size base generator coset (view d) log_height log_chunks size height is shift log

pub none_of_size : (adicity n size : ℕ) (P : Type 0) → size ≡ 2 ^ n → (P → 2 ^ adicity < size) × (2 ^ adicity < size → P) → (P → adicity < n) × (adicity < n → P)
none_of_size adicity n size P is none =
    (λ p. exponent_below adicity n (let past : 2 ^ adicity < size = none.0 p in omega arith), λ above. none.1 (let past : 2 ^ adicity < 2 ^ n = pow_below adicity n above in omega arith))

pub trace_coset_is : (s : Base) (n k : ℕ) → s ≡ residue 1 → n ≡ k → (let d : TwoAdicCoset Base = record { shift = s; log_size = n } in d) ≡ trace_coset k
trace_coset_is s n k shift size =
    ap (λ (t : Base). let d : TwoAdicCoset Base = record { shift = t; log_size = n } in d) shift ∙ ap (λ (j : ℕ). let d : TwoAdicCoset Base = record { shift = residue 1; log_size = j } in d) size

-- A comparison of two values tells whether these are one.
pub compared : {K : Type 0} (eq : K → K → Bool) → ((x y : K) → eq x y ≡ true → x ≡ y) → ((x : K) → eq x x ≡ true) → (stated : Bool) (a b x y : K) → stated ≡ eq a b → a ≡ x → b ≡ y
    → (stated ≡ true → x ≡ y) × (x ≡ y → stated ≡ true)
compared eq same reflexive stated a b x y is is_x is_y =
    (λ yes. sym is_x ∙ same a b (sym is ∙ yes) ∙ is_y, λ e. is ∙ ap (eq a) (sym (is_x ∙ e ∙ sym is_y)) ∙ reflexive a)
