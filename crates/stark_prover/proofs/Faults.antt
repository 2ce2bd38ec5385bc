-- From what the stages of a prover find to what it answers.
use Rattle.std.proofs.Common.{◌≡◌, ◌⊎◌, inl, inr, refl, sym, subst, List, ℕ, Option, None, Some}
use Rattle.std.specs.Prelude.{IfSome}
use Rattle.stark_support.specs.Claims.{IfRefused}
use Rattle.stark_support.specs.declared.scheme.SchemeFault.{SchemeFault}
use Rattle.stark_support.specs.declared.scheme.SchemeFault.TheVariants.{Refused, OutOfMemory}
use Rattle.stark_support.specs.declared.periodic.PeriodicColumnShapeError.{PeriodicColumnShapeError}
use Rattle.stark_transcript.specs.Errors.{IsFaultIn}
use Rattle.stark_transcript.specs.declared.error.InvalidProofShapeError.{InvalidProofShapeError}
use Rattle.stark_transcript.specs.declared.error.ProvingError.{ProvingError}
use Rattle.stark_prover.specs.SchemeFaults.{IsSchemeFault}
use Rattle.stark_prover.specs.Sizes.{IsQuotientSizeFault, SizesFault, in_columns, in_quotient}

-- Where the columns have a fault, it is the error, and else it is that of the quotient's domain.
pub sizes_at_fault : {Y : Type 0} (columns : Option PeriodicColumnShapeError) {quotient : Option InvalidProofShapeError} (error : ProvingError Y) → IfSome columns (λ fault. error ≡ ProvingError.PeriodicColumn fault)
    → (columns ≡ None → (error ≡ ProvingError.OutOfMemory) ⊎ IsQuotientSizeFault quotient error) → (error ≡ ProvingError.OutOfMemory) ⊎ SizesFault columns quotient error
sizes_at_fault None error of_columns of_quotient = elim (of_quotient refl) [ inl memory ↦ inl memory | inr fault ↦ inr (in_quotient refl fault) ]
sizes_at_fault (Some fault) {quotient = quotient} error of_columns of_quotient = inr (subst (λ x. SizesFault (Some fault) quotient x) (sym of_columns) (in_columns refl))

-- A scheme's fault in a phase is want of memory, or a reason that the scheme may have.
pub scheme_fault : {Y : Type 0} (name : List ℕ) (MayRefuse : Y → Type 0) (fault : SchemeFault Y) (error : ProvingError Y) → IfRefused fault MayRefuse → IsFaultIn name fault error
    → (error ≡ ProvingError.OutOfMemory) ⊎ IsSchemeFault name MayRefuse error
scheme_fault name MayRefuse (Refused reason) error refuses named = inr (record { reason = reason; named = named; refuses = refuses })
scheme_fault name MayRefuse OutOfMemory ProvingError.OutOfMemory refuses named = inl refl
scheme_fault name MayRefuse OutOfMemory (ProvingError.Pcs phase source) refuses named = absurd named
scheme_fault name MayRefuse OutOfMemory (ProvingError.GrindExhausted bits) refuses named = absurd named
scheme_fault name MayRefuse OutOfMemory (ProvingError.QuotientDomainTooLarge maximum got) refuses named = absurd named
scheme_fault name MayRefuse OutOfMemory (ProvingError.PeriodicColumn fault) refuses named = absurd named

-- A scheme's fault, where the scheme and the domain have other names.
pub scheme_fault_at : {A B Y : Type 0} (name : List ℕ) (MayRefuse : A → B → Y → Type 0) (a s : A) (b d : B) (fault : SchemeFault Y) (error : ProvingError Y) → a ≡ s → b ≡ d → IfRefused fault (MayRefuse a b) → IsFaultIn name fault error
    → (error ≡ ProvingError.OutOfMemory) ⊎ IsSchemeFault name (MayRefuse s d) error
scheme_fault_at name MayRefuse a s b d fault error same_scheme same_domain refuses named =
    scheme_fault name (MayRefuse s d) fault error (subst (λ t. IfRefused fault (MayRefuse t d)) same_scheme (subst (λ t. IfRefused fault (MayRefuse a t)) same_domain refuses)) named
