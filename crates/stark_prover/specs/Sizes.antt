-- When a proof's sizes fit.
use Rattle.std.specs.Prelude.{◌≡◌, ℕ, ◌+◌, ◌^◌, ◌<◌, ◌≤◌, Bool, List, Option, None, Some, IfSome, length, map, ⊤}
use Rattle.stark_support.specs.Ring.{RingOps}
use Rattle.stark_support.specs.Coset.{TwoAdicCoset}
use Rattle.stark_support.specs.Periodic.{first_fault}
use Rattle.stark_support.specs.Scheme.{natural_coset, zk_bits}
use Rattle.stark_support.specs.declared.periodic.PeriodicColumnShapeError.{PeriodicColumnShapeError}
use Rattle.stark_transcript.specs.declared.error.InvalidProofShapeError.{InvalidProofShapeError}
use Rattle.stark_transcript.specs.declared.error.InvalidProofShapeError.TheVariants.{QuotientDomainTooLarge}
use Rattle.stark_transcript.specs.declared.error.ProvingError.{ProvingError}
use Rattle.stark_protocol.specs.Instance.{trace_coset}
use Rattle.stark_protocol.specs.Sizes.{quotient_coset}

-- What is wrong with periodic columns, over 2 ^ height rows.
abbrev pub periodic_fault : {F : Type 0} → List (List F) → ℕ → Option PeriodicColumnShapeError
periodic_fault columns height = first_fault (2 ^ height) 0 (map (λ column. length column) columns)

-- The size of the quotient's domain is at fault.
abbrev pub IsOfSize : InvalidProofShapeError → Type 0
IsOfSize (QuotientDomainTooLarge air maximum got) = ⊤
IsOfSize error = ⊥

-- The prover's error for that fault has the verifier's numbers.
abbrev pub IsSizeError : {Y : Type 0} → InvalidProofShapeError → ProvingError Y → Type 0
IsSizeError (QuotientDomainTooLarge air maximum got) outcome = outcome ≡ ProvingError.QuotientDomainTooLarge maximum got
IsSizeError error outcome = ⊥

-- The error is such a fault, where there is one.
abbrev pub IsPeriodicFault : {Y : Type 0} → Option PeriodicColumnShapeError → ProvingError Y → Type 0
IsPeriodicFault periodic error = IfSome periodic (λ fault. error ≡ ProvingError.PeriodicColumn fault)

-- The quotient's domain is at fault.
pub record IsQuotientSizeFault {Y : Type 0} (quotient : Option InvalidProofShapeError) (error : ProvingError Y) : Type 0 where
  pub fault : InvalidProofShapeError
  pub is_fault : quotient ≡ Some fault
  pub numbers : IsSizeError fault error

-- The first fault of the sizes: of the periodic columns, or else of the quotient's domain.
pub data SizesFault {Y : Type 0} (columns : Option PeriodicColumnShapeError) (quotient : Option InvalidProofShapeError) : ProvingError Y → Type 0 where
  in_columns : {fault : PeriodicColumnShapeError} → columns ≡ Some fault → SizesFault columns quotient (ProvingError.PeriodicColumn fault)
  in_quotient : {error : ProvingError Y} → columns ≡ None → IsQuotientSizeFault quotient error → SizesFault columns quotient error

-- The domains of a trace, of the committed one, of 2 ^ degree_bits points, and of its quotient of 2 ^ log_parts parts.
pub record AreDomains {F : Type 0} (base : RingOps F) (generator : F) (is_zk : Bool) (degree_bits log_parts log_chunks : ℕ) (trace committed quotient : TwoAdicCoset F) : Type 0 where
  pub extended : zk_bits is_zk ≤ degree_bits
  pub of_trace : trace ≡ trace_coset base is_zk degree_bits
  pub of_committed : committed ≡ natural_coset base degree_bits
  pub of_quotient : quotient ≡ quotient_coset base generator (natural_coset base degree_bits) log_parts
  pub chunks : log_chunks ≡ log_parts + zk_bits is_zk
  pub few : log_chunks < 64
