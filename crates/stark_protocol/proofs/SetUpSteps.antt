-- The domain of a committed trace, and what is said of it once it is set up.
use Rattle.std.proofs.Common.{◌≡◌, ◌⊎◌, ℕ, ◌+◌, ◌*◌, ◌/◌, ◌^◌, ◌<◌, ◌≤◌, sym, ◌∙◌, ap, subst, inl, inr, refl, List, [], ◌∷◌, length, Bool, Some, arith}
use Rattle.std.proofs.Math.Nat.{mul-div_cancel}
use Rattle.std.proofs.Math.Pow.{pow_mono}
use Rattle.stark_support.specs.Ring.{RingOps}
use Rattle.stark_support.specs.Coset.{TwoAdicCoset, coset_size}
use Rattle.stark_support.specs.Claims.{IfRefused}
use Rattle.stark_support.specs.Scheme.{SchemeOps, TakesRows, matrix_row, natural_coset, zk_bits}
use Rattle.stark_support.specs.declared.scheme.SchemeFault.{SchemeFault}
use Rattle.stark_support.specs.declared.scheme.SchemeFault.TheVariants.{Refused, OutOfMemory}
use Rattle.stark_air.specs.Declaration.{Trace}
use Rattle.stark_transcript.specs.Errors.{IsFaultIn}
use Rattle.stark_transcript.specs.declared.error.ProvingError.{ProvingError}
use Rattle.stark_protocol.specs.Preprocessing.{IsSetUp, IsSetUpFault}

-- how many rows a matrix has
pub height_is : (count width rows : ℕ) → 0 < width → count ≡ rows * width → count / width ≡ rows
height_is count width rows some e = ap (λ c. c / width) e ∙ mul-div_cancel rows some

pub room : {F : Type 0} (field : RingOps F) (coset : TwoAdicCoset F) (count width log_height extra : ℕ) → 0 < width → count ≡ 2 ^ log_height * width → coset ≡ natural_coset field (log_height + extra)
    → count / width ≤ coset_size coset
room field coset count width log_height extra some e natural =
    subst (λ c. c ≤ coset_size coset) (sym (height_is count width (2 ^ log_height) some e))
    (subst (λ (d : TwoAdicCoset _). 2 ^ log_height ≤ coset_size d) (sym natural) (pow_mono (let le : log_height ≤ log_height + extra = omega arith in le)))

pub committed_within : {F : Type 0} (field : RingOps F) (coset : TwoAdicCoset F) (bits greatest : ℕ) → coset ≡ natural_coset field bits → bits ≤ greatest → coset_size coset ≤ 2 ^ greatest
committed_within field coset bits greatest natural within = subst (λ (d : TwoAdicCoset _). coset_size d ≤ 2 ^ greatest) (sym natural) (pow_mono within)

-- What is committed of a trace, and held of it, sets it up.
pub is_set_up : {S F E C K T P X Y : Type 0} (scheme : SchemeOps S F E C K T P X Y) (s holding : S) (field : RingOps F) (root : ℕ → F) (is_zk : Bool) (log_height : ℕ) (trace : Trace F)
    (width degree_bits : ℕ) (commitment copy : K) (prover_data : T) (coset : TwoAdicCoset F)
    → width ≡ trace.width → degree_bits ≡ log_height + zk_bits is_zk → copy ≡ commitment → coset ≡ natural_coset field (log_height + zk_bits is_zk)
    → 0 < trace.width → length trace.values ≡ 2 ^ log_height * trace.width → holding ≡ s
    → scheme.calls.CommitsPreprocessing holding coset trace.values trace.width (commitment, prover_data)
    → ((columns : List (List F)) × scheme.Stands holding commitment prover_data (record { domain = coset; columns = columns } ∷ [])
    × ((n : ℕ) → 2 ^ n ≡ length trace.values / trace.width → TakesRows field root (natural_coset field n) trace.width (matrix_row trace.values trace.width) columns))
    → IsSetUp scheme s field root is_zk log_height trace (record { width = width; degree_bits = degree_bits; commitment = commitment; prover_data = prover_data })
    (record { width = width; degree_bits = degree_bits; commitment = copy })
is_set_up scheme s holding field root is_zk log_height trace width degree_bits commitment copy prover_data coset w d same natural some height is made stands = record {
  prover_width = w;
  key_width = w;
  prover_degree = d;
  key_degree = d;
  same = same;
  made = subst (λ t. scheme.calls.CommitsPreprocessing t (natural_coset field (log_height + zk_bits is_zk)) trace.values trace.width (commitment, prover_data)) is
      (subst (λ c. scheme.calls.CommitsPreprocessing holding c trace.values trace.width (commitment, prover_data)) natural made);
  columns = stands.0;
  stands = subst (λ t. scheme.Stands t commitment prover_data (record { domain = natural_coset field (log_height + zk_bits is_zk); columns = stands.0 } ∷ [])) is
      (subst (λ c. scheme.Stands holding commitment prover_data (record { domain = c; columns = stands.0 } ∷ [])) natural stands.1);
  takes = stands.2 log_height (sym (height_is (length trace.values) trace.width (2 ^ log_height) some height));
}

-- The scheme's fault in this phase is want of memory, or a reason that the scheme may have.
pub set_up_fault : {S F E C K T P X Y : Type 0} (scheme : SchemeOps S F E C K T P X Y) (s : S) (field : RingOps F) (is_zk : Bool) (log_height : ℕ) (name : List ℕ) (trace : Trace F) (coset : TwoAdicCoset F)
    (fault : SchemeFault Y) (error : ProvingError Y) → coset ≡ natural_coset field (log_height + zk_bits is_zk) → 0 < trace.width
    → IfRefused fault (scheme.RefusesPreprocessing s coset trace.values trace.width) → IsFaultIn name fault error
    → (error ≡ ProvingError.OutOfMemory) ⊎ IsSetUpFault scheme s field is_zk log_height name (Some trace) error
set_up_fault scheme s field is_zk log_height name trace coset (Refused reason) error natural some refuses named =
    inr (record { trace = trace; declares = refl; columns = some; reason = reason; named = named; refuses = subst (λ d. scheme.RefusesPreprocessing s d trace.values trace.width reason) natural refuses })
set_up_fault scheme s field is_zk log_height name trace coset OutOfMemory ProvingError.OutOfMemory natural some refuses named = inl refl
set_up_fault scheme s field is_zk log_height name trace coset OutOfMemory (ProvingError.Pcs phase source) natural some refuses named = absurd named
set_up_fault scheme s field is_zk log_height name trace coset OutOfMemory (ProvingError.GrindExhausted bits) natural some refuses named = absurd named
set_up_fault scheme s field is_zk log_height name trace coset OutOfMemory (ProvingError.QuotientDomainTooLarge maximum got) natural some refuses named = absurd named
set_up_fault scheme s field is_zk log_height name trace coset OutOfMemory (ProvingError.PeriodicColumn fault) natural some refuses named = absurd named
