-- From what was read of a statement's bytes to what is said of them.
use Rattle.std.proofs.Common.{◌≡◌, ◌⊎◌, ◌∙◌, inl, inr, ap, refl, subst, sym, ℕ, List, Option, None, Some, Result, Ok, Err}
use Rattle.serde_json.specs.Data.{Data}
use Rattle.stark_statement.specs.Repeats.{statement_json}
use Rattle.stark_statement.specs.Configuration.{ConfigurationView}
use Rattle.stark_statement.specs.StatementJson.{StatementFault, configuration_reading}
use Rattle.stark_statement.specs.StatementView.{StatementView}
use Rattle.stark_answers.specs.declared.verdict.Verdict.{Verdict}
use Rattle.stark_answers.specs.declared.verdict.Verdict.TheVariants as verdict
use Rattle.stark_service.specs.Schemes.{HoldsOfBytes, HoldsOfJson, HoldsOfValue, IsSaidOfBytes, IsSaidOfJson, IsSaidOfValue, IsUnconfigured}
use Rattle.stark_service.specs.Statements.{HoldsOfRead, IsSaidOfNone, IsSaidOfRead, IsWithinLimits}

-- What is said of what was read, or of what wasn't, is said of the reading.
module _ {F V : Type 0} (of_verdict : Verdict → V) (IsSaid : StatementView F → V → Type 0) where
  pub said_of_read : (read : Result (StatementView F) StatementFault) (v : V) (s : StatementView F) → (read ≡ Ok s) × IsWithinLimits s
      → (v ≡ of_verdict verdict.OutOfMemory) ⊎ IsSaid s v → (v ≡ of_verdict verdict.OutOfMemory) ⊎ IsSaidOfRead of_verdict IsSaid read v
  unfolding IsSaidOfRead
  said_of_read read v s reads (inl lacks) = inl lacks
  said_of_read read v s reads (inr said) = inr (subst (λ r. IsSaidOfRead of_verdict IsSaid r v) (sym reads.0) (inl (reads.1, said)))

  said_of_none : (read : Result (StatementView F) StatementFault) (w : Verdict) (v : V) → v ≡ of_verdict w → IsSaidOfNone read w → IsSaidOfRead of_verdict IsSaid read v
  unfolding IsSaidOfNone IsSaidOfRead
  said_of_none (Err fault) w v is none = is ∙ ap of_verdict none
  said_of_none (Ok s) w v is none = inr (none.0, is ∙ ap of_verdict none.1)

  -- The report of a reading that gives no statement within the limits.
  pub said_without_statement : (read : Result (StatementView F) StatementFault) (w : Verdict) (v : V) → v ≡ of_verdict w → (w ≡ verdict.OutOfMemory) ⊎ IsSaidOfNone read w
      → (v ≡ of_verdict verdict.OutOfMemory) ⊎ IsSaidOfRead of_verdict IsSaid read v
  said_without_statement read w v is (inl lacks) = inl (is ∙ ap of_verdict lacks)
  said_without_statement read w v is (inr none) = inr (said_of_none read w v is none)

-- What holds of the statement that was read holds of the reading.
pub holds_of_read : {F : Type 0} (Holds : StatementView F → Type 0) (read : Result (StatementView F) StatementFault) (s : StatementView F) → read ≡ Ok s → Holds s → HoldsOfRead Holds read
unfolding HoldsOfRead
holds_of_read Holds read s is holds = subst (HoldsOfRead Holds) (sym is) holds

bad_accepts_none : (v : Verdict) → v ≡ verdict.BadInput → v ≡ verdict.Accepted → ⊥
bad_accepts_none v bad is = let clash : verdict.BadInput ≡ verdict.Accepted = sym bad ∙ is in cc

lacks_accepts_none : (v : Verdict) → v ≡ verdict.OutOfMemory → v ≡ verdict.Accepted → ⊥
lacks_accepts_none v memory is = let clash : verdict.OutOfMemory ≡ verdict.Accepted = sym memory ∙ is in cc

-- What is said where there is no statement within the limits accepts nothing.
pub none_accepted : {F : Type 0} (read : Result (StatementView F) StatementFault) (v : Verdict) → (v ≡ verdict.OutOfMemory) ⊎ IsSaidOfNone read v → v ≡ verdict.Accepted → ⊥
unfolding IsSaidOfNone
none_accepted read v (inl memory) is = lacks_accepts_none v memory is
none_accepted (Err fault) v (inr none) is = bad_accepts_none v none is
none_accepted (Ok s) v (inr none) is = let clash : verdict.Accepted ≡ _ = sym is ∙ none.1 in cc

-- ---- of bytes

module _ {V : Type 0} (of_verdict : Verdict → V) (IsSaid : ConfigurationView → Data → V → Type 0) (bytes : List ℕ) (v : V) where
  -- What is said of the JSON and the configuration that were read.
  pub said_of_configured : (d : Data) (c : ConfigurationView) → statement_json bytes ≡ Some d → configuration_reading d ≡ Ok c
      → (v ≡ of_verdict verdict.OutOfMemory) ⊎ IsSaid c d v → (v ≡ of_verdict verdict.OutOfMemory) ⊎ IsSaidOfBytes of_verdict IsSaid bytes v
  unfolding IsSaidOfBytes
  said_of_configured d c is names (inl lacks) = inl lacks
  said_of_configured d c is names (inr said) = inr (subst (λ o. IsSaidOfJson of_verdict IsSaid o v) (sym is) (subst (λ r. IsSaidOfValue of_verdict (λ k. IsSaid k d) r v) (sym names) said))

  unnamed : {Fault : Type 0} (d : Data) (read : Result ConfigurationView Fault) → ((c : ConfigurationView) → read ≡ Ok c → ⊥) → v ≡ of_verdict verdict.BadInput → IsSaidOfValue of_verdict (λ k. IsSaid k d) read v
  unnamed d (Err fault) none is = is
  unnamed d (Ok c) none is = absurd (none c refl)

  unconfigured : (read : Option Data) → IsUnconfigured read → v ≡ of_verdict verdict.BadInput → IsSaidOfJson of_verdict IsSaid read v
  unconfigured None none is = is
  unconfigured (Some d) none is = unnamed d (configuration_reading d) none is

  -- The report where there is no configuration.
  pub said_unconfigured : (w : Verdict) → v ≡ of_verdict w → (w ≡ verdict.OutOfMemory) ⊎ (IsUnconfigured (statement_json bytes) × (w ≡ verdict.BadInput)) → (v ≡ of_verdict verdict.OutOfMemory) ⊎ IsSaidOfBytes of_verdict IsSaid bytes v
  unfolding IsSaidOfBytes
  said_unconfigured w is (inl lacks) = inl (is ∙ ap of_verdict lacks)
  said_unconfigured w is (inr none) = inr (unconfigured (statement_json bytes) none.0 (is ∙ ap of_verdict none.1))

pub holds_of_bytes : (Holds : ConfigurationView → Data → Type 0) (bytes : List ℕ) (d : Data) (c : ConfigurationView) → statement_json bytes ≡ Some d → configuration_reading d ≡ Ok c → Holds c d → HoldsOfBytes Holds bytes
unfolding HoldsOfBytes
holds_of_bytes Holds bytes d c is names holds = subst (HoldsOfJson Holds) (sym is) (subst (HoldsOfValue (λ k. Holds k d)) (sym names) holds)

-- A report without a configuration accepts nothing.
pub unconfigured_accepts_none : (read : Option Data) (v : Verdict) → (v ≡ verdict.OutOfMemory) ⊎ (IsUnconfigured read × (v ≡ verdict.BadInput)) → v ≡ verdict.Accepted → ⊥
unconfigured_accepts_none read v (inl memory) is = lacks_accepts_none v memory is
unconfigured_accepts_none read v (inr none) is = bad_accepts_none v none.1 is
