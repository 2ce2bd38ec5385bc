-- A key that is made of a statement's bytes is made of what was read of them.
use Rattle.std.proofs.Common.{◌≡◌, inl, inr, subst, ℕ, List, Some, Result, Ok, Err}
use Rattle.serde_json.specs.Data.{Data}
use Rattle.stark_statement.specs.Repeats.{statement_json}
use Rattle.stark_statement.specs.Configuration.{ConfigurationView}
use Rattle.stark_statement.specs.StatementJson.{StatementFault, configuration_reading}
use Rattle.stark_statement.specs.StatementView.{StatementView}
use Rattle.stark_answers.specs.declared.verdict.Verdict.{Verdict}
use Rattle.stark_service.specs.Schemes.{IsSaidOfBytes, IsSaidOfJson, IsSaidOfValue}
use Rattle.stark_service.specs.Statements.{IsSaidOfRead}

module _ {F A : Type 0} (IsMade : StatementView F → Result A Verdict → Type 0) where
  pub made_of_read : (read : Result (StatementView F) StatementFault) (s : StatementView F) (made : A) → read ≡ Ok s → IsSaidOfRead (λ v. Err v) IsMade read (Ok made) → IsMade s (Ok made)
  unfolding IsSaidOfRead
  made_of_read read s made is said = elim (subst (λ r. IsSaidOfRead (λ v. Err v) IsMade r (Ok made)) is said) [
    | inl within ↦ within.1
    | inr passes ↦ absurd (let clash : Ok made ≡ Err _ = passes.1 in cc)
  ]

module _ {A : Type 0} (IsMade : ConfigurationView → Data → Result A Verdict → Type 0) where
  pub made_of_bytes : (bytes : List ℕ) (d : Data) (c : ConfigurationView) (made : A) → statement_json bytes ≡ Some d → configuration_reading d ≡ Ok c → IsSaidOfBytes (λ v. Err v) IsMade bytes (Ok made) → IsMade c d (Ok made)
  unfolding IsSaidOfBytes
  made_of_bytes bytes d c made is names said =
      subst (λ r. IsSaidOfValue (λ v. Err v) (λ k. IsMade k d) r (Ok made)) names (subst (λ o. IsSaidOfJson (λ v. Err v) IsMade o (Ok made)) is said)
