-- What the proofs for a statement are worth, in numbers.
use Rattle.std.specs.Prelude.{◌≡◌, ◌⊎◌, ℕ, ◌<◌, ◌≤◌, Option, None, Some, Result, Ok, Err}
use Rattle.stark_statement.specs.Configuration.{FriNumbers}
use Rattle.stark_statement.specs.StatementJson.{StatementFault}
use Rattle.stark_statement.specs.StatementView.{StatementView}
use Rattle.stark_answers.specs.declared.verdict.Verdict.{Verdict}
use Rattle.stark_answers.specs.declared.verdict.Verdict.TheVariants as verdict
use Rattle.stark_service.specs.Security.{AreBitsAt, FieldNumbers}
use Rattle.stark_service.specs.Showing.{greatest_height}
use Rattle.stark_service.specs.Statements.{IsSaidOfRead}
use Rattle.stark_service.specs.declared.security.SecurityBits.{SecurityBits}
use Rattle.stark_service.specs.declared.worth.SecurityError.{SecurityError}
use Rattle.stark_service.specs.declared.worth.SecurityError.TheVariants.{NotStated, Statement, TooHigh}

-- Nothing is said but a verdict.
abbrev pub unsaid : Verdict → Result SecurityBits SecurityError
unsaid v = Err (Statement v)

-- This is answered, or memory was wanting.
abbrev pub OrNoMemory : (Result SecurityBits SecurityError → Type 0) → Result SecurityBits SecurityError → Type 0
OrNoMemory IsAnswered r = (r ≡ unsaid verdict.OutOfMemory) ⊎ IsAnswered r

module _ {F : Type 0} (fields : FieldNumbers F) (scheme : Option FriNumbers) (k : ℕ) where
  -- The bits of proofs for a statement over traces of 2 ^ k rows; there are no such traces; or no bits are stated.
  abbrev pub IsSecurityOf : StatementView F → Result SecurityBits SecurityError → Type 0
  IsSecurityOf s (Ok bits) = (k ≤ greatest_height fields.adicity scheme) × AreBitsAt fields scheme s k (Some bits)
  IsSecurityOf s (Err (Statement v)) = ⊥
  IsSecurityOf s (Err TooHigh) = greatest_height fields.adicity scheme < k
  IsSecurityOf s (Err NotStated) = (k ≤ greatest_height fields.adicity scheme) × AreBitsAt fields scheme s k None

  -- Of the statement that was read, or what is said where there is none.
  abbrev pub IsSecurityOfRead : Result (StatementView F) StatementFault → Result SecurityBits SecurityError → Type 0
  IsSecurityOfRead = IsSaidOfRead unsaid IsSecurityOf
