-- A statement, as text.
use Rattle.std.specs.Prelude.{◌≡◌, ℕ, ◌-◌, List, ◌++◌, Option, None, Some, Result, string_bytes, take, codes}
use Rattle.std.proofs.Common.{◌∙◌, ap}
use Rattle.stark_tree_air.specs.TreeJson.{air_view}
use Rattle.stark_tree_air.specs.declared.columns.TreeDeclaration.{TreeDeclaration}
use Rattle.stark_tree_air.specs.declared.list.TreeList.{TreeList}
use Rattle.stark_statement.specs.Configuration.{FriNumbers}
use Rattle.stark_statement.specs.StatementJson.{StatementFault}
use Rattle.stark_statement.specs.StatementView.{StatementView}
use Rattle.stark_show.specs.Shown.{IsShown, IsWhole, columns_text}
use Rattle.stark_answers.specs.Finding.{BeginsAsItsKind, IsProof}
use Rattle.stark_answers.specs.declared.finding.Finding.{Finding}
use Rattle.stark_answers.specs.declared.finding.Finding.TheVariants as finding
use Rattle.stark_answers.specs.declared.task.ProofForm.{ProofForm}
use Rattle.stark_answers.specs.declared.verdict.Verdict.{Verdict}
use Rattle.stark_answers.specs.declared.verdict.Verdict.TheVariants as verdict
use Rattle.stark_service.specs.Description.{described}
use Rattle.stark_service.specs.Security.{FieldNumbers, IsWorthLine, challenges_line}
use Rattle.stark_service.specs.Statements.{IsSaidOfRead}

-- The greatest height of a trace under a scheme over a field, as its logarithm.
abbrev pub greatest_height : ℕ → Option FriNumbers → ℕ
greatest_height adicity (Some numbers) = adicity - numbers.log_blowup
greatest_height adicity None = adicity

module _ {F : Type 0} (fields : FieldNumbers F) (scheme : Option FriNumbers) where
  -- The greatest height of a trace of a statement.
  abbrev most_rows : ℕ
  most_rows = greatest_height fields.adicity scheme

  -- The text shows a statement: its AIR, with the bound at the greatest height, how many values the challenges have, what its proofs
  -- are worth, and what it fixes beside its AIR.
  pub record ShowsAir (s : StatementView F) (text : List ℕ) : Type 0 where
    pub declaration : TreeDeclaration F
    pub list : TreeList F
    pub of_air : s.air ≡ air_view declaration list
    pub air : List ℕ
    pub security : List ℕ
    pub shown : IsShown fields.number declaration list most_rows air
    pub whole : IsWhole fields.number declaration list text
    pub worth : IsWorthLine fields scheme most_rows s security
    pub lines : text ≡ air ++ (challenges_line fields.order fields.degree ++ (security ++ described fields.number scheme s))

  -- This text shows a statement.
  abbrev pub IsShownOf : StatementView F → Finding → Type 0
  IsShownOf s (finding.Text text) = ShowsAir s (string_bytes text)
  IsShownOf s (finding.Proof line) = ⊥
  IsShownOf s (finding.ProofBytes bytes) = ⊥
  IsShownOf s (finding.Verdict v) = ⊥
  IsShownOf s finding.Satisfied = ⊥
  IsShownOf s (finding.Broken row) = ⊥
  IsShownOf s (finding.TooFewBits line) = ⊥

  -- It shows the statement that was read, or is what is said where none was.
  abbrev pub IsShownOfRead : Result (StatementView F) StatementFault → Finding → Type 0
  IsShownOfRead = IsSaidOfRead (λ v. finding.Verdict v) IsShownOf

-- The facts about what is found where a statement is to be shown: it begins as its kind does, accepts and proves nothing, and says
-- of no trace that it satisfies its AIR.
pub record IsOfShowing (f : Finding) : Type 0 where
  pub begins : BeginsAsItsKind f
  pub accepts_none : f ≡ finding.Verdict verdict.Accepted → ⊥
  pub proves_none : (form : ProofForm) → IsProof form f → ⊥
  pub satisfies_none : f ≡ finding.Satisfied → ⊥

-- A verdict that doesn't accept is such a finding.
pub verdict_of_showing : (v : Verdict) → (v ≡ verdict.Accepted → ⊥) → IsOfShowing (finding.Verdict v)
verdict_of_showing v other = record {
  begins = tt;
  accepts_none = λ is. other (let same : v ≡ verdict.Accepted = cc in same);
  proves_none = λ form no. no;
  satisfies_none = λ is. (let clash : finding.Verdict v ≡ finding.Satisfied = is in cc);
}

module _ {F : Type 0} (fields : FieldNumbers F) (scheme : Option FriNumbers) (s : StatementView F) where
  -- A text begins by the letter of `columns`.
  first_letter : (text : List ℕ) → ShowsAir fields scheme s text → take 1 text ≡ codes "c"
  unfolding columns_text
  first_letter text shows = ap (take 1) (shows.lines ∙ ap (λ air. air ++ (challenges_line fields.order fields.degree ++ (shows.security ++ described fields.number scheme s))) shows.shown.lines)

  pub shown_of_showing : (f : Finding) → IsShownOf fields scheme s f → IsOfShowing f
  shown_of_showing (finding.Text text) shown = record { begins = first_letter (string_bytes text) shown; accepts_none = λ is. cc; proves_none = λ form no. no; satisfies_none = λ is. cc }
  shown_of_showing (finding.Proof line) shown = absurd shown
  shown_of_showing (finding.ProofBytes bytes) shown = absurd shown
  shown_of_showing (finding.Verdict v) shown = absurd shown
  shown_of_showing finding.Satisfied shown = absurd shown
  shown_of_showing (finding.Broken row) shown = absurd shown
  shown_of_showing (finding.TooFewBits line) shown = absurd shown
