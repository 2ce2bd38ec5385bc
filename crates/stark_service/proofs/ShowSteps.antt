-- From what was read of a statement to what is shown of it, and what a report without a statement is not.
use Rattle.std.proofs.Common.{◌≡◌, ◌∙◌, ◌⊎◌, ◌++◌, ap, append_assoc, refl, sym, ℕ, List, Option, Result, Ok, subst}
use Rattle.serde_json.specs.Data.{Data}
use Rattle.stark_tree_air.specs.declared.columns.TreeDeclaration.{TreeDeclaration}
use Rattle.stark_tree_air.specs.declared.list.TreeList.{TreeList}
use Rattle.stark_statement.specs.Configuration.{FriNumbers}
use Rattle.stark_statement.specs.StatementJson.{StatementFault}
use Rattle.stark_statement.specs.StatementView.{StatementView, statement_view}
use Rattle.stark_statement.specs.declared.statement.Statement.{Statement}
use Rattle.stark_show.specs.Shown.{IsShown, IsWhole, columns_text}
use Rattle.stark_answers.specs.Finding.{IsProof}
use Rattle.stark_answers.specs.declared.finding.Finding.{Finding}
use Rattle.stark_answers.specs.declared.finding.Finding.TheVariants as finding
use Rattle.stark_answers.specs.declared.task.ProofForm.{ProofForm}
use Rattle.stark_answers.specs.declared.task.TraceTask.{TraceTask}
use Rattle.stark_answers.specs.declared.verdict.Verdict.{Verdict}
use Rattle.stark_answers.specs.declared.verdict.Verdict.TheVariants as verdict
use Rattle.stark_service.specs.Description.{described}
use Rattle.stark_service.specs.Schemes.{IsUnconfigured}
use Rattle.stark_service.specs.Security.{FieldNumbers, IsWorthLine, challenges_line}
use Rattle.stark_service.specs.Showing.{IsOfShowing, IsShownOf, IsShownOfRead, ShowsAir, greatest_height, verdict_of_showing}
use Rattle.stark_service.specs.StatementFacts.{IsOfTrace}
use Rattle.stark_service.specs.Statements.{IsSaidOfNone, IsWithinLimits}
use Rattle.stark_service.specs.TraceChecks.{OrLacksMemory}
use Rattle.stark_service.proofs.ReadSteps.{none_accepted, said_of_read, unconfigured_accepts_none}

-- With lines after it a text begins as before.
longer : {F : Type 0} (number : F → ℕ) (declaration : TreeDeclaration F) (list : TreeList F) (text more : List ℕ) → IsWhole number declaration list text → IsWhole number declaration list (text ++ more)
longer number declaration list text more begins = record { whole = λ short. (let all = begins.whole short in (all.0 ++ more, ap (λ t. t ++ more) all.1 ∙ append_assoc _ _ more ∙ ap (λ t. columns_text declaration.columns ++ t) (append_assoc _ all.0 more))) }

module _ {F : Type 0} (fields : FieldNumbers F) (scheme : Option FriNumbers) (statement : Statement F) (greatest : ℕ) (is_greatest : greatest ≡ greatest_height fields.adicity scheme) (order degree : ℕ) (is_order : order ≡ fields.order) (is_degree : degree ≡ fields.degree) (air challenges between worth_text security last text : List ℕ) where
  abbrev rest : List ℕ
  rest = security ++ described fields.number scheme (statement_view statement)

  -- The text of the AIR, and the lines after it.
  pub shows_statement : IsShown fields.number statement.air.declaration statement.air.list greatest air → IsWhole fields.number statement.air.declaration statement.air.list air
      → IsWorthLine fields scheme greatest (statement_view statement) security → challenges ≡ challenges_line order degree → last ≡ described fields.number scheme (statement_view statement)
      → between ≡ air ++ challenges → worth_text ≡ between ++ security → text ≡ worth_text ++ last → ShowsAir fields scheme (statement_view statement) text
  shows_statement shown whole worth is_challenges is_last first second third =
      let line = challenges_line fields.order fields.degree in
      let front : between ≡ air ++ line = first ∙ ap (λ t. air ++ t) (is_challenges ∙ ap (λ n. challenges_line n degree) is_order ∙ ap (challenges_line fields.order) is_degree) in
      let all : text ≡ air ++ (line ++ rest) =
      third ∙ ap (λ t. worth_text ++ t) is_last ∙ ap (λ t. t ++ described fields.number scheme (statement_view statement)) (second ∙ ap (λ t. t ++ security) front)
      ∙ append_assoc (air ++ line) security (described fields.number scheme (statement_view statement)) ∙ append_assoc air line rest in
      record {
        declaration = statement.air.declaration;
        list = statement.air.list;
        of_air = refl;
        air = air;
        security = security;
        shown = subst (λ k. IsShown fields.number statement.air.declaration statement.air.list k air) is_greatest shown;
        whole = subst (IsWhole fields.number statement.air.declaration statement.air.list) (sym all) (longer fields.number statement.air.declaration statement.air.list air (line ++ rest) whole);
        worth = subst (λ k. IsWorthLine fields scheme k (statement_view statement) security) is_greatest worth;
        lines = all;
      }

-- Of what was read.
pub shown_of_read : {F : Type 0} (fields : FieldNumbers F) (scheme : Option FriNumbers) (read : Result (StatementView F) StatementFault) (f : Finding) (s : StatementView F) → (read ≡ Ok s) × IsWithinLimits s → OrLacksMemory (IsShownOf fields scheme s) f
    → OrLacksMemory (IsShownOfRead fields scheme read) f
shown_of_read fields scheme read f s reads shown = said_of_read (λ v. finding.Verdict v) (IsShownOf fields scheme) read f s reads shown

-- A verdict that doesn't accept is a finding of a trace.
pub verdict_of_trace : (asked : TraceTask) (v : Verdict) → (v ≡ verdict.Accepted → ⊥) → IsOfTrace asked (finding.Verdict v)
verdict_of_trace asked v other = record {
  begins = tt;
  accepts_none = λ is. other (let same : v ≡ verdict.Accepted = cc in same);
  shows_none = λ no. no;
  proves_as_asked = λ form no. absurd no;
  satisfied_checks = λ is. absurd (let clash : finding.Verdict v ≡ finding.Satisfied = is in cc);
}

no_proof_of_verdict : (v : Verdict) (form : ProofForm) → IsProof form (finding.Verdict v) → ⊥
no_proof_of_verdict v form is = is

module _ (f : Finding) (w : Verdict) (is : f ≡ finding.Verdict w) where
  -- A verdict proves nothing.
  pub verdict_proves_none : (form : ProofForm) → IsProof form f → ⊥
  verdict_proves_none form proof = no_proof_of_verdict w form (subst (IsProof form) is proof)

  -- Without a statement.
  pub none_shown : {F : Type 0} (read : Result (StatementView F) StatementFault) → (w ≡ verdict.OutOfMemory) ⊎ IsSaidOfNone read w → IsOfShowing f
  none_shown read none = subst IsOfShowing (sym is) (verdict_of_showing w (none_accepted read w none))

  -- Without a configuration.
  pub unconfigured_shown : (read : Option Data) → (w ≡ verdict.OutOfMemory) ⊎ (IsUnconfigured read × (w ≡ verdict.BadInput)) → IsOfShowing f
  unconfigured_shown read none = subst IsOfShowing (sym is) (verdict_of_showing w (unconfigured_accepts_none read w none))

  pub unconfigured_stated : (asked : TraceTask) (read : Option Data) → (w ≡ verdict.OutOfMemory) ⊎ (IsUnconfigured read × (w ≡ verdict.BadInput)) → IsOfTrace asked f
  unconfigured_stated asked read none = subst (IsOfTrace asked) (sym is) (verdict_of_trace asked w (unconfigured_accepts_none read w none))
