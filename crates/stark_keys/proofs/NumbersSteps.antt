-- From what is said over a configuration to what is said by the scheme that was chosen.
use Rattle.std.proofs.Common.{◌≡◌, ◌⊎◌, ◌∙◌, inl, inr, ap, subst, sym, ℕ, ◌≤◌, List, Option, Result, Ok}
use Rattle.std.specs.Coded.{le_prop}
use mathlib.Core.HLevel.{is_prop→PathP}
use Rattle.stark_fri_proof.specs.declared.parameters.FriParameters.{FriParameters}
use Rattle.stark_proof.specs.ProofView.{ProofView}
use Rattle.stark_statement.specs.Configuration.{fri_numbers}
use Rattle.stark_statement.specs.StatementView.{StatementView}
use Rattle.stark_answers.specs.declared.verdict.Verdict.{Verdict}
use Rattle.stark_answers.specs.declared.verdict.Verdict.TheVariants as verdict
use Rattle.stark_service.specs.Schemes.{WithNumbers}
use Rattle.stark_service.specs.Service.{ServiceOps}
use Rattle.stark_service.specs.Statements.{IsVerdictOn}
use Rattle.stark_keys.specs.Keys.{IsKeyFile, IsMadeOn, IsOnlyOne, IsVerdictWithKeyOn, OrNotMade}

-- Parameters of the same numbers are one.
pub same_parameters : (a b : FriParameters) → fri_numbers a ≡ fri_numbers b → a ≡ b
same_parameters a b e = λ i. record {
  log_blowup = (e i).log_blowup;
  log_final_poly_len = (e i).log_final_poly_len;
  num_queries = (e i).num_queries;
  commit_proof_of_work_bits = (e i).commit_bits;
  query_proof_of_work_bits = (e i).query_bits;
  blown_up = is_prop→PathP (λ j. 1 ≤ (e j).log_blowup) (λ j. le_prop) a.blown_up b.blown_up i;
  blowup_fits = is_prop→PathP (λ j. (e j).log_blowup ≤ 63) (λ j. le_prop) a.blowup_fits b.blowup_fits i;
  final_fits = is_prop→PathP (λ j. (e j).log_final_poly_len ≤ 63) (λ j. le_prop) a.final_fits b.final_fits i;
  queried = is_prop→PathP (λ j. 1 ≤ (e j).num_queries) (λ j. le_prop) a.queried b.queried i;
  commit_work_fits = is_prop→PathP (λ j. (e j).commit_bits ≤ 63) (λ j. le_prop) a.commit_work_fits b.commit_work_fits i;
  query_work_fits = is_prop→PathP (λ j. (e j).query_bits ≤ 63) (λ j. le_prop) a.query_work_fits b.query_work_fits i;
}

-- A configuration has a scheme that was made with parameters, and a challenger that observed the statement.
module _ {S F E C K T P X Y : Type 0} (ops : ServiceOps S F E C K T P X Y) (scheme made : S) (parameters_of : S → FriParameters) (parameters : FriParameters) (s : StatementView F)
    (is_made : scheme ≡ made) (made_with : parameters_of made ≡ parameters) where
  pub made_by_numbers : (m : Result (List ℕ) Verdict) → OrNotMade (IsMadeOn ops scheme s) m → OrNotMade (λ n. WithNumbers parameters_of (fri_numbers parameters) (λ pcs. IsMadeOn ops pcs s n)) m
  made_by_numbers m (inl memory) = inl memory
  made_by_numbers m (inr is) = inr (scheme, ap fri_numbers (ap parameters_of is_made ∙ made_with), is)

  -- The key was made by the scheme of these numbers, of which there is one.
  pub file_by_numbers : IsOnlyOne parameters_of made → (key : List ℕ) → WithNumbers parameters_of (fri_numbers parameters) (λ pcs. IsMadeOn ops pcs s (Ok key)) → IsKeyFile ops scheme s key
  unfolding IsMadeOn
  file_by_numbers only key of_key =
      let same : parameters_of of_key.0 ≡ parameters_of made = same_parameters (parameters_of of_key.0) (parameters_of made) (of_key.1 ∙ sym (ap fri_numbers made_with)) in
      subst (λ pcs. IsKeyFile ops pcs s key) (only of_key.0 same ∙ sym is_made) of_key.2

  module _ (state bound after : C) (is_bound : state ≡ bound) (observed : bound ≡ after) (key : List ℕ) (read : Option (ProofView K E P F)) (v : Verdict) where
    pub keyed_by_numbers : (v ≡ verdict.OutOfMemory) ⊎ IsVerdictWithKeyOn ops scheme state s key read v
        → (v ≡ verdict.OutOfMemory) ⊎ WithNumbers parameters_of (fri_numbers parameters) (λ pcs. IsVerdictWithKeyOn ops pcs after s key read v)
    keyed_by_numbers (inl memory) = inl memory
    keyed_by_numbers (inr said) =
        inr (scheme, ap fri_numbers (ap parameters_of is_made ∙ made_with), subst (λ c. IsVerdictWithKeyOn ops scheme c s key read v) (is_bound ∙ observed) said)

-- In the clear there is one scheme.
module _ {S F E C K T P X Y : Type 0} (ops : ServiceOps S F E C K T P X Y) (scheme made other : S) (s : StatementView F) (is_made : scheme ≡ made) (is_other : made ≡ other) where
  pub made_in_the_clear : (m : Result (List ℕ) Verdict) → OrNotMade (IsMadeOn ops scheme s) m → OrNotMade (IsMadeOn ops other s) m
  made_in_the_clear m is = subst (λ pcs. OrNotMade (IsMadeOn ops pcs s) m) (is_made ∙ is_other) is

  pub file_in_the_clear : (key : List ℕ) → IsMadeOn ops other s (Ok key) → IsKeyFile ops scheme s key
  unfolding IsMadeOn
  file_in_the_clear key of_key = subst (λ pcs. IsKeyFile ops pcs s key) (sym (is_made ∙ is_other)) of_key

  module _ (state bound after : C) (is_bound : state ≡ bound) (observed : bound ≡ after) (key : List ℕ) (read : Option (ProofView K E P F)) (v : Verdict) where
    pub keyed_in_the_clear : (v ≡ verdict.OutOfMemory) ⊎ IsVerdictWithKeyOn ops scheme state s key read v → (v ≡ verdict.OutOfMemory) ⊎ IsVerdictWithKeyOn ops other after s key read v
    keyed_in_the_clear said =
        subst (λ pcs. (v ≡ verdict.OutOfMemory) ⊎ IsVerdictWithKeyOn ops pcs after s key read v) (is_made ∙ is_other)
        (subst (λ c. (v ≡ verdict.OutOfMemory) ⊎ IsVerdictWithKeyOn ops scheme c s key read v) (is_bound ∙ observed) said)

    pub verdict_in_the_clear : (v ≡ verdict.OutOfMemory) ⊎ IsVerdictOn ops scheme state s read v → (v ≡ verdict.OutOfMemory) ⊎ IsVerdictOn ops other after s read v
    verdict_in_the_clear said =
        subst (λ pcs. (v ≡ verdict.OutOfMemory) ⊎ IsVerdictOn ops pcs after s read v) (is_made ∙ is_other)
        (subst (λ c. (v ≡ verdict.OutOfMemory) ⊎ IsVerdictOn ops scheme c s read v) (is_bound ∙ observed) said)
