-- From what is read of a statement and a proof to what a proof is worth.
use Rattle.std.proofs.Common.{◌≡◌, ◌⊎◌, ◌∙◌, inl, inr, ap, refl, subst, sym, ℕ, List, Option, None, Some, Result, Ok, Err, IfOk, IfSome}
use Rattle.std.specs.Prelude.{option_map}
use Rattle.serde_json.specs.Data.{Data}
use Rattle.stark_statement.specs.Repeats.{statement_json}
use Rattle.stark_statement.specs.Configuration.{ConfigurationView, FriNumbers}
use Rattle.stark_statement.specs.StatementJson.{configuration_reading}
use Rattle.stark_statement.specs.declared.configuration.FieldName.{FieldName}
use Rattle.stark_statement.specs.declared.configuration.FieldName.TheVariants.{BabyBear, KoalaBear, F12289}
use Rattle.stark_answers.specs.declared.verdict.Verdict.{Verdict}
use Rattle.stark_answers.specs.declared.verdict.Verdict.TheVariants as verdict
use Rattle.stark_service.specs.Floor.{IsWorthOf, IsWorthOfProof}
use Rattle.stark_service.specs.Schemes.{HoldsOfBytes, HoldsOfJson, HoldsOfValue, IsUnconfigured, OverField}
use Rattle.stark_service.proofs.ReadSteps.{holds_of_bytes}
use Rattle.stark_service.specs.declared.security.SecurityBits.{SecurityBits}
use Rattle.stark_service.specs.declared.worth.SecurityError.{SecurityError}

-- ---- of bytes

-- What holds of bytes holds of what was read of them.
pub of_bytes : (Holds : ConfigurationView → Data → Type 0) (bytes : List ℕ) (d : Data) (c : ConfigurationView) → statement_json bytes ≡ Some d → configuration_reading d ≡ Ok c → HoldsOfBytes Holds bytes → Holds c d
unfolding HoldsOfBytes
of_bytes Holds bytes d c is names holds = subst (HoldsOfValue (λ k. Holds k d)) names (subst (HoldsOfJson Holds) is holds)

not_of_value : {Fault : Type 0} (Holds : ConfigurationView → Type 0) (read : Result ConfigurationView Fault) → ((c : ConfigurationView) → read ≡ Ok c → ⊥) → HoldsOfValue Holds read → ⊥
not_of_value Holds (Err fault) none holds = holds
not_of_value Holds (Ok c) none holds = none c refl

not_of_json : (Holds : ConfigurationView → Data → Type 0) (read : Option Data) → IsUnconfigured read → HoldsOfJson Holds read → ⊥
not_of_json Holds None none holds = holds
not_of_json Holds (Some d) none holds = not_of_value (λ c. Holds c d) (configuration_reading d) none holds

-- Nothing holds of bytes without a configuration.
pub not_of_bytes : (Holds : ConfigurationView → Data → Type 0) (bytes : List ℕ) → IsUnconfigured (statement_json bytes) → HoldsOfBytes Holds bytes → ⊥
unfolding HoldsOfBytes
not_of_bytes Holds bytes none holds = not_of_json Holds (statement_json bytes) none holds

-- ---- heights

-- What a field has is one.
pub one_over_field : (field : FieldName) (a b c h g : Option ℕ) → OverField field (a ≡ h) (b ≡ h) (c ≡ h) → OverField field (a ≡ g) (b ≡ g) (c ≡ g) → h ≡ g
one_over_field BabyBear a b c h g first second = sym first ∙ second
one_over_field KoalaBear a b c h g first second = sym first ∙ second
one_over_field F12289 a b c h g first second = sym first ∙ second

-- Over what a configuration has for a proof.
module _ (Is : FieldName → Option FriNumbers → List ℕ → Option ℕ → Type 0) (proof bytes : List ℕ) where
  -- For a statement's bytes the proof has this height.
  abbrev Height : ℕ → Type 0
  Height k = HoldsOfBytes (λ c d. Is c.field c.fri proof (Some k)) bytes

  module _ (d : Data) (c : ConfigurationView) (is : statement_json bytes ≡ Some d) (names : configuration_reading d ≡ Ok c) where
    pub height_is_so : {E : Type 0} (r : Result (Option ℕ) E) → IfOk r (Is c.field c.fri proof) → IfOk r (λ h. IfSome h Height)
    height_is_so (Ok (Some k)) holds = holds_of_bytes (λ v _. Is v.field v.fri proof (Some k)) bytes d c is names holds
    height_is_so (Ok None) holds = tt
    height_is_so (Err e) holds = tt

    pub height_is_one : {E : Type 0} → ((h g : Option ℕ) → Is c.field c.fri proof h → Is c.field c.fri proof g → h ≡ g) → (r : Result (Option ℕ) E) → IfOk r (Is c.field c.fri proof) → IfOk r (λ h. (k : ℕ) → Height k → h ≡ Some k)
    height_is_one one (Ok h) holds = λ k other. one h (Some k) holds (of_bytes (λ v _. Is v.field v.fri proof (Some k)) bytes d c is names other)
    height_is_one one (Err e) holds = tt

  pub height_is_none : {E : Type 0} (v : Verdict) → (v ≡ verdict.OutOfMemory) ⊎ (IsUnconfigured (statement_json bytes) × (v ≡ verdict.BadInput)) → (r : Result (Option ℕ) E) → IfOk r (λ h. (h ≡ None) × (v ≡ verdict.OutOfMemory → ⊥))
      → IfOk r (λ h. (k : ℕ) → Height k → h ≡ Some k)
  height_is_none v (inl lacks) (Ok h) none = absurd (none.1 lacks)
  height_is_none v (inr unread) (Ok h) none = λ k holds. absurd (not_of_bytes (λ c _. Is c.field c.fri proof (Some k)) bytes unread.0 holds)
  height_is_none v unread (Err e) none = tt

-- The height of a proof that was read,
pub height_read : {P : Type 0} (degree : P → ℕ) (read : Option P) (p : P) → read ≡ Some p → option_map degree read ≡ Some (degree p)
height_read degree read p is = ap (option_map degree) is

-- or none, where none was.
pub height_unread : {P E : Type 0} (degree : P → ℕ) (read : Option P) (v : Verdict) (r : Result (Option ℕ) E) → (v ≡ verdict.OutOfMemory) ⊎ ((read ≡ None) × (v ≡ verdict.BadInput))
    → IfOk r (λ h. (h ≡ None) × (v ≡ verdict.OutOfMemory → ⊥)) → IfOk r (λ h. option_map degree read ≡ h)
height_unread degree read v (Ok h) (inl lacks) none = absurd (none.1 lacks)
height_unread degree read v (Ok h) (inr unread) none = ap (option_map degree) unread.0 ∙ sym none.0
height_unread degree read v (Err e) unread none = tt

-- Without a configuration there is none.
pub no_height_some : {E : Type 0} (Q : ℕ → Type 0) (v : Verdict) (r : Result (Option ℕ) E) → IfOk r (λ h. (h ≡ None) × (v ≡ verdict.OutOfMemory → ⊥)) → IfOk r (λ h. IfSome h Q)
no_height_some Q v (Ok h) none = subst (λ o. IfSome o Q) (sym none.0) tt
no_height_some Q v (Err e) none = tt

-- ---- worth

module _ (Height : ℕ → Type 0) (Security : ℕ → Result SecurityBits SecurityError → Type 0) where
  pub no_height : (h : Option ℕ) → h ≡ None → ((k : ℕ) → Height k → h ≡ Some k) → IsWorthOfProof Height Security None
  no_height h none only = inl (λ k height. let clash : None ≡ Some k = sym none ∙ only k height in cc)

  pub of_height : {E : Type 0} (k : ℕ) (r : Result (Option ℕ) E) → Height k → IfOk r (IsWorthOf (Security k)) → IfOk r (IsWorthOfProof Height Security)
  of_height k (Ok (Some bits)) height worth = (k, height, worth)
  of_height k (Ok None) height worth = inr (k, height, worth)
  of_height k (Err e) height worth = tt

  pub height_of : (h : Option ℕ) (k : ℕ) → h ≡ Some k → IfSome h Height → Height k
  height_of h k is holds = subst (λ o. IfSome o Height) is holds
