-- From what was read of a statement's bytes to its JSON and its configuration.
use Rattle.std.proofs.Common.{◌≡◌, ◌⊎◌, ◌∙◌, ap, inl, inr, refl, subst, sym, Option, None, Some, IfSome, Ok, Err}
use Rattle.serde_json.specs.Data.{Data}
use Rattle.std.specs.Prelude.{ℕ, Bool, true, false, List, if◌then◌else◌, is_some}
use Rattle.stark_support.specs.Json.{Gives, json_of}
use Rattle.stark_support.specs.declared.json.JsonFault.{JsonFault}
use Rattle.stark_support.specs.declared.json.JsonFault.TheVariants.{Invalid, OutOfMemory}
use Rattle.stark_statement.specs.Configuration.{ConfigurationView}
use Rattle.stark_statement.specs.Repeats.{repeated_in, statement_json}
use Rattle.stark_statement.specs.StatementJson.{StatementFault, configuration_reading, repeated_name, unless_repeated, unrepeated}
use Rattle.stark_answers.specs.declared.verdict.Verdict.{Verdict}
use Rattle.stark_answers.specs.declared.verdict.Verdict.TheVariants as verdict
use Rattle.stark_service.specs.Schemes.{IsUnconfigured}
use Rattle.stark_service.specs.Statements.{verdict_of_fault, verdict_without}

-- Bytes that spell no JSON, or want of memory.
pub unread_configured : {X : Type 0} (view : X → Data) (fault : JsonFault) (read : Option Data) (v : Verdict) → Gives view (Err fault) read → v ≡ verdict_of_fault fault
    → (v ≡ verdict.OutOfMemory) ⊎ (IsUnconfigured read × (v ≡ verdict.BadInput))
unread_configured view Invalid read v unread is = inr (subst IsUnconfigured (sym unread) tt, is)
unread_configured view OutOfMemory read v unread is = inl is

no_name : (d : Data) (fault : StatementFault) → configuration_reading d ≡ Err fault → (c : ConfigurationView) → configuration_reading d ≡ Ok c → ⊥
no_name d fault unread c reads = let clash : Ok c ≡ Err fault = sym reads ∙ unread in cc

-- JSON that names no configuration.
pub unnamed_configured : (d : Data) (fault : Option StatementFault) (read : Option Data) (v : Verdict) → read ≡ Some d → IfSome fault (λ f. configuration_reading d ≡ Err f) → v ≡ verdict_without fault
    → (v ≡ verdict.OutOfMemory) ⊎ (IsUnconfigured read × (v ≡ verdict.BadInput))
unnamed_configured d None read v spells unread is = inl is
unnamed_configured d (Some fault) read v spells unread is = inr (subst IsUnconfigured (sym spells) (no_name d fault unread), is)

-- ---- names that stand twice

some_repeat : (r : Option (List ℕ)) (f : StatementFault) → unless_repeated r ≡ Err f → is_some r ≡ true
some_repeat None f e = let clash : Ok tt ≡ Err f = e in cc
some_repeat (Some name) f e = refl

no_repeat : (r : Option (List ℕ)) → unless_repeated r ≡ Ok tt → is_some r ≡ false
no_repeat None e = refl
no_repeat (Some name) e = let clash : Err (repeated_name name) ≡ Ok tt = e in cc

-- Where none does, the statement's JSON is the text's.
pub json_unrepeated : (bytes : List ℕ) (d : Data) → json_of bytes ≡ Some d → unrepeated bytes ≡ Ok tt → statement_json bytes ≡ Some d
unfolding statement_json
json_unrepeated bytes d spells none = ap (λ b. if b then None else json_of bytes) (no_repeat (repeated_in bytes) none) ∙ spells

-- What spells no JSON is no statement's.
unconfigured_if : (b : Bool) (r : Option Data) → IsUnconfigured r → IsUnconfigured (if b then None else r)
unconfigured_if true r none = tt
unconfigured_if false r none = none

pub unread_statement_json : (bytes : List ℕ) (v : Verdict) → (v ≡ verdict.OutOfMemory) ⊎ (IsUnconfigured (json_of bytes) × (v ≡ verdict.BadInput))
    → (v ≡ verdict.OutOfMemory) ⊎ (IsUnconfigured (statement_json bytes) × (v ≡ verdict.BadInput))
unfolding statement_json
unread_statement_json bytes v (inl memory) = inl memory
unread_statement_json bytes v (inr bad) = inr (unconfigured_if (is_some (repeated_in bytes)) (json_of bytes) bad.0, bad.1)

-- Bytes with a name that stands twice, or want of memory.
pub repeated_configured : (bytes : List ℕ) (fault : Option StatementFault) (v : Verdict) → IfSome fault (λ f. unrepeated bytes ≡ Err f) → v ≡ verdict_without fault
    → (v ≡ verdict.OutOfMemory) ⊎ (IsUnconfigured (statement_json bytes) × (v ≡ verdict.BadInput))
unfolding statement_json
repeated_configured bytes None v repeated is = inl is
repeated_configured bytes (Some f) v repeated is =
    inr (subst (λ b. IsUnconfigured (if b then None else json_of bytes)) (sym (some_repeat (repeated_in bytes) f repeated)) tt, is)
