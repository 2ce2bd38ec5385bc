-- What is said of a text that spells no rows of one length.
use Rattle.std.proofs.Common.{◌≡◌, ◌⊎◌, inl, inr, ℕ, List, Option}
use Rattle.serde_json.specs.Data.{Data}
use Rattle.stark_trace_json.specs.Faults.{IsFaultOfText}
use Rattle.stark_trace_json.specs.Rows.{SpellsNoTrace, rows_in}
use Rattle.stark_trace_json.specs.declared.fault.RowsFault.{RowsFault}
use Rattle.stark_trace_json.specs.declared.fault.RowsFault.TheVariants.{NoJson, NoArray, NoRow, NoElement, Uneven, OutOfMemory}
use Rattle.stark_trace_json.proofs.Even.{spells_no_trace}
use Rattle.stark_answers.specs.declared.verdict.Verdict.{Verdict}
use Rattle.stark_answers.specs.declared.verdict.Verdict.TheVariants as verdict
use Rattle.stark_service.specs.Statements.{verdict_of_rows}

module _ {F : Type 0} (element : Data → Option F) (bytes : List ℕ) (v : Verdict) where
  pub unread_rows : (fault : RowsFault) → IsFaultOfText element bytes fault → v ≡ verdict_of_rows fault → (v ≡ verdict.OutOfMemory) ⊎ (SpellsNoTrace (rows_in element bytes) × (v ≡ verdict.BadInput))
  unread_rows OutOfMemory h e = inl e
  unread_rows NoJson h e = inr (spells_no_trace element bytes NoJson (λ same. cc) h, e)
  unread_rows NoArray h e = inr (spells_no_trace element bytes NoArray (λ same. cc) h, e)
  unread_rows (NoRow row) h e = inr (spells_no_trace element bytes (NoRow row) (λ same. cc) h, e)
  unread_rows (NoElement row column value) h e = inr (spells_no_trace element bytes (NoElement row column value) (λ same. cc) h, e)
  unread_rows (Uneven row expected got) h e = inr (spells_no_trace element bytes (Uneven row expected got) (λ same. cc) h, e)
