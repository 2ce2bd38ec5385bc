-- What is written of a proof is read back as this proof.
use Rattle.std.proofs.Common.{◌≡◌, ◌∙◌, ap, refl, sym, subst, ℕ, ◌≤◌, List, None, Some, Result, Ok}
use Rattle.std.specs.Prelude.{option_and_then}
use Rattle.std.specs.declared.string.String.{String}
use Rattle.std.specs.Prelude.{string_bytes}
use Rattle.std.proofs.Utf8Push.{IsUtf8-string_bytes}
use Rattle.serde_json.specs.Data.{Data, depth}
use Rattle.serde_json.specs.Read.{max_depth, of_json, read}
use Rattle.json.specs.Json as json
use Rattle.stark_support.proofs.Readings.{json_of-some}
use Rattle.stark_proof.specs.ProofJson.{ProofFault, openings_rule_fault, proof_read_back}
use Rattle.stark_proof.specs.ProofView.{ProofView}
use Rattle.stark_answers.specs.ReadBack.{SpellsProof}
use Rattle.stark_answers.proofs.Newline.{line, tokens_line}

read_line : (s : List ℕ) → read (line s) ≡ read s
read_line s = ap (λ ts. option_and_then of_json (option_and_then (λ p. json.if_last p.0 p.1) (json.value max_depth ts))) (tokens_line s)

module _ {K E P F : Type 0} (writing : ProofView K E P F → Data) (reading : Data → Result (ProofView K E P F) ProofFault) where
  -- What is read back of a proof whose opened values keep their rule is the proof.
  ruled_back : (p : ProofView K E P F) → openings_rule_fault p.opened_values ≡ None → proof_read_back p ≡ Ok p
  ruled_back p none = rw none refl

  -- Of a value's text with a line feed.
  pub line_spells : {Z : Type 0} (p : ProofView K E P F) (d : Data) (text : List ℕ) (written : String Z) → d ≡ writing p → reading d ≡ proof_read_back p → (depth d ≤ max_depth → read text ≡ Some d)
      → string_bytes written ≡ line text → SpellsProof writing reading p (string_bytes written)
  line_spells p d text written is back reads whole = λ readable.
      let of_text = reads (subst (λ x. depth x ≤ max_depth) (sym is) readable.shallow) in
      (d, json_of-some (string_bytes written) d (IsUtf8-string_bytes written) (ap read whole ∙ read_line text ∙ of_text), back ∙ ruled_back p readable.ruled)
