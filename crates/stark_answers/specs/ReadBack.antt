-- That the file of a proof spells this proof.
use Rattle.std.specs.Prelude.{◌≡◌, ℕ, ◌≤◌, List, None, Some, Result, Ok}
use Rattle.serde_json.specs.Data.{Data, depth}
use Rattle.serde_json.specs.Read.{max_depth}
use Rattle.stark_support.specs.Json.{json_of}
use Rattle.stark_proof.specs.ProofJson.{ProofFault, openings_rule_fault}
use Rattle.stark_proof.specs.ProofView.{ProofView}
use Rattle.stark_proof_bytes.specs.ProofBytes.{ProofCodecs, proof_reading}
use Rattle.stark_answers.specs.Finding.{IsProof, finding_bytes}
use Rattle.stark_answers.specs.declared.finding.Finding.{Finding}
use Rattle.stark_answers.specs.declared.task.ProofForm.{ProofForm}
use Rattle.stark_answers.specs.declared.task.ProofForm.TheVariants.{Bytes, Json}

-- A value's JSON nests no deeper.
abbrev pub NestsWithin : {A : Type 0} → ℕ → (A → Data) → Type 0
NestsWithin {A} n writing = (x : A) → depth (writing x) ≤ n

-- By how a proof is written as JSON and read.
module _ {K E P F : Type 0} (writing : ProofView K E P F → Data) (reading : Data → Result (ProofView K E P F) ProofFault) where
  -- A proof's opened values keep the rule of the preprocessed rows, and its JSON nests no deeper than a reader goes.
  pub record IsReadable (p : ProofView K E P F) : Type 0 where
    pub ruled : openings_rule_fault p.opened_values ≡ None
    pub shallow : depth (writing p) ≤ max_depth

  -- Such a proof is what the text spells.
  abbrev pub SpellsProof : ProofView K E P F → List ℕ → Type 0
  SpellsProof p text = IsReadable p → (d : Data) × (json_of text ≡ Some d) × (reading d ≡ Ok p)

  module _ (codecs : ProofCodecs K E P F) where
    -- The file in a form spells the proof: as bytes always, and as JSON where it can be read.
    abbrev pub SpellsInForm : ProofForm → ProofView K E P F → List ℕ → Type 0
    SpellsInForm Json p file = SpellsProof p file
    SpellsInForm Bytes p file = proof_reading codecs file ≡ Ok p

    -- A proof that is found in a form is spelt by its file.
    abbrev pub ReadsBack : ProofForm → ProofView K E P F → Finding → Type 0
    ReadsBack form p f = IsProof form f → SpellsInForm form p (finding_bytes f)
