-- The tests of a proof's shape, with the words of what they are given.
use Rattle.std.specs.Prelude.{ℕ, Bool, List, Option, option_map}
use Rattle.std.specs.declared.vec.Vec.{Vec}
use Rattle.std.specs.Option.{option_or}
use Rattle.stark_proof.specs.ProofView.{OpeningsView, PreprocessedView, preprocessed_view}
use Rattle.stark_proof.specs.declared.values.PreprocessedOpenedValues.{PreprocessedOpenedValues}
use Rattle.stark_transcript.specs.declared.error.InvalidProofShapeError.{InvalidProofShapeError}
use Rattle.stark_transcript.specs.declared.error.InvalidProofShapeError.TheVariants.{NonCanonicalAlphaPowWitness, NonCanonicalOodPowWitness}
use Rattle.stark_protocol.specs.ShapeFaults.{dimensions_fault, opened_fault, witness_fault}
use Rattle.stark_verifier.specs.declared.opened.ExpectedOpenings.{ExpectedOpenings}

-- a row that may not be opened, as a list
abbrev pub row_view : {E A : Type 0} → Option (Vec E A) → Option (List E)
row_view row = option_map (λ row. row.items) row

-- the preprocessed rows that may not be opened
abbrev pub rows_view : {E : Type 0} → Option (PreprocessedOpenedValues E) → Option (PreprocessedView E)
rows_view rows = option_map preprocessed_view rows

-- The lengths of the current row, of the chunks and of the random row.
abbrev pub lengths_fault : {E : Type 0} → ℕ → ℕ → ℕ → OpeningsView E → Option InvalidProofShapeError
lengths_fault width chunks dimension opened = dimensions_fault width chunks dimension opened.trace_local opened.quotient_chunks opened.random

-- The witness before alpha, and then that before zeta.
abbrev pub witnesses_fault : ℕ → Bool → ℕ → Bool → Option InvalidProofShapeError
witnesses_fault alpha_bits alpha_is_zero ood_bits ood_is_zero =
    option_or (witness_fault NonCanonicalAlphaPowWitness alpha_bits alpha_is_zero) (witness_fault NonCanonicalOodPowWitness ood_bits ood_is_zero)

-- The number of public values, the opened rows and the witnesses, beside what is expected of them.
abbrev pub unexpected_fault : {E : Type 0} → ExpectedOpenings → ℕ → OpeningsView E → Bool → Bool → Option InvalidProofShapeError
unexpected_fault expected public_values opened alpha_is_zero ood_is_zero =
    opened_fault expected.public_values public_values expected.reads_next expected.width expected.chunks expected.dimension opened expected.alpha_bits alpha_is_zero expected.ood_bits ood_is_zero
