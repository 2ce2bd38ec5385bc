-- The shape of a trace that was read.
use Rattle.std.proofs.Common.{◌≡◌, ◌∙◌, sym, ℕ, ◌^◌, ◌<◌, List, length, map}
use Rattle.std.proofs.lemmas.List.{length-map}
use Rattle.stark_support.specs.LogarithmFacts.{same_exponent}
use Rattle.std.specs.declared.vec.Vec.{Vec}
use Rattle.stark_answers.specs.TraceShape.{FitsShape}
use Rattle.stark_answers.specs.declared.shape.CheckShape.{CheckShape}

-- A trace of 2 ^ n rows has no shape beside preprocessed columns of another height.
pub other_height : {F A : Type 0} (shape : CheckShape) (log_rows greatest : ℕ) (rows : List (Vec F A)) (public_values : List F) (height n : ℕ) → height ≡ length rows → height ≡ 2 ^ n → 0 < shape.preprocessed_width → (n ≡ log_rows → ⊥)
    → (log_height : ℕ) → FitsShape shape log_rows greatest (map (λ row. row.items) rows) public_values log_height → ⊥
other_height shape log_rows greatest rows public_values height n counted power some other log_height fits =
    let many : length (map (λ row. row.items) rows) ≡ 2 ^ n = length-map rows (λ row. row.items) ∙ sym counted ∙ power in
    other (same_exponent n log_height (sym many ∙ fits.height) ∙ fits.preprocessed_rows some)
