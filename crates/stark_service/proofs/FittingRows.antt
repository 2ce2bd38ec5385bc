-- From rows that were read to a trace of an AIR's.
use Rattle.std.proofs.Common.{◌≡◌, ◌∙◌, sym, subst, arith, ℕ, ◌^◌, ◌<◌, ◌==◌, true, false, List, [], ◌∷◌, length}
use Rattle.std.proofs.lemmas.Bool.{and_parts, eqb-true}
use Rattle.std.specs.List.{list_all}
use Rattle.stark_support.specs.LogarithmFacts.{same_exponent}
use Rattle.stark_trace_json.specs.Rows.{are_even, width_of}
use Rattle.stark_answers.specs.TraceShape.{FitsShape}
use Rattle.stark_answers.specs.declared.shape.CheckShape.{CheckShape}

module _ {F : Type 0} where
  pub wide_rows : (rows : List (List F)) (width w : ℕ) → width ≡ width_of rows → width ≡ w → are_even rows ≡ true → list_all (λ row. length row == w) rows ≡ true
  wide_rows rows width w is same even = subst (λ k. list_all (λ row. length row == k) rows ≡ true) (sym is ∙ same) even

  pub first_width : (rows : List (List F)) (w : ℕ) → list_all (λ row. length row == w) rows ≡ true → 0 < length rows → width_of rows ≡ w
  first_width [] w all some = absurd (omega arith)
  first_width (row ∷ rows) w all some = eqb-true (length row) w (and_parts _ _ all).0

  -- Rows of different lengths are not all of one.
  uneven : (rows : List (List F)) (w : ℕ) → are_even rows ≡ false → list_all (λ row. length row == w) rows ≡ true → ⊥
  uneven [] w e all = let clash : true ≡ false = e in absurd (cc)
  uneven (row ∷ rows) w e all =
      let is : length row ≡ w = eqb-true (length row) w (and_parts _ _ all).0 in
      let clash : true ≡ false = sym (subst (λ k. list_all (λ r. length r == k) (row ∷ rows) ≡ true) (sym is) all) ∙ e in absurd (cc)

  module _ (shape : CheckShape) (log_rows greatest : ℕ) (rows : List (List F)) (public_values : List F) where
    pub uneven_unfit : are_even rows ≡ false → (log_height : ℕ) → FitsShape shape log_rows greatest rows public_values log_height → ⊥
    uneven_unfit e log_height fits = uneven rows shape.width e fits.widths

    -- A trace of 2 ^ n rows has no shape beside preprocessed columns of another height,
    pub other_height : (height n : ℕ) → height ≡ length rows → height ≡ 2 ^ n → 0 < shape.preprocessed_width → (n ≡ log_rows → ⊥) → (log_height : ℕ) → FitsShape shape log_rows greatest rows public_values log_height → ⊥
    other_height height n counted power some other log_height fits = other (same_exponent n log_height (sym power ∙ counted ∙ fits.height) ∙ fits.preprocessed_rows some)

    -- and none of another width.
    pub other_width : (height n width : ℕ) → height ≡ length rows → height ≡ 2 ^ n → 0 < 2 ^ n → width ≡ width_of rows → (width ≡ shape.width → ⊥) → (log_height : ℕ) → FitsShape shape log_rows greatest rows public_values log_height → ⊥
    other_width height n width counted power some is other log_height fits = other (is ∙ first_width rows shape.width fits.widths (omega arith))
