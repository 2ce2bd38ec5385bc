-- Masked columns of a matrix take its rows.
use Rattle.std.proofs.Common.{◌≡◌, ◌∙◌, ℕ, ◌+◌, ◌^◌, ◌≤◌, List, [], ◌∷◌, ◌++◌, length, refl, sym, ap, arith}
use Rattle.std.specs.List.{AllByRecursion}
use Rattle.std.specs.Simd.Lanes.{zip2}
use Rattle.std.proofs.lemmas.List.{length-append, length-map}
use Rattle.std.proofs.lemmas.Simd.{length-zip2}
use Rattle.stark_support.specs.Ring.{RingOps, RingLaws, FieldLaws, difference}
use Rattle.stark_support.specs.RingSolver.{solve, unit, ◌⊕◌, ◌⊖◌, ◌⊗◌, v0, v1}
use Rattle.stark_support.specs.Powers.{power}
use Rattle.stark_support.specs.PointFacts.{power_of_point}
use Rattle.stark_support.specs.RingFacts.{one_mul}
use Rattle.stark_support.specs.TwoAdic.{TwoAdicLaws}
use Rattle.stark_support.specs.Coset.{coset_point}
use Rattle.stark_support.specs.CosetFacts.{root_has_order}
use Rattle.stark_support.specs.Polynomial.{scaled, value}
use Rattle.stark_support.specs.Scheme.{TakesRows, natural_coset, row_at}
use Rattle.stark_clear.specs.Masks.{masked_polynomial}
use Rattle.stark_clear.proofs.MaskValues.{masked_value}
use Rattle.stark_clear.proofs.MaskedColumns.{off_length}

module _ {F : Type 0} (ring : RingOps F) (scale : F) where
  pub masked_length : (plain mask : List F) → length (masked_polynomial ring scale plain mask) ≡ length plain + length mask
  masked_length plain mask =
      let joined : length (plain ++ scaled ring scale mask) ≡ length plain + length mask = length-append plain (scaled ring scale mask) ∙ ap (λ k. length plain + k) (length-map mask (ring.mul scale)) in
      off_length ring (plain ++ scaled ring scale mask) mask (omega (arith, joined)) ∙ joined

  pub masked_lengths : (n k size : ℕ) (plain masks : List (List F)) → AllByRecursion (λ column. length column ≡ n) plain → AllByRecursion (λ mask. length mask ≡ k) masks → n + k ≡ size
      → AllByRecursion (λ column. length column ≡ size) (zip2 (masked_polynomial ring scale) plain masks)
  masked_lengths n k size [] masks full fit e = tt
  masked_lengths n k size (p ∷ plain) [] full fit e = tt
  masked_lengths n k size (p ∷ plain) (m ∷ masks) full fit e = (
    masked_length p m ∙ ap (λ a. a + length m) full.0 ∙ ap (λ b. n + b) fit.0 ∙ e,
    masked_lengths n k size plain masks full.1 fit.1 e,
  )

module _ {F : Type 0} {ring : RingOps F} (laws : RingLaws ring) (n : ℕ) (x : F) (on_coset : power ring x n ≡ ring.one) where
  -- Where x ^ n is one, masks change no value.
  same_value : (p m : List F) → length p ≡ n → value ring (masked_polynomial ring ring.one p m) x ≡ value ring p x
  same_value p m number =
      masked_value laws ring.one n p m x number
      ∙ ap (λ t. ring.add (value ring p x) (ring.mul (value ring m x) (difference ring (ring.mul t ring.one) ring.one))) on_coset
      ∙ solve laws (value ring p x ∷ value ring m x ∷ []) (v0 ⊕ v1 ⊗ (unit ⊗ unit ⊖ unit)) v0 refl

  same_row : (plain masks : List (List F)) → length plain ≡ length masks → AllByRecursion (λ column. length column ≡ n) plain
      → row_at ring (λ c. c) plain x ≡ row_at ring (λ c. c) (zip2 (masked_polynomial ring ring.one) plain masks) x
  same_row [] masks number full = refl
  same_row (p ∷ plain) [] number full = absurd (omega arith)
  same_row (p ∷ plain) (m ∷ masks) number full =
      ap (λ t. t ∷ row_at ring (λ c. c) plain x) (sym (same_value p m full.0))
      ∙ ap (λ t. value ring (masked_polynomial ring ring.one p m) x ∷ t) (same_row plain masks (omega arith) full.1)

module _ {F : Type 0} {ring : RingOps F} {inverse : F → F} (laws : FieldLaws ring inverse) (adicity : ℕ) (root : ℕ → F) (generator : F) (two_adic : TwoAdicLaws ring adicity root generator) where
  -- With masks times X ^ n - 1 columns take the same rows on the group of n points.
  pub masked_rows : (k width : ℕ) (row : ℕ → List F) (plain masks : List (List F)) → k ≤ adicity → length masks ≡ width → AllByRecursion (λ column. length column ≡ 2 ^ k) plain
      → TakesRows ring root (natural_coset ring k) width row plain → TakesRows ring root (natural_coset ring k) width row (zip2 (masked_polynomial ring ring.one) plain masks)
  masked_rows k width row plain masks within number full takes = record {
    count = length-zip2 (masked_polynomial ring ring.one) plain masks (takes.count ∙ sym number) ∙ takes.count;
    rows = λ r below.
        let on_coset : power ring (coset_point ring root (natural_coset ring k) r) (2 ^ k) ≡ ring.one
        = ap (λ t. power ring t (2 ^ k)) (one_mul laws.of_ring (power ring (root k) r)) ∙ power_of_point laws.of_ring (root k) (2 ^ k) r (root_has_order laws adicity root generator two_adic k within).reaches in
        takes.rows r below ∙ same_row laws.of_ring (2 ^ k) (coset_point ring root (natural_coset ring k) r) on_coset plain masks (takes.count ∙ sym number) full;
  }
