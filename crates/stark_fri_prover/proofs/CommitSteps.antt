-- What a commitment without masks stands for.
use Rattle.std.proofs.Common.{◌≡◌, ◌∙◌, ℕ, ◌+◌, ◌*◌, ◌-◌, ◌^◌, ◌≤◌, List, [], ◌∷◌, add-zero, ap, arith, false, map, subst, suc, sym}
use Rattle.std.proofs.lemmas.Nat.{pow-add}
use Rattle.std.specs.List.{AllByRecursion}
use Rattle.stark_support.specs.Coset.{TwoAdicCoset}
use Rattle.stark_support.specs.LogarithmFacts.{exponent_at_most}
use Rattle.stark_support.specs.Polynomial.{HasDegreeBelow, value}
use Rattle.stark_support.specs.Ring.{RingOps}
use Rattle.stark_support.specs.Scheme.{committed_chunk}
use Rattle.stark_columns.specs.ColumnPoints.{IsPolynomialBelow}
use Rattle.stark_columns.specs.PlainChunks.{plain_chunks}

module _ {F : Type 0} (field : RingOps F) where
  -- Columns that are polynomials of a degree below n have no masks.
  pub plain_columns : (n : ℕ) (columns : List (List F)) → AllByRecursion (λ column. IsPolynomialBelow field n (value field column)) columns
      → AllByRecursion (λ column. (p : List F) × HasDegreeBelow n p × ((x : F) → value field column x ≡ value field p x)) columns
  plain_columns n [] all = tt
  plain_columns n (column ∷ columns) all = ((all.0.coefficients, all.0.bounded, all.0.same), plain_columns n columns all.1)

  -- Each chunk is committed on the natural domain of its part.
  pub chunk_heights : (root : ℕ → F) (coset : TwoAdicCoset F) (log_parts i : ℕ) (matrices : List (List (List F)))
      → AllByRecursion (λ m. m.domain.log_size ≡ coset.log_size - log_parts) (map (committed_chunk field false) (plain_chunks field root coset log_parts i matrices))
  chunk_heights root coset log_parts i [] = tt
  chunk_heights root coset log_parts i (columns ∷ matrices) = (add-zero (coset.log_size - log_parts), chunk_heights root coset log_parts (suc i) matrices)

-- The logarithm of a power of two that is at most another.
pub at_most_log : (r n num : ℕ) → 2 ^ r ≡ num → num ≤ 2 ^ n → r ≤ n
at_most_log r n num power below = exponent_at_most r n (omega arith)

-- A part of a domain that fits the scheme fits it with the blow-up.
pub part_fits : (r n num adicity blowup : ℕ) → 2 ^ r ≡ num → blowup ≤ adicity → 2 ^ n * 1 ≤ num * 2 ^ (adicity - blowup) → n - r + blowup ≤ adicity
part_fits r n num adicity blowup power within fits =
    let all : 2 ^ n ≤ 2 ^ (r + (adicity - blowup)) = subst (λ m. 2 ^ n ≤ m) (ap (λ m. m * 2 ^ (adicity - blowup)) (sym power) ∙ sym (pow-add 2 r (adicity - blowup))) (omega arith) in
    let below = exponent_at_most n (r + (adicity - blowup)) all in
    omega arith
