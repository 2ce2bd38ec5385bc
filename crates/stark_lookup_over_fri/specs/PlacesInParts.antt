-- Where a column of a claim on parts stands: in the first part's round, or in the next.
use Rattle.std.specs.Prelude.{ℕ, zero, suc, ◌-◌, nat_lt, List, [], ◌∷◌, if◌then◌else◌}
use Rattle.stark_fri_soundness.specs.Claims.{ColumnIndex}
use Rattle.stark_two_part.specs.declared.in_parts.InParts.{InParts}
use Rattle.stark_two_part.specs.declared.in_parts.InParts.TheVariants.{Whole, Parts}

-- The round after those of a commitment, whose first one this is.
abbrev pub round_after : {K : Type 0} → InParts K → ℕ → ℕ
round_after (Whole k) round = suc round
round_after (Parts k l) round = suc (suc round)

module _ {K : Type 0} (first : ℕ) where
  -- A column of a commitment, of which the first part has `first` columns, and whose first round is this one.
  abbrev pub in_part : InParts K → (round matrix number : ℕ) → ColumnIndex
  in_part (Whole k) round matrix number = record { round = round; matrix = matrix; number = number }
  in_part (Parts k l) round matrix number =
      if nat_lt number first then record { round = round; matrix = matrix; number = number } else record { round = suc round; matrix = matrix; number = number - first }

  -- A column of the n-th of some commitments, whose first round is this one.
  abbrev pub in_parts_from : ℕ → List (InParts K) → (n matrix number : ℕ) → ColumnIndex
  in_parts_from begins [] n matrix number = record { round = begins; matrix = matrix; number = number }
  in_parts_from begins (k ∷ ks) zero matrix number = in_part k begins matrix number
  in_parts_from begins (k ∷ ks) (suc n) matrix number = in_parts_from (round_after k begins) ks n matrix number

  -- The polynomials of the columns of these commitments, where those of their parts' columns are known.
  abbrev pub joined_polynomials : {F : Type 0} → List (InParts K) → (ColumnIndex → List F) → ColumnIndex → List F
  joined_polynomials ks polynomials column = polynomials (in_parts_from 0 ks column.round column.matrix column.number)
