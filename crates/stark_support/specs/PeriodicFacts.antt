-- Columns without a fault fit.
use Rattle.std.specs.Prelude.{◌≡◌, ◌⊎◌, ℕ, zero, suc, ◌+◌, ◌/◌, ◌%◌, ◌≤◌, ◌==◌, nat_le, List, [], ◌∷◌, Bool, true, false, map, All, None, Some, if◌then◌else◌, IsTrue, count_ones}
use Rattle.std.proofs.Common.{◌∙◌, ◌<◌, ap, arith, get_or, length, refl, inl, inr}
use Rattle.std.proofs.Math.Nat.{pow-suc}
use Rattle.std.proofs.lemmas.Nat.{ones_le_self, zero_from_ones}
use Rattle.std.specs.Int.{IsPowerOfTwo, is_power_of_two}
use Rattle.stark_support.specs.declared.periodic.PeriodicColumnShapeError.TheVariants.{Empty, NotPowerOfTwo, TooLong}
use Rattle.stark_support.specs.OptionFacts.{both_none}
use Rattle.stark_support.specs.Periodic.{ColumnFits, column_fault, first_fault}
use lib.Count.{ones_step}

even_or_odd : (n : ℕ) → (n % 2 ≡ 0) ⊎ (n % 2 ≡ 1)
even_or_odd n = grind arith

-- a number with one bit is a power of two
one_bit : (d n : ℕ) → n ≤ d → count_ones n ≡ 1 → IsPowerOfTwo n
one_bit zero n h e = absurd (omega (arith, ones_le_self n))
one_bit (suc d) n h e =
    let step = ones_step n in
    elim (even_or_odd n) [
      | inl even ↦ let (k, is) = one_bit d (n / 2) (omega (arith, ones_le_self n)) (omega arith) in (suc k, omega (arith, pow-suc 2 k))
      | inr odd ↦ let none = zero_from_ones (n / 2) (omega arith) in (0, omega arith)
    ]

from_test : (n m : ℕ) → IsTrue (n == m) → n ≡ m
from_test n m h = grind arith

pub power_of_two : (n : ℕ) → IsTrue (is_power_of_two n) → IsPowerOfTwo n
power_of_two n h = one_bit n n (omega arith) (from_test (count_ones n) 1 h)

choice : (empty power within : Bool) (column : ℕ)
    → (if empty then Some (Empty column) else if power then (if within then None else Some (TooLong column)) else Some (NotPowerOfTwo column)) ≡ None → IsTrue power × IsTrue within
choice true power within column e = absurd (cc)
choice false true true column e = (refl, refl)
choice false true false column e = absurd (cc)
choice false false within column e = absurd (cc)

within_test : (n m : ℕ) → IsTrue (nat_le n m) → n ≤ m
within_test n m h = grind arith

no_fault_fits : (trace_len column n : ℕ) → column_fault trace_len column n ≡ None → ColumnFits trace_len n
no_fault_fits trace_len column n e = let both = choice (n == 0) (is_power_of_two n) (nat_le n trace_len) column e in record { power = both.0; within = within_test n trace_len both.1 }

pub all_fit : {A : Type 0} (size : A → ℕ) (trace_len column : ℕ) (columns : List A) → first_fault trace_len column (map size columns) ≡ None → All (λ x. ColumnFits trace_len (size x)) columns
all_fit size trace_len column [] e = λ i x h. absurd (omega arith)
all_fit size trace_len column (c ∷ cs) e =
    let both = both_none (column_fault trace_len column (size c)) (first_fault trace_len (column + 1) (map size cs)) e in
    elim [
      | zero ↦ λ x h. no_fault_fits trace_len column (size c) both.0
      | suc i ↦ λ x h. all_fit size trace_len (column + 1) cs both.1 i x (omega arith)
    ]

pub powers : {A : Type 0} (size : A → ℕ) (trace_len : ℕ) (columns : List A) → All (λ x. ColumnFits trace_len (size x)) columns → All (λ x. IsPowerOfTwo (size x)) columns
powers size trace_len columns fit = λ i x h. power_of_two _ (fit i x h).power

-- the length of one of them
pub power_of_column : {A : Type 0} (size : A → ℕ) (trace_len : ℕ) (columns : List A) (i : ℕ) (column : A) (n : ℕ) → All (λ x. ColumnFits trace_len (size x)) columns
    → i < length columns → column ≡ get_or columns i column → n ≡ size column → IsPowerOfTwo n
power_of_column size trace_len columns i column n fit below is same =
    let power = powers size trace_len columns fit i column below in
    (power.0, same ∙ ap size is ∙ power.1)
