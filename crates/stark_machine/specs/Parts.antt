-- What the machine's parts mean over columns of their own, which begin at column 0.
use Rattle.std.specs.Prelude.{ℕ, zero, suc, ◌+◌, ◌≤◌, List, [], ◌∷◌, ◌++◌, map}
use Rattle.std.specs.List.{range_with_len}
use Rattle.std.proofs.Common.{arith}
use Rattle.stark_air.specs.Declaration.{main_trace_layout}
use Rattle.stark_air.specs.Layout.{LeavesWithin}
use Rattle.stark_air.specs.Tree.{Tree, Constraint, base, constant, main_current, sum, difference, product}
use Rattle.std.specs.Prelude.{false}

-- The column is 0 or 1.
abbrev pub is_boolean : {F : Type 0} → F → ℕ → Constraint F
is_boolean one column = base (product (main_current column) (difference (main_current column) (constant one)))

-- Each of so many columns is.
abbrev pub booleans : {F : Type 0} → F → ℕ → List (Constraint F)
booleans one count = map (is_boolean one) (range_with_len 0 count)

-- The sum and the product of two columns.
abbrev pub column_sum : {F : Type 0} → ℕ → ℕ → Tree F
column_sum x y = sum (main_current x) (main_current y)

abbrev pub column_product : {F : Type 0} → ℕ → ℕ → Tree F
column_product x y = product (main_current x) (main_current y)

-- How many of the four flags from a column on are 1.
abbrev pub flag_sum : {F : Type 0} → ℕ → Tree F
flag_sum first = sum (column_sum first (first + 1)) (column_sum (first + 2) (first + 3))

-- Which of four flags is the one that is 1: 0 to 3, by its two bits.
abbrev pub flag_index : {F : Type 0} → (ℕ → F) → ℕ → Tree F
flag_index of_number first = sum (column_sum (first + 1) (first + 3)) (product (column_sum (first + 2) (first + 3)) (constant (of_number 2)))

-- The value, among four, whose flag is 1; 0 where no flag is.
abbrev pub selected_pair : {F : Type 0} → ℕ → ℕ → Tree F
selected_pair flags values = sum (column_product flags values) (column_product (flags + 1) (values + 1))

abbrev pub selected : {F : Type 0} → ℕ → ℕ → Tree F
selected flags values = sum (selected_pair flags values) (selected_pair (flags + 2) (values + 2))

-- One of four flags is 1.
abbrev pub has_one_flag : {F : Type 0} → F → Constraint F
has_one_flag one = base (difference (flag_sum 0) (constant one))

-- Four flags of which one is 1, and the others are 0.
abbrev pub one_hot : {F : Type 0} → F → List (Constraint F)
one_hot one = booleans one 4 ++ has_one_flag one ∷ []

booleans_from : {F : Type 0} (one : F) (width first count : ℕ) → first + count ≤ width → LeavesWithin (main_trace_layout width 0 false) (map (is_boolean one) (range_with_len first count))
booleans_from one width first zero fits = tt
booleans_from one width first (suc count) fits = ((omega (arith, fits), (omega (arith, fits), tt)), booleans_from one width (first + 1) count (omega (arith, fits)))

-- They read so many columns.
pub booleans_within : {F : Type 0} (one : F) (count : ℕ) → LeavesWithin (main_trace_layout count 0 false) (booleans one count)
booleans_within one count = booleans_from one count 0 count (omega arith)
