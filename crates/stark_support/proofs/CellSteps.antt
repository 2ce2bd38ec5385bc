-- Rows taken round the end of a matrix.
use Rattle.std.proofs.Common.{◌≡◌, ◌∙◌, ℕ, ◌+◌, ◌*◌, ◌%◌, ◌<◌, ◌≤◌, ap, sym, arith, zero, suc, ◌/◌}
use Rattle.std.proofs.Common.{◌^◌, get_or, length, List, Some}
use Rattle.std.specs.List.{slice_get}
use Rattle.std.proofs.lemmas.Option.{slice_get-get_or}
use Rattle.stark_support.specs.LogarithmFacts.{two_power_at_most}
use Rattle.std.proofs.Math.Nat.{add-mod-mod, add-mod_left, mod-add-mod, mod-eq_of_lt, mod-lt, div-add-mod}

both_reduced : (r further height : ℕ) → (r % height + further % height) % height ≡ (r + further) % height
both_reduced r further height = mod-add-mod r height (further % height) ∙ add-mod-mod r further height

-- first and more lie among the rows of a matrix: their sum does too, or goes round once
pub not_round : (r further height row : ℕ) → row ≡ r % height + further % height → row < height → row ≡ (r + further) % height
not_round r further height row is below = is ∙ sym (mod-eq_of_lt (let e : r % height + further % height < height = omega (arith, is, below) in e)) ∙ both_reduced r further height

pub once_round : (r further height row : ℕ) → height + row ≡ r % height + further % height → row < height → row ≡ (r + further) % height
once_round r further height row is below = sym (mod-eq_of_lt below) ∙ sym (add-mod_left height row) ∙ ap (λ n. n % height) is ∙ both_reduced r further height

pub full_rows : (row height width : ℕ) → row < height → row * width + width ≤ height * width
full_rows zero (suc height) width h = omega arith
full_rows (suc row) (suc height) width h = let before = full_rows row height width (omega arith) in omega arith
full_rows row zero width h = absurd (omega arith)

-- row * width + column lies among count values where the row is one of count / width
pub cell_within : (row width column count : ℕ) → row < count / width → column < width → row * width + column < count
cell_within row width column count a b =
    let whole = div-add-mod count width in
    let more = full_rows row (count / width) width a in
    omega arith

pub whole_row : (row width count : ℕ) → row < count / width → row * width + width ≤ count
whole_row row zero count below = let last = cell_within row 0 0 count below in omega arith
whole_row row (suc width) count below = let last = cell_within row (suc width) width count below (omega arith) in omega (arith, last)

pub reduced : (n height : ℕ) → 0 < height → n % height < height
reduced n height some = mod-lt n some

-- the first of a power of two rows
pub first_row_there : (r lanes exponent height : ℕ) → lanes ≡ 2 ^ exponent → r + lanes ≤ height → r < height
first_row_there r lanes exponent height power within = omega (arith, power, two_power_at_most 0 exponent (omega arith), within)

-- the value of a place, given by a number that is equal to it
pub value_at : {T : Type 0} (values : List T) (place cell : ℕ) (default : T) → place ≡ cell → place < length values → slice_get values cell ≡ Some (get_or values place default)
value_at values place cell default is below = ap (slice_get values) (sym is) ∙ slice_get-get_or values place default below
