-- The height of a trace, of the number of its values.
use Rattle.std.proofs.Common.{◌≡◌, ◌∙◌, ap, ℕ, ◌+◌, ◌*◌, ◌/◌, ◌^◌, ◌<◌, arith}
use Rattle.std.proofs.lemmas.Nat.{div-mul-add}
use Rattle.std.specs.Int.{IsPowerOfTwo}
use Rattle.stark_support.specs.LogarithmFacts.{same_exponent}

-- So many rows.
pub rows_are : (values width height : ℕ) → 0 < width → values ≡ 2 ^ height * width → values / width ≡ 2 ^ height
rows_are values width height some is =
    let whole : values ≡ 2 ^ height * width + 0 = omega (arith, is) in
    ap (λ n. n / width) whole ∙ div-mul-add (2 ^ height) width 0 some

pub rows_power : (rows values width : ℕ) → rows ≡ values / width → 0 < width → ((height : ℕ) × (values ≡ 2 ^ height * width)) → IsPowerOfTwo rows
rows_power rows values width is some high = (high.0, is ∙ rows_are values width high.0 some high.1)

-- A logarithm of their number is the height.
pub height_of : (log rows values width height : ℕ) → 2 ^ log ≡ rows → rows ≡ values / width → 0 < width → values ≡ 2 ^ height * width → log ≡ height
height_of log rows values width height is_log is_rows some is = same_exponent log height (is_log ∙ is_rows ∙ rows_are values width height some is)
