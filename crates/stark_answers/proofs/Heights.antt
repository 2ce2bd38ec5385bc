-- The height of preprocessed columns, of the number of their values.
use Rattle.std.proofs.Common.{◌≡◌, ◌∙◌, ap, arith, sym, subst, ℕ, ◌*◌, ◌/◌, ◌%◌, ◌^◌, ◌<◌, ◌≤◌, length, Option, None, Some, IfSome, IsNone, option_map}
use Rattle.std.proofs.Math.Nat.{mod-add-div'}
use Rattle.stark_air.specs.Declaration.{Trace}
use Rattle.stark_support.specs.declared.matrix.RowMajorMatrix.{RowMajorMatrix}
use Rattle.stark_protocol.specs.Preprocessing.{HasHeight}
use Rattle.stark_completeness.proofs.HeightSteps.{rows_are}

abbrev matrix_trace : {F : Type 0} → RowMajorMatrix F → Trace F
matrix_trace m = record { width = m.width; values = m.values.items }

module _ {F : Type 0} (declared : Option (Trace F)) (obtained : Option (RowMajorMatrix F)) (is : option_map matrix_trace obtained ≡ declared) (m : RowMajorMatrix F) (some : obtained ≡ Some m) where
  same_trace : (trace : Trace F) → declared ≡ Some trace → matrix_trace m ≡ trace
  same_trace trace declares = let same : Some (matrix_trace m) ≡ Some trace = ap (option_map matrix_trace) (sym some) ∙ is ∙ declares in cc

  -- Whole rows have the height that their number has.
  pub rows_have_height : (rows : ℕ) (log_rows : Option ℕ) → rows ≡ length m.values.items / m.width → length m.values.items % m.width ≡ 0
      → IfSome log_rows (λ n. rows ≡ 2 ^ n) → IfSome log_rows (λ n. HasHeight n declared)
  rows_have_height rows None counted whole power = tt
  rows_have_height rows (Some n) counted whole power = λ trace declares wide.
      let all : length m.values.items / m.width * m.width ≡ length m.values.items = omega (arith, whole, mod-add-div' (length m.values.items) m.width) in
      subst (λ t. length t.values ≡ 2 ^ n * t.width) (same_trace trace declares) (sym all ∙ ap (λ r. r * m.width) (sym counted ∙ power))

  -- And no other.
  pub no_other_height : (rows greatest : ℕ) (log_rows : Option ℕ) → rows ≡ length m.values.items / m.width → 0 < m.width
      → (IsNone log_rows → (n : ℕ) → n ≤ greatest → rows ≡ 2 ^ n → ⊥) → IsNone log_rows → (n : ℕ) → n ≤ greatest → HasHeight n declared → ⊥
  no_other_height rows greatest log_rows counted wide other none n within high =
      other none n within (counted ∙ rows_are (length m.values.items) m.width n wide (high (matrix_trace m) (sym is ∙ ap (option_map matrix_trace) some) wide))
