-- One row's values after those of the rows before it.
use Rattle.std.proofs.Common.{◌≡◌, ◌∙◌, ap, subst, sym, arith, ℕ, ◌+◌, ◌-◌, ◌*◌, ◌<◌, ◌≤◌, List, [], ◌++◌, drop, length, take, inl, inr}
use Rattle.std.specs.List.{slice_range}
use Rattle.std.proofs.lemmas.Bool.{cases_lt}
use Rattle.std.proofs.lemmas.List.{drop-append-le, length-append, length-drop, length-map, take-append-le, take_all}
use Rattle.std.proofs.Math.Seq.{drop-append_seam}
use Rattle.stark_support.specs.Operations.{ring_operations}
use Rattle.stark_air.specs.Value.{constraint_value}
use Rattle.stark_security.specs.ConstraintPolynomial.{AirInstance}
use Rattle.stark_completeness.specs.RowCheck.{values_in}
use Rattle.stark_completeness.specs.RowSatisfaction.{TraceRows, leaves_in_row}
use Rattle.stark_completeness.specs.RowValues.{AreValuesBefore}

-- A range within the first of two lists, and the one that is the second.
range_before : {A : Type 0} (xs ys : List A) (at count : ℕ) → at + count ≤ length xs → slice_range (xs ++ ys) at (at + count) ≡ slice_range xs at (at + count)
range_before xs ys at count within =
    ap (take (at + count - at)) (drop-append-le at xs ys (omega (arith, within))) ∙ take-append-le (at + count - at) (drop at xs) ys (omega (arith, within, length-drop at xs))

range_after : {A : Type 0} (xs ys : List A) (at count : ℕ) → length xs ≡ at → length ys ≡ count → slice_range (xs ++ ys) at (at + count) ≡ ys
range_after xs ys at count is_at is_count =
    ap (λ n. take (at + count - at) (drop n (xs ++ ys))) (sym is_at) ∙ ap (take (at + count - at)) (drop-append_seam xs ys) ∙ take_all (at + count - at) ys (omega (arith, is_count))

ends_before : (j k n : ℕ) → j < k → j * n + n ≤ k * n
ends_before j k n before = grind (arith)

module _ {F E : Type 0} (i : AirInstance F E) (rows : TraceRows F) where
  pub no_values : (values : List F) → values ≡ [] → AreValuesBefore i rows 0 values
  no_values values none = record { number = ap length none ∙ omega arith; in_row = λ k below. absurd (omega (arith, below)) }

  pub values_grow : (k : ℕ) (values all : List F) → AreValuesBefore i rows k values → all ≡ values ++ values_in i rows k → AreValuesBefore i rows (k + 1) all
  values_grow k values all before is =
      let n = length i.constraints in
      let row = values_in i rows k in
      let row_number : length row ≡ n = length-map i.constraints (constraint_value (ring_operations i.base (λ c. c)) (leaves_in_row i rows k)) in
      subst (AreValuesBefore i rows (k + 1)) (sym is) (record {
        number = length-append values row ∙ ap (λ m. m + length row) before.number ∙ ap (λ m. k * n + m) row_number ∙ (let one_more : k * n + n ≡ (k + 1) * n = omega arith in one_more);
        in_row = λ j below. elim (cases_lt j k) [
          | inl earlier ↦ range_before values row (j * n) n (let within = ends_before j k n earlier in omega (arith, within, before.number)) ∙ before.in_row j earlier
          | inr now ↦
              let same : j ≡ k = omega (arith, below, now) in
              ap (λ m. slice_range (values ++ row) (m * n) (m * n + n)) same ∙ range_after values row (k * n) n before.number row_number ∙ ap (values_in i rows) (sym same)
        ];
      })
