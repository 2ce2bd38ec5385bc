-- Rows of values, cut in turn.
use Rattle.std.proofs.Common.{◌≡◌, ◌∙◌, ℕ, zero, suc, ◌+◌, ◌-◌, ◌*◌, ◌<◌, ◌≤◌, List, ◌++◌, add-one, append_assoc, ap, arith, drop, length, length-drop, refl, sym, take}
use Rattle.std.proofs.lemmas.List.{append-nil, drop-drop, take-append-drop}
use Rattle.stark_logup.specs.Fractions.{rows_below}

-- Rows that are the same, are the same list.
pub same_rows : {A : Type 0} (row other : ℕ → List A) (n : ℕ) → ((r : ℕ) → r < n → row r ≡ other r) → rows_below row n ≡ rows_below other n
same_rows row other zero same = refl
same_rows row other (suc n) same = ap (λ xs. xs ++ row n) (same_rows row other n (λ r below. same r (omega (arith, below)))) ∙ ap (λ xs. rows_below other n ++ xs) (same n (omega arith))

-- A row of a list, and what is after it.
pub row_and_rest : {A : Type 0} (size r : ℕ) (xs row : List A) → take (r * size + size - r * size) (drop (r * size) xs) ≡ row → drop (r * size) xs ≡ row ++ drop size (drop (r * size) xs)
row_and_rest size r xs row is =
    let same : r * size + size - r * size ≡ size = omega arith in
    sym (take-append-drop size (drop (r * size) xs)) ∙ ap (λ ys. ys ++ drop size (drop (r * size) xs)) (ap (λ k. take k (drop (r * size) xs)) (sym same) ∙ is)

module _ {F Y : Type 0} (cut : List F → List Y) (size : ℕ) (values : List F) where
  abbrev cut_there : ℕ → List Y
  cut_there r = cut (drop (r * size) values)

  -- The rows below r are cut, and the others are left.
  pub record AreCutBelow (before : List Y) (r : ℕ) (all : List Y) (rest : List F) : Type 0 where
    pub made : all ≡ before ++ rows_below cut_there r
    pub left : rest ≡ drop (r * size) values

  pub none_cut : (before : List Y) → AreCutBelow before 0 before values
  none_cut before = record { made = sym (append-nil before); left = ap (λ n. drop n values) (let none : 0 ≡ 0 * size = omega arith in none) }

  pub enough : (before : List Y) (rows r : ℕ) (all : List Y) (rest : List F) → length values ≡ rows * size → r < rows → AreCutBelow before r all rest → size ≤ length rest
  enough before rows r all rest number below half =
      let within : r * size + size ≤ rows * size = grind (arith, below) in
      let shorter = ap length half.left ∙ length-drop (r * size) values in omega (arith, number, within, shorter)

  pub one_cut : (before : List Y) (r : ℕ) (all more : List Y) (rest after : List F) → AreCutBelow before r all rest → more ≡ all ++ cut rest → after ≡ drop size rest → AreCutBelow before (r + 1) more after
  one_cut before r all more rest after half is left = record {
    made =
        is ∙ ap (λ ys. ys ++ cut rest) half.made ∙ append_assoc before (rows_below cut_there r) (cut rest) ∙ ap (λ xs. before ++ (rows_below cut_there r ++ cut xs)) half.left
        ∙ ap (λ n. before ++ rows_below cut_there n) (sym (add-one r));
    left = left ∙ ap (drop size) half.left ∙ drop-drop size (r * size) values ∙ ap (λ n. drop n values) (let same : r * size + size ≡ (r + 1) * size = grind arith in same);
  }

  pub all_cut_below : (before : List Y) (rows r : ℕ) (all : List Y) (rest : List F) → r ≡ rows → AreCutBelow before r all rest → all ≡ before ++ rows_below cut_there rows
  all_cut_below before rows r all rest done half = half.made ∙ ap (λ n. before ++ rows_below cut_there n) done
