-- Bytes that are pushed in turn.
use Rattle.std.specs.Int.{bytes_high_first}
use Rattle.std.specs.Result.{OnOk, is_ok}
use Rattle.std.specs.Bool.{if◌then◌else◌}
use Rattle.std.specs.Prelude.{Result, Ok, Err}
use Rattle.std.proofs.Common.{◌≡◌, ◌∙◌, ℕ, ◌+◌, ◌-◌, arith, take, ◌<◌, ◌≤◌, List, ◌++◌, length, get_or, drop, map, sym, ap, refl, append_assoc}
use Rattle.std.proofs.lemmas.List.{append-nil, at_drop_all, at_drop_more, drop_all, take_all}
use Rattle.stark_support.proofs.Places.{from_place}
use Rattle.stark_support.specs.Seed.{number}
use Rattle.stark_merkle.specs.Bytes.{elements_bytes, rows_bytes}
use Rattle.stark_merkle.proofs.BytesRead.{last_bytes, length-bytes}

-- The last ones of a number's bytes were pushed.
pub pushed_last : {A E : Type 0} (result : Result A E) (k count size n : ℕ) (before after bytes : List ℕ) → size ≤ k → count ≡ size → bytes ≡ bytes_high_first k n
    → after ≡ (if is_ok result then before ++ take (k - (k - count)) (drop (k - count) bytes) else before)
    → OnOk result (after ≡ before ++ bytes_high_first size n)
pushed_last (Ok done) k count size n before after bytes few is stated pushed =
    let last : drop (k - count) bytes ≡ bytes_high_first size n = ap (λ m. drop (k - m) bytes) is ∙ ap (drop (k - size)) stated ∙ last_bytes k size n few in
    let counted = length-bytes size n in
    pushed ∙ ap (λ t. before ++ t) (ap (take (k - (k - count))) last ∙ take_all (k - (k - count)) (bytes_high_first size n) (omega (arith, counted, is, few)))
pushed_last (Err fault) k count size n before after bytes few is stated pushed = tt

module _ {F : Type 0} (bytes_of : F → List ℕ) where
  -- one more element was pushed
  pub one_more_element : (xs : List F) (i : ℕ) (x : F) (before after whole pushed_bytes : List ℕ) → i < length xs → x ≡ get_or xs i x → pushed_bytes ≡ bytes_of x → after ≡ before ++ pushed_bytes
      → before ++ elements_bytes bytes_of (drop i xs) ≡ whole → after ++ elements_bytes bytes_of (drop (i + 1) xs) ≡ whole
  unfolding elements_bytes
  one_more_element xs i x before after whole bytes below is stated pushed so_far =
      let rest = elements_bytes bytes_of (drop (i + 1) xs) in
      let opened : elements_bytes bytes_of (drop i xs) ≡ bytes_of x ++ rest
      = at_drop_more (elements_bytes bytes_of) xs i x below ∙ ap (λ t. bytes_of t ++ rest) (sym is) in
      ap (λ t. t ++ rest) (pushed ∙ ap (λ t. before ++ t) stated) ∙ append_assoc before (bytes_of x) rest ∙ ap (λ t. before ++ t) (sym opened) ∙ so_far

  pub all_elements : (xs : List F) (i : ℕ) (before whole : List ℕ) → length xs ≤ i → before ++ elements_bytes bytes_of (drop i xs) ≡ whole → before ≡ whole
  unfolding elements_bytes
  all_elements xs i before whole ended so_far = sym (append-nil before) ∙ ap (λ t. before ++ t) (sym (at_drop_all (elements_bytes bytes_of) xs i ended)) ∙ so_far

  module _ {X : Type 0} (row_of : X → List F) where
    -- one more row was pushed
    pub one_more_row : (rows : List X) (i : ℕ) (row : X) (elements : List F) (before after whole : List ℕ) → i < length rows → row ≡ get_or rows i row
        → elements ≡ row_of row → after ≡ before ++ (number (length elements) ++ elements_bytes bytes_of elements)
        → before ++ rows_bytes bytes_of (map row_of (drop i rows)) ≡ whole → after ++ rows_bytes bytes_of (map row_of (drop (i + 1) rows)) ≡ whole
    unfolding rows_bytes
    one_more_row rows i row elements before after whole below is is_elements pushed so_far =
        let rest = rows_bytes bytes_of (map row_of (drop (i + 1) rows)) in
        let count = number (length elements) in
        let opened : rows_bytes bytes_of (map row_of (drop i rows)) ≡ count ++ (elements_bytes bytes_of elements ++ rest)
        = ap (λ t. rows_bytes bytes_of (map row_of t)) (from_place rows i (i + 1) row refl below is)
        ∙ ap (λ t. number (length t) ++ (elements_bytes bytes_of t ++ rest)) (sym is_elements) in
        ap (λ t. t ++ rest) pushed ∙ append_assoc before (count ++ elements_bytes bytes_of elements) rest
        ∙ ap (λ t. before ++ t) (append_assoc count (elements_bytes bytes_of elements) rest ∙ sym opened) ∙ so_far

    pub all_rows : (rows : List X) (i : ℕ) (before whole : List ℕ) → length rows ≤ i → before ++ rows_bytes bytes_of (map row_of (drop i rows)) ≡ whole → before ≡ whole
    unfolding rows_bytes
    all_rows rows i before whole ended so_far = sym (append-nil before) ∙ ap (λ t. before ++ rows_bytes bytes_of (map row_of t)) (sym (drop_all i rows ended)) ∙ so_far
