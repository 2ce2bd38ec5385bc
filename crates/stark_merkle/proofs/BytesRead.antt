-- Bytes of elements, of rows and of pairs read back.
use Rattle.std.specs.Prelude.{◌≡◌, ℕ, zero, suc, ◌+◌, ◌-◌, ◌*◌, ◌%◌, ◌^◌, ◌<◌, ◌≤◌, List, [], ◌∷◌, ◌++◌, length, take, drop, refl}
use Rattle.std.specs.Int.{byte_at, bytes_high_first}
use Rattle.std.specs.List.{AllByRecursion}
use Rattle.std.proofs.Common.{◌∙◌, ap, arith, inl, inr, sym, append_assoc}
use Rattle.std.proofs.lemmas.Bool.{cases_lt}
use Rattle.std.proofs.Math.Arith.{mod-mul}
use Rattle.std.proofs.Math.Nat.{mod-eq_of_lt}
use Rattle.std.proofs.Math.Seq.{drop-append_seam, take-append_seam}
use Rattle.stark_support.specs.SeedFacts.{read_number}
use Rattle.stark_merkle.specs.Bytes.{PairBytesTell, RowBytesTell, element_bytes, elements_bytes, rows_bytes}

-- ---- a number's bytes

pub length-bytes : (k n : ℕ) → length (bytes_high_first k n) ≡ k
length-bytes zero n = refl
length-bytes (suc k) n = ap suc (length-bytes k n)

-- The last ones of more bytes.
pub last_bytes : (k size n : ℕ) → size ≤ k → drop (k - size) (bytes_high_first k n) ≡ bytes_high_first size n
last_bytes zero size n fits = let none : size ≡ 0 = omega arith in rw none refl
last_bytes (suc k) size n fits = elim (cases_lt k size) [
  | inl top ↦
      let all : size ≡ suc k = omega arith in
      let none : suc k - size ≡ 0 = omega arith in
      rw (none, all) refl
  | inr lower ↦
      let one : suc k - size ≡ suc (k - size) = omega arith in
      rw one (last_bytes k size n lower)
]

some_power : (k : ℕ) → 0 < 256 ^ k
some_power zero = omega arith
some_power (suc k) = omega (arith, some_power k)

-- The byte at the front is worth so much.
first_byte : (k n : ℕ) → n % 256 ^ suc k ≡ byte_at k n * 256 ^ k + n % 256 ^ k
first_byte zero n = omega arith
first_byte (suc k) n =
    let whole : 256 ^ suc (suc k) ≡ 256 * 256 ^ suc k = omega arith in
    ap (λ m. n % m) whole ∙ mod-mul n {m = 256} {c = 256 ^ suc k} (omega arith) (some_power (suc k))

same_rest : (k n m : ℕ) → bytes_high_first k n ≡ bytes_high_first k m → n % 256 ^ k ≡ m % 256 ^ k
same_rest zero n m e = omega arith
same_rest (suc k) n m e =
    let front : byte_at k n ≡ byte_at k m = (cc) in
    let behind : bytes_high_first k n ≡ bytes_high_first k m = (cc) in
    first_byte k n ∙ ap (λ b. b * 256 ^ k + n % 256 ^ k) front ∙ ap (λ r. byte_at k m * 256 ^ k + r) (same_rest k n m behind) ∙ sym (first_byte k m)

-- Numbers that the bytes have room for are the same where their bytes are.
same_number : (k n m : ℕ) → n < 256 ^ k → m < 256 ^ k → bytes_high_first k n ≡ bytes_high_first k m → n ≡ m
same_number k n m h l e = sym (mod-eq_of_lt h) ∙ same_rest k n m e ∙ mod-eq_of_lt l

pub length-element_bytes : {F : Type 0} (size : ℕ) (number_of : F → ℕ) (x : F) → length (element_bytes size number_of x) ≡ size
unfolding element_bytes
length-element_bytes size number_of x = length-bytes size (number_of x)

module _ {F : Type 0} (size : ℕ) (number_of : F → ℕ) (of_number : ℕ → F) (order : ℕ) (below : (x : F) → number_of x < order) (fits : order ≤ 256 ^ size) (same : (x : F) → of_number (number_of x) ≡ x) where
  same_element : (x y : F) → element_bytes size number_of x ≡ element_bytes size number_of y → x ≡ y
  unfolding element_bytes
  same_element x y e =
      let of_x = below x in
      let of_y = below y in
      sym (same x) ∙ ap of_number (same_number size (number_of x) (number_of y) (omega (arith, of_x, fits)) (omega (arith, of_y, fits)) e) ∙ same y

-- ---- rows and pairs

split : (a b x y : List ℕ) → length a ≡ length b → a ++ x ≡ b ++ y → (a ≡ b) × (x ≡ y)
split a b x y l e = (
  sym (take-append_seam a x) ∙ ap (take (length a)) e ∙ ap (λ k. take k (b ++ y)) l ∙ take-append_seam b y,
  sym (drop-append_seam a x) ∙ ap (drop (length a)) e ∙ ap (λ k. drop k (b ++ y)) l ∙ drop-append_seam b y,
)

module _ {F : Type 0} (bytes_of : F → List ℕ) (size : ℕ) (sized : (x : F) → length (bytes_of x) ≡ size) (distinct : (x y : F) → bytes_of x ≡ bytes_of y → x ≡ y) where
  -- Of as many elements the front tells these, whatever follows.
  pub read_elements : (xs ys : List F) (r s : List ℕ) → length xs ≡ length ys → elements_bytes bytes_of xs ++ r ≡ elements_bytes bytes_of ys ++ s → (xs ≡ ys) × (r ≡ s)
  unfolding elements_bytes
  read_elements [] [] r s l e = (refl, e)
  read_elements [] (y ∷ ys) r s l e = absurd (omega (arith, l))
  read_elements (x ∷ xs) [] r s l e = absurd (omega (arith, l))
  read_elements (x ∷ xs) (y ∷ ys) r s l e =
      let here = split (bytes_of x) (bytes_of y) (elements_bytes bytes_of xs ++ r) (elements_bytes bytes_of ys ++ s) (sized x ∙ sym (sized y))
      (sym (append_assoc (bytes_of x) (elements_bytes bytes_of xs) r) ∙ e ∙ append_assoc (bytes_of y) (elements_bytes bytes_of ys) s) in
      let behind = read_elements xs ys r s (omega (arith, l)) here.1 in
      let first = distinct x y here.0 in
      let rest = behind.0 in
      ((λ i. first i ∷ rest i), behind.1)

  read_rows : (rows others : List (List F)) → length rows ≡ length others → AllByRecursion (λ row. length row < 2 ^ 64) rows → AllByRecursion (λ row. length row < 2 ^ 64) others
      → rows_bytes bytes_of rows ≡ rows_bytes bytes_of others → rows ≡ others
  unfolding rows_bytes
  read_rows [] [] l a b e = refl
  read_rows [] (y ∷ ys) l a b e = absurd (omega (arith, l))
  read_rows (x ∷ xs) [] l a b e = absurd (omega (arith, l))
  read_rows (x ∷ xs) (y ∷ ys) l a b e =
      let here = read_number (length x) (length y) _ _ a.0 b.0 e in
      let row = read_elements x y _ _ here.0 here.1 in
      let first = row.0 in
      let rest = read_rows xs ys (omega (arith, l)) a.1 b.1 row.1 in
      λ i. first i ∷ rest i

  read_all_rows : RowBytesTell bytes_of
  read_all_rows rows others a b e =
      let here = read_number (length rows) (length others) _ _ a.0 b.0 e in
      read_rows rows others here.0 a.1 b.1 here.1

  read_pairs : {E : Type 0} (coordinates : E → List F) (count : ℕ) → ((x : E) → length (coordinates x) ≡ count) → ((x y : E) → coordinates x ≡ coordinates y → x ≡ y)
      → PairBytesTell bytes_of coordinates
  read_pairs coordinates count counted injective x y other_x other_y e =
      let first = read_elements (coordinates x) (coordinates other_x) _ _ (counted x ∙ sym (counted other_x)) e in
      let second = read_elements (coordinates y) (coordinates other_y) [] [] (counted y ∙ sym (counted other_y)) (ap (λ t. t ++ []) first.1) in
      (injective x other_x first.0, injective y other_y second.0)

-- Of elements whose numbers the bytes have room for.
module _ {F : Type 0} (size : ℕ) (number_of : F → ℕ) (of_number : ℕ → F) (order : ℕ) (below : (x : F) → number_of x < order) (fits : order ≤ 256 ^ size) (same : (x : F) → of_number (number_of x) ≡ x) where
  pub rows_stated : RowBytesTell (element_bytes size number_of)
  rows_stated = read_all_rows (element_bytes size number_of) size (length-element_bytes size number_of) (same_element size number_of of_number order below fits same)

  pub pairs_stated : {E : Type 0} (coordinates : E → List F) (count : ℕ) → ((x : E) → length (coordinates x) ≡ count) → ((x y : E) → coordinates x ≡ coordinates y → x ≡ y)
      → PairBytesTell (element_bytes size number_of) coordinates
  pairs_stated = read_pairs (element_bytes size number_of) size (length-element_bytes size number_of) (same_element size number_of of_number order below fits same)
