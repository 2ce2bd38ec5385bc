-- Rounds that are split, and joined again.
use Rattle.std.proofs.Common.{◌≡◌, ◌∙◌, ap, refl, sym, zero, suc, List, [], ◌∷◌, ◌++◌, length, map, arith, Option, None, Some}
use Rattle.std.specs.List.{AllByRecursion}
use Rattle.std.specs.Prelude.{is_some, option_to_list}
use Rattle.std.proofs.lemmas.Bool.{false≢true}
use Rattle.std.proofs.lemmas.List.{length-map, map-append}
use Rattle.stark_prover.specs.Rounds.{random_opened}

-- The first of a list, and what is behind it.
unfoldable pub head_or : {A : Type 0} → A → List A → A
head_or d [] = d
head_or d (x ∷ xs) = x

unfoldable pub tail_of : {A : Type 0} → List A → List A
tail_of [] = []
tail_of (x ∷ xs) = xs

-- What is joined of what is seen of the parts.
pub joined : {X V : Type 0} (R : X → V) (all front back : List X) (t q : X) {seen_front seen_back : List V} {seen_t seen_q : V} → all ≡ front ++ (t ∷ q ∷ back) → map R front ≡ seen_front → R t ≡ seen_t → R q ≡ seen_q → map R back ≡ seen_back
    → map R all ≡ seen_front ++ (seen_t ∷ seen_q ∷ seen_back)
joined R all front back t q {seen_front} {seen_back} {seen_t} {seen_q} parts as_front as_t as_q as_back =
    ap (map R) parts ∙ map-append R front (t ∷ q ∷ back) ∙ ap (λ l. l ++ (R t ∷ R q ∷ map R back)) as_front ∙ ap (λ x. seen_front ++ (x ∷ R q ∷ map R back)) as_t ∙ ap (λ x. seen_front ++ (seen_t ∷ x ∷ map R back)) as_q ∙
    ap (λ l. seen_front ++ (seen_t ∷ seen_q ∷ l)) as_back

-- The second round behind the front ones.
second_of : {V : Type 0} (front seen : List V) (t u : V) (q r : V) (back rest : List V) → length front ≡ length seen → front ++ (t ∷ q ∷ back) ≡ seen ++ (u ∷ r ∷ rest) → q ≡ r
unfolding head_or tail_of
second_of [] [] t u q r back rest long e = ap (λ l. head_or q (tail_of l)) e
second_of [] (y ∷ seen) t u q r back rest long e = absurd (let no : zero ≡ suc (length seen) = long in omega (arith, no))
second_of (x ∷ front) [] t u q r back rest long e = absurd (let no : suc (length front) ≡ zero = long in omega (arith, no))
second_of (x ∷ front) (y ∷ seen) t u q r back rest long e = second_of front seen t u q r back rest (let shorter : length front ≡ length seen = omega (arith, long) in shorter) (ap tail_of e)

pub quotient_of : {X V : Type 0} (R : X → V) (all front back : List X) (t q : X) (seen rest : List V) (u r : V) → all ≡ front ++ (t ∷ q ∷ back) → map R all ≡ seen ++ (u ∷ r ∷ rest) → length (map R front) ≡ length seen → R q ≡ r
quotient_of R all front back t q seen rest u r parts view long =
    second_of (map R front) seen (R t) u (R q) r (map R back) rest long (sym (map-append R front (t ∷ q ∷ back)) ∙ ap (map R) (sym parts) ∙ view)

-- Matrices that are seen to have one row each have one.
pub single_rows : {X Y Z : Type 0} (items : X → List Y) (f : Y → Z) (matrices : List X) (chunks : List Z) → map (λ m. map f (items m)) matrices ≡ map (λ c. c ∷ []) chunks → AllByRecursion (λ m. length (items m) ≡ 1) matrices
unfolding head_or tail_of
single_rows items f [] chunks e = tt
single_rows items f (m ∷ matrices) [] e = absurd (let no : suc (length (map (λ k. map f (items k)) matrices)) ≡ zero = ap length e in omega (arith, no))
single_rows items f (m ∷ matrices) (c ∷ chunks) e = (sym (length-map (items m) f) ∙ ap length (ap (head_or []) e), single_rows items f matrices chunks (ap tail_of e))

-- Rows, each in a list of its own, seen as lists.
pub chunks_again : {X Y Z : Type 0} (items : X → List Y) (f : Y → Z) (matrices : List X) (rows : List Y) → map items matrices ≡ map (λ row. row ∷ []) rows → map (λ m. map f (items m)) matrices ≡ map (λ c. c ∷ []) (map f rows)
unfolding head_or tail_of
chunks_again items f [] [] e = refl
chunks_again items f [] (row ∷ rows) e = absurd (let no : zero ≡ suc (length (map (λ r. r ∷ []) rows)) = ap length e in omega (arith, no))
chunks_again items f (m ∷ matrices) [] e = absurd (let no : suc (length (map items matrices)) ≡ zero = ap length e in omega (arith, no))
chunks_again items f (m ∷ matrices) (row ∷ rows) e = ap (λ l. map f l ∷ map (λ k. map f (items k)) matrices) (ap (head_or []) e) ∙ ap (λ l. (f row ∷ []) ∷ l) (chunks_again items f matrices rows (ap tail_of e))

-- The row of a random round.
pub random_row : {X A : Type 0} (R : X → List (List (List A))) (x : X) (row : Option (List A)) → R x ∷ [] ≡ random_opened row → (y : List A) × (R x ≡ (y ∷ []) ∷ [])
unfolding head_or
random_row R x None e = absurd (let no : 1 ≡ zero = ap length e in omega (arith, no))
random_row R x (Some y) e = (y, ap (head_or []) e)

-- Two random rounds are both there or both not.
pub as_long : {X A : Type 0} (R : X → List (List (List A))) (round : Option X) (row : Option (List A)) → is_some round ≡ is_some row → length (map R (option_to_list round)) ≡ length (random_opened row)
as_long R None None e = refl
as_long R None (Some y) e = absurd (false≢true e)
as_long R (Some x) None e = absurd (false≢true (sym e))
as_long R (Some x) (Some y) e = refl
