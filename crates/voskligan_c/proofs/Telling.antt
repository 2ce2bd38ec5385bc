-- Texts written one after another.
use Rattle.std.proofs.Common.{◌≡◌, ℕ, ◌<◌, ◌≤◌, List, [], ◌∷◌, ◌++◌, ◌+◌, length, take, drop, ap, refl, arith}
use Rattle.std.proofs.lemmas.List.{drop_all, length-append, take-append-le}
use Rattle.voskligan_c.specs.Message.{written}

-- where the first leaves a byte
pub stated_behind : (a b old : List ℕ) → length a < length old → take (length a) (written a old) ++ written b (drop (length a) (written a old)) ≡ written (a ++ b) old
stated_behind a b [] h = absurd (omega arith)
stated_behind [] b (o ∷ []) h = refl
stated_behind [] b (o ∷ (p ∷ bs)) h = refl
stated_behind (x ∷ a) b (o ∷ []) h = absurd (omega arith)
stated_behind (x ∷ a) b (o ∷ (p ∷ bs)) h = ap (λ (l : List ℕ). x ∷ l) (stated_behind a b (p ∷ bs) (omega arith))

-- where it leaves none
pub stated_alone : (a b old : List ℕ) → length old ≤ length a → written a old ≡ written (a ++ b) old
stated_alone a b [] h = refl
stated_alone a b (o ∷ bs) h =
    let n : length (a ++ b) ≡ length a + length b = length-append a b in
    let e : take (length bs) (a ++ b) ≡ take (length bs) a = take-append-le (length bs) a b (omega arith) in
    let f : drop (length a) bs ≡ [] = drop_all (length a) bs (omega arith) in
    let g : drop (length (a ++ b)) bs ≡ [] = drop_all (length (a ++ b)) bs (omega arith) in
    cc
