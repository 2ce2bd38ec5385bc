-- Lists of coordinates, one after the other.
use Rattle.std.proofs.Common.{◌≡◌, ◌∙◌, ℕ, ◌+◌, ◌*◌, ◌%◌, List, [], ◌∷◌, ◌++◌, length, take, Some, ap, sym, arith, add-one}
use Rattle.std.specs.List.{flat_map, slice_get}
use Rattle.std.proofs.Math.Nat.{mul-dvd-mul_right}
use Rattle.std.proofs.Math.Seq.{take-suc, take-length}
use Rattle.std.proofs.lemmas.List.{append_assoc, length-append}
use Rattle.std.proofs.lemmas.List.Concat.{flat_map-cons}
use Rattle.std.proofs.lemmas.Nat.Gcd.{dvd_of_mod-eq-zero, mod-eq-zero_of_dvd}
use Rattle.std.proofs.lemmas.Option.{slice_get_within, get_or_from_slice_get}

-- the part of a list up to and with one of its elements
pub one_more : {X : Type 0} (xs : List X) (i : ℕ) (x : X) → slice_get xs i ≡ Some x → take (i + 1) xs ≡ take i xs ++ x ∷ []
one_more xs i x e = ap (λ n. take n xs) (add-one i) ∙ take-suc xs i x (slice_get_within xs i x e) ∙ ap (λ y. take i xs ++ y ∷ []) (get_or_from_slice_get xs i x x e)

-- one more coordinate behind those that were pushed
pub one_more_pushed : {X : Type 0} (new old before xs : List X) (i : ℕ) (x : X) → new ≡ old ++ x ∷ [] → old ≡ before ++ take i xs → slice_get xs i ≡ Some x → new ≡ before ++ take (i + 1) xs
one_more_pushed new old before xs i x pushed so_far e =
    pushed ∙ ap (λ l. l ++ x ∷ []) so_far ∙ append_assoc before (take i xs) (x ∷ []) ∙ ap (λ l. before ++ l) (sym (one_more xs i x e))

-- lists of one length, joined
pub joined_length : {X Y : Type 0} (f : X → List Y) (d : ℕ) → ((x : X) → length (f x) ≡ d) → (xs : List X) → length (flat_map f xs) ≡ length xs * d
joined_length f d each [] = omega arith
joined_length f d each (x ∷ xs) =
    ap length (flat_map-cons f x xs) ∙ length-append (f x) (flat_map f xs) ∙
    (let first = each x in let rest = joined_length f d each xs in omega (arith, first, rest))

-- whole rows of elements are whole rows of coordinates
pub still_whole : {X Y : Type 0} (f : X → List Y) (d dimension width n : ℕ) (xs : List X) (ys : List Y) → ((x : X) → length (f x) ≡ d) → dimension ≡ d → length xs % width ≡ 0 →
    n ≡ length xs → ys ≡ flat_map f (take n xs) → length ys % (width * dimension) ≡ 0
still_whole f d dimension width n xs ys each same whole all joined =
    ap (λ k. length ys % (width * k)) same ∙
    ap (λ k. k % (width * d)) (ap length (joined ∙ ap (λ k. flat_map f (take k xs)) all ∙ ap (flat_map f) (take-length xs)) ∙ joined_length f d each xs) ∙
    mod-eq-zero_of_dvd (width * d) (mul-dvd-mul_right width (dvd_of_mod-eq-zero width whole) d)
