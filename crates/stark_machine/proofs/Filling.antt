-- Copies that fill a number of places.
use Rattle.std.proofs.Common.{◌≡◌, ◌≢◌, ◌∙◌, ℕ, zero, suc, ◌+◌, ◌*◌, ◌%◌, ◌<◌, List, ◌++◌, length, refl, sym, ap, subst, arith, length-append}
use Rattle.std.proofs.Math.Nat.{mul-mod_left}
use Rattle.stark_machine.specs.Program.{copies}

pub one_more : {F : Type 0} (n : ℕ) (xs : List F) → copies (n + 1) xs ≡ copies n xs ++ xs
one_more n xs =
    let e : n + 1 ≡ suc n = omega arith in
    ap (λ (k : ℕ). copies k xs) e

pub none_fill : (needed n m : ℕ) → needed ≡ n → needed % m ≢ 0 → (count : ℕ) → count * m ≢ n
none_fill needed n m same h count e = h (ap (λ (k : ℕ). k % m) (same ∙ sym e) ∙ mul-mod_left count m)

pub nothing_fills : (n m : ℕ) → m ≡ 0 → 0 < n → (count : ℕ) → count * m ≢ n
nothing_fills n m none some count e =
    let product : count * 0 ≡ n = subst (λ (k : ℕ). count * k ≡ n) none e in
    absurd (omega (arith, some, product))

pub whole_copies : {F : Type 0} (n : ℕ) (xs : List F) → length xs % 14 ≡ 0 → length (copies n xs) % 14 ≡ 0
whole_copies zero xs whole = refl
whole_copies (suc n) xs whole =
    let joined : length (copies n xs ++ xs) ≡ length (copies n xs) + length xs = length-append (copies n xs) xs in
    let before : length (copies n xs) % 14 ≡ 0 = whole_copies n xs whole in
    omega (arith, joined, before, whole)
