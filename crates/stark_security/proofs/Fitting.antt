-- Numbers that 64 bits hold.
use Rattle.std.proofs.Common.{◌≡◌, ◌∙◌, inl, inr, ℕ, ◌^◌, ◌<◌, ◌≤◌, None, Some}
use Rattle.std.proofs.lemmas.Option.{same_Some}
use Rattle.stark_symbolic.specs.Fitting.{fitting, below_or_past, fits, past}

pub some_fits : (n x : ℕ) → Some x ≡ fitting n → (n < 2 ^ 64) × (x ≡ n)
some_fits n x e = elim (below_or_past n (2 ^ 64)) [
  | inl below ↦ (below, same_Some x n (e ∙ fits n below))
  | inr above ↦ absurd (let clash : Some x ≡ None = e ∙ past n above in cc)
]

pub none_past : (n : ℕ) → None ≡ fitting n → 2 ^ 64 ≤ n
none_past n e = elim (below_or_past n (2 ^ 64)) [
  | inl below ↦ absurd (let clash : None ≡ Some n = e ∙ fits n below in cc)
  | inr above ↦ above
]

pub large_sum : {A : Type 0} (n : ℕ) (x : A) → (n < 64 → None ≡ Some x) → 64 ≤ n
large_sum n x small = elim (below_or_past n 64) [
  | inl below ↦ absurd (let clash = small below in cc)
  | inr above ↦ above
]
