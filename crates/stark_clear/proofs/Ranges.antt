-- Elements of a sequence, listed.
use Rattle.std.proofs.Common.{◌≡◌, ◌∙◌, ℕ, zero, suc, ◌+◌, ◌*◌, ◌<◌, List, [], ◌∷◌, ◌++◌, length, get_or, refl, sym, ap, arith, add-one}
use Rattle.std.specs.Prelude.{Some}
use Rattle.std.specs.List.{slice_get}
use Rattle.std.proofs.lemmas.Option.{same_Some}
use Rattle.stark_clear.specs.Masks.{range, strided}

pub first_place : (a : ℕ) → a ≡ a + 0
first_place a = omega arith

pub later_place : (a n : ℕ) → suc a + n ≡ a + suc n
later_place a n = omega arith

pub from_zero : (n : ℕ) → n ≡ 0 + n
from_zero n = omega arith

no_steps : (a step : ℕ) → a ≡ a + 0 * step
no_steps a step = omega arith

one_step_later : (a n step : ℕ) → (a + step) + n * step ≡ a + suc n * step
one_step_later a n step = omega arith

module _ {A : Type 0} (f : ℕ → A) where
  pub range_and_next : (a n : ℕ) → range f a (suc n) ≡ range f a n ++ f (a + n) ∷ []
  range_and_next a zero = ap (λ k. f k ∷ []) (first_place a)
  range_and_next a (suc n) = ap (λ t. f a ∷ t) (range_and_next (suc a) n) ∙ ap (λ k. f a ∷ (range f (suc a) n ++ f k ∷ [])) (later_place a n)

  -- one more element
  pub range_grown : (a n : ℕ) (done after : List A) (x : A) → x ≡ f (a + n) → after ≡ done ++ x ∷ [] → done ≡ range f a n → after ≡ range f a (n + 1)
  range_grown a n done after x is pushed so_far =
      pushed ∙ ap (λ t. t ++ x ∷ []) so_far ∙ ap (λ y. range f a n ++ y ∷ []) is ∙ sym (range_and_next a n) ∙ ap (range f a) (sym (add-one n))

  pub range_length : (a n : ℕ) → length (range f a n) ≡ n
  range_length a zero = refl
  range_length a (suc n) = ap suc (range_length (suc a) n)

  pub range_at : (none : A) (a n i : ℕ) → i < n → get_or (range f a n) i none ≡ f (a + i)
  range_at none a zero i h = absurd (omega arith)
  range_at none a (suc n) zero h = ap f (first_place a)
  range_at none a (suc n) (suc i) h = range_at none (suc a) n i (omega arith) ∙ ap f (later_place a i)

  -- a list that is given by its places
  pub listed_range : (a n : ℕ) (xs : List A) → length xs ≡ n → ((i : ℕ) → i < n → slice_get xs i ≡ Some (f (a + i))) → xs ≡ range f a n
  listed_range a zero [] number each = refl
  listed_range a zero (x ∷ xs) number each = absurd (omega arith)
  listed_range a (suc n) [] number each = absurd (omega arith)
  listed_range a (suc n) (x ∷ xs) number each =
      ap (λ t. t ∷ xs) (same_Some x (f a) (each 0 (omega arith) ∙ ap (λ k. Some (f k)) (sym (first_place a))))
      ∙ ap (λ t. f a ∷ t) (listed_range (suc a) n xs (omega arith) (λ i below. each (suc i) (omega arith) ∙ ap (λ k. Some (f k)) (sym (later_place a i))))

  strided_and_next : (a n step : ℕ) → strided f a step (suc n) ≡ strided f a step n ++ f (a + n * step) ∷ []
  strided_and_next a zero step = ap (λ k. f k ∷ []) (no_steps a step)
  strided_and_next a (suc n) step =
      ap (λ t. f a ∷ t) (strided_and_next (a + step) n step) ∙ ap (λ k. f a ∷ (strided f (a + step) step n ++ f k ∷ [])) (one_step_later a n step)

  pub strided_grown : (a n step : ℕ) (done after : List A) (x : A) → x ≡ f (a + n * step) → after ≡ done ++ x ∷ [] → done ≡ strided f a step n → after ≡ strided f a step (n + 1)
  strided_grown a n step done after x is pushed so_far =
      pushed ∙ ap (λ t. t ++ x ∷ []) so_far ∙ ap (λ y. strided f a step n ++ y ∷ []) is ∙ sym (strided_and_next a n step) ∙ ap (strided f a step) (sym (add-one n))

  pub strided_length : (a n step : ℕ) → length (strided f a step n) ≡ n
  strided_length a zero step = refl
  strided_length a (suc n) step = ap suc (strided_length (a + step) n step)
