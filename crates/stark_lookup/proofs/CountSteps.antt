-- How many entries all rows have, and how long their keys are.
use Rattle.std.proofs.Common.{◌≡◌, ◌∙◌, ℕ, zero, suc, ◌+◌, ◌*◌, List, [], ◌∷◌, length, map, refl, ap, arith}
use Rattle.std.proofs.lemmas.List.{length-append, length-map}
use Rattle.std.specs.List.{AllByRecursion}
use Rattle.stark_support.specs.Polynomial.{HoldsOfAtMost}
use Rattle.stark_logup.specs.Fractions.{Entry, joined}
use Rattle.stark_logup.specs.Lookups.{HaveWidth, listed}
use Rattle.stark_logup.specs.RowConstraints.{groups_worth, worth}
use Rattle.stark_lookup.specs.LookupSound.{interactions}
use Rattle.stark_lookup.proofs.FitSteps.{all_joined}

module _ {T E : Type 0} (f : ℕ → T → E) where
  joined_number : (gs : List (List (Entry (List T) T))) (r : ℕ) → length (joined (groups_worth f gs r)) ≡ interactions gs
  joined_number [] r = refl
  joined_number (g ∷ gs) r = length-append (map (worth (f r)) g) (joined (groups_worth f gs r)) ∙ ap (λ n. n + length (joined (groups_worth f gs r))) (length-map g (worth (f r))) ∙ ap (λ n. length g + n) (joined_number gs r)

  one_row_more : (n k : ℕ) → n * k + k ≡ suc n * k
  one_row_more n k = omega arith

  pub entries_counted : (gs : List (List (Entry (List T) T))) (rows : ℕ) → length (listed (groups_worth f gs) rows) ≡ rows * interactions gs
  entries_counted gs zero = omega arith
  entries_counted gs (suc n) =
      length-append (listed (groups_worth f gs) n) (joined (groups_worth f gs n)) ∙ ap (λ k. k + length (joined (groups_worth f gs n))) (entries_counted gs n)
      ∙ ap (λ k. n * interactions gs + k) (joined_number gs n) ∙ one_row_more n (interactions gs)

  module _ (w : ℕ) where
    group_width : (g : List (Entry (List T) T)) (r : ℕ) → AllByRecursion (λ e. length e.key ≡ w) g → HaveWidth w (map (worth (f r)) g)
    group_width [] r h = tt
    group_width (e ∷ g) r h = (length-map e.key (f r) ∙ h.0, group_width g r h.1)

    row_width : (gs : List (List (Entry (List T) T))) (r : ℕ) → AllByRecursion (λ g. AllByRecursion (λ e. length e.key ≡ w) g) gs → HaveWidth w (joined (groups_worth f gs r))
    row_width [] r h = tt
    row_width (g ∷ gs) r h = all_joined (λ e. length e.key ≡ w) (map (worth (f r)) g) (joined (groups_worth f gs r)) (group_width g r h.0) (row_width gs r h.1)

    pub entries_width : (gs : List (List (Entry (List T) T))) (rows : ℕ) → AllByRecursion (λ g. AllByRecursion (λ e. length e.key ≡ w) g) gs → HaveWidth w (listed (groups_worth f gs) rows)
    entries_width gs zero h = tt
    entries_width gs (suc n) h = all_joined (λ e. length e.key ≡ w) (listed (groups_worth f gs) n) (joined (groups_worth f gs n)) (entries_width gs n h) (row_width gs n h)

-- A property that none has without a condition holds of at most as many as it does under it.
pub under_condition : {K : Type 0} {P : K → Type 0} (n : ℕ) (Good : Type 0) → ((x : K) → P x → Good) → (Good → HoldsOfAtMost n P) → HoldsOfAtMost n P
under_condition n Good good few [] distinct holds = omega arith
under_condition n Good good few (x ∷ xs) distinct holds = few (good x holds.0) (x ∷ xs) distinct holds
