-- Lists that are observed in turn.
use Rattle.std.proofs.Common.{◌≡◌, ◌∙◌, ℕ, ◌+◌, ◌<◌, ◌≤◌, List, length, get_or, drop, map, sym, ap, refl}
use Rattle.std.proofs.lemmas.List.{drop_all}
use Rattle.stark_support.proofs.Places.{from_place}
use Rattle.stark_support.specs.Sponge.{observed_all}

module _ {A B C : Type 0} (f : A → B) (observe : C → B → C) (xs : List A) where
  -- one more element was observed
  pub one_more_observed : (i : ℕ) (x : A) (state next whole : C) → i < length xs → x ≡ get_or xs i x → next ≡ observe state (f x)
      → observed_all observe (map f (drop i xs)) state ≡ whole → observed_all observe (map f (drop (i + 1) xs)) next ≡ whole
  one_more_observed i x state next whole within is observed so_far =
      ap (λ s. observed_all observe (map f (drop (i + 1) xs)) s) observed
      ∙ sym (ap (λ t. observed_all observe (map f t) state) (from_place xs i (i + 1) x refl within is)) ∙ so_far

  pub all_observed : (i : ℕ) (state whole : C) → length xs ≤ i → observed_all observe (map f (drop i xs)) state ≡ whole → state ≡ whole
  all_observed i state whole ended so_far = sym (ap (λ t. observed_all observe (map f t) state) (drop_all i xs ended)) ∙ so_far

-- Elements that are observed as they are.
module _ {A C : Type 0} (observe : C → A → C) (xs : List A) where
  pub one_more_as_it_is : (i : ℕ) (x : A) (state next whole : C) → i < length xs → x ≡ get_or xs i x → next ≡ observe state x
      → observed_all observe (drop i xs) state ≡ whole → observed_all observe (drop (i + 1) xs) next ≡ whole
  one_more_as_it_is i x state next whole within is observed so_far =
      ap (λ s. observed_all observe (drop (i + 1) xs) s) observed
      ∙ sym (ap (λ t. observed_all observe t state) (from_place xs i (i + 1) x refl within is)) ∙ so_far

  pub all_observed_as_they_are : (i : ℕ) (state whole : C) → length xs ≤ i → observed_all observe (drop i xs) state ≡ whole → state ≡ whole
  all_observed_as_they_are i state whole ended so_far = sym (ap (λ t. observed_all observe t state) (drop_all i xs ended)) ∙ so_far
