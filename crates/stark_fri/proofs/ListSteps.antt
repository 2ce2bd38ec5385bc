-- Lists that are made in turn, pairs of lists, and the first fault of a list.
use Rattle.std.proofs.Common.{◌≡◌, ◌∙◌, ℕ, suc, ◌+◌, ◌-◌, ◌<◌, ◌≤◌, min, List, [], ◌∷◌, ◌++◌, length, get_or, drop, map, sym, ap, refl, subst, arith, append_assoc}
use Rattle.std.specs.List.{AllByRecursion, flat_map, zip}
use Rattle.std.proofs.lemmas.List.{append-nil, drop_all, get_or-map, length-map}
use Rattle.std.proofs.lemmas.List.Concat.{flat_map-cons}
use Rattle.std.proofs.lemmas.Slice.Zip.{get_or-zip, length-zip}
use Rattle.stark_support.proofs.Places.{from_place}
use Rattle.stark_support.specs.Faults.{IsFirstFaultWith}
use Rattle.stark_support.specs.Sponge.{drawn_in_turn}

-- ---- lists that are put behind another in turn

module _ {A B : Type 0} (f : A → List B) (xs : List A) where
  pub one_more_piece : (i : ℕ) (x : A) (done after whole : List B) → i < length xs → x ≡ get_or xs i x → after ≡ done ++ f x
      → done ++ flat_map f (drop i xs) ≡ whole → after ++ flat_map f (drop (i + 1) xs) ≡ whole
  one_more_piece i x done after whole within is pushed so_far =
      let rest = flat_map f (drop (i + 1) xs) in
      let opened : flat_map f (drop i xs) ≡ f x ++ rest = ap (flat_map f) (from_place xs i (i + 1) x refl within is) ∙ flat_map-cons f x (drop (i + 1) xs) in
      ap (λ t. t ++ rest) pushed ∙ append_assoc done (f x) rest ∙ ap (λ t. done ++ t) (sym opened) ∙ so_far

  pub all_pieces : (i : ℕ) (done whole : List B) → length xs ≤ i → done ++ flat_map f (drop i xs) ≡ whole → done ≡ whole
  all_pieces i done whole ended so_far = sym (append-nil done) ∙ ap (λ t. done ++ flat_map f t) (sym (drop_all i xs ended)) ∙ so_far

module _ {A B : Type 0} (f : A → B) (xs : List A) where
  pub one_more_value : (i : ℕ) (x : A) (y : B) (done after whole : List B) → i < length xs → x ≡ get_or xs i x → y ≡ f x → after ≡ done ++ y ∷ []
      → done ++ map f (drop i xs) ≡ whole → after ++ map f (drop (i + 1) xs) ≡ whole
  one_more_value i x y done after whole within is value pushed so_far =
      let rest = map f (drop (i + 1) xs) in
      ap (λ t. t ++ rest) (pushed ∙ ap (λ t. done ++ t ∷ []) value) ∙ append_assoc done (f x ∷ []) rest
      ∙ ap (λ t. done ++ t) (sym (ap (map f) (from_place xs i (i + 1) x refl within is))) ∙ so_far

  pub all_values : (i : ℕ) (done whole : List B) → length xs ≤ i → done ++ map f (drop i xs) ≡ whole → done ≡ whole
  all_values i done whole ended so_far = sym (append-nil done) ∙ ap (λ t. done ++ map f t) (sym (drop_all i xs ended)) ∙ so_far

module _ {C T : Type 0} (draw : C → T) (next : C → C) (n : ℕ) where
  pub one_more_drawn : (i : ℕ) (state later : C) (x : T) (done after whole : List T) → i < n → x ≡ draw state → later ≡ next state → after ≡ done ++ x ∷ []
      → done ++ drawn_in_turn draw next (n - i) state ≡ whole → after ++ drawn_in_turn draw next (n - (i + 1)) later ≡ whole
  unfolding drawn_in_turn
  one_more_drawn i state later x done after whole below is_x is_later pushed so_far =
      let left : n - i ≡ suc (n - (i + 1)) = omega arith in
      let rest = drawn_in_turn draw next (n - (i + 1)) (next state) in
      ap (λ s. after ++ drawn_in_turn draw next (n - (i + 1)) s) is_later
      ∙ ap (λ t. t ++ rest) (pushed ∙ ap (λ t. done ++ t ∷ []) is_x) ∙ append_assoc done (draw state ∷ []) rest
      ∙ ap (λ m. done ++ drawn_in_turn draw next m state) (sym left) ∙ so_far

  pub all_drawn : (i : ℕ) (state : C) (done whole : List T) → n ≤ i → done ++ drawn_in_turn draw next (n - i) state ≡ whole → done ≡ whole
  unfolding drawn_in_turn
  all_drawn i state done whole ended so_far =
      let none : 0 ≡ n - i = omega arith in
      sym (append-nil done) ∙ ap (λ m. done ++ drawn_in_turn draw next m state) none ∙ so_far

-- ---- two lists beside one another

module _ {A B : Type 0} (xs : List A) (ys : List B) where
  pub zip_within : (i : ℕ) → i < min (length xs) (length ys) → i < length (zip xs ys)
  zip_within i h = subst (λ n. i < n) (sym (length-zip xs ys)) h

  pub zip_ended : (i : ℕ) → min (length xs) (length ys) ≤ i → length (zip xs ys) ≤ i
  zip_ended i h = subst (λ n. n ≤ i) (sym (length-zip xs ys)) h

  pub zip_place : (i : ℕ) (x : A) (y : B) → i < length xs → i < length ys → x ≡ get_or xs i x → y ≡ get_or ys i y → (x, y) ≡ get_or (zip xs ys) i (x, y)
  zip_place i x y h k is_x is_y = ap (λ t. (t, y)) is_x ∙ ap (λ t. (get_or xs i x, t)) is_y ∙ sym (get_or-zip xs ys i (x, y) h k)

-- What stands at a place of both, where a loop runs as far as the shorter one.
module _ {A B : Type 0} (xs : List A) (ys : List B) (i end : ℕ) (x : A) (y : B) (turn : i < end) (is_x : x ≡ get_or xs i x) (is_y : y ≡ get_or ys i y) where
  pub zip_at : (n m : ℕ) → end ≡ min n m → n ≡ length xs → m ≡ length ys → (i < length (zip xs ys)) × ((x, y) ≡ get_or (zip xs ys) i (x, y))
  zip_at n m is_end is_n is_m =
      let in_xs : i < length xs = omega (arith, turn, is_end, is_n) in
      let in_ys : i < length ys = omega (arith, turn, is_end, is_m) in
      (zip_within xs ys i (omega (arith, in_xs, in_ys)), zip_place xs ys i x y in_xs in_ys is_x is_y)

  -- The place in a zip where one list is mapped.
  pub zip_mapped : {C : Type 0} (f : A → C) → end ≡ min (length xs) (length ys) → (i < length (zip (map f xs) ys)) × ((f x, y) ≡ get_or (zip (map f xs) ys) i (f x, y))
  zip_mapped f is_end =
      let in_xs : i < length xs = omega (arith, turn, is_end) in
      let in_ys : i < length ys = omega (arith, turn, is_end) in
      let in_map : i < length (map f xs) = omega (arith, in_xs, length-map xs f) in
      (zip_within (map f xs) ys i (omega (arith, in_map, in_ys)), zip_place (map f xs) ys i (f x) y in_map in_ys (ap f is_x ∙ sym (get_or-map f xs i x (f x) in_xs)) is_y)

-- ---- the first fault, and why

module _ {A : Type 0} (P Q : A → Type 0) (xs : List A) where
  -- The first fault of what is left is the first of the whole.
  abbrev pub PassedWith : ℕ → Type 0
  PassedWith i = (k : ℕ) → IsFirstFaultWith P Q (drop i xs) k → IsFirstFaultWith P Q xs (i + k)

  pub passed_with_start : PassedWith 0
  passed_with_start k h = subst (λ n. IsFirstFaultWith P Q xs n) (omega arith) h

  with_shift : (i k : ℕ) → i + suc k ≡ (i + 1) + k
  with_shift i k = omega arith

  pub passed_with_step : (i : ℕ) (x : A) → i < length xs → x ≡ get_or xs i x → P x → PassedWith i → PassedWith (i + 1)
  unfolding IsFirstFaultWith
  passed_with_step i x h e p w k r =
      subst (λ n. IsFirstFaultWith P Q xs n) (with_shift i k)
      (w (suc k) (subst (λ t. IsFirstFaultWith P Q t (suc k)) (sym (from_place xs i (i + 1) x refl h e)) (p, r)))

  pub passed_with_stop : (i : ℕ) (x : A) → i < length xs → x ≡ get_or xs i x → Q x → PassedWith i → IsFirstFaultWith P Q xs i
  unfolding IsFirstFaultWith
  passed_with_stop i x h e q w =
      subst (λ n. IsFirstFaultWith P Q xs n) (omega arith) (w 0 (subst (λ t. IsFirstFaultWith P Q t 0) (sym (from_place xs i (i + 1) x refl h e)) q))

module _ {A : Type 0} (P : A → Type 0) (xs : List A) where
  -- What is left holds only if the whole does.
  abbrev pub HoldsSoFar : ℕ → Type 0
  HoldsSoFar i = AllByRecursion P (drop i xs) → AllByRecursion P xs

  pub holds_step : (i : ℕ) (x : A) → i < length xs → x ≡ get_or xs i x → P x → HoldsSoFar i → HoldsSoFar (i + 1)
  holds_step i x h e p w r = w (subst (AllByRecursion P) (sym (from_place xs i (i + 1) x refl h e)) (p, r))

  pub holds_end : (i : ℕ) → length xs ≤ i → HoldsSoFar i → AllByRecursion P xs
  holds_end i h w = w (subst (AllByRecursion P) (sym (drop_all i xs h)) tt)
