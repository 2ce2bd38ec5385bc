-- Loops that cut values, and what they make of values that are listed.
use Rattle.std.proofs.Common.{◌≡◌, ◌∙◌, ℕ, ◌+◌, ◌≤◌, List, [], ◌∷◌, ◌++◌, Some, append_assoc, ap, arith, drop, length, length-drop, refl, slice_get, sym}
use Rattle.std.specs.List.{flat_map, sum_by}
use Rattle.std.proofs.lemmas.List.{append-nil, drop-drop, drop_all}
use Rattle.std.proofs.lemmas.List.Sums.{sum_by-cons}
use Rattle.std.proofs.Math.Seq.{drop-append_seam}
use Rattle.stark_lookup_extension.proofs.Loops.{from_there}
use Rattle.stark_lookup_rows.specs.Cutting.{cut, made_in_turn}

module _ {S X F Y : Type 0} (size : X → ℕ) (next : S → S) (make : S → X → List F → List Y) where
  -- Those before the place i are made, and these values are left for the others.
  pub record SoFar (first : S) (xs : List X) (values : List F) (before : List Y) (i : ℕ) (s : S) (all : List Y) (rest : List F) : Type 0 where
    pub made : all ++ cut size next make s (drop i xs) rest ≡ before ++ cut size next make first xs values
    pub room : sum_by size (drop i xs) ≤ length rest
    pub left : drop (sum_by size (drop i xs)) rest ≡ drop (sum_by size xs) values

  pub begun : (first s : S) (xs : List X) (values : List F) (before all : List Y) → s ≡ first → all ≡ before → sum_by size xs ≤ length values → SoFar first xs values before 0 s all values
  begun first s xs values before all same none room = record {
    made = ap (λ ys. ys ++ cut size next make s xs values) none ∙ ap (λ t. before ++ cut size next make t xs values) same;
    room = room;
    left = refl;
  }

  pub one_more : (first : S) (xs : List X) (values : List F) (before : List Y) (i : ℕ) (s t : S) (x : X) (all more : List Y) (rest after : List F)
      → slice_get xs i ≡ Some x → SoFar first xs values before i s all rest → t ≡ next s → more ≡ all ++ make s x rest → after ≡ drop (size x) rest → SoFar first xs values before (i + 1) t more after
  one_more first xs values before i s t x all more rest after at half is_next is_more is_after =
      let here : drop i xs ≡ x ∷ drop (i + 1) xs = from_there xs i x at in
      let counted : sum_by size (drop i xs) ≡ size x + sum_by size (drop (i + 1) xs) = ap (sum_by size) here ∙ sum_by-cons size x (drop (i + 1) xs) in
      record {
        made =
            ap (λ ys. ys ++ cut size next make t (drop (i + 1) xs) after) is_more
            ∙ ap (λ u. (all ++ make s x rest) ++ cut size next make u (drop (i + 1) xs) after) is_next
            ∙ ap (λ v. (all ++ make s x rest) ++ cut size next make (next s) (drop (i + 1) xs) v) is_after
            ∙ append_assoc all (make s x rest) (cut size next make (next s) (drop (i + 1) xs) (drop (size x) rest))
            ∙ ap (λ zs. all ++ cut size next make s zs rest) (sym here) ∙ half.made;
        room = let room = half.room in let shorter = ap length is_after ∙ length-drop (size x) rest in omega (arith, counted, room, shorter);
        left = ap (drop (sum_by size (drop (i + 1) xs))) is_after ∙ drop-drop (sum_by size (drop (i + 1) xs)) (size x) rest ∙ ap (λ n. drop n rest) (let same : size x + sum_by size (drop (i + 1) xs) ≡ sum_by size (drop i xs) = sym counted in same) ∙ half.left;
      }

  pub all_cut : (first : S) (xs : List X) (values : List F) (before : List Y) (i : ℕ) (s : S) (all : List Y) (rest : List F) → length xs ≤ i → SoFar first xs values before i s all rest
      → (all ≡ before ++ cut size next make first xs values) × (rest ≡ drop (sum_by size xs) values)
  all_cut first xs values before i s all rest past half =
      let none : drop i xs ≡ [] = drop_all i xs past in (
        sym (append-nil all) ∙ ap (λ zs. all ++ cut size next make s zs rest) (sym none) ∙ half.made,
        ap (λ zs. drop (sum_by size zs) rest) (sym none) ∙ half.left,
      )

  -- Of values that are listed one after the other.
  pub cut_of_listed : (listed : X → List F) (goal : S → X → List Y) → ((x : X) → length (listed x) ≡ size x) → ((s : S) (x : X) (others : List F) → make s x (listed x ++ others) ≡ goal s x)
      → (s : S) (xs : List X) (others : List F) → cut size next make s xs (flat_map listed xs ++ others) ≡ made_in_turn next goal s xs
  cut_of_listed listed goal sized makes s [] others = refl
  cut_of_listed listed goal sized makes s (x ∷ xs) others =
      let whole : flat_map listed (x ∷ xs) ++ others ≡ listed x ++ (flat_map listed xs ++ others) = append_assoc (listed x) (flat_map listed xs) others in
      let left : drop (size x) (listed x ++ (flat_map listed xs ++ others)) ≡ flat_map listed xs ++ others
      = ap (λ n. drop n (listed x ++ (flat_map listed xs ++ others))) (sym (sized x)) ∙ drop-append_seam (listed x) (flat_map listed xs ++ others) in
      ap (λ v. make s x v ++ cut size next make (next s) xs (drop (size x) v)) whole ∙ ap (λ ys. ys ++ cut size next make (next s) xs (drop (size x) (listed x ++ (flat_map listed xs ++ others)))) (makes s x (flat_map listed xs ++ others))
      ∙ ap (λ v. goal s x ++ cut size next make (next s) xs v) left ∙ ap (λ ys. goal s x ++ ys) (cut_of_listed listed goal sized makes (next s) xs others)
