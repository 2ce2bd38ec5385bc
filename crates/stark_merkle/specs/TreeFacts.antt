-- In a tree every path leads to the root; and paths bind: two of them that lead from different rows to one root show a collision.
use Rattle.std.specs.Prelude.{◌≡◌, ◌≢◌, ◌⊎◌, ℕ, zero, suc, ◌+◌, ◌-◌, ◌*◌, ◌/◌, ◌%◌, ◌^◌, ◌<◌, true, false, eqb, cond, List, [], ◌∷◌, length, IsSome, Some, refl}
use Rattle.std.proofs.Common.{sym, ap, ◌∙◌, subst, inl, inr, arith}
use Rattle.std.proofs.lemmas.Bool.Decides.{eqb_tells}
use Rattle.std.proofs.lemmas.Option.{slice_get_within}
use Rattle.std.specs.List.{AllByRecursion, slice_get}
use Rattle.stark_merkle.specs.Tree.{AreDigests, HasPath, HashCollision, IsDigest, IsPath, IsPathIn, LeadsTo, TreeDigests, joined, layer_above, layers_from, led, neighbour, paired, sole, top_of}

-- ---- a tree's own paths

twice_suc : (i : ℕ) → 2 * suc i ≡ suc (suc (2 * i))
twice_suc i = omega arith

pow_double : (d : ℕ) → 2 ^ suc d ≡ 2 * 2 ^ d
pow_double d = omega arith

module _ {H : Type 0} (node : H → H → H) where
  -- Two neighbours are joined in the layer above.
  pub paired_get : (xs : List H) (i : ℕ) (a b : H) → slice_get xs (2 * i) ≡ Some a → slice_get xs (2 * i + 1) ≡ Some b → slice_get (paired node xs) i ≡ Some (node a b)
  unfolding paired
  paired_get [] i a b h k = absurd (cc)
  paired_get (x ∷ []) zero a b h k = absurd (cc)
  paired_get (x ∷ []) (suc i) a b h k =
      let e : slice_get (x ∷ []) (suc (suc (2 * i))) ≡ Some a = subst (λ n. slice_get (x ∷ []) n ≡ Some a) (twice_suc i) h in absurd (cc)
  paired_get (x ∷ (y ∷ xs)) zero a b h k = (cc)
  paired_get (x ∷ (y ∷ xs)) (suc i) a b h k =
      let more : 2 * suc i + 1 ≡ suc (suc (2 * i + 1)) = omega arith in
      paired_get xs i a b (subst (λ n. slice_get (x ∷ (y ∷ xs)) n ≡ Some a) (twice_suc i) h) (subst (λ n. slice_get (x ∷ (y ∷ xs)) n ≡ Some b) more k)

  even_or_odd : (i : ℕ) → ((eqb (i % 2) 0 ≡ true) × (i ≡ 2 * (i / 2))) ⊎ ((eqb (i % 2) 0 ≡ false) × (i ≡ 2 * (i / 2) + 1))
  even_or_odd i = elim (eqb_tells (i % 2) 0) [
    | inl w ↦ let even : i % 2 ≡ 0 = w.1 in inl (w.0, omega arith)
    | inr w ↦ let odd : i % 2 ≢ 0 = w.1 in inr (w.0, omega arith)
  ]

  -- One step up: the node over place i is at half the place.
  step_up : (xs : List H) (i : ℕ) (x s : H) → slice_get xs i ≡ Some x → slice_get xs (neighbour i) ≡ Some s → slice_get (paired node xs) (i / 2) ≡ Some (joined node i x s)
  step_up xs i x s h k = elim (even_or_odd i) [
    | inl w ↦
        let here : slice_get xs (2 * (i / 2)) ≡ Some x = subst (λ n. slice_get xs n ≡ Some x) w.1 h in
        let beside : slice_get xs (i + 1) ≡ Some s = ap (λ b. slice_get xs (cond b (i + 1) (i - 1))) (sym w.0) ∙ k in
        paired_get xs (i / 2) x s here (subst (λ n. slice_get xs (n + 1) ≡ Some s) w.1 beside) ∙ ap (λ b. Some (cond b (node x s) (node s x))) (sym w.0)
    | inr w ↦
        let before : i - 1 ≡ 2 * (i / 2) = omega (arith, w.1) in
        let beside : slice_get xs (i - 1) ≡ Some s = ap (λ b. slice_get xs (cond b (i + 1) (i - 1))) (sym w.0) ∙ k in
        paired_get xs (i / 2) s x (subst (λ n. slice_get xs n ≡ Some s) before beside) (subst (λ n. slice_get xs n ≡ Some x) w.1 h) ∙ ap (λ b. Some (cond b (node x s) (node s x))) (sym w.0)
  ]

  -- A layer below the last doesn't matter to the top.
  top_kept : (xs : List H) (layers : List (List H)) → 0 < length layers → top_of (xs ∷ layers) ≡ top_of layers
  unfolding top_of
  top_kept xs [] some = absurd (omega arith)
  top_kept xs (ys ∷ layers) some = refl

  top_passed : (xs : List H) (layers : List (List H)) (root : H) → 0 < length layers → top_of (xs ∷ layers) ≡ Some root → top_of layers ≡ Some root
  top_passed xs layers root some top = sym (top_kept xs layers some) ∙ top

  pub led_to_root : (d : ℕ) (xs : List H) (root : H) (i : ℕ) (x : H) (path : List H) → layer_above node d xs ≡ root ∷ [] → slice_get xs i ≡ Some x → IsPath node d xs i path → led node i x path ≡ root
  unfolding layer_above IsPath led
  led_to_root zero xs root zero x [] whole here path = let e : slice_get (root ∷ []) 0 ≡ Some x = subst (λ t. slice_get t 0 ≡ Some x) whole here in (cc)
  led_to_root zero xs root (suc i) x [] whole here path = let e : slice_get (root ∷ []) (suc i) ≡ Some x = subst (λ t. slice_get t (suc i) ≡ Some x) whole here in absurd (cc)
  led_to_root zero xs root i x (s ∷ path) whole here below = absurd below
  led_to_root (suc d) xs root i x [] whole here below = absurd below
  led_to_root (suc d) xs root i x (s ∷ path) whole here below =
      led_to_root d (paired node xs) root (i / 2) (joined node i x s) path whole (step_up xs i x s here below.0) below.1

  -- A path in a tree's layers is one in the tree.
  pub path_in_layers : (d : ℕ) (xs : List H) (i : ℕ) (path : List H) → IsPathIn (layers_from node d xs) i path → IsPath node d xs i path
  unfolding layers_from IsPathIn IsPath
  path_in_layers zero xs i [] h = tt
  path_in_layers zero xs i (s ∷ path) h = absurd h
  path_in_layers (suc zero) xs i [] h = absurd h
  path_in_layers (suc zero) xs i (s ∷ path) h = (h.0, path_in_layers zero (paired node xs) (i / 2) path h.1)
  path_in_layers (suc (suc d)) xs i [] h = absurd h
  path_in_layers (suc (suc d)) xs i (s ∷ path) h = (h.0, path_in_layers (suc d) (paired node xs) (i / 2) path h.1)
      -- It has a digest for each layer above the leaves.

  pub path_length : (d : ℕ) (xs : List H) (i : ℕ) (path : List H) → IsPath node d xs i path → length path ≡ d
  unfolding IsPath
  path_length zero xs i [] h = refl
  path_length zero xs i (s ∷ path) h = absurd h
  path_length (suc d) xs i [] h = absurd h
  path_length (suc d) xs i (s ∷ path) h = ap suc (path_length d (paired node xs) (i / 2) path h.1)

  -- ---- full trees

  paired_halves : (xs : List H) (n : ℕ) → length xs ≡ 2 * n → length (paired node xs) ≡ n
  unfolding paired
  paired_halves [] n is = omega (arith, is)
  paired_halves (x ∷ []) n is = absurd (omega (arith, is))
  paired_halves (x ∷ (y ∷ xs)) zero is = absurd (omega (arith, is))
  paired_halves (x ∷ (y ∷ xs)) (suc n) is = ap suc (paired_halves xs n (omega (arith, is)))

  neighbour_within : (i n : ℕ) → i < 2 * n → neighbour i < 2 * n
  neighbour_within i n within = elim (even_or_odd i) [
    | inl w ↦
        let small : i + 1 < 2 * n = omega (arith, w.1) in subst (λ b. cond b (i + 1) (i - 1) < 2 * n) (sym w.0) small
    | inr w ↦
        let small : i - 1 < 2 * n = omega (arith, w.1) in subst (λ b. cond b (i + 1) (i - 1) < 2 * n) (sym w.0) small
  ]

  pub full_has_path : (d : ℕ) (xs : List H) (i : ℕ) → length xs ≡ 2 ^ d → i < 2 ^ d → HasPath (layers_from node d xs) i
  unfolding layers_from HasPath
  full_has_path zero xs i is within = subst (λ n. i < n) (sym is) within
  full_has_path (suc zero) xs i is within =
      let two : length xs ≡ 2 * 1 = is in
      let small : i < 2 * 1 = within in (
        subst (λ n. i < n) (sym two) small,
        subst (λ n. neighbour i < n) (sym two) (neighbour_within i 1 small),
        full_has_path zero (paired node xs) (i / 2) (paired_halves xs 1 two) (omega (arith, small)),
      )
  full_has_path (suc (suc d)) xs i is within =
      let half = 2 ^ suc d in
      let two : length xs ≡ 2 * half = is ∙ pow_double (suc d) in
      let small : i < 2 * half = subst (λ n. i < n) (pow_double (suc d)) within in (
        subst (λ n. i < n) (sym two) small,
        subst (λ n. neighbour i < n) (sym two) (neighbour_within i half small),
        full_has_path (suc d) (paired node xs) (i / 2) (paired_halves xs half two) (omega (arith, small)),
      )

  -- The last of a tree's layers is the one above.
  pub top_is_root : (d : ℕ) (xs : List H) (root : H) → top_of (layers_from node d xs) ≡ Some root → layer_above node d xs ≡ root ∷ []
  unfolding layers_from layer_above sole top_of
  top_is_root zero [] root top = absurd (cc)
  top_is_root zero (x ∷ []) root top = (cc)
  top_is_root zero (x ∷ (y ∷ xs)) root top = absurd (cc)
  top_is_root (suc zero) xs root top = top_is_root zero (paired node xs) root (top_passed xs (layers_from node zero (paired node xs)) root (omega arith) top)
  top_is_root (suc (suc d)) xs root top = top_is_root (suc d) (paired node xs) root (top_passed xs (layers_from node (suc d) (paired node xs)) root (omega arith) top)

  pub full_has_root : (d : ℕ) (xs : List H) → length xs ≡ 2 ^ d → IsSome (top_of (layers_from node d xs))
  unfolding layers_from sole top_of
  full_has_root zero [] is = absurd (omega (arith, is))
  full_has_root zero (x ∷ []) is = refl
  full_has_root zero (x ∷ (y ∷ xs)) is = absurd (omega (arith, is))
  full_has_root (suc zero) xs is = subst IsSome (sym (top_kept xs (layers_from node zero (paired node xs)) (omega arith))) (full_has_root zero (paired node xs) (paired_halves xs 1 is))
  full_has_root (suc (suc d)) xs is =
      subst IsSome (sym (top_kept xs (layers_from node (suc d) (paired node xs)) (omega arith))) (full_has_root (suc d) (paired node xs) (paired_halves xs (2 ^ suc d) (is ∙ pow_double (suc d))))

-- ---- binding

-- Two lists of numbers are the same or not.
pub same_or_not : (xs ys : List ℕ) → (xs ≡ ys) ⊎ (xs ≢ ys)
same_or_not [] [] = inl refl
same_or_not [] (y ∷ ys) = inr (λ e. (cc))
same_or_not (x ∷ xs) [] = inr (λ e. (cc))
same_or_not (x ∷ xs) (y ∷ ys) = elim (eqb_tells x y) [
  | inl w ↦ elim (same_or_not xs ys) [
    | inl same ↦ let head : x ≡ y = w.1 in inl (cc)
    | inr other ↦ inr (λ e. let rest : xs ≡ ys = (cc) in other rest)
  ]
  | inr w ↦ inr (λ e. let head : x ≡ y = (cc) in w.1 head)
]

pub own_row_leads : (hash : TreeDigests) (depth : ℕ) (leaves : List (List ℕ)) (root row : List ℕ) (i : ℕ) (path : List (List ℕ)) → length leaves ≡ 2 ^ depth
    → top_of (layers_from hash.node depth leaves) ≡ Some root → slice_get leaves i ≡ Some (hash.leaf row)
    → IsPathIn (layers_from hash.node depth leaves) i path → LeadsTo hash root depth i row path
own_row_leads hash depth leaves root row i path full top here way =
    let node = hash.node in
    let in_tree = path_in_layers node depth leaves i path way in (
      path_length node depth leaves i path in_tree,
      subst (λ n. i < n) full (slice_get_within leaves i (hash.leaf row) here),
      led_to_root node depth leaves root i (hash.leaf row) path (top_is_root node depth leaves root top) here in_tree,
    )

module _ (hash : TreeDigests) (are : AreDigests hash) where
  joined_size : (i : ℕ) (x s : List ℕ) → IsDigest (joined hash.node i x s)
  joined_size i x s =
      elim (eqb (i % 2) 0) as (λ b. length (cond b (hash.node x s) (hash.node s x)) ≡ 32) [ true ↦ are.node_size x s | false ↦ are.node_size s x ]

  joined_collide : (i : ℕ) (x y s t : List ℕ) → IsDigest x → IsDigest y → IsDigest s → IsDigest t → x ≢ y → joined hash.node i x s ≡ joined hash.node i y t → HashCollision hash
  joined_collide i x y s t lx ly ls lt differ same = elim (eqb_tells (i % 2) 0) [
    | inl w ↦ inr (record {
      left = x;
      right = s;
      other_left = y;
      other_right = t;
      sized = (lx, (ls, (ly, (lt, tt))));
      differ = λ e f. differ e;
      collide = ap (λ b. cond b (hash.node x s) (hash.node s x)) (sym w.0) ∙ same ∙ ap (λ b. cond b (hash.node y t) (hash.node t y)) w.0;
    })
    | inr w ↦ inr (record {
      left = s;
      right = x;
      other_left = t;
      other_right = y;
      sized = (ls, (lx, (lt, (ly, tt))));
      differ = λ e f. differ f;
      collide = ap (λ b. cond b (hash.node x s) (hash.node s x)) (sym w.0) ∙ same ∙ ap (λ b. cond b (hash.node y t) (hash.node t y)) w.0;
    })
  ]

  pub paths_collide : (i : ℕ) (x y : List ℕ) (p q : List (List ℕ)) → IsDigest x → IsDigest y → AllByRecursion IsDigest p → AllByRecursion IsDigest q
      → length p ≡ length q → x ≢ y → led hash.node i x p ≡ led hash.node i y q → HashCollision hash
  unfolding led
  paths_collide i x y [] [] lx ly lp lq lengths differ same = absurd (differ same)
  paths_collide i x y [] (t ∷ q) lx ly lp lq lengths differ same = absurd (omega arith)
  paths_collide i x y (s ∷ p) [] lx ly lp lq lengths differ same = absurd (omega arith)
  paths_collide i x y (s ∷ p) (t ∷ q) lx ly lp lq lengths differ same =
      elim (same_or_not (joined hash.node i x s) (joined hash.node i y t)) [
        | inl one ↦ joined_collide i x y s t lx ly lp.0 lq.0 differ one
        | inr two ↦ paths_collide (i / 2) (joined hash.node i x s) (joined hash.node i y t) p q (joined_size i x s) (joined_size i y t) lp.1 lq.1 (omega arith) two same
      ]

  pub rows_collide : (root : List ℕ) (depth i : ℕ) (a b : List ℕ) (p q : List (List ℕ)) → AllByRecursion IsDigest p → AllByRecursion IsDigest q → a ≢ b
      → LeadsTo hash root depth i a p → LeadsTo hash root depth i b q → HashCollision hash
  rows_collide root depth i a b p q lp lq differ h k = elim (same_or_not (hash.leaf a) (hash.leaf b)) [
    | inl same ↦ inl (record { first = a; second = b; differ = differ; collide = same })
    | inr other ↦ paths_collide i (hash.leaf a) (hash.leaf b) p q (are.leaf_size a) (are.leaf_size b) lp lq (h.0 ∙ sym k.0) other (h.2 ∙ sym k.2)
  ]
