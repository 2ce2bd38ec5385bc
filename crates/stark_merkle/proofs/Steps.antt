-- The steps of the loops over layers and paths.
use Rattle.std.proofs.Common.{◌≡◌, ◌∙◌, ℕ, zero, suc, ◌+◌, ◌-◌, ◌*◌, ◌/◌, ◌%◌, ◌^◌, ◌<◌, ◌≤◌, ◌↔◌, cond, List, [], ◌∷◌, ◌++◌, length, get_or, drop, map, take, None, Some, inl, inr, sym, ap, refl, subst, arith, append_assoc}
use Rattle.std.proofs.lemmas.List.{at_drop_all, at_drop_more, append-nil, drop-map, get_or-drop, get_or-map, get_or-take, length-drop, length-map, map-append, take-map, take_more}
use Rattle.std.proofs.lemmas.Bool.Decides.{eqb_tells}
use Rattle.std.proofs.lemmas.Nat.{pow_pos}
use Rattle.std.proofs.Math.Nat.{div-lt_iff_lt-mul, pow-le-pow_right}
use Rattle.std.specs.List.{slice_get}
use Rattle.std.proofs.lemmas.Option.{slice_get_read}
use Rattle.std.specs.declared.vec.Vec.{Vec}
use Rattle.stark_merkle.specs.Tree.{HasPath, IsPathIn, digests_in, items_of, joined, layers_from, led, neighbour, paired, sole, top_of}

-- ---- places

-- Every number of 64 bits is a place where the depth is 64 or more.
pub deep_has_place : (depth i : ℕ) → 64 ≤ depth → i < 2 ^ 64 → i < 2 ^ depth
deep_has_place depth i deep small = let more = pow-le-pow_right {n = 2} (omega arith) deep in omega (arith, more, small)

pub place_of_no_rest : (depth i : ℕ) → i / 2 ^ depth ≡ 0 → i < 2 ^ depth
place_of_no_rest depth i none = let one = (div-lt_iff_lt-mul {k = 2 ^ depth} {x = i} {y = 1} (pow_pos depth)).0 (omega (arith, none)) in omega (arith, one)

-- ---- leaves

-- One leaf more, over a row of those from a place on.
pub leaf_more : {A : Type 0} (leaf : List ℕ → List ℕ) (rows : List (Vec ℕ A)) (at j rest : ℕ) (x : List ℕ) (before after : List (List ℕ)) → at + j < length rows → j < rest
    → x ≡ leaf (get_or (map items_of (take rest (drop at rows))) j []) → after ≡ before ++ x ∷ [] → before ≡ map leaf (map items_of (take (at + j) rows))
    → after ≡ map leaf (map items_of (take (at + (j + 1)) rows))
leaf_more leaf rows at j rest x before after within small is pushed so_far =
    let texts = map items_of rows in
    let as_taken : (n : ℕ) → map items_of (take n rows) ≡ take n texts = λ n. sym (take-map items_of n rows) in
    let here : get_or (map items_of (take rest (drop at rows))) j [] ≡ get_or texts (at + j) []
    = ap (λ t. get_or t j []) (sym (take-map items_of rest (drop at rows)) ∙ ap (take rest) (sym (drop-map items_of at rows)))
    ∙ get_or-take rest (drop at texts) j [] small ∙ get_or-drop at texts j [] in
    let next : at + j + 1 ≡ at + (j + 1) = omega arith in
    pushed ∙ ap (λ t. t ++ x ∷ []) (so_far ∙ ap (map leaf) (as_taken (at + j)))
    ∙ ap (λ t. map leaf (take (at + j) texts) ++ t ∷ []) (is ∙ ap leaf here)
    ∙ sym (map-append leaf (take (at + j) texts) (get_or texts (at + j) [] ∷ []))
    ∙ ap (map leaf) (sym (take_more texts (at + j) [] (omega (arith, within, length-map rows items_of))) ∙ ap (λ n. take n texts) next ∙ sym (as_taken (at + (j + 1))))

-- ---- paths and layers

module _ {H : Type 0} (node : H → H → H) where
  pub joined_even : (place : ℕ) (x s : H) → place % 2 ≡ 0 → node x s ≡ joined node place x s
  joined_even place x s even = elim (eqb_tells (place % 2) 0) [
    | inl w ↦ ap (λ b. cond b (node x s) (node s x)) (sym w.0)
    | inr w ↦ absurd (w.1 even)
  ]

  pub joined_odd : (place : ℕ) (x s : H) → (place % 2 ≡ 0 → ⊥) → node s x ≡ joined node place x s
  joined_odd place x s odd = elim (eqb_tells (place % 2) 0) [
    | inl w ↦ absurd (odd w.1)
    | inr w ↦ ap (λ b. cond b (node x s) (node s x)) (sym w.0)
  ]

  pub led_more : (place : ℕ) (x next : H) (path : List H) (k : ℕ) (d whole : H) → k < length path → next ≡ joined node place x (get_or path k d) → led node place x (drop k path) ≡ whole
      → led node (place / 2) next (drop (k + 1) path) ≡ whole
  unfolding led
  led_more place x next path k d whole below is so_far =
      ap (λ t. led node (place / 2) t (drop (k + 1) path)) is ∙ sym (at_drop_more (led node place x) path k d below) ∙ so_far

  pub led_all : (place : ℕ) (x : H) (path : List H) (k : ℕ) (whole : H) → length path ≤ k → led node place x (drop k path) ≡ whole → x ≡ whole
  unfolding led
  led_all place x path k whole ended so_far = sym (at_drop_all (led node place x) path k ended) ∙ so_far

  -- two neighbours more
  pub paired_more : (xs : List H) (i : ℕ) (d a b new : H) (before after whole : List H) → 2 * i + 1 < length xs → a ≡ get_or xs (2 * i) d → b ≡ get_or xs (2 * i + 1) d
      → new ≡ node a b → after ≡ before ++ new ∷ [] → before ++ paired node (drop (2 * i) xs) ≡ whole → after ++ paired node (drop (2 * (i + 1)) xs) ≡ whole
  unfolding paired
  paired_more xs i d a b new before after whole below is_a is_b is_new pushed so_far =
      let next : 2 * i + 1 + 1 ≡ 2 * (i + 1) = omega arith in
      let opened : paired node (drop (2 * i) xs) ≡ node a b ∷ paired node (drop (2 * (i + 1)) xs)
      = at_drop_more (paired node) xs (2 * i) d (omega arith) ∙ ap (λ t. paired node (t ∷ drop (2 * i + 1) xs)) (sym is_a)
      ∙ at_drop_more (λ t. paired node (a ∷ t)) xs (2 * i + 1) d below ∙ ap (λ t. node a t ∷ paired node (drop (2 * i + 1 + 1) xs)) (sym is_b)
      ∙ ap (λ n. node a b ∷ paired node (drop n xs)) next in
      ap (λ t. t ++ paired node (drop (2 * (i + 1)) xs)) pushed ∙ ap (λ t. (before ++ t ∷ []) ++ paired node (drop (2 * (i + 1)) xs)) is_new
      ∙ append_assoc before (node a b ∷ []) (paired node (drop (2 * (i + 1)) xs)) ∙ ap (λ t. before ++ t) (sym opened) ∙ so_far

  -- at most one is left over
  few_paired : (ys : List H) → length ys < 2 → paired node ys ≡ []
  unfolding paired
  few_paired [] few = refl
  few_paired (y ∷ []) few = refl
  few_paired (y ∷ (z ∷ ys)) few = absurd (omega arith)

  pub paired_all : (xs : List H) (i : ℕ) (before whole : List H) → length xs / 2 ≤ i → before ++ paired node (drop (2 * i) xs) ≡ whole → before ≡ whole
  paired_all xs i before whole ended so_far =
      let few : length (drop (2 * i) xs) < 2 = omega (arith, length-drop (2 * i) xs) in
      sym (append-nil before) ∙ ap (λ t. before ++ t) (sym (few_paired (drop (2 * i) xs) few)) ∙ so_far

  -- one layer more
  pub layers_more : (depth level : ℕ) (xs above : List H) (before after whole : List (List H)) → level < depth → above ≡ paired node xs → after ≡ before ++ xs ∷ []
      → before ++ layers_from node (depth - level) xs ≡ whole → after ++ layers_from node (depth - (level + 1)) above ≡ whole
  unfolding layers_from
  layers_more depth level xs above before after whole below is pushed so_far =
      let left : depth - level ≡ suc (depth - (level + 1)) = omega arith in
      ap (λ t. t ++ layers_from node (depth - (level + 1)) above) pushed ∙ append_assoc before (xs ∷ []) (layers_from node (depth - (level + 1)) above)
      ∙ ap (λ t. before ++ (xs ∷ layers_from node (depth - (level + 1)) t)) is ∙ ap (λ n. before ++ layers_from node n xs) (sym left) ∙ so_far

  pub layers_all : (depth level : ℕ) (xs : List H) (before after whole : List (List H)) → depth ≤ level → after ≡ before ++ xs ∷ []
      → before ++ layers_from node (depth - level) xs ≡ whole → after ≡ whole
  unfolding layers_from
  layers_all depth level xs before after whole ended pushed so_far =
      let none : depth - level ≡ 0 = omega arith in pushed ∙ ap (λ n. before ++ layers_from node n xs) (sym none) ∙ so_far

module _ {H : Type 0} where
  -- What a path so far leaves to do: any way on from here completes it.
  abbrev pub IsPathSoFar : List (List H) → ℕ → ℕ → ℕ → List H → Type 0
  IsPathSoFar layers index level place path = (rest : List H) → IsPathIn (drop level layers) place rest → IsPathIn layers index (path ++ rest)

  two_layers : (xs s_layer : List H) (tail : List (List H)) (place : ℕ) (s : H) (rest : List H) → 0 < length tail → slice_get xs (neighbour place) ≡ Some s → IsPathIn tail (place / 2) rest → IsPathIn (xs ∷ tail) place (s ∷ rest)
  unfolding IsPathIn
  two_layers xs o [] place s rest some here way = absurd (omega arith)
  two_layers xs o (ys ∷ tail) place s rest some here way = (here, way)

  pub path_more : (layers : List (List H)) (index level place : ℕ) (xs : List H) (s : H) (before after : List H) → level + 1 < length layers → xs ≡ get_or layers level []
      → slice_get xs (neighbour place) ≡ Some s → after ≡ before ++ s ∷ [] → IsPathSoFar layers index level place before → IsPathSoFar layers index (level + 1) (place / 2) after
  path_more layers index level place xs s before after below is here pushed so_far = λ rest way.
      let some : 0 < length (drop (level + 1) layers) = omega (arith, length-drop (level + 1) layers) in
      let longer : IsPathIn (drop level layers) place (s ∷ rest)
      = subst (λ t. IsPathIn t place (s ∷ rest)) (sym (at_drop_more (λ t. t) layers level [] (omega arith) ∙ ap (λ t. t ∷ drop (level + 1) layers) (sym is)))
      (two_layers xs xs (drop (level + 1) layers) place s rest some here way) in
      subst (IsPathIn layers index) (sym (ap (λ t. t ++ rest) pushed ∙ append_assoc before (s ∷ []) rest)) (so_far (s ∷ rest) longer)

  few_layers : (layers : List (List H)) (place : ℕ) → length layers ≤ 1 → IsPathIn layers place []
  unfolding IsPathIn
  few_layers [] place few = tt
  few_layers (xs ∷ []) place few = tt
  few_layers (xs ∷ (ys ∷ layers)) place few = absurd (omega arith)

  pub path_all : (layers : List (List H)) (index level place : ℕ) (path : List H) → length layers ≤ level + 1 → IsPathSoFar layers index level place path → IsPathIn layers index path
  path_all layers index level place path ended so_far =
      subst (IsPathIn layers index) (append-nil path) (so_far [] (few_layers (drop level layers) place (omega (arith, length-drop level layers))))

module _ {H : Type 0} where
  -- What is left of the layers from here tells whether there is a path.
  abbrev pub IsReadFrom : List (List H) → ℕ → ℕ → ℕ → Type 0
  IsReadFrom layers index level place = HasPath layers index ↔ HasPath (drop level layers) place

  first_has : (xs : List H) (tail : List (List H)) (place : ℕ) → HasPath (xs ∷ tail) place → place < length xs
  unfolding HasPath
  first_has xs [] place has = has
  first_has xs (ys ∷ tail) place has = has.0

  first_has_beside : (xs : List H) (tail : List (List H)) (place : ℕ) → 0 < length tail → HasPath (xs ∷ tail) place → (neighbour place < length xs) × HasPath tail (place / 2)
  unfolding HasPath
  first_has_beside xs [] place some has = absurd (omega arith)
  first_has_beside xs (ys ∷ tail) place some has = (has.1, has.2)

  first_makes : (xs : List H) (tail : List (List H)) (place : ℕ) → 0 < length tail → place < length xs → neighbour place < length xs → HasPath tail (place / 2) → HasPath (xs ∷ tail) place
  unfolding HasPath
  first_makes xs [] place some here beside rest = absurd (omega arith)
  first_makes xs (ys ∷ tail) place some here beside rest = (here, beside, rest)

  last_makes : (xs : List H) (tail : List (List H)) (place : ℕ) → length tail ≤ 0 → place < length xs → HasPath (xs ∷ tail) place
  unfolding HasPath
  last_makes xs [] place none here = here
  last_makes xs (ys ∷ tail) place none here = absurd (omega arith)

  opened : (layers : List (List H)) (level : ℕ) (xs : List H) → level < length layers → xs ≡ get_or layers level [] → drop level layers ≡ xs ∷ drop (level + 1) layers
  opened layers level xs below is = at_drop_more (λ t. t) layers level [] below ∙ ap (λ t. t ∷ drop (level + 1) layers) (sym is)

  pub stated_more : (layers : List (List H)) (index level place : ℕ) (xs : List H) → level + 1 < length layers → xs ≡ get_or layers level [] → place < length xs → neighbour place < length xs
      → IsReadFrom layers index level place → IsReadFrom layers index (level + 1) (place / 2)
  stated_more layers index level place xs below is here beside stated =
      let some : 0 < length (drop (level + 1) layers) = omega (arith, length-drop (level + 1) layers) in
      let open_here = opened layers level xs (omega arith) is in (
        λ has. (first_has_beside xs (drop (level + 1) layers) place some (subst (λ t. HasPath t place) open_here (stated.0 has))).1,
        λ rest. stated.1 (subst (λ t. HasPath t place) (sym open_here) (first_makes xs (drop (level + 1) layers) place some here beside rest)),
      )

  pub place_missing : (layers : List (List H)) (index level place : ℕ) (xs : List H) → level < length layers → xs ≡ get_or layers level [] → length xs ≤ place
      → IsReadFrom layers index level place → HasPath layers index → ⊥
  place_missing layers index level place xs below is past stated has =
      let here = first_has xs (drop (level + 1) layers) place (subst (λ t. HasPath t place) (opened layers level xs below is) (stated.0 has)) in omega (arith, here)

  pub neighbour_missing : (layers : List (List H)) (index level place : ℕ) (xs : List H) → level + 1 < length layers → xs ≡ get_or layers level [] → length xs ≤ neighbour place
      → IsReadFrom layers index level place → HasPath layers index → ⊥
  neighbour_missing layers index level place xs below is past stated has =
      let some : 0 < length (drop (level + 1) layers) = omega (arith, length-drop (level + 1) layers) in
      let both = first_has_beside xs (drop (level + 1) layers) place some (subst (λ t. HasPath t place) (opened layers level xs (omega arith) is) (stated.0 has)) in
      let beside = both.0 in omega (arith, beside)

  pub stated_all : (layers : List (List H)) (index level place : ℕ) (xs : List H) → level + 1 ≡ length layers → xs ≡ get_or layers level [] → place < length xs
      → IsReadFrom layers index level place → HasPath layers index
  stated_all layers index level place xs ended is here stated =
      let none : length (drop (level + 1) layers) ≤ 0 = omega (arith, length-drop (level + 1) layers) in
      stated.1 (subst (λ t. HasPath t place) (sym (opened layers level xs (omega arith) is)) (last_makes xs (drop (level + 1) layers) place none here))

module _ {H : Type 0} where
  pub sole_is : (xs : List H) (d : H) → length xs ≡ 1 → Some (get_or xs 0 d) ≡ sole xs
  unfolding sole
  sole_is [] d one = absurd (omega arith)
  sole_is (x ∷ []) d one = refl
  sole_is (x ∷ (y ∷ xs)) d one = absurd (omega arith)

  pub sole_is_not : (xs : List H) → (length xs ≡ 1 → ⊥) → None ≡ sole xs
  unfolding sole
  sole_is_not [] other = refl
  sole_is_not (x ∷ []) other = absurd (other refl)
  sole_is_not (x ∷ (y ∷ xs)) other = refl

module _ {H A : Type 0} where
  pub top_at : (layers : List (Vec H A)) (last : ℕ) (d : Vec H A) → last + 1 ≡ length layers → sole (get_or layers last d).items ≡ top_of (digests_in layers)
  unfolding top_of
  top_at [] last d ended = absurd (omega arith)
  top_at (layer ∷ []) zero d ended = refl
  top_at (layer ∷ []) (suc last) d ended = absurd (omega arith)
  top_at (layer ∷ (next ∷ layers)) zero d ended = absurd (omega arith)
  top_at (layer ∷ (next ∷ layers)) (suc last) d ended = top_at (next ∷ layers) last d (omega arith)

  pub top_of_none : (layers : List (Vec H A)) → (1 ≤ length layers → ⊥) → None ≡ top_of (digests_in layers)
  unfolding top_of
  top_of_none [] none = refl
  top_of_none (layer ∷ layers) none = absurd (none (omega arith))

  -- A layer in memory is one of the lists.
  pub layer_at : (layers : List (Vec H A)) (level : ℕ) (layer : Vec H A) → level < length layers → layer ≡ get_or layers level layer → layer.items ≡ get_or (digests_in layers) level []
  layer_at layers level layer below is = ap items_of is ∙ sym (get_or-map items_of layers level layer [] below)

  -- Where all layers but the last are passed, the last one is told of.
  pub last_layer : (layers : List (Vec H A)) (index level last place : ℕ) (layer : Vec H A) → last < length layers → layer ≡ get_or layers last layer → level ≡ last → IsReadFrom (digests_in layers) index level place
      → (layer.items ≡ get_or (digests_in layers) last []) × IsReadFrom (digests_in layers) index last place
  last_layer layers index level last place layer below is same stated = (layer_at layers last layer below is, subst (λ n. IsReadFrom (digests_in layers) index n place) same stated)

  pub none_without_layers : (layers : List (Vec H A)) (index : ℕ) → (1 ≤ length layers → ⊥) → HasPath (digests_in layers) index → ⊥
  unfolding HasPath
  none_without_layers [] index none has = has
  none_without_layers (layer ∷ layers) index none has = none (omega arith)

  -- the same, of layers that are lists in memory
  pub layer_more : (layers : List (Vec H A)) (index level place beside : ℕ) (layer : Vec H A) (s : H) (before after : List H) → level + 1 < length layers → layer ≡ get_or layers level layer
      → beside ≡ neighbour place → beside < length layer.items → s ≡ get_or layer.items beside s → after ≡ before ++ s ∷ []
      → IsPathSoFar (map items_of layers) index level place before → IsPathSoFar (map items_of layers) index (level + 1) (place / 2) after
  layer_more layers index level place beside layer s before after below is at within here pushed so_far =
      path_more (map items_of layers) index level place layer.items s before after (omega (arith, length-map layers items_of))
      (layer_at layers level layer (omega arith) is)
      (ap (slice_get layer.items) (sym at) ∙ slice_get_read layer.items (length layer.items) beside s refl within here)
      pushed so_far
