-- In a tree over rows each place has a path of digests that leads from its row to the root.
use Rattle.std.proofs.Common.{◌≡◌, ◌∙◌, ap, arith, refl, subst, sym, ℕ, zero, suc, ◌/◌, ◌^◌, ◌<◌, List, [], ◌∷◌, length, map, Some}
use Rattle.std.specs.List.{AllByRecursion, range_with_len, slice_get}
use Rattle.std.proofs.lemmas.List.FromFn.{get_or-map-range_with_len, length-map-range_with_len}
use Rattle.std.proofs.lemmas.Option.{slice_get-get_or}
use Rattle.stark_merkle.specs.Tree.{AreDigests, HasPath, IsPath, IsPathIn, LeadsTo, TreeDigests, layer_above, layers_from, neighbour, paired}
use Rattle.stark_merkle.specs.TreeFacts.{full_has_path, led_to_root, path_in_layers, path_length}
use Rattle.stark_merkle.specs.declared.root.Root.{Root}
use Rattle.stark_fri_proof.specs.Paths.{AreDigests as AreAllDigests, IsDigest, digests_of, digests_of_roots, roots_of}

-- ---- lists

one_there : {A : Type 0} (P : A → Type 0) (xs : List A) → AllByRecursion P xs → (i : ℕ) → i < length xs → (x : A) × (slice_get xs i ≡ Some x) × P x
one_there P [] all i below = absurd (omega (arith, below))
one_there P (x ∷ xs) all zero below = (x, refl, all.0)
one_there P (x ∷ xs) all (suc i) below = one_there P xs all.1 i (omega (arith, below))

all_there : {A : Type 0} (P : A → Type 0) (xs : List A) → AllByRecursion P xs → (i : ℕ) (x : A) → slice_get xs i ≡ Some x → P x
all_there P [] all i x is = absurd (cc)
all_there P (y ∷ xs) all zero x is = let same : y ≡ x = (cc) in subst P same all.0
all_there P (y ∷ xs) all (suc i) x is = all_there P xs all.1 i x is

all_mapped : {A B : Type 0} (P : B → Type 0) (f : A → B) → ((x : A) → P (f x)) → (xs : List A) → AllByRecursion P (map f xs)
all_mapped P f are [] = tt
all_mapped P f are (x ∷ xs) = (are x, all_mapped P f are xs)

-- ---- digests

module _ (node : List ℕ → List ℕ → List ℕ) (are : (x y : List ℕ) → IsDigest (node x y)) where
  paired_are : (xs : List (List ℕ)) → AllByRecursion IsDigest (paired node xs)
  unfolding paired
  paired_are [] = tt
  paired_are (x ∷ []) = tt
  paired_are (x ∷ (y ∷ xs)) = (are x y, paired_are xs)

  layers_are : (d : ℕ) (xs : List (List ℕ)) → AllByRecursion IsDigest xs → AllByRecursion (AllByRecursion IsDigest) (layers_from node d xs)
  unfolding layers_from
  layers_are zero xs all = (all, tt)
  layers_are (suc d) xs all = (all, layers_are d (paired node xs) (paired_are xs))

path_there : (layers : List (List (List ℕ))) (i : ℕ) → AllByRecursion (AllByRecursion IsDigest) layers → HasPath layers i → (path : List (List ℕ)) × IsPathIn layers i path × AllByRecursion IsDigest path
unfolding HasPath IsPathIn
path_there [] i all has = absurd has
path_there (xs ∷ []) i all has = ([], tt, tt)
path_there (xs ∷ (ys ∷ layers)) i all has =
    let beside = one_there IsDigest xs all.0 (neighbour i) has.1 in
    let rest = path_there (ys ∷ layers) (i / 2) all.1 has.2 in
    (beside.0 ∷ rest.0, (beside.1, rest.1), (beside.2, rest.2))

module _ (hash : TreeDigests) (are : AreDigests hash) where
  is_leaf : (row : List ℕ) → IsDigest (hash.leaf row)
  is_leaf row = (are.leaf_size row, are.leaf_bytes row)

  is_node : (left right : List ℕ) → IsDigest (hash.node left right)
  is_node left right = (are.node_size left right, are.node_bytes left right)

  -- Of the tree over the digests of rows: there is a path of roots' bytes that leads from each row to the root.
  pub row_has_path : (text : ℕ → List ℕ) (bits place : ℕ) (root : List ℕ) → place < 2 ^ bits → layer_above hash.node bits (map (λ i. hash.leaf (text i)) (range_with_len 0 (2 ^ bits))) ≡ root ∷ []
      → (path : List Root) × LeadsTo hash root bits place (text place) (digests_of path)
  row_has_path text bits place root within top =
      let leaf = (λ (i : ℕ). hash.leaf (text i)) in
      let leaves = map leaf (range_with_len 0 (2 ^ bits)) in
      let count : length leaves ≡ 2 ^ bits = length-map-range_with_len leaf 0 (2 ^ bits) in
      let here : slice_get leaves place ≡ Some (leaf place) = slice_get-get_or leaves place (leaf place) (subst (λ n. place < n) (sym count) within)
      ∙ ap Some (get_or-map-range_with_len leaf 0 (2 ^ bits) place place (leaf place) within (omega arith)) in
      let leaves_are = all_mapped IsDigest leaf (λ i. is_leaf _) (range_with_len 0 (2 ^ bits)) in
      let obtained = path_there (layers_from hash.node bits leaves) place (layers_are hash.node is_node bits leaves leaves_are) (full_has_path hash.node bits leaves place count within) in
      let path = obtained.0 in
      let is_path : IsPath hash.node bits leaves place path = path_in_layers hash.node bits leaves place path obtained.1 in
      let digests_there : AreAllDigests path = all_there IsDigest path obtained.2 in (
        roots_of path digests_there,
        subst (LeadsTo hash root bits place (text place)) (sym (digests_of_roots path digests_there)) (
          path_length hash.node bits leaves place path is_path,
          within,
          led_to_root hash.node bits leaves root place (leaf place) path top here is_path,
        ),
      )
