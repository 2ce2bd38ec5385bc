-- Extended rows are those of the columns, and so are the leaves over them.
use Rattle.std.specs.Prelude.{◌≡◌, ℕ, zero, suc, ◌<◌, ◌≤◌, List, [], ◌∷◌, ◌++◌, map, refl}
use Rattle.std.specs.List.{range_with_len}
use Rattle.std.proofs.Common.{◌∙◌, ap, arith, sym, add-one}
use Rattle.std.proofs.lemmas.List.FromFn.{map-range_with_len_more}
use Rattle.stark_support.proofs.CellSteps.{full_rows}
use Rattle.stark_support.specs.Coset.{TwoAdicCoset, coset_size}
use Rattle.stark_support.specs.Faults.{PlaceByPlace}
use Rattle.stark_support.specs.Ring.{RingOps}
use Rattle.stark_support.specs.declared.matrix.RowMajorMatrix.{RowMajorMatrix}
use Rattle.stark_merkle.specs.Bytes.{row_bytes_of}
use Rattle.stark_merkle.specs.Tree.{TreeDigests}
use Rattle.stark_fri_prover.specs.Commit.{AreExtended, HaveRows, extended_row, leaf_at, leaves_of, row_of}

module _ {F : Type 0} (ring : RingOps F) (root : ℕ → F) (coset : TwoAdicCoset F) where
  pub rows_are : (matrices : List (List (List F))) (extended : List (RowMajorMatrix F)) → AreExtended ring root coset matrices extended → (i : ℕ) → i < coset_size coset
      → map (row_of i) extended ≡ extended_row ring root coset matrices i
  unfolding PlaceByPlace
  rows_are [] [] all i below = refl
  rows_are [] (rows ∷ extended) all i below = absurd all
  rows_are (columns ∷ matrices) [] all i below = absurd all
  rows_are (columns ∷ matrices) (rows ∷ extended) all i below =
      let first = all.0.takes.rows i below in
      let rest = rows_are matrices extended all.1 i below in
      λ k. first k ∷ rest k

  pub have_rows : (matrices : List (List (List F))) (extended : List (RowMajorMatrix F)) → AreExtended ring root coset matrices extended → HaveRows (coset_size coset) extended
  unfolding PlaceByPlace
  have_rows [] [] all i below = tt
  have_rows [] (rows ∷ extended) all i below = absurd all
  have_rows (columns ∷ matrices) [] all i below = absurd all
  have_rows (columns ∷ matrices) (rows ∷ extended) all i below =
      let inside = full_rows i (coset_size coset) rows.width (omega arith) in
      (omega (arith, inside, all.0.number), have_rows matrices extended all.1 i below)

  pub same_leaves : (hash : TreeDigests) (bytes_of : F → List ℕ) (matrices : List (List (List F))) (extended : List (RowMajorMatrix F)) → AreExtended ring root coset matrices extended → (n : ℕ) → n ≤ coset_size coset
      → leaves_of hash bytes_of extended n ≡ map (λ i. hash.leaf (row_bytes_of bytes_of (extended_row ring root coset matrices i))) (range_with_len 0 n)
  same_leaves hash bytes_of matrices extended all zero below = refl
  same_leaves hash bytes_of matrices extended all (suc n) below =
      let leaf : ℕ → List ℕ = λ i. hash.leaf (row_bytes_of bytes_of (extended_row ring root coset matrices i)) in
      ap (λ m. leaves_of hash bytes_of extended m) (sym (add-one n))
      ∙ map-range_with_len_more (leaf_at hash bytes_of extended) 0 n n (omega arith)
      ∙ ap (λ t. t ++ leaf_at hash bytes_of extended n ∷ []) (same_leaves hash bytes_of matrices extended all n (omega arith))
      ∙ ap (λ t. map leaf (range_with_len 0 n) ++ hash.leaf (row_bytes_of bytes_of t) ∷ []) (rows_are matrices extended all n (omega arith))
      ∙ sym (map-range_with_len_more leaf 0 n n (omega arith))
      ∙ ap (λ m. map leaf (range_with_len 0 m)) (add-one n)
