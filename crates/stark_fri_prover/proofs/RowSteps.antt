-- The stored rows of a matrix.
use Rattle.std.proofs.Common.{◌≡◌, ℕ, zero, suc, List, [], ◌∷◌, Some, refl, subst, sym}
use Rattle.std.specs.List.{slice_get}
use Rattle.std.proofs.lemmas.Option.{same_Some}
use Rattle.stark_support.specs.Coset.{TwoAdicCoset}
use Rattle.stark_support.specs.Faults.{PlaceByPlace}
use Rattle.stark_support.specs.ListFacts.{no_such}
use Rattle.stark_support.specs.Ring.{RingOps}
use Rattle.stark_support.specs.Scheme.{HasRows}
use Rattle.stark_support.specs.declared.matrix.RowMajorMatrix.{RowMajorMatrix}
use Rattle.stark_fri.specs.Scheme.{AreExtended, IsExtended}

-- What stands beside an entry of another list.
record Beside {A B : Type 0} (R : A → B → Type 0) (x : A) (ys : List B) (i : ℕ) : Type 0 where
  other : B
  there : slice_get ys i ≡ Some other
  related : R x other

module _ {A B : Type 0} (R : A → B → Type 0) where
  beside : (xs : List A) (ys : List B) (i : ℕ) (x : A) → PlaceByPlace R xs ys → slice_get xs i ≡ Some x → Beside R x ys i
  unfolding PlaceByPlace
  beside [] ys i x all there = absurd (no_such i x there)
  beside (a ∷ xs) [] i x all there = absurd all
  beside (a ∷ xs) (b ∷ ys) zero x all there = record { other = b; there = refl; related = subst (λ t. R t b) (same_Some a x there) all.0 }
  beside (a ∷ xs) (b ∷ ys) (suc i) x all there =
      let next = beside xs ys i x all.1 there in
      record { other = next.other; there = next.there; related = next.related }

module _ {F : Type 0} (ring : RingOps F) (root : ℕ → F) (coset extension : TwoAdicCoset F) where
  -- Rows that are those stored of a matrix are its columns' values on the coset that it was extended on.
  pub stored_rows : (matrices : List (List (List F))) (extended : List (RowMajorMatrix F)) (i : ℕ) (columns : List (List F)) (values : List F) (width : ℕ)
      → AreExtended ring root extension matrices extended → slice_get matrices i ≡ Some columns → coset ≡ extension
      → ((stored : RowMajorMatrix F) → slice_get extended i ≡ Some stored → (values ≡ stored.values.items) × (width ≡ stored.width))
      → HasRows ring root coset columns values width
  stored_rows matrices extended i columns values width all there is same =
      let obtained = beside (IsExtended ring root extension) matrices extended i columns all there in
      let both = same obtained.other obtained.there in
      subst (λ t. HasRows ring root t columns values width) (sym is)
      (subst (λ t. HasRows ring root extension columns t width) (sym both.0)
      (subst (λ t. HasRows ring root extension columns obtained.other.values.items t) (sym both.1) obtained.related))
