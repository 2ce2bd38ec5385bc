-- The inverses of many elements from the products of what is behind each.
use Rattle.std.proofs.Common.{◌≡◌, ◌≢◌, ◌∙◌, ℕ, ◌+◌, ◌-◌, ◌<◌, List, [], ◌∷◌, ◌++◌, All, length, drop, get_or, Some, ap, sym, arith, refl}
use Rattle.std.proofs.lemmas.List.{drop_all}
use Rattle.std.proofs.lemmas.List.Elements.{All-head, All-tail}
use Rattle.stark_support.specs.Ring.{RingOps, FieldLaws}
use Rattle.stark_support.specs.RingFacts.{one_mul}
use Rattle.stark_support.specs.FieldFacts.{nonzero_product, quotient_is}
use Rattle.stark_support.specs.RingSolver.{solve, ◌⊗◌, v0, v1, v2}
use Rattle.stark_support.specs.Products.{AreRests, list_product}
use Rattle.stark_support.specs.ListFacts.{one_more_number, one_more_listed}
use Rattle.stark_support.proofs.Places.{from_place}

module _ {K : Type 0} (ring : RingOps K) (xs : List K) where
  pub no_rests : (rests : List K) → rests ≡ [] → AreRests ring xs 0 rests
  no_rests rests e = record { number = ap length e; at_count = λ m h. absurd (omega arith) }

  pub one_more_rest : (count : ℕ) (before after : List K) (product : K) → AreRests ring xs count before → after ≡ before ++ product ∷ [] → product ≡ list_product ring (drop (length xs - count) xs)
      → AreRests ring xs (count + 1) after
  one_more_rest count before after product rests e is = record {
    number = one_more_number before after product count rests.number e;
    at_count = one_more_listed (λ m. Some (list_product ring (drop (length xs - m) xs))) before after product count rests.number rests.at_count (ap Some (sym is)) e;
  }

  -- the product of nothing
  pub nothing_behind : list_product ring (drop (length xs - 0) xs) ≡ ring.one
  unfolding list_product
  nothing_behind = ap (list_product ring) (drop_all (length xs - 0) xs (omega arith))

  pub product_from : (i n : ℕ) (x : K) → i + 1 ≡ n → i < length xs → x ≡ get_or xs i x → list_product ring (drop i xs) ≡ ring.mul x (list_product ring (drop n xs))
  unfolding list_product
  product_from i n x next within is = ap (list_product ring) (from_place xs i n x next within is)

module _ {K : Type 0} {ring : RingOps K} {inverse : K → K} (laws : FieldLaws ring inverse) where
  pub product_not_zero : (xs : List K) → All (λ x. x ≢ ring.zero) xs → list_product ring xs ≢ ring.zero
  unfolding list_product
  product_not_zero [] h = laws.one_not_zero
  product_not_zero (x ∷ xs) h = nonzero_product laws x (list_product ring xs) (All-head (λ y. y ≢ ring.zero) x xs h) (product_not_zero xs (All-tail (λ y. y ≢ ring.zero) x xs h))

  -- the inverse of what is left, times what is behind the next element, is that element's inverse
  pub next_inverse : (inverse_left x rest left : K) → x ≢ ring.zero → left ≡ ring.mul x rest → ring.mul inverse_left left ≡ ring.one → ring.mul inverse_left rest ≡ inverse x
  next_inverse inverse_left x rest left nonzero is one =
      sym (quotient_is laws ring.one x (ring.mul inverse_left rest) nonzero
      (solve laws.of_ring (inverse_left ∷ x ∷ rest ∷ []) (v1 ⊗ (v0 ⊗ v2)) (v0 ⊗ (v1 ⊗ v2)) refl ∙ ap (ring.mul inverse_left) (sym is) ∙ one)) ∙ one_mul laws.of_ring (inverse x)

  pub next_left : (inverse_left x rest left : K) → left ≡ ring.mul x rest → ring.mul inverse_left left ≡ ring.one → ring.mul (ring.mul inverse_left x) rest ≡ ring.one
  next_left inverse_left x rest left is one = laws.of_ring.mul_assoc inverse_left x rest ∙ ap (ring.mul inverse_left) (sym is) ∙ one
