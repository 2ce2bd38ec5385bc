-- Why the sums by coordinates and over the extension are one folded sum of all constraints.
use Rattle.std.specs.Prelude.{◌≡◌, ℕ, zero, suc, ◌+◌, ◌-◌, List, [], ◌∷◌, Some, map, length, refl}
use Rattle.std.specs.List.{slice_get}
use Rattle.std.proofs.Common.{sym, ◌∙◌, ap, arith, get_or, subst}
use Rattle.std.proofs.lemmas.List.{length-map}
use Rattle.std.proofs.lemmas.Option.{get_or_from_slice_get}
use Rattle.stark_support.specs.Ring.{RingOps, RingLaws}
use Rattle.stark_support.specs.RingSolver.{solve, nothing, ◌⊕◌, ◌⊗◌, v0, v1, v2, v3, v4, v5}
use Rattle.stark_support.specs.Powers.{power}
use Rattle.stark_support.specs.Operations.{ring_operations}
use Rattle.stark_support.specs.Embedding.{IsEmbedding}
use Rattle.stark_support.specs.KeepsRing.{kept_sum, kept_product, kept_difference}
use Rattle.stark_support.specs.Extension.{IsBasis, basis_sum}
use Rattle.stark_air.specs.Tree.{Tree, Constraint, base as over_base, extension as over_extension, constant, main_current, main_next, preprocessed_current, preprocessed_next, public_value, periodic_value, first_row, last_row, transition, sum, difference as minus, product, negation}
use Rattle.stark_air.specs.Value.{Environment, value, constraint_value, constraint_values}
use Rattle.stark_symbolic.specs.Places.{AreCoordinateRows, base_places, extension_places, place_powers}
use Rattle.stark_air.specs.CollectingBoth.{of_base, of_extension}
use Rattle.stark_parts.specs.Folded.{folded}
use Rattle.stark_prover_folder.specs.Finalized.{finalized, sum_of_products}

-- Each leaf, embedded.
abbrev pub embedded : {F E : Type 0} → (F → E) → Environment F → Environment E
embedded embed e = record {
  main_current = λ c. embed (e.main_current c);
  main_next = λ c. embed (e.main_next c);
  preprocessed_current = λ c. embed (e.preprocessed_current c);
  preprocessed_next = λ c. embed (e.preprocessed_next c);
  public_value = λ i. embed (e.public_value i);
  periodic_value = λ c. embed (e.periodic_value c);
  first_row = embed e.first_row;
  last_row = embed e.last_row;
  transition = embed e.transition;
}

-- The powers of a challenge that belong to these constraints: row d has coordinate d of each base constraint's, and the list
-- has those of the constraints over the extension.
pub record AreFoldingPowers {F E : Type 0} (ring : RingOps E) (coordinates : E → List F) (dimension : ℕ) (a : E) (cs : List (Constraint F)) (rows : List (List F)) (powers : List E) : Type 0 where
  pub base : AreCoordinateRows coordinates dimension (place_powers ring a (length cs) (base_places 0 cs)) rows
  pub extension : powers ≡ place_powers ring a (length cs) (extension_places 0 cs)

-- The powers at the places of an AIR's constraints are those that fold them.
pub powers_at_places : {F E : Type 0} {ring : RingOps E} {coordinates : E → List F} {dimension : ℕ} {a : E} {cs : List (Constraint F)} {rows : List (List F)} {powers : List E} (bases extensions : List ℕ) (total : ℕ)
    → bases ≡ base_places 0 cs → extensions ≡ extension_places 0 cs → total ≡ length cs
    → AreCoordinateRows coordinates dimension (place_powers ring a total bases) rows → powers ≡ place_powers ring a total extensions → AreFoldingPowers ring coordinates dimension a cs rows powers
powers_at_places {ring = ring} {coordinates = coordinates} {dimension = dimension} {a = a} {rows = rows} bases extensions total bases_are extensions_are counted are powers_are = record {
  base = subst (λ ps. AreCoordinateRows coordinates dimension ps rows) (ap (λ n. place_powers ring a n bases) counted ∙ ap (place_powers ring a _) bases_are) are;
  extension = powers_are ∙ ap (λ n. place_powers ring a n extensions) counted ∙ ap (place_powers ring a _) extensions_are;
}

-- The list of f 0, f 1, .. f (n - 1).
abbrev first_values : {A : Type 0} → (ℕ → A) → ℕ → List A
first_values f zero = []
first_values f (suc n) = f 0 ∷ first_values (λ d. f (suc d)) n

values_at_places : {A B : Type 0} (f : A → B) (xs : List A) (blank : A) → first_values (λ d. f (get_or xs d blank)) (length xs) ≡ map f xs
values_at_places f [] blank = refl
values_at_places f (x ∷ xs) blank = ap (λ l. f x ∷ l) (values_at_places f xs blank)

pub mapped_same : {A B : Type 0} (f g : A → B) (same : (x : A) → f x ≡ g x) (xs : List A) → map f xs ≡ map g xs
mapped_same f g same [] = refl
mapped_same f g same (x ∷ xs) = ap (λ y. y ∷ map f xs) (same x) ∙ ap (λ l. g x ∷ l) (mapped_same f g same xs)

mapped_itself : {A : Type 0} (xs : List A) → map (λ x. x) xs ≡ xs
mapped_itself [] = refl
mapped_itself (x ∷ xs) = ap (λ l. x ∷ l) (mapped_itself xs)

-- A row of coordinates, read one by one.
row_read : {A F : Type 0} (coordinates : A → List F) (d : ℕ) (blank : F) (row : List F) (ps : List A) → map (λ c. Some c) row ≡ map (λ p. slice_get (coordinates p) d) ps → row ≡ map (λ p. get_or (coordinates p) d blank) ps
row_read coordinates d blank [] [] h = refl
row_read coordinates d blank [] (p ∷ ps) h = absurd (cc)
row_read coordinates d blank (c ∷ row) [] h = absurd (cc)
row_read coordinates d blank (c ∷ row) (p ∷ ps) h =
    let first : slice_get (coordinates p) d ≡ Some c = cc in
    let later : map (λ c. Some c) row ≡ map (λ p. slice_get (coordinates p) d) ps = cc in
    ap (λ x. x ∷ row) (sym (get_or_from_slice_get (coordinates p) d c blank first)) ∙ ap (λ l. get_or (coordinates p) d blank ∷ l) (row_read coordinates d blank row ps later)

module _ {F E : Type 0} {base : RingOps F} {ring : RingOps E} (laws : RingLaws ring) {embed : F → E} (embeds : IsEmbedding base ring embed) where
  -- A tree's value over embedded leaves is its value, embedded.
  pub embedded_value : (e : Environment F) (t : Tree F) → embed (value (ring_operations base (λ x. x)) e t) ≡ value (ring_operations ring embed) (embedded embed e) t
  embedded_value e (constant k) = refl
  embedded_value e (main_current c) = refl
  embedded_value e (main_next c) = refl
  embedded_value e (preprocessed_current c) = refl
  embedded_value e (preprocessed_next c) = refl
  embedded_value e (public_value c) = refl
  embedded_value e (periodic_value c) = refl
  embedded_value e first_row = refl
  embedded_value e last_row = refl
  embedded_value e transition = refl
  embedded_value e (sum t u) = kept_sum embeds.keeps _ _ _ _ (embedded_value e t) (embedded_value e u)
  embedded_value e (minus t u) = kept_difference embeds.keeps _ _ _ _ (embedded_value e t) (embedded_value e u)
  embedded_value e (product t u) = kept_product embeds.keeps _ _ _ _ (embedded_value e t) (embedded_value e u)
  embedded_value e (negation t) = embeds.keeps.neg (value (ring_operations base (λ x. x)) e t) ∙ ap ring.neg (embedded_value e t)

  -- The sum of products with zeros.
  zero_coefficients : {A : Type 0} (values : List E) (ps : List A) → sum_of_products ring ring.zero values (map (λ _. ring.zero) ps) ≡ ring.zero
  zero_coefficients [] ps = refl
  zero_coefficients (v ∷ values) [] = refl
  zero_coefficients (v ∷ values) (p ∷ ps) =
      ap (ring.add (ring.mul v ring.zero)) (zero_coefficients values ps) ∙ solve laws (v ∷ []) (v0 ⊗ nothing ⊕ nothing) nothing refl

  -- An element times an embedded sum, and the rest, are one sum.
  one_row : {A : Type 0} (element : E) (at : A → F) (rest : A → E) (values : List F) (ps : List A)
      → ring.add (ring.mul element (embed (sum_of_products base base.zero values (map at ps)))) (sum_of_products ring ring.zero (map embed values) (map rest ps))
      ≡ sum_of_products ring ring.zero (map embed values) (map (λ p. ring.add (ring.mul element (embed (at p))) (rest p)) ps)
  one_row element at rest [] ps = ap (λ z. ring.add (ring.mul element z) ring.zero) embeds.keeps.zero ∙ solve laws (element ∷ []) (v0 ⊗ nothing ⊕ nothing) nothing refl
  one_row element at rest (v ∷ values) [] = ap (λ z. ring.add (ring.mul element z) ring.zero) embeds.keeps.zero ∙ solve laws (element ∷ []) (v0 ⊗ nothing ⊕ nothing) nothing refl
  one_row element at rest (v ∷ values) (p ∷ ps) =
      let below = sum_of_products base base.zero values (map at ps) in
      let above = sum_of_products ring ring.zero (map embed values) (map rest ps) in
      ap (λ z. ring.add (ring.mul element z) (ring.add (ring.mul (embed v) (rest p)) above)) (kept_sum embeds.keeps _ below _ _ (embeds.keeps.mul v (at p)) refl) ∙
      solve laws (element ∷ embed v ∷ embed (at p) ∷ embed below ∷ rest p ∷ above ∷ [])
      (v0 ⊗ (v1 ⊗ v2 ⊕ v3) ⊕ (v1 ⊗ v4 ⊕ v5)) (v1 ⊗ (v0 ⊗ v2 ⊕ v4) ⊕ (v0 ⊗ v3 ⊕ v5)) refl ∙
      ap (ring.add (ring.mul (embed v) (ring.add (ring.mul element (embed (at p))) (rest p)))) (one_row element at rest values ps)

  -- Rows of coordinates, summed row by row over a basis.
  summed_rows : {A : Type 0} (basis : List E) (at : ℕ → A → F) (values : List F) (ps : List A) (rows : List (List F))
      → ((d : ℕ) (row : List F) → slice_get rows d ≡ Some row → row ≡ map (at d) ps)
      → basis_sum ring (λ c. c) basis (map (λ row. embed (sum_of_products base base.zero values row)) rows)
      ≡ sum_of_products ring ring.zero (map embed values) (map (λ p. basis_sum ring (λ c. c) basis (first_values (λ d. embed (at d p)) (length rows))) ps)
  summed_rows [] at values ps rows each = sym (zero_coefficients (map embed values) ps)
  summed_rows (b ∷ basis) at values ps [] each = sym (zero_coefficients (map embed values) ps)
  summed_rows {A} (b ∷ basis) at values ps (row ∷ rows) each =
      let later : A → E = λ p. basis_sum ring (λ c. c) basis (first_values (λ d. embed (at (suc d) p)) (length rows)) in
      ap (λ r. ring.add (ring.mul b (embed (sum_of_products base base.zero values r))) (basis_sum ring (λ c. c) basis (map (λ row. embed (sum_of_products base base.zero values row)) rows))) (each 0 row refl) ∙
      ap (ring.add (ring.mul b (embed (sum_of_products base base.zero values (map (at 0) ps))))) (summed_rows basis (λ d. at (suc d)) values ps rows (λ d r h. each (suc d) r h)) ∙
      one_row b (at 0) later values ps

  -- The sum over the coordinates is the sum over the elements that have them.
  pub summed_coordinates : {coordinates : E → List F} {dimension : ℕ} {basis : List E} → IsBasis ring embed dimension basis coordinates → (values : List F) (ps : List E) (rows : List (List F)) → AreCoordinateRows coordinates dimension ps rows
      → basis_sum ring (λ c. c) basis (map (λ row. embed (sum_of_products base base.zero values row)) rows) ≡ sum_of_products ring ring.zero (map embed values) ps
  summed_coordinates {coordinates} {dimension} {basis} is_basis values ps rows are =
      let at : ℕ → E → F = λ d p. get_or (coordinates p) d base.zero in
      let whole : (p : E) → basis_sum ring (λ c. c) basis (first_values (λ d. embed (at d p)) (length rows)) ≡ p = λ p.
      ap (λ n. basis_sum ring (λ c. c) basis (first_values (λ d. embed (at d p)) n)) (are.number ∙ sym (is_basis.count p)) ∙
      ap (basis_sum ring (λ c. c) basis) (values_at_places embed (coordinates p) base.zero) ∙
      sym (is_basis.sum p) in
      summed_rows basis at values ps rows (λ d row h. row_read coordinates d base.zero row ps (are.each d row h)) ∙
      ap (sum_of_products ring ring.zero (map embed values)) (mapped_same _ (λ p. p) whole ps ∙ mapped_itself ps)

  mapped_base : {A : Type 0} (embed : A → E) (f : Tree F → A) (cs : List (Constraint F)) → map embed (of_base f cs) ≡ of_base (λ t. embed (f t)) cs
  mapped_base embed f [] = refl
  mapped_base embed f (over_base t ∷ cs) = ap (λ l. embed (f t) ∷ l) (mapped_base embed f cs)
  mapped_base embed f (over_extension t ∷ cs) = mapped_base embed f cs

  -- The base constraints' sum and the extension's are the folded sum of all, from the constraint at place n on.
  folded_from : (a : E) (e : Environment E) (f : Tree F → E) (same : (t : Tree F) → f t ≡ value (ring_operations ring embed) e t) (n total : ℕ) (cs : List (Constraint F)) → n + length cs ≡ total
      → ring.add (sum_of_products ring ring.zero (of_base f cs) (place_powers ring a total (base_places n cs))) (sum_of_products ring ring.zero (of_extension f cs) (place_powers ring a total (extension_places n cs)))
      ≡ folded ring a (constraint_values (ring_operations ring embed) e cs)
  folded_from a e f same n total [] counted = laws.add_zero ring.zero
  folded_from a e f same n total (over_base t ∷ cs) counted =
      let all = constraint_values (ring_operations ring embed) e cs in
      let left = sum_of_products ring ring.zero (of_base f cs) (place_powers ring a total (base_places (n + 1) cs)) in
      let right = sum_of_products ring ring.zero (of_extension f cs) (place_powers ring a total (extension_places (n + 1) cs)) in
      let later : ring.add left right ≡ folded ring a all = folded_from a e f same (n + 1) total cs (omega (arith, counted)) in
      let place : total - 1 - n ≡ length all = (let many = length-map cs (constraint_value (ring_operations ring embed) e) in omega (arith, counted, many)) in
      ap (λ k. ring.add (ring.add (ring.mul (f t) (power ring a k)) left) right) place ∙
      ap (λ x. ring.add (ring.add (ring.mul x (power ring a (length all))) left) right) (same t) ∙
      solve laws (value (ring_operations ring embed) e t ∷ power ring a (length all) ∷ left ∷ right ∷ []) ((v0 ⊗ v1 ⊕ v2) ⊕ v3) (v1 ⊗ v0 ⊕ (v2 ⊕ v3)) refl ∙
      ap (ring.add (ring.mul (power ring a (length all)) (value (ring_operations ring embed) e t))) later
  folded_from a e f same n total (over_extension t ∷ cs) counted =
      let all = constraint_values (ring_operations ring embed) e cs in
      let left = sum_of_products ring ring.zero (of_base f cs) (place_powers ring a total (base_places (n + 1) cs)) in
      let right = sum_of_products ring ring.zero (of_extension f cs) (place_powers ring a total (extension_places (n + 1) cs)) in
      let later : ring.add left right ≡ folded ring a all = folded_from a e f same (n + 1) total cs (omega (arith, counted)) in
      let place : total - 1 - n ≡ length all = (let many = length-map cs (constraint_value (ring_operations ring embed) e) in omega (arith, counted, many)) in
      ap (λ k. ring.add left (ring.add (ring.mul (f t) (power ring a k)) right)) place ∙
      ap (λ x. ring.add left (ring.add (ring.mul x (power ring a (length all))) right)) (same t) ∙
      solve laws (value (ring_operations ring embed) e t ∷ power ring a (length all) ∷ left ∷ right ∷ []) (v2 ⊕ (v0 ⊗ v1 ⊕ v3)) (v1 ⊗ v0 ⊕ (v2 ⊕ v3)) refl ∙
      ap (ring.add (ring.mul (power ring a (length all)) (value (ring_operations ring embed) e t))) later

  -- With the powers of a challenge at their places, what the prover's folder answers is the folded sum of the constraints.
  pub folded_places : {coordinates : E → List F} {dimension : ℕ} {basis : List E} → IsBasis ring embed dimension basis coordinates
      → (a : E) (e : Environment F) (cs : List (Constraint F)) (rows : List (List F)) (powers : List E) → AreFoldingPowers ring coordinates dimension a cs rows powers
      → finalized base base.zero ring ring.zero embed basis rows powers (of_base (value (ring_operations base (λ x. x)) e) cs) (of_extension (λ t. embed (value (ring_operations base (λ x. x)) e t)) cs)
      ≡ folded ring a (constraint_values (ring_operations ring embed) (embedded embed e) cs)
  folded_places is_basis a e cs rows powers are =
      let values = of_base (value (ring_operations base (λ x. x)) e) cs in
      let above = of_extension (λ t. embed (value (ring_operations base (λ x. x)) e t)) cs in
      let base_powers = place_powers ring a (length cs) (base_places 0 cs) in
      ap (λ x. ring.add x (sum_of_products ring ring.zero above powers)) (summed_coordinates is_basis values base_powers rows are.base) ∙
      ap (λ l. ring.add (sum_of_products ring ring.zero l base_powers) (sum_of_products ring ring.zero above powers)) (mapped_base embed (value (ring_operations base (λ x. x)) e) cs) ∙
      ap (λ l. ring.add (sum_of_products ring ring.zero (of_base (λ t. embed (value (ring_operations base (λ x. x)) e t)) cs) base_powers) (sum_of_products ring ring.zero above l)) are.extension ∙
      folded_from a (embedded embed e) (λ t. embed (value (ring_operations base (λ x. x)) e t)) (embedded_value e) 0 (length cs) cs (omega arith)
