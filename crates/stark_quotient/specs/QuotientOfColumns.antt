-- The pointwise quotient over rows that are the values of columns is the folded constraint of these columns over Z_H.
use Rattle.std.specs.Prelude.{◌≡◌, ℕ, ◌+◌, ◌-◌, ◌*◌, ◌/◌, ◌%◌, ◌^◌, ◌<◌, ◌≤◌, List, [], ◌∷◌, map, slice_index_or, refl}
use Rattle.std.proofs.Common.{sym, ◌∙◌, ap, arith}
use Rattle.std.proofs.Math.Nat.{mod-add-div, mod-lt, mul-div_cancel_left}
use Rattle.std.proofs.lemmas.Nat.{pow-add}
use Rattle.stark_support.specs.ListFacts.{mapped_or_filler}
use Rattle.stark_support.specs.Ring.{RingOps, FieldLaws}
use Rattle.stark_support.specs.RingSolver.{solve, ◌⊗◌, v0, v1, v2}
use Rattle.stark_support.specs.Powers.{power}
use Rattle.stark_support.specs.PowerFacts.{power-add, power-one, power-power}
use Rattle.stark_support.specs.LogarithmFacts.{two_power_at_most}
use Rattle.stark_support.specs.Embedding.{IsEmbedding}
use Rattle.stark_support.specs.TwoAdic.{TwoAdicLaws}
use Rattle.stark_support.specs.Coset.{TwoAdicCoset, coset_point, coset_size, subgroup_vanishing}
use Rattle.stark_support.specs.CosetFacts.{root_has_order, root_powers}
use Rattle.stark_support.specs.KeepsRing.{kept_value_over}
use Rattle.stark_support.specs.Periodic.{periodic_value}
use Rattle.stark_support.specs.Polynomial.{value}
use Rattle.stark_support.specs.Scheme.{TakesRows, row_at}
use Rattle.stark_air.specs.Layout.{Layout, LeavesWithin}
use Rattle.stark_parts.specs.Folded.{folded}
use Rattle.stark_security.specs.ConstraintPolynomial.{AirInstance, Columns, environment_at, folded_at, height, next_point}
use Rattle.stark_security.proofs.ConstraintDegrees.{value_of_embedded}
use Rattle.stark_quotient.specs.PointwiseQuotient.{RowsOnCoset, leaves_at, next_row, point_above, pointwise_quotient}
use Rattle.stark_security.specs.SameLeaves.{AgreeWithin, same_constraints}

-- The rows are the columns' values at the points, seen in the extension, and the public values are the same.
pub record AreValuesOfColumns {F E : Type 0} (i : AirInstance F E) (rows : RowsOnCoset F) (columns : Columns F E) : Type 0 where
  pub main : (k : ℕ) → k < rows.size → map i.embed (rows.main k) ≡ row_at i.ring (λ c. c) columns.main (point_above i rows k)
  pub preprocessed : (k : ℕ) → k < rows.size → map i.embed (rows.preprocessed k) ≡ row_at i.ring (λ c. c) columns.preprocessed (point_above i rows k)
  pub public_values : rows.public_values ≡ columns.public_values

pub value_leaf : {E : Type 0} (ring : RingOps E) (row : List E) (polynomials : List (List E)) (x : E) → row ≡ row_at ring (λ c. c) polynomials x → (c : ℕ) → slice_index_or row c ring.zero ≡ value ring (slice_index_or polynomials c []) x
value_leaf ring row polynomials x is c = ap (λ r. slice_index_or r c ring.zero) is ∙ mapped_or_filler (λ p. value ring p x) polynomials c [] ring.zero refl

mapped_twice : {A B C D : Type 0} (f : B → D) (g : A → B) (h : A → C) (e : C → D) → ((x : A) → f (g x) ≡ e (h x)) → (xs : List A) → map f (map g xs) ≡ map e (map h xs)
mapped_twice f g h e same [] = refl
mapped_twice f g h e same (x ∷ xs) = ap (λ y. y ∷ map f (map g xs)) (same x) ∙ ap (λ l. e (h x) ∷ l) (mapped_twice f g h e same xs)

-- Of two powers of two: the quotient is one.
quotient_of_powers : (m n : ℕ) → n ≤ m → 2 ^ m / 2 ^ n ≡ 2 ^ (m - n)
quotient_of_powers m n h =
    let parts : m ≡ n + (m - n) = omega arith in
    let positive : 0 < 2 ^ n = omega (arith, two_power_at_most 0 n (omega arith)) in
    ap (λ e. e / 2 ^ n) (ap (λ e. 2 ^ e) parts ∙ pow-add 2 n (m - n)) ∙ mul-div_cancel_left (2 ^ (m - n)) positive

module _ {K : Type 0} {ring : RingOps K} {inverse : K → K} (laws : FieldLaws ring inverse) (adicity : ℕ) (root : ℕ → K) (generator : K) (two_adic : TwoAdicLaws ring adicity root generator) where
  power_round : (h : K) (p j : ℕ) → power ring h p ≡ ring.one → power ring h (j % p) ≡ power ring h j
  power_round h p j round = sym (
      ap (power ring h) (sym (mod-add-div j p)) ∙ power-add laws.of_ring h (j % p) (p * (j / p))
      ∙ ap (ring.mul (power ring h (j % p))) (sym (power-power laws.of_ring h p (j / p)) ∙ ap (λ t. power ring t (j / p)) round ∙ power-one laws.of_ring (j / p)) ∙ laws.of_ring.mul_one _)

  -- The point that lies as many points further, round the end, as the coset has for each of a subgroup, is the subgroup's
  -- generator times the point.
  pub next_coset_point : (coset : TwoAdicCoset K) (n k : ℕ) → coset.log_size ≤ adicity → n ≤ coset.log_size
      → coset_point ring root coset ((k + coset_size coset / 2 ^ n) % coset_size coset) ≡ ring.mul (root n) (coset_point ring root coset k)
  next_coset_point coset n k within smaller =
      let m = coset.log_size in
      let w = root m in
      let whole = root_has_order laws adicity root generator two_adic m within in
      let parts : m ≡ (m - n) + n = omega arith in
      ap (ring.mul coset.shift)
      (power_round w (2 ^ m) (k + 2 ^ m / 2 ^ n) whole.reaches ∙ ap (λ e. power ring w (k + e)) (quotient_of_powers m n smaller) ∙ power-add laws.of_ring w k (2 ^ (m - n)) ∙
      ap (ring.mul (power ring w k)) (ap (λ e. power ring (root e) (2 ^ (m - n))) parts ∙ root_powers laws adicity root generator two_adic (m - n) n (omega arith))) ∙
      solve laws.of_ring (coset.shift ∷ power ring w k ∷ root n ∷ []) (v0 ⊗ (v1 ⊗ v2)) (v2 ⊗ (v0 ⊗ v1)) refl

module _ {F E : Type 0} (i : AirInstance F E) (laws : FieldLaws i.base i.base_inverse) (embeds : IsEmbedding i.base i.ring i.embed) (adicity : ℕ) (root : ℕ → F) (generator : F) (two_adic : TwoAdicLaws i.base adicity root generator)
    (generator_is : i.generator ≡ root i.log_size) (coset : TwoAdicCoset F) (within : coset.log_size ≤ adicity) (smaller : i.log_size ≤ coset.log_size)
    (rows : RowsOnCoset F) (size_is : rows.size ≡ coset_size coset) (point_is : (k : ℕ) → rows.point k ≡ coset_point i.base root coset k) where
  -- The next row is that of the next point of H, from each point on.
  pub next_point_is : (k : ℕ) → point_above i rows (next_row i rows k) ≡ next_point i i.ring (λ c. c) (point_above i rows k)
  next_point_is k =
      ap i.embed (ap (λ n. rows.point ((k + n / height i) % n)) size_is ∙ point_is _ ∙ next_coset_point laws adicity root generator two_adic coset i.log_size k within smaller ∙
      ap (i.base.mul (root i.log_size)) (sym (point_is k)) ∙ ap (λ h. i.base.mul h (rows.point k)) (sym generator_is)) ∙ embeds.keeps.mul i.generator (rows.point k)

  next_row_within : (k : ℕ) → k < rows.size → next_row i rows k < rows.size
  next_row_within k below = mod-lt (k + rows.size / height i) (omega arith)

  module _ (columns : Columns F E) (are : AreValuesOfColumns i rows columns) (l : Layout) (k : ℕ) (below : k < rows.size) where
    -- a leaf of the next row
    next_leaf : (row : ℕ → List F) (polynomials : List (List E)) → ((j : ℕ) → j < rows.size → map i.embed (row j) ≡ row_at i.ring (λ c. c) polynomials (point_above i rows j))
        → (c : ℕ) → slice_index_or (map i.embed (row (next_row i rows k))) c i.ring.zero ≡ value i.ring (slice_index_or polynomials c []) (next_point i i.ring (λ c. c) (point_above i rows k))
    next_leaf row polynomials taken c =
        value_leaf i.ring _ polynomials (next_point i i.ring (λ c. c) (point_above i rows k))
        (taken (next_row i rows k) (next_row_within k below) ∙ ap (row_at i.ring (λ c. c) polynomials) (next_point_is k)) c

    pub leaves_agree : AgreeWithin l (leaves_at i rows k) (environment_at i i.ring (λ c. c) columns (point_above i rows k))
    leaves_agree = record {
      main_current = λ c _. value_leaf i.ring _ columns.main (point_above i rows k) (are.main k below) c;
      main_next = λ c _. next_leaf rows.main columns.main are.main c;
      preprocessed_current = λ c _. value_leaf i.ring _ columns.preprocessed (point_above i rows k) (are.preprocessed k below) c;
      preprocessed_next = λ c _. next_leaf rows.preprocessed columns.preprocessed are.preprocessed c;
      public_value = λ n _. ap (λ public_values. i.embed (slice_index_or public_values n i.base.zero)) are.public_values;
      periodic_value = λ c _. mapped_or_filler (λ column. periodic_value i.base i.base_inverse i.generator (height i) i.ring i.embed column (point_above i rows k)) i.periodic c [] i.ring.zero refl;
      first_row = refl;
      last_row = refl;
      transition = refl;
    }

    -- The quotient at a point is the columns' folded constraint there over Z_H. The constraints have some layout, as an AIR's do.
    pub quotient_of_columns : LeavesWithin l i.constraints → (alpha : E)
        → pointwise_quotient i rows alpha k ≡ i.ring.mul (folded_at i columns alpha (point_above i rows k)) (i.inverse (subgroup_vanishing i.ring (height i) (point_above i rows k)))
    quotient_of_columns leaves alpha =
        ap (λ values. i.ring.mul (folded i.ring alpha values) (i.inverse (subgroup_vanishing i.ring (height i) (point_above i rows k))))
        (same_constraints i.ring i.embed l (leaves_at i rows k) (environment_at i i.ring (λ c. c) columns (point_above i rows k)) leaves_agree i.constraints leaves)

-- Rows that columns over the base field take on a coset are, seen in the extension, the embedded columns' values.
pub embedded_rows : {F E : Type 0} {base : RingOps F} {ring : RingOps E} {embed : F → E} (embeds : IsEmbedding base ring embed) (root : ℕ → F) (coset : TwoAdicCoset F) (width : ℕ) (row : ℕ → List F) (columns : List (List F))
    → TakesRows base root coset width row columns → (k : ℕ) → k < coset_size coset → map embed (row k) ≡ row_at ring (λ c. c) (map (map embed) columns) (embed (coset_point base root coset k))
embedded_rows {F} {E} {base} {ring} {embed} embeds root coset width row columns takes k below =
    let x = coset_point base root coset k in
    let value_above : (p : List F) → embed (value base p x) ≡ value ring (map embed p) (embed x) =
    λ p. kept_value_over embeds.keeps (λ c. c) embed (λ c. refl) p x (embed x) refl ∙ value_of_embedded ring (λ c. c) embed p (embed x) in
    ap (map embed) (takes.rows k below) ∙ mapped_twice embed (λ p. value base p x) (map embed) (λ p. value ring p (embed x)) value_above columns
