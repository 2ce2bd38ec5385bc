-- Steps to the quotient at a point.
use Rattle.std.proofs.Common.{◌≡◌, ◌∙◌, ◌<◌, ◌≤◌, ℕ, suc, refl, min, ◌-◌, ◌^◌, take, slice_index_or, inl, inr, length-append, List, [], ◌∷◌, ◌++◌, ◌+◌, All, Some, map, length, ap, subst, sym, arith}
use Rattle.std.specs.List.{slice_get}
use Rattle.std.proofs.lemmas.Option.{same_Some, slice_get-get_or, slice_get_within}
use Rattle.std.proofs.lemmas.List.{length-take}
use Rattle.stark_support.specs.ListFacts.{slice_get-append-add, slice_get-append_left, slice_get-take}
use Rattle.stark_support.specs.LogarithmFacts.{at_most_or_above, exponent_below, two_power_at_most}
use Rattle.std.proofs.lemmas.List.Elements.{All-cons}
use Rattle.stark_support.specs.Ring.{RingOps, FieldLaws}
use Rattle.stark_support.specs.Operations.{ring_operations}
use Rattle.stark_support.specs.Embedding.{IsEmbedding}
use Rattle.stark_support.specs.TwoAdic.{TwoAdicLaws}
use Rattle.stark_support.specs.Coset.{TwoAdicCoset, IsTwoAdicCoset, AreDisjoint, coset_point, coset_size}
use Rattle.stark_support.specs.CosetFacts.{root_nonzero}
use Rattle.stark_support.specs.CosetValueFacts.{apart_outside, unshifted_vanishing}
use Rattle.stark_support.specs.Periodic.{periodic_value}
use Rattle.stark_support.specs.PeriodicTable.{table_at}
use Rattle.stark_support.specs.Scheme.{matrix_row}
use Rattle.stark_air.specs.Tree.{Constraint}
use Rattle.stark_air.specs.Declaration.{Trace, next_width}
use Rattle.stark_air.specs.Rows.{environment_of}
use Rattle.stark_air.specs.Value.{constraint_values}
use Rattle.stark_parts.specs.Folded.{folded}
use Rattle.stark_security.specs.ConstraintPolynomial.{AirInstance}
use Rattle.stark_quotient.specs.EmbeddedPoint.{quotient_from_base}
use Rattle.stark_quotient.specs.OnCoset.{ArePrepared}
use Rattle.stark_quotient.specs.PointwiseQuotient.{AreFirstQuotients, ArePointwiseQuotients, RowsOnCoset, next_row, pointwise_quotient, rows_of_matrices}

-- A value that is read from a list of known values.
pub read_value : {A : Type 0} (xs ys : List A) (k : ℕ) (x y : A) → slice_get xs k ≡ Some x → xs ≡ ys → slice_get ys k ≡ Some y → x ≡ y
read_value xs ys k x y read same known = same_Some x y (sym read ∙ ap (λ l. slice_get l k) same ∙ known)

-- A row that has a value for each column.
pub listed_row : {A B : Type 0} (f : A → B) (columns : List A) (row : List B) → length row ≡ length columns → ((c : ℕ) (column : A) → slice_get columns c ≡ Some column → slice_get row c ≡ Some (f column)) → row ≡ map f columns
listed_row f [] [] number each = refl
listed_row f [] (y ∷ row) number each = absurd (omega arith)
listed_row f (x ∷ columns) [] number each = absurd (omega arith)
listed_row f (x ∷ columns) (y ∷ row) number each =
    ap (λ z. z ∷ row) (same_Some y (f x) (each 0 x refl)) ∙ ap (λ l. f x ∷ l) (listed_row f columns row (omega arith) (λ c column h. each (suc c) column h))

pub next_within : (columns : List ℕ) (n width : ℕ) → n ≡ next_width columns width → n ≤ width
next_within [] n width is = omega arith
next_within (c ∷ columns) n width is = omega arith

-- A value over rows by other names.
pub over_same_rows : {E A : Type 0} (f : List A → List A → List A → List A → E) (total : E) {r s t u current next preprocessed_current preprocessed_next : List A} → total ≡ f r s t u → r ≡ current → s ≡ next → t ≡ preprocessed_current → u ≡ preprocessed_next
    → total ≡ f current next preprocessed_current preprocessed_next
over_same_rows f total {r} {s} {t} {u} {current} {next} {preprocessed_current} {preprocessed_next} is same_r same_s same_t same_u =
    is ∙ ap (λ x. f x s t u) same_r ∙ ap (λ x. f current x t u) same_s ∙ ap (λ x. f current next x u) same_t ∙ ap (λ x. f current next preprocessed_current x) same_u

module _ {F E : Type 0} {base : RingOps F} {base_inverse : F → F} {ring : RingOps E} {inverse : E → E} {embed : F → E} (base_laws : FieldLaws base base_inverse) (laws : FieldLaws ring inverse) (embeds : IsEmbedding base ring embed)
    (adicity : ℕ) (root : ℕ → F) (generator : F) (two_adic : TwoAdicLaws base adicity root generator) (trace coset : TwoAdicCoset F) (valid : IsTwoAdicCoset base adicity trace) (unshifted : trace.shift ≡ base.one) (disjoint : AreDisjoint base root trace coset)
    (basis : List E) (constraints : List (Constraint F)) (columns : List (List F)) where
  abbrev over_trace : AirInstance F E
  over_trace = record {
    base = base;
    base_inverse = base_inverse;
    ring = ring;
    inverse = inverse;
    embed = embed;
    basis = basis;
    generator = root trace.log_size;
    log_size = trace.log_size;
    constraints = constraints;
    periodic = columns;
  }

  module _ {firsts lasts changes inverses table : List F} {width period : ℕ} (prepared : ArePrepared base base_inverse root trace coset columns firsts lasts changes inverses table width period)
      (main preprocessed : Trace F) (public_values : List F) (k : ℕ) (within : k < coset_size coset) where
    abbrev rows : RowsOnCoset F
    rows = rows_of_matrices base root coset main preprocessed public_values

    -- the row of a table has the periodic columns' values
    table_values : (periodic : List F) → length periodic ≡ width → ((c : ℕ) → c < width → slice_get periodic c ≡ table_at table width period k c)
        → periodic ≡ map (λ column. periodic_value base base_inverse (root trace.log_size) (coset_size trace) base (λ y. y) column (coset_point base root coset k)) columns
    table_values periodic number values =
        listed_row _ columns periodic (number ∙ prepared.periodic.count)
        (λ c column listed. values c (subst (λ n. c < n) (sym prepared.periodic.count) (slice_get_within columns c column listed)) ∙ prepared.periodic.value k c column within listed)

    -- A folded sum over the rows at a point, times what the list of inverses has there, is the quotient.
    pub quotient_of_rows : (alpha sum : E) (current next preprocessed_current preprocessed_next read_public_values periodic : List F) (first last change inverted : F)
        → sum ≡ folded ring alpha (constraint_values (ring_operations ring embed) (environment_of (ring_operations ring embed) base.zero ring.zero (map embed current) (map embed next) (map embed preprocessed_current) (map embed preprocessed_next) read_public_values (map embed periodic) (embed first) (embed last) (embed change)) constraints)
        → read_public_values ≡ public_values
        → current ≡ matrix_row main.values main.width k → next ≡ matrix_row main.values main.width (next_row over_trace rows k)
        → preprocessed_current ≡ matrix_row preprocessed.values preprocessed.width k → preprocessed_next ≡ matrix_row preprocessed.values preprocessed.width (next_row over_trace rows k)
        → length periodic ≡ width → ((c : ℕ) → c < width → slice_get periodic c ≡ table_at table width period k c)
        → slice_get firsts k ≡ Some first → slice_get lasts k ≡ Some last → slice_get changes k ≡ Some change → slice_get inverses k ≡ Some inverted
        → ring.mul sum (embed inverted) ≡ pointwise_quotient over_trace rows alpha k
    quotient_of_rows alpha sum current next preprocessed_current preprocessed_next read_public_values periodic first last change inverted sum_is public_values_are current_is next_is preprocessed_is preprocessed_next_is number values first_is last_is change_is inverted_is =
        let x = coset_point base root coset k in
        let over = λ (p r s t u : List F). folded ring alpha (constraint_values (ring_operations ring embed) (environment_of (ring_operations ring embed) base.zero ring.zero (map embed r) (map embed s) (map embed t) (map embed u) p (map embed periodic) (embed first) (embed last) (embed change)) constraints) in
        quotient_from_base over_trace base_laws laws embeds (root_nonzero base_laws adicity root generator two_adic trace.log_size valid.within) rows k alpha sum periodic first last change inverted
        (over_same_rows (over public_values) sum (sum_is ∙ ap (λ p. over p current next preprocessed_current preprocessed_next) public_values_are) current_is next_is preprocessed_is preprocessed_next_is) (table_values periodic number values)
        (same_Some first _ (sym first_is ∙ prepared.first_row.at_row k within)) (same_Some last _ (sym last_is ∙ prepared.last_row.at_row k within)) (same_Some change _ (sym change_is ∙ prepared.transition.at_row k within))
        (same_Some inverted _ (sym inverted_is ∙ prepared.inv_vanishing.at_row k within) ∙ ap base_inverse (unshifted_vanishing base_laws adicity root generator two_adic trace valid unshifted x))
        (apart_outside base_laws adicity root generator two_adic trace valid unshifted coset disjoint k x refl)

-- A power of two that is a number of 64 bits is at most half of what doesn't fit, and isn't 0.
pub power_room : (width exponent : ℕ) → width ≡ 2 ^ exponent → width < 2 ^ 64 → width ≤ 2 ^ 63
power_room width exponent is fits = let small = exponent_below exponent 64 (omega (arith, is, fits)) in let most = two_power_at_most exponent 63 (omega (arith, small)) in omega (arith, is, most)

pub some_power : (width exponent : ℕ) → width ≡ 2 ^ exponent → 0 < width
some_power width exponent is = let least = two_power_at_most 0 exponent (omega arith) in omega (arith, is, least)

module _ {F E : Type 0} (i : AirInstance F E) (rows : RowsOnCoset F) (alpha : E) where
  pub no_quotients : (values : List E) → values ≡ [] → AreFirstQuotients i rows alpha 0 values
  no_quotients values none = record { number = ap length none; at_point = λ k below. absurd (omega arith) }

  -- The lanes that exist, behind the quotients so far.
  pub more_quotients : (start width : ℕ) (before after lanes : List E) (blank : E) → start < rows.size → AreFirstQuotients i rows alpha (min start rows.size) before → length lanes ≡ width
      → ((j : ℕ) → j < width → start + j < rows.size → slice_index_or lanes j blank ≡ pointwise_quotient i rows alpha (start + j)) → after ≡ before ++ take (rows.size - start) lanes
      → AreFirstQuotients i rows alpha (min (start + width) rows.size) after
  more_quotients start width before after lanes blank some first wide each grown =
      let shorter = length-take (rows.size - start) lanes in
      let so_far : length before ≡ start = omega (arith, first.number) in
      record {
        number = ap length grown ∙ length-append before (take (rows.size - start) lanes) ∙ omega (arith, shorter, so_far);
        at_point = λ k below. ap (λ l. slice_get l k) grown ∙ elim (at_most_or_above start k) [
          | inl behind ↦
              let j = k - start in
              let place : k ≡ length before + j = omega (arith, so_far) in
              let same : start + j ≡ k = omega arith in
              ap (slice_get (before ++ take (rows.size - start) lanes)) place ∙ slice_get-append-add before (take (rows.size - start) lanes) j ∙ slice_get-take lanes (rows.size - start) j (omega (arith, below)) ∙
              slice_get-get_or lanes j blank (omega (arith, below, wide)) ∙ ap Some (each j (omega (arith, below)) (omega (arith, below))) ∙ ap (λ n. Some (pointwise_quotient i rows alpha n)) same
          | inr earlier ↦ slice_get-append_left before (take (rows.size - start) lanes) k (omega (arith, so_far)) ∙ first.at_point k (omega arith)
        ];
      }

  pub all_quotients : (n : ℕ) (values : List E) → AreFirstQuotients i rows alpha n values → n ≡ rows.size → ArePointwiseQuotients i rows alpha values
  all_quotients n values first is = subst (λ m. AreFirstQuotients i rows alpha m values) is first

-- What holds of each mapped element.
pub all_unmapped : {A B : Type 0} (f : A → B) (P : B → Type 0) (xs : List A) → All P (map f xs) → All (λ x. P (f x)) xs
all_unmapped f P [] h = λ k d below. absurd (omega arith)
all_unmapped f P (x ∷ xs) h = All-cons (λ x. P (f x)) x xs (h 0 (f x) (omega arith)) (all_unmapped f P xs (λ k d below. h (suc k) d (omega arith)))
