-- The claimed points lie apart from the extended rows' coset.
use Rattle.std.proofs.Common.{◌≡◌, ◌≢◌, ◌∙◌, ℕ, ◌≤◌, ◌^◌, List, [], ◌∷◌, map, sym, ap, subst}
use Rattle.std.specs.List.{AllByRecursion, flat_map, zip}
use Rattle.std.proofs.lemmas.List.Concat.{flat_map-cons}
use Rattle.stark_support.specs.Coset.{IsTwoAdicCoset, TwoAdicCoset, coset_point, coset_vanishing}
use Rattle.stark_support.specs.CosetFacts.{zero_on_points}
use Rattle.stark_support.specs.Embedding.{IsEmbedding}
use Rattle.stark_support.specs.KeepsRing.{kept_power}
use Rattle.stark_support.specs.PointFacts.{all_append}
use Rattle.stark_support.specs.Powers.{power}
use Rattle.stark_support.specs.Ring.{FieldLaws}
use Rattle.stark_support.specs.TwoAdic.{TwoAdicLaws}
use Rattle.stark_folding.specs.Reduce.{Seen}
use Rattle.stark_fri_proof.specs.Parts.{InputOpening}
use Rattle.stark_fri.specs.Claims.{MatrixRead, PointIsOff, PointsAreOff, RoundRead}
use Rattle.stark_fri.specs.Parts.{FriFields}
use Rattle.stark_fri.specs.Query.{seen_at, seen_at_point, seen_in_matrix, seen_in_round, seen_of}

-- ---- lists of lists

module _ {A B : Type 0} (P : B → Type 0) (Q : A → Type 0) (f : A → List B) (each : (x : A) → Q x → AllByRecursion P (f x)) where
  all_pieces : (xs : List A) → AllByRecursion Q xs → AllByRecursion P (flat_map f xs)
  all_pieces [] all = tt
  all_pieces (x ∷ xs) all = subst (AllByRecursion P) (sym (flat_map-cons f x xs)) (all_append P (f x) (flat_map f xs) (each x all.0) (all_pieces xs all.1))

all_of_first : {A B : Type 0} (Q : A → Type 0) (xs : List A) (ys : List B) → AllByRecursion Q xs → AllByRecursion (λ (both : A × B). Q both.0) (zip xs ys)
all_of_first Q [] ys all = tt
all_of_first Q (x ∷ xs) [] all = tt
all_of_first Q (x ∷ xs) (y ∷ ys) all = (all.0, all_of_first Q xs ys all.1)

module _ {F E : Type 0} (fields : FriFields F E) where
  module _ (laws : FieldLaws fields.base fields.base_inverse) (two_adic : TwoAdicLaws fields.base fields.adicity fields.root fields.generator)
      (embeds : IsEmbedding fields.base fields.ring fields.embed) where
    embedded_vanishing : (n : ℕ) (s y : F) → fields.embed (coset_vanishing fields.base (λ (c : F). c) fields.base_inverse n s y)
        ≡ coset_vanishing fields.ring fields.embed fields.base_inverse n s (fields.embed y)
    embedded_vanishing n s y =
        let t = fields.base.mul y (fields.base_inverse s) in
        let u = fields.ring.mul (fields.embed y) (fields.embed (fields.base_inverse s)) in
        embeds.keeps.add (power fields.base t n) (fields.base.neg fields.base.one)
        ∙ ap (λ v. fields.ring.add v (fields.embed (fields.base.neg fields.base.one))) (kept_power embeds.keeps t u n (embeds.keeps.mul y (fields.base_inverse s)))
        ∙ ap (fields.ring.add (power fields.ring u n)) (embeds.keeps.neg fields.base.one ∙ ap fields.ring.neg embeds.keeps.one)

    -- A point off the coset isn't one of its points.
    pub apart_from_rows : (bits place : ℕ) → bits ≤ fields.adicity → (x : E) → x ≡ fields.embed (coset_point fields.base fields.root (record { shift = fields.generator; log_size = bits }) place)
        → (p : E × List E) → PointIsOff fields (2 ^ bits) p → x ≢ p.0
    apart_from_rows bits place within x is p off same =
        let c : TwoAdicCoset F = record { shift = fields.generator; log_size = bits } in
        let valid : IsTwoAdicCoset fields.base fields.adicity c = record { shift_nonzero = two_adic.generator_nonzero; within = within } in
        off (ap (coset_vanishing fields.ring fields.embed fields.base_inverse (2 ^ bits) fields.generator) (sym same ∙ is)
        ∙ sym (embedded_vanishing (2 ^ bits) fields.generator (coset_point fields.base fields.root c place))
        ∙ ap fields.embed (zero_on_points laws fields.adicity fields.root fields.generator two_adic c valid place) ∙ embeds.keeps.zero)

  module _ (x : E) (n : ℕ) (apart : (p : E × List E) → PointIsOff fields n p → x ≢ p.0) where
    abbrev Apart : Seen E → Type 0
    Apart s = x ≢ s.2

    apart_at : (z : E) → x ≢ z → (both : List (F × E)) → AllByRecursion Apart (map (seen_at fields z) both)
    apart_at z differ [] = tt
    apart_at z differ (b ∷ both) = (differ, apart_at z differ both)

    apart_in_matrix : (both : MatrixRead E × List F) → AllByRecursion (PointIsOff fields n) both.0.1 → AllByRecursion Apart (seen_in_matrix fields both)
    apart_in_matrix both off = all_pieces Apart (PointIsOff fields n) (seen_at_point fields both.1) (λ p h. apart_at p.0 (apart p h) (zip both.1 p.1)) both.0.1 off

    apart_in_round : (both : RoundRead E × InputOpening F) → PointsAreOff fields n both.0 → AllByRecursion Apart (seen_in_round fields both)
    apart_in_round both off =
        all_pieces Apart (λ (m : MatrixRead E × List F). AllByRecursion (PointIsOff fields n) m.0.1) (seen_in_matrix fields) apart_in_matrix (zip both.0.1 both.1.rows)
        (all_of_first (λ (m : MatrixRead E). AllByRecursion (PointIsOff fields n) m.1) both.0.1 both.1.rows off)

    pub all_apart : (rounds : List (RoundRead E)) (inputs : List (InputOpening F)) → AllByRecursion (PointsAreOff fields n) rounds → AllByRecursion Apart (seen_of fields rounds inputs)
    all_apart rounds inputs off =
        all_pieces Apart (λ (both : RoundRead E × InputOpening F). PointsAreOff fields n both.0) (seen_in_round fields) apart_in_round (zip rounds inputs)
        (all_of_first (PointsAreOff fields n) rounds inputs off)
