-- Gamma is a key of a group exactly where the group's denominator is zero, and else its fraction may be divided.
use Rattle.std.proofs.Common.{◌≡◌, ◌≢◌, ◌∙◌, ℕ, zero, suc, ◌+◌, ◌*◌, ◌/◌, ◌%◌, ◌<◌, List, [], ◌∷◌, ◌++◌, length, map, take, All, Some, slice_get, slice_index_or, sym, ap, refl, subst, arith, inl, inr, div-add-mod', mul-zero}
use Rattle.std.specs.List.{AllByRecursion}
use Rattle.stark_support.specs.Ring.{RingOps, FieldLaws, difference}
use Rattle.stark_support.specs.RingFacts.{mul_zero, zero_mul}
use Rattle.stark_support.specs.RingSolver.{solve, ◌⊗◌, v0, v1, v2}
use Rattle.stark_logup.specs.Fractions.{AreHelpers, Entry, IsKeyOf, denominator, joined, keys, numerator}
use Rattle.stark_logup.specs.FractionFacts.{IsApart, denominator_nonzero, pole_or_apart}
use Rattle.std.proofs.lemmas.List.{length-map, map-append, take-map}
use Rattle.std.proofs.lemmas.Option.{slice_get_within}
use Rattle.std.proofs.lemmas.List.Elements.{All-from_recursion, recursion_from_All}
use Rattle.std.specs.declared.vec.Vec.{Vec}
use Rattle.stark_lookup_trace.specs.AuxiliaryColumns.{AreColumns, IsFirstKey, IsFirstZero, entries_of, products, rows_with_sums}

all_joined : {A : Type 0} (P : A → Type 0) (xs ys : List A) → AllByRecursion P xs → AllByRecursion P ys → AllByRecursion P (xs ++ ys)
all_joined P [] ys h k = k
all_joined P (x ∷ xs) ys h k = (h.0, all_joined P xs ys h.1 k)

module _ {K : Type 0} {ring : RingOps K} {inverse : K → K} (laws : FieldLaws ring inverse) (gamma : K) where
  pub zero_if_key : (es : List (Entry K K)) → IsKeyOf gamma es → denominator ring gamma es ≡ ring.zero
  zero_if_key [] key = absurd key
  zero_if_key (e ∷ es) key = elim key [
    | inl here ↦
        ap (λ w. ring.mul w (denominator ring gamma es)) (ap (λ k. difference ring k e.key) here ∙ laws.of_ring.add_neg e.key) ∙ zero_mul laws.of_ring (denominator ring gamma es)
    | inr rest ↦ ap (ring.mul (difference ring gamma e.key)) (zero_if_key es rest) ∙ mul_zero laws.of_ring (difference ring gamma e.key)
  ]

  pub key_if_zero : (es : List (Entry K K)) → denominator ring gamma es ≡ ring.zero → IsKeyOf gamma es
  key_if_zero es none = elim (pole_or_apart laws.decides gamma es) [ inl key ↦ key | inr apart ↦ absurd (denominator_nonzero laws gamma es apart none) ]

  pub apart_if_nonzero : (es : List (Entry K K)) → denominator ring gamma es ≢ ring.zero → IsApart gamma es
  apart_if_nonzero es some = elim (pole_or_apart laws.decides gamma es) [ inl key ↦ absurd (some (zero_if_key es key)) | inr apart ↦ apart ]

  -- Where no denominator is zero, gamma is no key of any group.
  pub apart_in_all : (gs : List (List (Entry K K))) → AllByRecursion (λ x. x ≢ ring.zero) (map (denominator ring gamma) gs) → IsApart gamma (joined gs)
  apart_in_all [] some = tt
  apart_in_all (g ∷ gs) some =
      rw (map-append (λ (e : Entry K K). e.key) g (joined gs))
      (all_joined (λ y. gamma ≢ y) (keys g) (keys (joined gs)) (apart_if_nonzero g some.0) (apart_in_all gs some.1))

  undone : (n d : K) → d ≢ ring.zero → ring.mul (ring.mul n (inverse d)) d ≡ n
  undone n d some =
      solve laws.of_ring (n ∷ d ∷ inverse d ∷ []) ((v0 ⊗ v2) ⊗ v1) (v0 ⊗ (v1 ⊗ v2)) refl ∙ ap (ring.mul n) (laws.mul_inverse d some) ∙ laws.of_ring.mul_one n

  pub products_help : (gs : List (List (Entry K K))) → AllByRecursion (λ x. x ≢ ring.zero) (map (denominator ring gamma) gs)
      → AreHelpers ring gamma gs (products ring (map (numerator ring gamma) gs) (map inverse (map (denominator ring gamma) gs)))
  products_help [] some = tt
  products_help (g ∷ gs) some = (undone (numerator ring gamma g) (denominator ring gamma g) some.0, products_help gs some.1)

  no_key : (es : List (Entry K K)) → IsApart gamma es → IsKeyOf gamma es → ⊥
  no_key [] apart key = key
  no_key (e ∷ es) apart key = elim key [ inl here ↦ apart.0 here | inr rest ↦ no_key es apart.1 rest ]

  -- Where no denominator is zero, gamma is no key at all.
  pub no_key_at_all : (denominators : List K) (gs : List (List (Entry K K))) → denominators ≡ map (denominator ring gamma) gs → All (λ x. x ≢ ring.zero) denominators → IsKeyOf gamma (joined gs) → ⊥
  no_key_at_all denominators gs are some =
      no_key (joined gs) (apart_in_all gs (subst (AllByRecursion (λ x. x ≢ ring.zero)) are (recursion_from_All (λ x. x ≢ ring.zero) denominators some)))

  -- ---- the first denominator that is zero

  zero_at : (gs : List (List (Entry K K))) (place : ℕ) → slice_get (map (denominator ring gamma) gs) place ≡ Some ring.zero → denominator ring gamma (slice_index_or gs place []) ≡ ring.zero
  zero_at [] zero there = absurd (cc)
  zero_at [] (suc place) there = absurd (cc)
  zero_at (g ∷ gs) zero there = cc
  zero_at (g ∷ gs) (suc place) there = zero_at gs place there

  no_keys : (gs : List (List (Entry K K))) → AllByRecursion (λ x. x ≢ ring.zero) (map (denominator ring gamma) gs) → AllByRecursion (λ g. IsKeyOf gamma g → ⊥) gs
  no_keys [] some = tt
  no_keys (g ∷ gs) some = ((λ key. some.0 (zero_if_key g key)), no_keys gs some.1)

  pub first_key : (lookups : List ℕ) (denominators : List K) (gs : List (List (Entry K K))) (place size lookup : ℕ) → size ≡ length lookups → denominators ≡ map (denominator ring gamma) gs
      → IsFirstZero ring.zero denominators place → slice_get lookups (place % size) ≡ Some lookup → IsFirstKey gamma lookups gs (place / size) lookup
  first_key lookups denominators gs place size lookup is_size are first there =
      let is_place : place / size * length lookups + place % size ≡ place = ap (λ k. place / size * k + place % size) (sym is_size) ∙ div-add-mod' place size in
      record {
        group = place % size;
        of_lookup = there;
        is_key = subst (λ k. IsKeyOf gamma (slice_index_or gs k [])) (sym is_place)
            (key_if_zero (slice_index_or gs place []) (zero_at gs place (ap (λ t. slice_get t place) (sym are) ∙ first.zero_there)));
        none_before = subst (λ k. All (λ g. IsKeyOf gamma g → ⊥) (take k gs)) (sym is_place)
            (All-from_recursion (λ g. IsKeyOf gamma g → ⊥) (take place gs) (no_keys (take place gs)
            (subst (AllByRecursion (λ x. x ≢ ring.zero)) (ap (take place) are ∙ take-map (denominator ring gamma) place gs) (recursion_from_All (λ x. x ≢ ring.zero) (take place denominators) first.others_before))));
      }

  -- ---- what is computed

  pub are_columns : (rows size : ℕ) (gs : List (List (Entry K K))) (numerators denominators helpers values : List K) → numerators ≡ map (numerator ring gamma) gs
      → denominators ≡ map (denominator ring gamma) gs → All (λ x. x ≢ ring.zero) denominators → helpers ≡ products ring numerators (map inverse denominators)
      → values ≡ rows_with_sums ring size helpers rows → AreColumns ring gamma rows size gs values
  are_columns rows size gs numerators denominators helpers values are_numerators are_denominators some divided written = record {
    helpers = helpers;
    help = subst (AreHelpers ring gamma gs)
        (sym (divided ∙ ap (λ t. products ring t (map inverse denominators)) are_numerators ∙ ap (λ t. products ring (map (numerator ring gamma) gs) (map inverse t)) are_denominators))
        (products_help gs (subst (AllByRecursion (λ x. x ≢ ring.zero)) are_denominators (recursion_from_All (λ x. x ≢ ring.zero) denominators some)));
    values_are = written;
  }

-- ---- lengths

pub as_many_parts : {K B : Type 0} (f g : B → K) (xs ys : List K) (gs : List B) → xs ≡ map f gs → ys ≡ map g gs → length xs ≡ length ys
as_many_parts f g xs ys gs are_xs are_ys = ap length are_xs ∙ length-map gs f ∙ sym (length-map gs g) ∙ sym (ap length are_ys)

length_products : {K : Type 0} (ring : RingOps K) (xs ys : List K) → length xs ≡ length ys → length (products ring xs ys) ≡ length xs
length_products ring [] ys same = refl
length_products ring (x ∷ xs) [] same = absurd (omega (arith, same))
length_products ring (x ∷ xs) (y ∷ ys) same = ap suc (length_products ring xs ys (omega (arith, same)))

pub length_entries : {K A : Type 0} (groups : List (Vec (K × K) A)) → length (entries_of groups) ≡ length groups
length_entries [] = refl
length_entries (g ∷ gs) = ap suc (length_entries gs)

pub as_many_helpers : {K A : Type 0} (ring : RingOps K) (inverse : K → K) (f : List (Entry K K) → K) (xs ys helpers : List K) (groups : List (Vec (K × K) A)) → length xs ≡ length ys
    → xs ≡ map f (entries_of groups) → helpers ≡ products ring xs (map inverse ys) → length helpers ≡ length groups
as_many_helpers ring inverse f xs ys helpers groups same are divided =
    ap length divided ∙ length_products ring xs (map inverse ys) (same ∙ sym (length-map ys inverse)) ∙ ap length are ∙ length-map (entries_of groups) f ∙ length_entries groups

-- Where there is a denominator, a row has a group.
positive_factor : (p r s : ℕ) → p < r * s → 0 < s
positive_factor p r zero h = let none = mul-zero r in absurd (omega (arith, none, h))
positive_factor p r (suc s) h = omega arith

pub some_group : {K : Type 0} (none : K) (denominators : List K) (place rows size : ℕ) → IsFirstZero none denominators place → length denominators ≡ rows * size → 0 < size
some_group none denominators place rows size first whole = let within = slice_get_within denominators place none first.zero_there in positive_factor place rows size (omega (arith, within, whole))
