-- Helpers and sums row by row are auxiliary columns, where the entries balance.
use Rattle.std.proofs.Common.{◌≡◌, ◌∙◌, ℕ, zero, suc, ◌+◌, ◌-◌, ◌*◌, List, [], ◌∷◌, ◌++◌, length, map, take, drop, sym, ap, refl, subst, arith, inl, inr, IfOk, Result, Ok, Err, append_assoc, suc-mul, take-add, zero-mul}
use Rattle.std.proofs.lemmas.List.{drop-map, take-map, take_all}
use Rattle.stark_support.specs.Ring.{RingOps, FieldLaws, difference}
use Rattle.stark_support.specs.declared.matrix.RowMajorMatrix.{RowMajorMatrix}
use Rattle.stark_logup.specs.EntryFacts.{balanced_sum}
use Rattle.stark_logup.specs.Fractions.{AreHelpers, Entry, IsKeyOf, fraction_sum, joined, rows_below, weighted}
use Rattle.stark_logup.specs.Lookups.{compressed}
use Rattle.stark_logup.specs.TupleFacts.{joined_map, weighted_compressed}
use Rattle.stark_support.specs.Polynomial.{value}
use Rattle.stark_logup.specs.FractionFacts.{IsApart, pole_or_apart}
use Rattle.stark_logup.specs.RunningSumFacts.{rows_sum}
use Rattle.stark_lookup_trace.specs.AuxiliaryColumns.{AreColumns, PassIfBalanced, in_row, sum_before}
use Rattle.stark_lookup_trace.specs.Tuples.{LookupPasses}

-- ---- rows of a list

joined_both : {A : Type 0} (xss yss : List (List A)) → joined (xss ++ yss) ≡ joined xss ++ joined yss
joined_both [] yss = refl
joined_both (xs ∷ xss) yss = ap (λ t. xs ++ t) (joined_both xss yss) ∙ sym (append_assoc xs (joined xss) (joined yss))

row_size : (n size : ℕ) → n * size + size - n * size ≡ size
row_size n size = omega arith

next_start : (n size : ℕ) → n * size + size ≡ suc n * size
next_start n size = sym (suc-mul n size)

pub row_is : {A : Type 0} (size : ℕ) (xs : List A) (n : ℕ) → in_row size xs n ≡ take size (drop (n * size) xs)
row_is size xs n = ap (λ k. take k (drop (n * size) xs)) (row_size n size)

-- The rows one after the other are the list.
rows_joined : {A : Type 0} (size : ℕ) (xss : List (List A)) (n : ℕ) → rows_below (λ r. joined (in_row size xss r)) n ≡ joined (take (n * size) xss)
rows_joined size xss zero = ap (λ k. joined (take k xss)) (sym (zero-mul size))
rows_joined size xss (suc n) =
    ap (λ t. t ++ joined (in_row size xss n)) (rows_joined size xss n) ∙ ap (λ t. joined (take (n * size) xss) ++ joined t) (row_is size xss n)
    ∙ sym (joined_both (take (n * size) xss) (take size (drop (n * size) xss))) ∙ ap joined (sym (take-add (n * size) size xss)) ∙ ap (λ k. joined (take k xss)) (next_start n size)

all_rows : {A : Type 0} (size : ℕ) (xss : List (List A)) (rows : ℕ) → length xss ≡ rows * size → rows_below (λ r. joined (in_row size xss r)) rows ≡ joined xss
all_rows size xss rows whole = rows_joined size xss rows ∙ ap joined (take_all (rows * size) xss (omega (arith, whole)))

-- ---- helpers of a row

module _ {K : Type 0} (ring : RingOps K) (gamma : K) where
  helpers_taken : (n : ℕ) (gs : List (List (Entry K K))) (hs : List K) → AreHelpers ring gamma gs hs → AreHelpers ring gamma (take n gs) (take n hs)
  helpers_taken zero gs hs help = tt
  helpers_taken (suc n) [] [] help = tt
  helpers_taken (suc n) [] (h ∷ hs) help = absurd help
  helpers_taken (suc n) (g ∷ gs) [] help = absurd help
  helpers_taken (suc n) (g ∷ gs) (h ∷ hs) help = (help.0, helpers_taken n gs hs help.1)

  helpers_dropped : (n : ℕ) (gs : List (List (Entry K K))) (hs : List K) → AreHelpers ring gamma gs hs → AreHelpers ring gamma (drop n gs) (drop n hs)
  helpers_dropped zero gs hs help = help
  helpers_dropped (suc n) [] [] help = tt
  helpers_dropped (suc n) [] (h ∷ hs) help = absurd help
  helpers_dropped (suc n) (g ∷ gs) [] help = absurd help
  helpers_dropped (suc n) (g ∷ gs) (h ∷ hs) help = helpers_dropped n gs hs help.1

  help_in_row : (size r : ℕ) (gs : List (List (Entry K K))) (hs : List K) → AreHelpers ring gamma gs hs → AreHelpers ring gamma (in_row size gs r) (in_row size hs r)
  help_in_row size r gs hs help =
      helpers_taken (r * size + size - r * size) (drop (r * size) gs) (drop (r * size) hs) (helpers_dropped (r * size) gs hs help)

-- ---- all rows

module _ {K : Type 0} {ring : RingOps K} {inverse : K → K} (laws : FieldLaws ring inverse) (gamma : K) (rows size : ℕ) where
  apart_if_no_key : (es : List (Entry K K)) → (IsKeyOf gamma es → ⊥) → IsApart gamma es
  apart_if_no_key es none = elim (pole_or_apart laws.decides gamma es) [ inl key ↦ absurd (none key) | inr apart ↦ apart ]

  -- The sum comes round.
  round : (groups : List (List (Entry K K))) (helpers : List K) → length groups ≡ rows * size → AreHelpers ring gamma groups helpers → (IsKeyOf gamma (joined groups) → ⊥)
      → fraction_sum ring inverse gamma (joined groups) ≡ ring.zero → sum_before ring size helpers rows ≡ ring.zero
  round groups helpers whole help apart none =
      let every = all_rows size groups rows whole in
      rows_sum laws (in_row size groups) gamma rows (in_row size helpers) (subst (IsApart gamma) (sym every) (apart_if_no_key (joined groups) apart))
      (λ r h. help_in_row ring gamma size r groups helpers help)
      ∙ ap (fraction_sum ring inverse gamma) every ∙ none

  pub columns_pass : (groups : List (List (Entry K K))) (values : List K) → length groups ≡ rows * size → (IsKeyOf gamma (joined groups) → ⊥) → AreColumns ring gamma rows size groups values
      → PassIfBalanced ring gamma rows size groups values
  columns_pass groups values whole apart are same balanced =
      let none = balanced_sum laws.of_ring same (λ a. inverse (difference ring gamma a)) (joined groups) balanced in
      record {
        columns = record {
          helpers = in_row size are.helpers;
          sums = sum_before ring size are.helpers;
          adds = λ r h. record { helps = help_in_row ring gamma size r groups are.helpers are.help; step = refl };
          round = round groups are.helpers whole are.help apart none;
        };
        values_are = are.values_are;
      }

  in_row_map : {A B : Type 0} (f : A → B) (xs : List A) (r : ℕ) → in_row size (map f xs) r ≡ map f (in_row size xs r)
  in_row_map f xs r =
      ap (take (r * size + size - r * size)) (drop-map f (r * size) xs) ∙ take-map f (r * size + size - r * size) (drop (r * size) xs)

  pub lookup_passes : (beta : K) (tuples : List (List (Entry (List K) K))) (values : List K) → length (map (map (compressed ring beta)) tuples) ≡ rows * size
      → (IsKeyOf gamma (joined (map (map (compressed ring beta)) tuples)) → ⊥) → AreColumns ring gamma rows size (map (map (compressed ring beta)) tuples) values
      → LookupPasses ring beta gamma rows size tuples values
  lookup_passes beta tuples values whole apart are same balanced =
      let groups = map (map (compressed ring beta)) tuples in
      let weight = λ (a : K). inverse (difference ring gamma a) in
      let none : fraction_sum ring inverse gamma (joined groups) ≡ ring.zero
      = ap (weighted ring weight) (joined_map (compressed ring beta) tuples) ∙ weighted_compressed ring weight beta (joined tuples)
      ∙ balanced_sum laws.of_ring same (λ t. weight (value ring t beta)) (joined tuples) balanced in
      record {
        columns = record {
          helpers = in_row size are.helpers;
          sums = sum_before ring size are.helpers;
          adds = λ r h. record {
            helps = subst (λ gs. AreHelpers ring gamma gs (in_row size are.helpers r)) (in_row_map (map (compressed ring beta)) tuples r) (help_in_row ring gamma size r groups are.helpers are.help);
            step = refl;
          };
          round = round groups are.helpers whole are.help apart none;
        };
        values_are = are.values_are;
      }

  -- Of what a call answers, if it does.
  pub answer_passes : {X : Type 0} (beta : K) (tuples : List (List (Entry (List K) K))) (r : Result (RowMajorMatrix K) X) → length (map (map (compressed ring beta)) tuples) ≡ rows * size
      → IfOk r (λ _. IsKeyOf gamma (joined (map (map (compressed ring beta)) tuples)) → ⊥)
      → IfOk r (λ m. AreColumns ring gamma rows size (map (map (compressed ring beta)) tuples) m.values.items) → IfOk r (λ m. LookupPasses ring beta gamma rows size tuples m.values.items)
  answer_passes beta tuples (Ok m) whole apart are = lookup_passes beta tuples m.values.items whole apart are
  answer_passes beta tuples (Err e) whole apart are = are
