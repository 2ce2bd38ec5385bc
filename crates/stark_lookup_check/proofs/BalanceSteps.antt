-- Totals of entries, one after the other, and what totals of zero say.
use Rattle.std.proofs.Common.{◌≡◌, ◌≢◌, ◌⊎◌, ◌∙◌, ap, inl, inr, arith, refl, sym, subst, ℕ, zero, suc, ◌+◌, ◌<◌, ◌≤◌, List, [], ◌∷◌, ◌++◌, length, map, get_or, option_map, Some}
use Rattle.std.proofs.lemmas.Bool.{cases_lt}
use Rattle.std.proofs.lemmas.List.{length-map}
use Rattle.std.proofs.lemmas.Option.{slice_get-get_or, slice_get-map, slice_get_within}
use Rattle.std.specs.List.{slice_get}
use Rattle.std.specs.BTreeMap.{BTreeMap, IsEmpty}
use Rattle.std.specs.declared.vec.Vec.{Vec}
use Rattle.stark_support.specs.Ring.{RingLaws, RingOps}
use Rattle.stark_logup.specs.EntryFacts.{share_other, share_same}
use Rattle.stark_logup.specs.Fractions.{Decides, Entry, IsBalanced, share, total}
use Rattle.stark_lookup_check.specs.Balance.{entries_of, entry_of}
use Rattle.stark_lookup_trace.specs.declared.tuples.TupleEntry.{TupleEntry}
use Rattle.stark_lookup_check.specs.Totals.{AddsAt, AreTotalsOf, total_at}

module _ {F : Type 0} {ring : RingOps F} (laws : RingLaws ring) where
  zero_first : (x : F) → ring.add ring.zero x ≡ x
  zero_first x = laws.add_comm ring.zero x ∙ laws.add_zero x

  total_after : {A : Type 0} (same : Decides A) (t : A) (es : List (Entry A F)) (e : Entry A F) → total ring same t (es ++ e ∷ []) ≡ ring.add (total ring same t es) (share ring same t e)
  total_after same t [] e = laws.add_comm (share ring same t e) ring.zero
  total_after same t (d ∷ es) e = ap (ring.add (share ring same t d)) (total_after same t es e) ∙ sym (laws.add_assoc (share ring same t d) (total ring same t es) (share ring same t e))

  -- A key whose every share is zero.
  total_of_none : {A : Type 0} (same : Decides A) (t : A) (es : List (Entry A F)) → ((i : ℕ) (e : Entry A F) → slice_get es i ≡ Some e → t ≢ e.key) → total ring same t es ≡ ring.zero
  total_of_none same t [] none = refl
  total_of_none same t (d ∷ es) none =
      ap (λ x. ring.add x (total ring same t es)) (share_other ring same t d (none zero d refl)) ∙ zero_first (total ring same t es) ∙ total_of_none same t es (λ i e there. none (suc i) e there)

  -- It is an entry's, or no entry's.
  some_or_none : {A : Type 0} (same : Decides A) (t : A) (es : List (Entry A F)) → ((i : ℕ) × (e : Entry A F) × (slice_get es i ≡ Some e) × (t ≡ e.key)) ⊎ ((i : ℕ) (e : Entry A F) → slice_get es i ≡ Some e → t ≢ e.key)
  some_or_none same t [] = inr (λ i e there. absurd (cc))
  some_or_none same t (d ∷ es) = elim (same t d.key) [
    | inl here ↦ inl (zero, d, refl, here)
    | inr other ↦ elim (some_or_none same t es) [
      | inl later ↦ inl (suc later.0, later.1, later.2, later.3)
      | inr none ↦ inr (λ i e there. not_at d es t other none i e there)
    ]
  ]
    where
      not_at : {A : Type 0} (d : Entry A F) (es : List (Entry A F)) (t : A) → t ≢ d.key → ((i : ℕ) (e : Entry A F) → slice_get es i ≡ Some e → t ≢ e.key) → (i : ℕ) (e : Entry A F) → slice_get (d ∷ es) i ≡ Some e → t ≢ e.key
      not_at d es t other none zero e there same = let is : d ≡ e = (cc) in other (subst (λ x. t ≡ x.key) (sym is) same)
      not_at d es t other none (suc i) e there same = none i e there same

  -- Where each entry's tuple has the total zero, all balance.
  pub all_balanced : {A : Type 0} (same : Decides A) (es : List (Entry A F)) → ((i : ℕ) (e : Entry A F) → slice_get es i ≡ Some e → total ring same e.key es ≡ ring.zero) → IsBalanced ring same es
  all_balanced same es zeros t = elim (some_or_none same t es) [
    | inl found ↦ ap (λ k. total ring same k es) found.3 ∙ zeros found.0 found.1 found.2
    | inr none ↦ total_of_none same t es none
  ]

  module _ (number_of : F → ℕ) (injective : (x y : F) → number_of x ≡ number_of y → x ≡ y) where
    numbers_same : (xs ys : List F) → map number_of xs ≡ map number_of ys → xs ≡ ys
    numbers_same [] [] e = refl
    numbers_same [] (y ∷ ys) e = absurd (cc)
    numbers_same (x ∷ xs) [] e = absurd (cc)
    numbers_same (x ∷ xs) (y ∷ ys) e =
        let head : number_of x ≡ number_of y = (cc) in
        let tail : map number_of xs ≡ map number_of ys = (cc) in
        ap (λ z. z ∷ xs) (injective x y head) ∙ ap (λ zs. y ∷ zs) (numbers_same xs ys tail)

    module _ {A : Type 0} where
      pub totals_after : (es : List (Entry (List F) F)) (e : Entry (List F) F) (old new : BTreeMap (Vec ℕ A) F) (at : List ℕ) → at ≡ map number_of e.key → AddsAt ring old new at e.multiplicity
          → AreTotalsOf ring number_of es old → AreTotalsOf ring number_of (es ++ e ∷ []) new
      totals_after es e old new at at_is adds are same key tuple is = elim (same tuple e.key) [
        | inl here ↦
            let here_is : key.items ≡ at = is ∙ ap (map number_of) here ∙ sym at_is in
            let was : total_at ring old key.items ≡ total ring same tuple es = are same key tuple is in
            let added : total_at ring new key.items ≡ ring.add (total_at ring old key.items) e.multiplicity = subst (λ k. total_at ring new k ≡ ring.add (total_at ring old k) e.multiplicity) (sym here_is) adds.here in
            added ∙ ap (λ x. ring.add x e.multiplicity) was ∙ ap (ring.add (total ring same tuple es)) (sym (share_same ring same tuple e here)) ∙ sym (total_after same tuple es e)
        | inr other ↦
            let differs : key.items ≢ at = λ equal. other (numbers_same tuple e.key (sym is ∙ equal ∙ at_is)) in
            adds.others key differs ∙ are same key tuple is ∙ sym (laws.add_zero (total ring same tuple es)) ∙ ap (ring.add (total ring same tuple es)) (sym (share_other ring same tuple e other)) ∙ sym (total_after same tuple es e)
      ]

pub totals_of_none : {A F : Type 0} (ring : RingOps F) (number_of : F → ℕ) (m : BTreeMap (Vec ℕ A) F) → IsEmpty m → AreTotalsOf ring number_of [] m
totals_of_none ring number_of m empty same key tuple is = rw empty refl

-- What is found so far: each entry before a place has a tuple of the total zero.
abbrev pub ZeroBefore : {F : Type 0} → RingOps F → List (Entry (List F) F) → ℕ → Type 0
ZeroBefore {F} ring es place = (same : Decides (List F)) (before : ℕ) (other : Entry (List F) F) → before < place → slice_get es before ≡ Some other → total ring same other.key es ≡ ring.zero

pub zero_next : {F : Type 0} (ring : RingOps F) (es : List (Entry (List F) F)) (place : ℕ) (entry : Entry (List F) F) → slice_get es place ≡ Some entry → ((same : Decides (List F)) → total ring same entry.key es ≡ ring.zero)
    → ZeroBefore ring es place → ZeroBefore ring es (place + 1)
zero_next ring es place entry there is zeros same before other less found = elim (cases_lt before place) [
  | inl low ↦ zeros same before other low found
  | inr high ↦
      let at : before ≡ place = omega (arith, high, less) in
      let equal : entry ≡ other = (let a : slice_get es place ≡ Some other = subst (λ n. slice_get es n ≡ Some other) at found in cc) in
      subst (λ e. total ring same e.key es ≡ ring.zero) equal (is same)
]

pub entry_there : {F : Type 0} (xs : List (TupleEntry F)) (i : ℕ) (item : TupleEntry F) → i < length xs → item ≡ get_or xs i item → slice_get (entries_of xs) i ≡ Some (entry_of item)
entry_there xs i item below is = slice_get-map entry_of xs i ∙ ap (option_map entry_of) (slice_get-get_or xs i item below ∙ ap Some (sym is))

pub all_before : {F : Type 0} (xs : List (TupleEntry F)) (i place : ℕ) (e : Entry (List F) F) → length xs ≤ place → slice_get (entries_of xs) i ≡ Some e → i < place
all_before xs i place e past there = omega (arith, past, slice_get_within (entries_of xs) i e there, length-map xs entry_of)
