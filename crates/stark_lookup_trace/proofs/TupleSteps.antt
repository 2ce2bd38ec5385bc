-- The loops that compress tuples.
use Rattle.std.proofs.Common.{◌≡◌, ◌∙◌, ℕ, ◌+◌, ◌<◌, ◌≤◌, List, [], ◌∷◌, ◌++◌, length, get_or, map, take, sym, ap, refl}
use Rattle.std.proofs.lemmas.List.{length-map, map-append, take_all, take_more}
use Rattle.std.proofs.lemmas.Simd.{map-map}
use Rattle.stark_support.specs.Ring.{RingOps}
use Rattle.stark_support.specs.Polynomial.{value, value_over}
use Rattle.stark_logup.specs.Columns.{entry_of}
use Rattle.stark_logup.specs.Lookups.{compressed}
use Rattle.std.specs.declared.vec.Vec.{Vec}
use Rattle.stark_lookup_trace.specs.AuxiliaryColumns.{entries_of}
use Rattle.stark_lookup_trace.specs.Tuples.{entry_over, keyed_by, tuples_of}
use Rattle.stark_lookup_trace.proofs.KeySteps.{length_entries}
use Rattle.stark_lookup_trace.specs.declared.tuples.TupleEntry.{TupleEntry}

-- what the loop has made, and one more
pub one_more_made : {A B C : Type 0} (made : A → C) (wanted : B → C) (xs : List B) (i : ℕ) (x : B) (y : A) (old new : List A) → i < length xs → x ≡ get_or xs i x → made y ≡ wanted x
    → new ≡ old ++ y ∷ [] → map made old ≡ map wanted (take i xs) → map made new ≡ map wanted (take (i + 1) xs)
one_more_made made wanted xs i x y old new within is same pushed so_far =
    ap (map made) pushed ∙ map-append made old (y ∷ []) ∙ ap (λ t. t ++ made y ∷ []) so_far ∙ ap (λ z. map wanted (take i xs) ++ z ∷ []) same
    ∙ sym (map-append wanted (take i xs) (x ∷ [])) ∙ ap (λ z. map wanted (take i xs ++ z ∷ [])) is ∙ ap (map wanted) (sym (take_more xs i x within))

module _ {F E : Type 0} (ring : RingOps E) (embed : F → E) where
  value_of_embedded : (p : List F) (x : E) → value_over ring embed p x ≡ value ring (map embed p) x
  value_of_embedded [] x = refl
  value_of_embedded (c ∷ p) x = ap (λ w. ring.add (embed c) (ring.mul w x)) (value_of_embedded p x)

  pub entry_is_compressed : (beta : E) (e : TupleEntry F) (key multiplicity : E) → key ≡ value_over ring embed e.tuple.items beta → multiplicity ≡ embed e.multiplicity
      → entry_of (key, multiplicity) ≡ compressed ring beta (entry_over embed e)
  entry_is_compressed beta e key multiplicity is_key is_multiplicity =
      ap (λ k. entry_of (k, multiplicity)) (is_key ∙ value_of_embedded e.tuple.items beta)
      ∙ ap (λ m. entry_of (value ring (map embed e.tuple.items) beta, m)) is_multiplicity

-- all is made
pub all_made : {A B C : Type 0} (compress : B → C) (over : A → B) (xs : List A) (i : ℕ) (made : List C) → length xs ≤ i → made ≡ map (λ x. compress (over x)) (take i xs)
    → made ≡ map compress (map over xs)
all_made compress over xs i made ended so_far = so_far ∙ ap (map (λ x. compress (over x))) (take_all i xs ended) ∙ sym (map-map compress over xs)

pub length_keyed : {F E B : Type 0} (ring : RingOps E) (embed : F → E) (beta : E) (groups : List (Vec (TupleEntry F) B)) → length (keyed_by ring embed beta groups) ≡ length groups
length_keyed ring embed beta groups = length-map (tuples_of embed groups) (map (compressed ring beta)) ∙ length-map groups (λ g. map (entry_over embed) g.items)

pub as_many_groups : {F E A B : Type 0} (ring : RingOps E) (embed : F → E) (beta : E) (made : List (Vec (E × E) A)) (groups : List (Vec (TupleEntry F) B))
    → entries_of made ≡ keyed_by ring embed beta groups → length made ≡ length groups
as_many_groups ring embed beta made groups same = sym (length_entries made) ∙ ap length same ∙ length_keyed ring embed beta groups
