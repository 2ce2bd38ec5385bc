-- A sum over a basis, from its last place on.
use Rattle.std.proofs.Common.{◌≡◌, ◌∙◌, ℕ, ◌+◌, List, [], ◌∷◌, Some, drop, ap, sym}
use Rattle.std.specs.List.{slice_get}
use Rattle.std.proofs.lemmas.Option.{slice_get_within, get_or_from_slice_get}
use Rattle.stark_support.specs.Ring.{RingOps, RingLaws}
use Rattle.stark_support.specs.RingFacts.{zero_add}
use Rattle.stark_support.specs.Extension.{basis_sum}
use Rattle.stark_support.proofs.Places.{from_place}

abbrev pub onto : {E : Type 0} → RingOps E → E → List E → List E → E
onto ring start [] vs = start
onto ring start (e ∷ es) [] = start
onto ring start (e ∷ es) (v ∷ vs) = ring.add (ring.mul e v) (onto ring start es vs)

pub onto_is : {E : Type 0} {ring : RingOps E} (laws : RingLaws ring) (start : E) (es vs : List E) → onto ring start es vs ≡ ring.add (basis_sum ring (λ c. c) es vs) start
onto_is laws start [] vs = sym (zero_add laws start)
onto_is laws start (e ∷ es) [] = sym (zero_add laws start)
onto_is {E} {ring} laws start (e ∷ es) (v ∷ vs) = ap (ring.add (ring.mul e v)) (onto_is laws start es vs) ∙ sym (laws.add_assoc (ring.mul e v) (basis_sum ring (λ c. c) es vs) start)

dropped : {A : Type 0} (xs : List A) (i n : ℕ) (x : A) → i + 1 ≡ n → slice_get xs i ≡ Some x → drop i xs ≡ x ∷ drop n xs
dropped xs i n x next is = from_place xs i n x next (slice_get_within xs i x is) (sym (get_or_from_slice_get xs i x x is))

pub one_more_coordinate : {E : Type 0} (ring : RingOps E) (start : E) (basis vals : List E) (i n : ℕ) (e v rest new : E) → i + 1 ≡ n → slice_get basis i ≡ Some e → slice_get vals i ≡ Some v
    → rest ≡ onto ring start (drop n basis) (drop n vals) → new ≡ ring.add (ring.mul e v) rest → new ≡ onto ring start (drop i basis) (drop i vals)
one_more_coordinate ring start basis vals i n e v rest new next at_e at_v so_far is =
    is ∙ ap (ring.add (ring.mul e v)) so_far
    ∙ sym (ap (λ l. onto ring start l (drop i vals)) (dropped basis i n e next at_e) ∙ ap (onto ring start (e ∷ drop n basis)) (dropped vals i n v next at_v))

pub all_coordinates : {E : Type 0} {ring : RingOps E} (laws : RingLaws ring) (start : E) (basis vals : List E) (n : ℕ) (x : E) → n ≡ 0 → x ≡ onto ring start (drop n basis) (drop n vals) → x ≡ ring.add (basis_sum ring (λ c. c) basis vals) start
all_coordinates {E} {ring} laws start basis vals n x ended is = is ∙ ap (λ m. onto ring start (drop m basis) (drop m vals)) ended ∙ onto_is laws start basis vals
