-- What the leaves of a row stand for, and how one assertion follows another.
use Rattle.std.proofs.Common.{◌≡◌, ℕ, ◌<◌, List, [], ◌∷◌, ◌++◌, Result, Ok, Err, Option, Some, None, IfOk, OnErr, IsErr, refl, sym, ◌∙◌, ap, subst, length, get_or, append_assoc}
use Rattle.std.specs.List.{slice_get}
use Rattle.std.proofs.lemmas.Option.{get_or_from_slice_get, slice_get-get_or}
use Rattle.stark_air.specs.Tree.{Constraint}
use Rattle.stark_air.specs.Layout.{Layout}
use Rattle.stark_air.specs.Value.{Environment, IsVariableOf, Shows}
use Rattle.stark_air.specs.Emission.{EmissionLaws, AfterBeginning, Asserted}

-- The variable that a row has in a column stands for the column's value.
pub shown : {V : Type 0} {E : Type 0} (from_gives : V → E → Type 0) (stands : E → E → Type 0) (values : ℕ → E) (count : ℕ) (row : ℕ → Option V) (c : ℕ) (x : V) (y : E) → Shows from_gives stands values count row → c < count → row c ≡ Some x → from_gives x y → stands (values c) y
shown from_gives stands values count row c x y h within read given = subst (λ o. IsVariableOf from_gives stands (values c) o) read (h.shows c within) y given

-- The variable in a slice that was indexed stands for the column's value.
pub shown_read : {V : Type 0} {E : Type 0} (from_gives : V → E → Type 0) (stands : E → E → Type 0) (values : ℕ → E) (count : ℕ) (row : List V) (c : ℕ) (x : V) (y : E) → Shows from_gives stands values count (slice_get row) → c < count → x ≡ get_or row c x → from_gives x y → stands (values c) y
shown_read {V} from_gives stands values count row c x y h within read given = go (slice_get row c) refl (h.shows c within) where
  go : (o : Option V) → slice_get row c ≡ o → IsVariableOf from_gives stands (values c) o → stands (values c) y
  go (Some v) is k = k y (subst (λ w. from_gives w y) (read ∙ get_or_from_slice_get row c v x is) given)
  go None is k = absurd k

-- A slice shows the values that its elements are turned into.
pub slice_shows : {V : Type 0} {E : Type 0} (from_gives : V → E → Type 0) (stands : E → E → Type 0) (f : V → E) (row : List V) (blank : V) → ((x : V) (y : E) → from_gives x y → stands (f x) y) → Shows from_gives stands (λ c. f (get_or row c blank)) (length row) (slice_get row)
slice_shows from_gives stands f row blank law = record {
  shows = λ c within.
      let read : slice_get row c ≡ Some (get_or row c blank) = slice_get-get_or row c blank within in
      subst (λ o. IsVariableOf from_gives stands (f (get_or row c blank)) o) (sym read) (law (get_or row c blank));
}

-- What holds of an Ok, and what follows.
pub if_ok_map : {A : Type 0} {B : Type 0} {P : Type 0} {Q : Type 0} (r : Result A B) → IfOk r (λ _. P) → (P → Q) → IfOk r (λ _. Q)
if_ok_map (Ok x) h f = f h
if_ok_map (Err x) h f = tt

module _ {F : Type 0} {S : Type 0} {E : Type 0} {A : Type 0} {B : Type 0} {environment : S → Environment E} {layout : S → Layout} {after : S → List (Constraint F) → S → Type 0} (laws : EmissionLaws environment layout after) (s t u : S) (x : Constraint F) (cs : List (Constraint F)) (r : Result A B) where
  -- One assertion, and then the others.
  pub then_asserted : after s (x ∷ []) t → Asserted after r t cs u → Asserted after r s (x ∷ cs) u
  then_asserted h k = go r k where
    go : (r : Result A B) → Asserted after r t cs u → Asserted after r s (x ∷ cs) u
    go (Ok v) k = laws.both s t u (x ∷ []) cs h k
    go (Err v) k = record { beginning = x ∷ k.beginning; rest = k.rest; joined = ap (λ l. x ∷ l) k.joined; asserted = laws.both s t u (x ∷ []) k.beginning h k.asserted }

  -- One assertion, and then a last step, which asserts nothing where it is refused.
  pub two_asserted : after s (x ∷ []) t → IfOk r (λ _. after t cs u) → OnErr r (after t [] u) → Asserted after r s (x ∷ cs) u
  two_asserted h k e = then_asserted h (go r k e) where
    go : (r : Result A B) → IfOk r (λ _. after t cs u) → OnErr r (after t [] u) → Asserted after r t cs u
    go (Ok v) k e = k
    go (Err v) k e = record { beginning = []; rest = cs; joined = refl; asserted = e }

-- Lists of constraints, one after the other: `r` is what the last step answers.
module _ {F : Type 0} {S : Type 0} {E : Type 0} {A : Type 0} {B : Type 0} {environment : S → Environment E} {layout : S → Layout} {after : S → List (Constraint F) → S → Type 0} (laws : EmissionLaws environment layout after) where
  -- A last step, which asserts nothing where it is refused.
  pub last_asserted : (s t : S) (cs : List (Constraint F)) (r : Result A B) → IfOk r (λ _. after s cs t) → OnErr r (after s [] t) → Asserted after r s cs t
  last_asserted s t cs (Ok v) h e = h
  last_asserted s t cs (Err v) h e = record { beginning = []; rest = cs; joined = refl; asserted = e }

  -- A step that was refused before it asserted anything.
  pub refused_asserted : (s t : S) (cs : List (Constraint F)) (r : Result A B) → IsErr r → after s [] t → Asserted after r s cs t
  refused_asserted s t cs (Err v) is h = record { beginning = []; rest = cs; joined = refl; asserted = h }
  refused_asserted s t cs (Ok v) is h = absurd (cc)

  -- A list, and then the others.
  pub all_asserted : (s t u : S) (cs ds : List (Constraint F)) (r : Result A B) → after s cs t → Asserted after r t ds u → Asserted after r s (cs ++ ds) u
  all_asserted s t u cs ds (Ok v) h k = laws.both s t u cs ds h k
  all_asserted s t u cs ds (Err v) h k = record {
    beginning = cs ++ k.beginning;
    rest = k.rest;
    joined = append_assoc cs k.beginning k.rest ∙ ap (λ l. cs ++ l) k.joined;
    asserted = laws.both s t u cs k.beginning h k.asserted;
  }

  -- A beginning of the first list is one of the lists joined.
  pub begun_asserted : (s t : S) (cs ds : List (Constraint F)) (r : Result A B) → IsErr r → AfterBeginning after s cs t → Asserted after r s (cs ++ ds) t
  begun_asserted s t cs ds (Err v) is h = record {
    beginning = h.beginning;
    rest = h.rest ++ ds;
    joined = sym (append_assoc h.beginning h.rest ds) ∙ ap (λ l. l ++ ds) h.joined;
    asserted = h.asserted;
  }
  begun_asserted s t cs ds (Ok v) is h = absurd (cc)
