-- Lists of nodes that are added and multiplied.
use Rattle.std.proofs.Common.{◌≡◌, ◌∙◌, ℕ, zero, suc, ◌+◌, ◌-◌, ◌<◌, ◌≤◌, List, [], ◌∷◌, ◌++◌, length, map, drop, take, min, slice_get, Some, refl, sym, ap, subst, arith, append_assoc}
use Rattle.std.proofs.lemmas.List.{append-nil, drop_all, take_all}
use Rattle.std.specs.declared.vec.Vec.{Vec}
use Rattle.stark_support.specs.Faults.{PlaceByPlace}
use Rattle.stark_support.specs.Polynomial.{polynomial_sum, scaled}
use Rattle.stark_support.specs.Ring.{RingOps}
use Rattle.stark_air.specs.Layout.{Layout}
use Rattle.stark_air.specs.Tree.{Tree}
use Rattle.stark_logup.specs.Coordinates.{combination}
use Rattle.stark_tree_air.specs.declared.list.TreeList.{TreeList}
use Rattle.stark_lookup_extension.specs.Written.{KeepPlaces, RowsStand, Spelling, Stand, StandsAt, Written, WritesTwo}
use Rattle.stark_lookup_extension.proofs.Loops.{as_many, place_of, rest_stands}
use Rattle.stark_lookup_extension.proofs.Steps.{after_it, all_after, none_yet, one_after, rows_kept, so_made, stand_kept, unchanged, Keep}

nothing_added : {K : Type 0} (ring : RingOps K) (us : List K) → polynomial_sum ring us [] ≡ us
nothing_added ring [] = refl
nothing_added ring (u ∷ us) = refl

nothing_combined : {K : Type 0} (ring : RingOps K) (us : List K) → combination ring us [] ≡ []
nothing_combined ring [] = refl
nothing_combined ring (u ∷ us) = refl

pub below_first : (i m n : ℕ) → i < min m n → i < m
below_first i m n h = omega (arith, h)

pub below_second : (i m n : ℕ) → i < min m n → i < n
below_second i m n h = omega (arith, h)

-- what is left of a list
pub rest_is : {A : Type 0} (xs : List A) (i : ℕ) → take (length xs - i) (drop i xs) ≡ drop i xs
rest_is xs zero = take_all (length xs - 0) xs (omega arith)
rest_is [] (suc i) = take_all (0 - suc i) [] (omega arith)
rest_is (x ∷ xs) (suc i) = let same : suc (length xs) - suc i ≡ length xs - i = omega arith in ap (λ n. take n (drop i xs)) same ∙ rest_is xs i

-- a row of places, and rows of a table
abbrev pub Row : {F A : Type 0} → List (Tree F) → Vec ℕ A → List (Tree F) → Type 0
Row ts row us = Stand ts row.items us

abbrev pub Rows : {F A B : Type 0} → List (Tree F) → Vec (Vec ℕ A) B → List (List (Tree F)) → Type 0
Rows ts rows uss = RowsStand ts rows.items uss

pub row_kept : {F A : Type 0} → Keep {F = F} (Row {A = A})
row_kept ts us k row vs h = stand_kept ts us k row.items vs h

pub all_rows_kept : {F A B : Type 0} → Keep {F = F} (Rows {A = A} {B = B})
all_rows_kept ts us k rows vss h = rows_kept ts us k rows.items vss h

module _ {F : Type 0} (ring : RingOps (Tree F)) where
  -- the sums before the place i
  pub record Added (ts : List (Tree F)) (xs ys : List ℕ) (us vs : List (Tree F)) (i : ℕ) (ps : List ℕ) : Type 0 where
    pub done : List (Tree F)
    pub made : Stand ts ps done
    pub split : done ++ polynomial_sum ring (drop i us) (drop i vs) ≡ polynomial_sum ring us vs
    pub first : Stand ts xs us
    pub second : Stand ts ys vs

  abbrev pub AddedSoFar : TreeList F → List ℕ → List ℕ → ℕ → List ℕ → TreeList F → Type 0
  AddedSoFar old xs ys i ps new = (l : Layout) (ts : List (Tree F)) (us vs : List (Tree F)) → Spelling l old ts → Stand ts xs us → Stand ts ys vs → Written l ts old new (λ ws. Added ws xs ys us vs i ps)

  pub added_none : (list : TreeList F) (xs ys ps : List ℕ) → ps ≡ [] → AddedSoFar list xs ys 0 ps list
  added_none list xs ys ps none l ts us vs h r s = unchanged list h (record {
    done = [];
    made = subst (λ qs. Stand ts qs []) (sym none) (none_yet (StandsAt ts));
    split = refl;
    first = r;
    second = s;
  })

  pub added_one : (a b c : TreeList F) (xs ys : List ℕ) (i x y p : ℕ) (ps qs : List ℕ) → slice_get xs i ≡ Some x → slice_get ys i ≡ Some y → qs ≡ ps ++ p ∷ [] → AddedSoFar a xs ys i ps b
      → WritesTwo StandsAt StandsAt StandsAt ring.add b x y p c → AddedSoFar a xs ys (i + 1) qs c
  added_one a b c xs ys i x y p ps qs is_x is_y pushed so_far one l ts us vs h r s =
      let w = so_far l ts us vs h r s in
      let added = w.made in
      let left = place_of (StandsAt w.trees) xs us i x added.first is_x in
      let right = place_of (StandsAt w.trees) ys vs i y added.second is_y in
      let v = one l w.trees left.there right.there w.spelling left.stands right.stands in
      let z = ring.add left.there right.there in
      let rest = polynomial_sum ring (drop (i + 1) us) (drop (i + 1) vs) in
      after_it a b c w (so_made b c v (record {
        done = added.done ++ z ∷ [];
        made = subst (λ js. Stand v.trees js (added.done ++ z ∷ [])) (sym pushed) (one_after (StandsAt v.trees) ps added.done p z (stand_kept w.trees v.trees v.kept ps added.done added.made) v.made);
        split =
            append_assoc added.done (z ∷ []) rest ∙ ap (λ js. added.done ++ polynomial_sum ring js (right.there ∷ drop (i + 1) vs)) (sym left.opened)
            ∙ ap (λ js. added.done ++ polynomial_sum ring (drop i us) js) (sym right.opened) ∙ added.split;
        first = stand_kept w.trees v.trees v.kept xs us added.first;
        second = stand_kept w.trees v.trees v.kept ys vs added.second;
      }))

  tails : (i : ℕ) (us vs : List (Tree F)) → i ≡ min (length us) (length vs) → drop i us ++ drop i vs ≡ polynomial_sum ring (drop i us) (drop i vs)
  tails zero [] vs e = refl
  tails (suc i) [] vs e = absurd (omega arith)
  tails zero (u ∷ us) [] e = append-nil (u ∷ us)
  tails zero (u ∷ us) (v ∷ vs) e = absurd (omega arith)
  tails (suc i) (u ∷ us) [] e = absurd (omega arith)
  tails (suc i) (u ∷ us) (v ∷ vs) e = tails i us vs (omega arith)

  pub added_all : (a b : TreeList F) (xs ys : List ℕ) (i : ℕ) (ps qs : List ℕ) → i ≡ min (length xs) (length ys) → qs ≡ (ps ++ drop i xs) ++ drop i ys → AddedSoFar a xs ys i ps b
      → WritesTwo Stand Stand Stand (polynomial_sum ring) a xs ys qs b
  added_all a b xs ys i ps qs end extended so_far l ts us vs h r s =
      let w = so_far l ts us vs h r s in
      let added = w.made in
      let R = StandsAt w.trees in
      let left = as_many R xs us added.first in
      let right = as_many R ys vs added.second in
      let here : i ≡ min (length us) (length vs) = end ∙ ap (λ n. min n (length ys)) left ∙ ap (min (length us)) right in
      let all : (added.done ++ drop i us) ++ drop i vs ≡ polynomial_sum ring us vs =
      append_assoc added.done (drop i us) (drop i vs) ∙ ap (λ js. added.done ++ js) (tails i us vs here) ∙ added.split in
      so_made a b w (subst (λ js. Stand w.trees qs js) all (subst (λ js. Stand w.trees js ((added.done ++ drop i us) ++ drop i vs)) (sym extended)
      (all_after R (ps ++ drop i xs) (drop i ys) (added.done ++ drop i us) (drop i vs)
      (all_after R ps (drop i xs) added.done (drop i us) added.made (rest_stands R i xs us added.first)) (rest_stands R i ys vs added.second))))

  -- ---- sums of lists, each times its node

  pub record Combined {A : Type 0} (ts : List (Tree F)) (xs : List ℕ) (rows : List (Vec ℕ A)) (us : List (Tree F)) (vss : List (List (Tree F))) (i : ℕ) (ps : List ℕ) : Type 0 where
    pub made : Stand ts ps (combination ring (drop i us) (drop i vss))
    pub first : Stand ts xs us
    pub second : RowsStand ts rows vss

  abbrev pub CombinedFrom : {A : Type 0} → TreeList F → List ℕ → List (Vec ℕ A) → ℕ → List ℕ → TreeList F → Type 0
  CombinedFrom old xs rows i ps new = (l : Layout) (ts us : List (Tree F)) (vss : List (List (Tree F))) → Spelling l old ts → Stand ts xs us → RowsStand ts rows vss
      → Written l ts old new (λ ws. Combined ws xs rows us vss i ps)

  none_combined : (i : ℕ) (us : List (Tree F)) (vss : List (List (Tree F))) → i ≡ min (length us) (length vss) → combination ring (drop i us) (drop i vss) ≡ []
  none_combined zero [] vss e = refl
  none_combined (suc i) [] vss e = absurd (omega arith)
  none_combined zero (u ∷ us) [] e = refl
  none_combined zero (u ∷ us) (v ∷ vss) e = absurd (omega arith)
  none_combined (suc i) (u ∷ us) [] e = absurd (omega arith)
  none_combined (suc i) (u ∷ us) (v ∷ vss) e = none_combined i us vss (omega arith)

  module _ {A : Type 0} where
    pub combined_none : (list : TreeList F) (xs : List ℕ) (rows : List (Vec ℕ A)) (i : ℕ) (ps : List ℕ) → i ≡ min (length xs) (length rows) → ps ≡ [] → CombinedFrom list xs rows i ps list
    combined_none list xs rows i ps end none l ts us vss h r s =
        let left = as_many (StandsAt ts) xs us r in
        let right = as_many (λ row vs. Stand ts row.items vs) rows vss s in
        let here : i ≡ min (length us) (length vss) = end ∙ ap (λ n. min n (length rows)) left ∙ ap (min (length us)) right in
        unchanged list h (record {
          made = subst (λ qs. Stand ts qs (combination ring (drop i us) (drop i vss))) (sym none) (subst (λ zs. Stand ts [] zs) (sym (none_combined i us vss here)) (none_yet (StandsAt ts)));
          first = r;
          second = s;
        })

    pub combined_one : (a b c d : TreeList F) (xs : List ℕ) (rows : List (Vec ℕ A)) (i j x : ℕ) (row : Vec ℕ A) (part ps qs : List ℕ) → i + 1 ≡ j → slice_get xs i ≡ Some x → slice_get rows i ≡ Some row
        → CombinedFrom a xs rows j ps b → WritesTwo StandsAt Stand Stand (scaled ring) b x row.items part c → WritesTwo Stand Stand Stand (polynomial_sum ring) c part ps qs d → CombinedFrom a xs rows i qs d
    combined_one a b c d xs rows i j x row part ps qs next is_x is_row so_far scale add l ts us vss h r s =
        let w = so_far l ts us vss h r s in
        let combined = w.made in
        let left = place_of (StandsAt w.trees) xs us i x combined.first is_x in
        let right = place_of (λ z vs. Stand w.trees z.items vs) rows vss i row combined.second is_row in
        let v = scale l w.trees left.there right.there w.spelling left.stands right.stands in
        let total = combination ring (drop (i + 1) us) (drop (i + 1) vss) in
        let before : Stand w.trees ps total = subst (λ n. Stand w.trees ps (combination ring (drop n us) (drop n vss))) (sym next) combined.made in
        let z = add l v.trees (scaled ring left.there right.there) total v.spelling v.made (stand_kept w.trees v.trees v.kept ps total before) in
        let kept : KeepPlaces w.trees z.trees = λ p t e. z.kept p t (v.kept p t e) in
        let same : polynomial_sum ring (scaled ring left.there right.there) total ≡ combination ring (drop i us) (drop i vss) =
        ap (λ zs. combination ring zs (right.there ∷ drop (i + 1) vss)) (sym left.opened) ∙ ap (combination ring (drop i us)) (sym right.opened) in
        after_it a b d w (after_it b c d v (so_made c d z (record {
          made = subst (λ zs. Stand z.trees qs zs) same z.made;
          first = stand_kept w.trees z.trees kept xs us combined.first;
          second = rows_kept w.trees z.trees kept rows vss combined.second;
        })))

    pub combined_all : (a b : TreeList F) (xs : List ℕ) (rows : List (Vec ℕ A)) (i : ℕ) (ps : List ℕ) → i ≡ 0 → CombinedFrom a xs rows i ps b → WritesTwo Stand RowsStand Stand (combination ring) a xs rows ps b
    combined_all a b xs rows i ps ended so_far l ts us vss h r s =
        let w = (subst (λ n. CombinedFrom a xs rows n ps b) ended so_far) l ts us vss h r s in
        so_made a b w w.made.made
