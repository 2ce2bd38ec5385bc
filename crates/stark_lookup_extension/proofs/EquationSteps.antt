-- The equations of a row's lookups, call by call.
use Rattle.std.proofs.Common.{◌≡◌, ◌∙◌, ℕ, zero, suc, ◌+◌, ◌<◌, ◌≤◌, List, [], ◌∷◌, ◌++◌, length, map, drop, slice_get, Some, refl, sym, ap, subst, arith, append_assoc}
use Rattle.std.proofs.lemmas.List.{append-nil, drop_all}
use Rattle.std.specs.declared.vec.Vec.{Vec}
use Rattle.stark_support.specs.Faults.{PlaceByPlace}
use Rattle.stark_support.specs.Polynomial.{polynomial_ring, polynomial_sum, scaled}
use Rattle.stark_support.specs.Ring.{RingOps, difference}
use Rattle.stark_air.specs.Layout.{Layout}
use Rattle.stark_air.specs.Tree.{Tree}
use Rattle.stark_logup.specs.Coordinates.{combination, product_coordinates}
use Rattle.stark_logup.specs.RowConstraints.{AuxiliaryExpressions, CoordinatesOf, gap, group_denominator, group_numerator, helper_equation, helper_equations, lists_sum}
use Rattle.stark_lookup_air.specs.LookupConstraints.{Interaction}
use Rattle.stark_tree_air.specs.declared.list.TreeList.{TreeList}
use Rattle.stark_lookup_extension.specs.Written.{FactorsStand, KeepPlaces, RowsStand, Spelling, Stand, StandsAt, TableStands, Written, WritesOne, WritesTwo, product_of}
use Rattle.stark_lookup_extension.specs.WrittenEquations.{AuxiliaryStands, DrawsStand, EntryFractionStand, EntryStands, FractionStands, GroupHelperStand, GroupStands, GroupsAuxiliaryStand, GroupsHelpersStand, GroupsStand, IsNoFraction, equation_of, equations_of, fraction_of, fraction_with, gap_of, row_equations_of, sum_equation_of}
use Rattle.stark_lookup_extension.specs.declared.equations.WrittenAuxiliary.{WrittenAuxiliary}
use Rattle.stark_lookup_extension.specs.declared.equations.WrittenDraws.{WrittenDraws}
use Rattle.stark_lookup_extension.specs.declared.equations.WrittenEntry.{WrittenEntry}
use Rattle.stark_lookup_extension.specs.declared.equations.WrittenFraction.{WrittenFraction}
use Rattle.stark_lookup_extension.proofs.ListSteps.{Row, row_kept}
use Rattle.stark_lookup_extension.proofs.Loops.{From, Nothing, as_many, from_all, from_none, from_one, nothing_kept, place_of}
use Rattle.stark_lookup_extension.proofs.Steps.{Keep, after_it, all_after, each_kept, each_of, none_yet, place_kept, rows_kept, so_made, stand_kept, table_kept, unchanged}

-- ---- what stood still does

pub draws_kept : {F : Type 0} → Keep {F = F} DrawsStand
draws_kept ts us k draws c h = record {
  gamma = stand_kept ts us k draws.gamma.items c.gamma h.gamma;
  one = stand_kept ts us k draws.one.items c.one h.one;
  powers = rows_kept ts us k draws.powers.items c.powers h.powers;
  table = table_kept ts us k draws.table.items c.table h.table;
}

pub entry_kept : {F : Type 0} → Keep {F = F} EntryStands
entry_kept ts us k entry e h = record {
  key = stand_kept ts us k entry.key.items e.key h.key;
  multiplicity = place_kept ts us k entry.multiplicity e.multiplicity h.multiplicity;
}

pub group_kept : {F : Type 0} → Keep {F = F} GroupStands
group_kept = each_kept EntryStands entry_kept

pub groups_kept : {F A : Type 0} → Keep {F = F} (GroupsStand {A = A})
groups_kept ts us k groups gs h = each_of (λ group es. GroupStands ts group.items es) (λ group es. GroupStands us group.items es) (λ group es. group_kept ts us k group.items es) groups gs h

pub fraction_kept : {F : Type 0} → Keep {F = F} FractionStands
fraction_kept ts us k fraction parts h = record {
  denominator = stand_kept ts us k fraction.denominator.items parts.0 h.denominator;
  numerator = stand_kept ts us k fraction.numerator.items parts.1 h.numerator;
}

pub auxiliary_kept : {F : Type 0} → Keep {F = F} AuxiliaryStands
auxiliary_kept ts us k auxiliary a h = record {
  helpers = rows_kept ts us k auxiliary.helpers.items a.helpers h.helpers;
  sum = stand_kept ts us k auxiliary.sum.items a.sum h.sum;
  next = stand_kept ts us k auxiliary.next.items a.next h.next;
}

module _ {F : Type 0} (ring : RingOps (Tree F)) where
  abbrev pub Difference : TreeList F → List ℕ → List ℕ → List ℕ → TreeList F → Type 0
  Difference a xs ys ps b = WritesTwo Stand Stand Stand (difference (polynomial_ring ring)) a xs ys ps b

  abbrev pub Sums : TreeList F → List ℕ → List ℕ → List ℕ → TreeList F → Type 0
  Sums a xs ys ps b = WritesTwo Stand Stand Stand (polynomial_sum ring) a xs ys ps b

  abbrev pub Product : {A B : Type 0} → TreeList F → List (Vec (Vec ℕ A) B) → List ℕ → List ℕ → List ℕ → TreeList F → Type 0
  Product a table xs ys ps b = WritesTwo TableStands FactorsStand Stand (product_of ring) a table (xs, ys) ps b

  pub difference_steps : (a b c : TreeList F) (xs ys minus ps : List ℕ) → WritesOne Stand Stand (polynomial_ring ring).neg a ys minus b → Sums b xs minus ps c → Difference a xs ys ps c
  difference_steps a b c xs ys minus ps opposite add l ts us vs h r s =
      let w = opposite l ts vs h s in
      let v = add l w.trees us ((polynomial_ring ring).neg vs) w.spelling (stand_kept ts w.trees w.kept xs us r) w.made in
      after_it a b c w (so_made b c v v.made)

  pub product_steps : {A B : Type 0} (a b c : TreeList F) (table : List (Vec (Vec ℕ A) B)) (rows : List (Vec ℕ A)) (xs ys ps : List ℕ)
      → WritesTwo Stand TableStands RowsStand (λ us. map (combination ring us)) a ys table rows b → WritesTwo Stand RowsStand Stand (combination ring) b xs rows ps c → Product a table xs ys ps c
  product_steps a b c table rows xs ys ps combine total l ts cube us h r s =
      let w = combine l ts us.1 cube h s.1 r in
      let v = total l w.trees us.0 (map (combination ring us.1) cube) w.spelling (stand_kept ts w.trees w.kept xs us.0 s.0) w.made in
      after_it a b c w (so_made b c v v.made)

  module _ (draws : WrittenDraws) where
    pub gap_steps : (a b c : TreeList F) (tuple compressed ps : List ℕ) → WritesTwo Stand RowsStand Stand (combination ring) a tuple draws.powers.items compressed b → Difference b draws.gamma.items compressed ps c
        → WritesTwo DrawsStand Stand Stand (gap_of ring) a draws tuple ps c
    gap_steps a b c tuple compressed ps combine less l ts d us h r s =
        let w = combine l ts us d.powers h s r.powers in
        let v = less l w.trees d.gamma (combination ring us d.powers) w.spelling (stand_kept ts w.trees w.kept draws.gamma.items d.gamma r.gamma) w.made in
        after_it a b c w (so_made b c v v.made)

    module _ (a b c d e f : TreeList F) (entry : WrittenEntry) (rest new : WrittenFraction) (apart own others : List ℕ) where
      pub fraction_steps : WritesTwo DrawsStand Stand Stand (gap_of ring) a draws entry.key.items apart b → WritesTwo StandsAt Stand Stand (scaled ring) b entry.multiplicity rest.denominator.items own c
          → Product c draws.table.items apart rest.numerator.items others d → Sums d own others new.numerator.items e → Product e draws.table.items apart rest.denominator.items new.denominator.items f
          → WritesTwo DrawsStand EntryFractionStand FractionStands (fraction_with ring) a draws (entry, rest) new f
      fraction_steps gap_call scale multiply add last l ts k given h r s =
          let below = given.1.0 in
          let above = given.1.1 in
          let one = gap_call l ts k given.0.key h r s.0.key in
          let z = gap ring k given.0.key in
          let two = scale l one.trees given.0.multiplicity below one.spelling (one.kept _ _ s.0.multiplicity) (stand_kept ts one.trees one.kept rest.denominator.items below s.1.denominator) in
          let k2 : KeepPlaces ts two.trees = λ p t x. two.kept p t (one.kept p t x) in
          let apart2 = stand_kept one.trees two.trees two.kept apart z one.made in
          let three = multiply l two.trees k.table (z, above) two.spelling (table_kept ts two.trees k2 draws.table.items k.table r.table) (apart2, stand_kept ts two.trees k2 rest.numerator.items above s.1.numerator) in
          let k3 : KeepPlaces ts three.trees = λ p t x. three.kept p t (k2 p t x) in
          let apart3 = stand_kept two.trees three.trees three.kept apart z apart2 in
          let four = add l three.trees (scaled ring given.0.multiplicity below) (product_coordinates ring k.table z above) three.spelling
          (stand_kept two.trees three.trees three.kept own (scaled ring given.0.multiplicity below) two.made) three.made in
          let k4 : KeepPlaces ts four.trees = λ p t x. four.kept p t (k3 p t x) in
          let apart4 = stand_kept three.trees four.trees four.kept apart z apart3 in
          let five = last l four.trees k.table (z, below) four.spelling (table_kept ts four.trees k4 draws.table.items k.table r.table) (apart4, stand_kept ts four.trees k4 rest.denominator.items below s.1.denominator) in
          after_it a b f one (after_it b c f two (after_it c d f three (after_it d e f four (so_made e f five (record {
            denominator = five.made;
            numerator = stand_kept four.trees five.trees five.kept new.numerator.items (polynomial_sum ring (scaled ring given.0.multiplicity below) (product_coordinates ring k.table z above)) four.made;
          })))))

    pub no_entry : (fraction : WrittenFraction) → IsNoFraction draws fraction → (ts : List (Tree F)) (k : CoordinatesOf (Tree F)) → DrawsStand ts draws k → FractionStands ts fraction (fraction_of ring k [])
    no_entry fraction is ts k r = record {
      denominator = subst (λ ps. Stand ts ps k.one) (sym is.denominator) r.one;
      numerator = subst (λ ps. Stand ts ps []) (sym is.numerator) (none_yet (StandsAt ts));
    }

    -- the fraction of those from the place i on
    abbrev pub FractionFrom : TreeList F → List WrittenEntry → ℕ → WrittenFraction → TreeList F → Type 0
    FractionFrom old group i fraction new = From DrawsStand EntryStands FractionStands (fraction_of ring) (λ k e parts. fraction_with ring k (e, parts)) old draws group i fraction new

    pub fraction_none : (list : TreeList F) (group : List WrittenEntry) (fraction : WrittenFraction) → IsNoFraction draws fraction → FractionFrom list group (length group) fraction list
    fraction_none list group fraction is =
        from_none DrawsStand EntryStands FractionStands (fraction_of ring) (λ k e parts. fraction_with ring k (e, parts)) list draws group (length group) fraction (omega arith) (no_entry fraction is)

    pub fraction_one : (a b c : TreeList F) (group : List WrittenEntry) (i j : ℕ) (entry : WrittenEntry) (rest all : WrittenFraction) → i + 1 ≡ j → slice_get group i ≡ Some entry → FractionFrom a group j rest b
        → WritesTwo DrawsStand EntryFractionStand FractionStands (fraction_with ring) b draws (entry, rest) all c → FractionFrom a group i all c
    fraction_one a b c group i j entry rest all next is so_far one =
        from_one DrawsStand EntryStands FractionStands (fraction_of ring) (λ k e parts. fraction_with ring k (e, parts)) draws_kept entry_kept (λ k e es. refl) a b c draws group i j entry rest all next is so_far
        (λ l ts k e parts h r s q. one l ts k (e, parts) h r (s, q))

    pub fraction_all : (a b : TreeList F) (group : List WrittenEntry) (i : ℕ) (all : WrittenFraction) → i ≡ 0 → FractionFrom a group i all b → WritesTwo DrawsStand GroupStands FractionStands (fraction_of ring) a draws group all b
    fraction_all a b group i all ended so_far =
        from_all DrawsStand EntryStands FractionStands (fraction_of ring) (λ k e parts. fraction_with ring k (e, parts)) a b draws group all (subst (λ n. FractionFrom a group n all b) ended so_far)

    pub equation_steps : (a b c d : TreeList F) (group : List WrittenEntry) (helper product ps : List ℕ) (fraction : WrittenFraction)
        → WritesTwo DrawsStand GroupStands FractionStands (fraction_of ring) a draws group fraction b → Product b draws.table.items helper fraction.denominator.items product c
        → Difference c product fraction.numerator.items ps d → WritesTwo DrawsStand GroupHelperStand Stand (equation_of ring) a draws (group, helper) ps d
    equation_steps a b c d group helper product ps fraction first second third l ts k g h r s =
        let one = first l ts k g.0 h r s.0 in
        let below = group_denominator ring k g.0 in
        let above = group_numerator ring k g.0 in
        let two = second l one.trees k.table (g.1, below) one.spelling (table_kept ts one.trees one.kept draws.table.items k.table r.table) (stand_kept ts one.trees one.kept helper g.1 s.1, one.made.denominator) in
        let three = third l two.trees (product_coordinates ring k.table g.1 below) above two.spelling two.made (stand_kept one.trees two.trees two.kept fraction.numerator.items above one.made.numerator) in
        after_it a b d one (after_it b c d two (so_made c d three three.made))

    -- ---- the equations of the helpers, one group after the other

    pub record Equated {A B : Type 0} (ts : List (Tree F)) (groups : List (Vec WrittenEntry A)) (helpers : List (Vec ℕ B)) (k : CoordinatesOf (Tree F)) (gs : List (List (Interaction F))) (hs : List (List (Tree F))) (i : ℕ) (ps : List ℕ) : Type 0 where
      pub done : List (Tree F)
      pub made : Stand ts ps done
      pub split : done ++ helper_equations ring k (drop i gs) (drop i hs) ≡ helper_equations ring k gs hs
      pub given : DrawsStand ts draws k
      pub first : GroupsStand ts groups gs
      pub second : RowsStand ts helpers hs

    module _ {A B : Type 0} (groups : List (Vec WrittenEntry A)) (helpers : List (Vec ℕ B)) where
      abbrev pub EquatedSoFar : TreeList F → ℕ → List ℕ → TreeList F → Type 0
      EquatedSoFar old i ps new = (l : Layout) (ts : List (Tree F)) (k : CoordinatesOf (Tree F)) (gs : List (List (Interaction F))) (hs : List (List (Tree F))) → Spelling l old ts
          → DrawsStand ts draws k → GroupsStand ts groups gs → RowsStand ts helpers hs → Written l ts old new (λ us. Equated us groups helpers k gs hs i ps)

      pub equated_none : (list : TreeList F) (ps : List ℕ) → ps ≡ [] → EquatedSoFar list 0 ps list
      equated_none list ps none l ts k gs hs h r s t = unchanged list h (record {
        done = [];
        made = subst (λ qs. Stand ts qs []) (sym none) (none_yet (StandsAt ts));
        split = refl;
        given = r;
        first = s;
        second = t;
      })

      pub equated_one : (a b c : TreeList F) (i : ℕ) (group : Vec WrittenEntry A) (helper : Vec ℕ B) (equation ps qs : List ℕ) → slice_get groups i ≡ Some group → slice_get helpers i ≡ Some helper
          → qs ≡ ps ++ equation → EquatedSoFar a i ps b → WritesTwo DrawsStand GroupHelperStand Stand (equation_of ring) b draws (group.items, helper.items) equation c → EquatedSoFar a (i + 1) qs c
      equated_one a b c i group helper equation ps qs is_group is_helper added so_far one l ts k gs hs h r s t =
          let w = so_far l ts k gs hs h r s t in
          let e = w.made in
          let left = place_of (λ z es. GroupStands w.trees z.items es) groups gs i group e.first is_group in
          let right = place_of (λ z us. Stand w.trees z.items us) helpers hs i helper e.second is_helper in
          let v = one l w.trees k (left.there, right.there) w.spelling e.given (left.stands, right.stands) in
          let z = helper_equation ring k left.there right.there in
          let rest = helper_equations ring k (drop (i + 1) gs) (drop (i + 1) hs) in
          after_it a b c w (so_made b c v (record {
            done = e.done ++ z;
            made = subst (λ js. Stand v.trees js (e.done ++ z)) (sym added) (all_after (StandsAt v.trees) ps equation e.done z (stand_kept w.trees v.trees v.kept ps e.done e.made) v.made);
            split =
                append_assoc e.done z rest ∙ ap (λ js. e.done ++ helper_equations ring k js (right.there ∷ drop (i + 1) hs)) (sym left.opened)
                ∙ ap (λ js. e.done ++ helper_equations ring k (drop i gs) js) (sym right.opened) ∙ e.split;
            given = draws_kept w.trees v.trees v.kept draws k e.given;
            first = groups_kept w.trees v.trees v.kept groups gs e.first;
            second = rows_kept w.trees v.trees v.kept helpers hs e.second;
          }))

      pub equated_all : (a b : TreeList F) (i : ℕ) (ps : List ℕ) → length groups ≤ i → length groups ≡ length helpers → EquatedSoFar a i ps b
          → WritesTwo DrawsStand GroupsHelpersStand Stand (equations_of ring) a draws (groups, helpers) ps b
      equated_all a b i ps ended alike so_far l ts k given h r s =
          let w = so_far l ts k given.0 given.1 h r s.0 s.1 in
          let e = w.made in
          let no_group : drop i given.0 ≡ [] = drop_all i given.0 (let same = as_many (λ z es. GroupStands w.trees z.items es) groups given.0 e.first in omega (arith, same, ended)) in
          let all : e.done ≡ helper_equations ring k given.0 given.1 = sym (append-nil e.done) ∙ ap (λ js. e.done ++ helper_equations ring k js (drop i given.1)) (sym no_group) ∙ e.split in
          so_made a b w (subst (λ js. Stand w.trees ps js) all e.made)

    pub row_steps : {A : Type 0} (a b c : TreeList F) (groups : List (Vec WrittenEntry A)) (auxiliary : WrittenAuxiliary) (first last ps : List ℕ) → ps ≡ first ++ last
        → WritesTwo DrawsStand GroupsHelpersStand Stand (equations_of ring) a draws (groups, auxiliary.helpers.items) first b → WritesOne AuxiliaryStands Stand (sum_equation_of ring) b auxiliary last c
        → WritesTwo DrawsStand GroupsAuxiliaryStand Stand (row_equations_of ring) a draws (groups, auxiliary) ps c
    row_steps a b c groups auxiliary first last ps both helpers sum l ts k given h r s =
        let w = helpers l ts k (given.0, given.1.helpers) h r (s.0, s.1.helpers) in
        let v = sum l w.trees given.1 w.spelling (auxiliary_kept ts w.trees w.kept auxiliary given.1 s.1) in
        let hs = helper_equations ring k given.0 given.1.helpers in
        let e = sum_equation_of ring given.1 in
        after_it a b c w (so_made b c v (subst (λ js. Stand v.trees js (hs ++ e)) (sym both) (all_after (StandsAt v.trees) first last hs e (stand_kept w.trees v.trees v.kept first hs w.made) v.made)))

  -- ---- sums of rows

  module _ {A : Type 0} where
    abbrev pub TotalFrom : TreeList F → List (Vec ℕ A) → ℕ → List ℕ → TreeList F → Type 0
    TotalFrom old rows i ps new = From Nothing Row Stand (λ u vss. lists_sum ring vss) (λ u v total. polynomial_sum ring v total) old tt rows i ps new

    pub total_none : (list : TreeList F) (rows : List (Vec ℕ A)) (ps : List ℕ) → ps ≡ [] → TotalFrom list rows (length rows) ps list
    total_none list rows ps none =
        from_none Nothing Row Stand (λ u vss. lists_sum ring vss) (λ u v total. polynomial_sum ring v total) list tt rows (length rows) ps (omega arith) (λ ts u r. subst (λ qs. Stand ts qs []) (sym none) (none_yet (StandsAt ts)))

    pub total_one : (a b c : TreeList F) (rows : List (Vec ℕ A)) (i j : ℕ) (row : Vec ℕ A) (ps qs : List ℕ) → i + 1 ≡ j → slice_get rows i ≡ Some row → TotalFrom a rows j ps b → Sums b row.items ps qs c → TotalFrom a rows i qs c
    total_one a b c rows i j row ps qs next is so_far add =
        from_one Nothing Row Stand (λ u vss. lists_sum ring vss) (λ u v total. polynomial_sum ring v total) nothing_kept row_kept (λ u v vss. refl) a b c tt rows i j row ps qs next is so_far (λ l ts u v w h r s q. add l ts v w h s q)

    pub total_all : (a b : TreeList F) (rows : List (Vec ℕ A)) (i : ℕ) (ps : List ℕ) → i ≡ 0 → TotalFrom a rows i ps b → WritesOne RowsStand Stand (lists_sum ring) a rows ps b
    total_all a b rows i ps ended so_far l ts vss h s =
        from_all Nothing Row Stand (λ u vss. lists_sum ring vss) (λ u v total. polynomial_sum ring v total) a b tt rows ps (subst (λ n. TotalFrom a rows n ps b) ended so_far) l ts tt vss h tt s

  pub sum_steps : (a b c d : TreeList F) (auxiliary : WrittenAuxiliary) (added after ps : List ℕ) → WritesOne RowsStand Stand (lists_sum ring) a auxiliary.helpers.items added b → Sums b auxiliary.sum.items added after c
      → Difference c auxiliary.next.items after ps d → WritesOne AuxiliaryStands Stand (sum_equation_of ring) a auxiliary ps d
  sum_steps a b c d auxiliary added after ps total add less l ts k h r =
      let one = total l ts k.helpers h r.helpers in
      let two = add l one.trees k.sum (lists_sum ring k.helpers) one.spelling (stand_kept ts one.trees one.kept auxiliary.sum.items k.sum r.sum) one.made in
      let k2 : KeepPlaces ts two.trees = λ p t x. two.kept p t (one.kept p t x) in
      let three = less l two.trees k.next (polynomial_sum ring k.sum (lists_sum ring k.helpers)) two.spelling (stand_kept ts two.trees k2 auxiliary.next.items k.next r.next) two.made in
      after_it a b d one (after_it b c d two (so_made c d three three.made))
