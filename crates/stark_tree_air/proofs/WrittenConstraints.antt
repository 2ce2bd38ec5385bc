-- Constraints that are written one after the other.
use Rattle.std.proofs.Common.{◌≡◌, ◌∙◌, ℕ, zero, suc, ◌+◌, ◌<◌, ◌≤◌, nat_lt, ◌&&◌, Bool, List, [], ◌∷◌, ◌++◌, Option, Some, None, Result, Ok, Err, IfOk, OnOk, length, map, drop, get_or, refl, sym, ap, subst, arith, append_assoc, true, false}
use Rattle.std.proofs.lemmas.List.{append-nil, drop_all, map-append}
use Rattle.stark_support.proofs.Places.{from_place}
use Rattle.stark_air.specs.Layout.{Layout, TreeWithin}
use Rattle.stark_air.specs.Tree.{Tree, Constraint, base, extension, constant, main_current, main_next, preprocessed_current, preprocessed_next, public_value, periodic_value, first_row, last_row, transition, sum, difference, product, negation}
use Rattle.stark_symbolic.specs.declared.builder.SymbolicConstraint.{SymbolicConstraint}
use Rattle.stark_symbolic.specs.declared.builder.SymbolicConstraint.TheVariants as symbolic
use Rattle.stark_tree_air.proofs.WrittenTrees.{at_last, longer}
use Rattle.stark_tree_air.specs.Nodes.{tree_at, marked_tree, ConstraintFits, ConstraintsFit}
use Rattle.stark_tree_air.specs.Writing.{Holds, WritesTree, Writes, Spells, SpellsAll, OneMore, expressed, tree_within, constraint_within, all_within}
use Rattle.stark_tree_air.specs.declared.list.TreeList.{TreeList}
use Rattle.stark_tree_air.specs.declared.node.TreeConstraint.{TreeConstraint}
use Rattle.stark_tree_air.specs.declared.node.TreeConstraint.TheVariants.{Base, Extension}

both_true : (a b : Bool) → a && b ≡ true → (a ≡ true) × (b ≡ true)
both_true true b e = (refl, e)
both_true false b e = absurd (cc)

below : (i n : ℕ) → nat_lt i n ≡ true → i < n
below i n h = grind arith

-- The test says so.
pub within_tested : {F : Type 0} (l : Layout) (t : Tree F) → tree_within l t ≡ true → TreeWithin l t
within_tested l (constant k) e = tt
within_tested l (main_current c) e = below c l.main e
within_tested l (main_next c) e = below c l.main_next e
within_tested l (preprocessed_current c) e = below c l.preprocessed e
within_tested l (preprocessed_next c) e = below c l.preprocessed_next e
within_tested l (public_value i) e = below i l.public_values e
within_tested l (periodic_value c) e = below c l.periodics e
within_tested l first_row e = tt
within_tested l last_row e = tt
within_tested l transition e = tt
within_tested l (sum t u) e = let both = both_true (tree_within l t) (tree_within l u) e in (within_tested l t both.0, within_tested l u both.1)
within_tested l (difference t u) e = let both = both_true (tree_within l t) (tree_within l u) e in (within_tested l t both.0, within_tested l u both.1)
within_tested l (product t u) e = let both = both_true (tree_within l t) (tree_within l u) e in (within_tested l t both.0, within_tested l u both.1)
within_tested l (negation t) e = within_tested l t e

same_tree : {F : Type 0} (ts vs : List (Tree F)) (i : ℕ) → i < length ts → tree_at (ts ++ vs) i ≡ tree_at ts i
same_tree [] vs i below = absurd (omega arith)
same_tree (t ∷ ts) vs zero below = refl
same_tree (t ∷ ts) vs (suc i) below = same_tree ts vs i (omega arith)

same_marked : {F : Type 0} (ts vs : List (Tree F)) (cs : List TreeConstraint) → ConstraintsFit (length ts) cs → map (marked_tree (ts ++ vs)) cs ≡ map (marked_tree ts) cs
same_marked ts vs [] f = refl
same_marked ts vs (Base i ∷ cs) f = ap (λ t. base t ∷ map (marked_tree (ts ++ vs)) cs) (same_tree ts vs i f.0) ∙ ap (λ ds. base (tree_at ts i) ∷ ds) (same_marked ts vs cs f.1)
same_marked ts vs (Extension i ∷ cs) f = ap (λ t. extension t ∷ map (marked_tree (ts ++ vs)) cs) (same_tree ts vs i f.0) ∙ ap (λ ds. extension (tree_at ts i) ∷ ds) (same_marked ts vs cs f.1)

more_fits : (m n : ℕ) (cs : List TreeConstraint) → m ≤ n → ConstraintsFit m cs → ConstraintsFit n cs
more_fits m n [] le f = tt
more_fits m n (Base i ∷ cs) le f = let g = f.0 in (omega (arith, g), more_fits m n cs le f.1)
more_fits m n (Extension i ∷ cs) le f = let g = f.0 in (omega (arith, g), more_fits m n cs le f.1)

one_more_fits : (n : ℕ) (cs : List TreeConstraint) (c : TreeConstraint) → ConstraintsFit n cs → ConstraintFits n c → ConstraintsFit n (cs ++ c ∷ [])
one_more_fits n [] c f g = (g, tt)
one_more_fits n (Base i ∷ cs) c f g = (f.0, one_more_fits n cs c f.1 g)
one_more_fits n (Extension i ∷ cs) c f g = (f.0, one_more_fits n cs c f.1 g)

not_shorter : {A : Type 0} (xs ys : List A) → length xs ≤ length (xs ++ ys)
not_shorter [] ys = omega arith
not_shorter (x ∷ xs) ys = let h = not_shorter xs ys in omega (arith, h)

-- A constraint behind those that are spelled.
module _ {F : Type 0} (mark : Tree F → Constraint F) (at : ℕ → TreeConstraint)
    (marked : (ts : List (Tree F)) (i : ℕ) → marked_tree ts (at i) ≡ mark (tree_at ts i))
    (fits : (n i : ℕ) → i < n → ConstraintFits n (at i)) where
  spells_more : (l : Layout) (t : Tree F) (old new last : TreeList F) (p : ℕ) (cs : List (Constraint F)) → TreeWithin l t → WritesTree t old p new → new.constraints.items ≡ old.constraints.items →
      last.constants.items ≡ new.constants.items → last.nodes.items ≡ new.nodes.items → last.constraints.items ≡ new.constraints.items ++ at p ∷ [] → Spells l old cs → Spells l last (cs ++ mark t ∷ [])
  spells_more l t old new last p cs within written kept same_constants same_nodes pushed h =
      let behind = written.behind l h.trees h.holds within in
      let front = h.trees ++ behind.more in
      let ts = front ++ t ∷ [] in
      let joined : ts ≡ h.trees ++ (behind.more ++ t ∷ []) = append_assoc h.trees behind.more (t ∷ []) in
      let not_less : length h.trees ≤ length ts = subst (λ us. length h.trees ≤ length us) (sym joined) (not_shorter h.trees (behind.more ++ t ∷ [])) in
      let here : p < length ts = let e = longer front t in let f = behind.place in omega (arith, e, f) in
      let constraints : last.constraints.items ≡ old.constraints.items ++ at p ∷ [] = pushed ∙ ap (λ ds. ds ++ at p ∷ []) kept in
      let before : map (marked_tree ts) old.constraints.items ≡ cs =
      ap (λ us. map (marked_tree us) old.constraints.items) joined ∙ same_marked h.trees (behind.more ++ t ∷ []) old.constraints.items h.fit ∙ h.spelled in
      let this : marked_tree ts (at p) ≡ mark t = marked ts p ∙ ap (λ k. mark (tree_at ts k)) behind.place ∙ ap mark (at_last front t) in
      record {
        trees = ts;
        holds = subst (λ ks. Holds l ks last.nodes.items ts) (sym same_constants) (subst (λ ns. Holds l new.constants.items ns ts) (sym same_nodes) behind.holds);
        spelled =
            ap (map (marked_tree ts)) constraints ∙
            map-append (marked_tree ts) old.constraints.items (at p ∷ []) ∙
            ap (λ ds. ds ++ marked_tree ts (at p) ∷ []) before ∙
            ap (λ d. cs ++ d ∷ []) this;
        fit = subst (λ ds. ConstraintsFit (length ts) ds) (sym constraints) (one_more_fits (length ts) old.constraints.items (at p) (more_fits (length h.trees) (length ts) old.constraints.items not_less h.fit) (fits (length ts) p here));
      }

module _ {F : Type 0} where
  written_base : (x : Option (Tree F)) (old new last : TreeList F) (p : ℕ) → Writes x old p new → new.constraints.items ≡ old.constraints.items →
      last.constants.items ≡ new.constants.items → last.nodes.items ≡ new.nodes.items → last.constraints.items ≡ new.constraints.items ++ Base p ∷ [] → OneMore (symbolic.Base x) old last
  written_base None old new last p written kept same_constants same_nodes pushed = absurd written
  written_base (Some t) old new last p written kept same_constants same_nodes pushed = record {
    constraint = base t;
    expressed = refl;
    spells = λ l cs within h. spells_more base Base (λ ts i. refl) (λ n i b. b) l t old new last p cs (within_tested l t within) written kept same_constants same_nodes pushed h;
  }

  written_extension : (x : Option (Tree F)) (old new last : TreeList F) (p : ℕ) → Writes x old p new → new.constraints.items ≡ old.constraints.items →
      last.constants.items ≡ new.constants.items → last.nodes.items ≡ new.nodes.items → last.constraints.items ≡ new.constraints.items ++ Extension p ∷ [] → OneMore (symbolic.Extension x) old last
  written_extension None old new last p written kept same_constants same_nodes pushed = absurd written
  written_extension (Some t) old new last p written kept same_constants same_nodes pushed = record {
    constraint = extension t;
    expressed = refl;
    spells = λ l cs within h. spells_more extension Extension (λ ts i. refl) (λ n i b. b) l t old new last p cs (within_tested l t within) written kept same_constants same_nodes pushed h;
  }

  pub base_result : {X Y : Type 0} (r : Result X Y) (c : SymbolicConstraint F) (x : Option (Tree F)) (old new last : TreeList F) (p : ℕ) → c ≡ symbolic.Base x → Writes x old p new → new.constraints.items ≡ old.constraints.items →
      last.constants.items ≡ new.constants.items → last.nodes.items ≡ new.nodes.items → OnOk r (last.constraints.items ≡ new.constraints.items ++ Base p ∷ []) → IfOk r (λ _. OneMore c old last)
  base_result (Ok v) c x old new last p e written kept same_constants same_nodes pushed = subst (λ d. OneMore d old last) (sym e) (written_base x old new last p written kept same_constants same_nodes pushed)
  base_result (Err f) c x old new last p e written kept same_constants same_nodes pushed = tt

  pub extension_result : {X Y : Type 0} (r : Result X Y) (c : SymbolicConstraint F) (x : Option (Tree F)) (old new last : TreeList F) (p : ℕ) → c ≡ symbolic.Extension x → Writes x old p new → new.constraints.items ≡ old.constraints.items →
      last.constants.items ≡ new.constants.items → last.nodes.items ≡ new.nodes.items → OnOk r (last.constraints.items ≡ new.constraints.items ++ Extension p ∷ []) → IfOk r (λ _. OneMore c old last)
  extension_result (Ok v) c x old new last p e written kept same_constants same_nodes pushed = subst (λ d. OneMore d old last) (sym e) (written_extension x old new last p written kept same_constants same_nodes pushed)
  extension_result (Err f) c x old new last p e written kept same_constants same_nodes pushed = tt

-- The constraints before the place i are spelled.
pub record SpellsSoFar {A : Type 0} {F : Type 0} (f : A → SymbolicConstraint F) (l : Layout) (as' : List A) (i : ℕ) (list : TreeList F) : Type 0 where
  pub done : List (Constraint F)
  pub leads : map expressed done ++ map f (drop i as') ≡ map f as'
  pub spells : Spells l list done
  pub rest : all_within l (map f (drop i as')) ≡ true

-- So far it spells them over each layout that has all that is read.
pub record Begun {A : Type 0} {F : Type 0} (f : A → SymbolicConstraint F) (as' : List A) (i : ℕ) (list : TreeList F) : Type 0 where
  pub begun : (l : Layout) → all_within l (map f as') ≡ true → SpellsSoFar f l as' i list

module _ {A : Type 0} {F : Type 0} (f : A → SymbolicConstraint F) (as' : List A) where
  pub begun_none : (list : TreeList F) → list.constants.items ≡ [] → list.nodes.items ≡ [] → list.constraints.items ≡ [] → Begun f as' 0 list
  begun_none list no_constants no_nodes no_constraints = record {
    begun = λ l within. record {
      done = [];
      leads = refl;
      spells = record {
        trees = [];
        holds = subst (λ ns. Holds l list.constants.items ns []) (sym no_nodes) (record { trees = refl; fit = tt });
        spelled = ap (map (marked_tree [])) no_constraints;
        fit = subst (λ cs. ConstraintsFit 0 cs) (sym no_constraints) tt;
      };
      rest = within;
    };
  }

  one_spelled : (i : ℕ) (a : A) (old new : TreeList F) (l : Layout) → drop i as' ≡ a ∷ drop (i + 1) as' → SpellsSoFar f l as' i old → OneMore (f a) old new → SpellsSoFar f l as' (i + 1) new
  one_spelled i a old new l here so_far more =
      let within : constraint_within l (f a) && all_within l (map f (drop (i + 1) as')) ≡ true = sym (ap (λ bs. all_within l (map f bs)) here) ∙ so_far.rest in
      let both = both_true (constraint_within l (f a)) (all_within l (map f (drop (i + 1) as'))) within in
      record {
        done = so_far.done ++ more.constraint ∷ [];
        leads =
            ap (λ xs. xs ++ map f (drop (i + 1) as')) (map-append expressed so_far.done (more.constraint ∷ [])) ∙
            append_assoc (map expressed so_far.done) (expressed more.constraint ∷ []) (map f (drop (i + 1) as')) ∙
            ap (λ x. map expressed so_far.done ++ (x ∷ map f (drop (i + 1) as'))) more.expressed ∙
            ap (λ bs. map expressed so_far.done ++ map f bs) (sym here) ∙
            so_far.leads;
        spells = more.spells l so_far.done both.0 so_far.spells;
        rest = both.1;
      }

  pub begun_one : (i : ℕ) (a : A) (old new : TreeList F) → i < length as' → a ≡ get_or as' i a → Begun f as' i old → OneMore (f a) old new → Begun f as' (i + 1) new
  begun_one i a old new within is so_far more = record {
    begun = λ l all. one_spelled i a old new l (from_place as' i (i + 1) a refl within is) (so_far.begun l all) more;
  }

  pub begun_all : (i : ℕ) (list : TreeList F) → length as' ≤ i → Begun f as' i list → (l : Layout) → all_within l (map f as') ≡ true → SpellsAll l list (map f as')
  begun_all i list ended so_far l all =
      let at = so_far.begun l all in
      record {
        constraints = at.done;
        expressed = sym (append-nil (map expressed at.done)) ∙ ap (λ bs. map expressed at.done ++ map f bs) (sym (drop_all i as' ended)) ∙ at.leads;
        spells = at.spells;
      }
