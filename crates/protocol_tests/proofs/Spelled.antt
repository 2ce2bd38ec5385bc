-- The constraints of an AIR that expressions spell, each of which is a tree or was refused memory.
use Rattle.std.specs.Prelude.{◌≡◌, List, [], ◌∷◌, map, Option, Some, Result, Ok, Err, IfOk, refl, unwrap_or}
use Rattle.std.proofs.Common.{ap, sym, subst}
use Rattle.stark_symbolic.specs.Symbolic.{Stands, stands_itself}
use Rattle.stark_air.specs.Tree.{Tree, Constraint, base, extension}
use Rattle.stark_symbolic.specs.declared.builder.SymbolicConstraint.{SymbolicConstraint}
use Rattle.stark_symbolic.specs.declared.builder.SymbolicConstraint.TheVariants as symbolic
use Rattle.stark_tree_air.specs.Nodes.{spelled}
use Rattle.stark_tree_air.specs.Writing.{expressed}
use Rattle.stark_tree_air.specs.declared.air.TreeAir.{TreeAir}

-- Each expression has the constraint's mark, and is its tree or was refused.
abbrev pub EachExpresses : {F : Type 0} → List (Constraint F) → List (SymbolicConstraint F) → Type 0
EachExpresses [] [] = Unit {0}
EachExpresses (base t ∷ cs) (symbolic.Base x ∷ xs) = Stands (Some t) x × EachExpresses cs xs
EachExpresses (extension t ∷ cs) (symbolic.Extension x ∷ xs) = Stands (Some t) x × EachExpresses cs xs
EachExpresses _ _ = ⊥

same_tree : {F : Type 0} (t u : Tree F) → Stands (Some t) (Some u) → u ≡ t
same_tree t u h = ap (λ o. unwrap_or o t) (sym h)

these : {F : Type 0} (cs ds : List (Constraint F)) → EachExpresses ds (map expressed cs) → cs ≡ ds
these [] [] h = refl
these [] (base t ∷ ds) h = absurd h
these [] (extension t ∷ ds) h = absurd h
these (base t ∷ cs) [] h = absurd h
these (extension t ∷ cs) [] h = absurd h
these (base t ∷ cs) (base u ∷ ds) h = rw (same_tree u t h.0) (ap (λ es. base u ∷ es) (these cs ds h.1))
these (base t ∷ cs) (extension u ∷ ds) h = absurd h
these (extension t ∷ cs) (base u ∷ ds) h = absurd h
these (extension t ∷ cs) (extension u ∷ ds) h = rw (same_tree u t h.0) (ap (λ es. extension u ∷ es) (these cs ds h.1))

-- An AIR that spells these expressions has these constraints.
pub has_these : {F : Type 0} {E : Type 0} (r : Result (TreeAir F) E) (xs : List (SymbolicConstraint F)) (ds : List (Constraint F)) → EachExpresses ds xs
    → IfOk r (λ air. map expressed (spelled air.list.constants.items air.list.nodes.items air.list.constraints.items) ≡ xs)
    → IfOk r (λ air. spelled air.list.constants.items air.list.nodes.items air.list.constraints.items ≡ ds)
has_these (Ok air) xs ds h e = let cs = spelled air.list.constants.items air.list.nodes.items air.list.constraints.items in these cs ds (subst (λ ys. EachExpresses ds ys) (sym e) h)
has_these (Err error) xs ds h e = e

-- A leaf is itself.
pub leaf_stands : {F : Type 0} {x y : Option (Tree F)} → x ≡ y → Stands x y
leaf_stands {F} {x} {y} e = subst (λ z. Stands x z) e (stands_itself x)
