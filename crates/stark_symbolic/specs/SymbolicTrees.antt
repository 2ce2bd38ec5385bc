-- The trees of an AIR's constraints with constants folded, as the symbolic builder keeps them.
use Rattle.std.specs.Prelude.{◌≡◌, List, [], ◌∷◌, ◌++◌, Option, Some, map, refl}
use Rattle.std.proofs.Common.{sym, ◌∙◌, ap, append-nil}
use Rattle.stark_support.specs.Ring.{RingOps}
use Rattle.stark_support.specs.Operations.{Operations}
use Rattle.stark_air.specs.Tree.{Tree, Constraint, base, extension}
use Rattle.stark_air.specs.Value.{Environment, value}
use Rattle.stark_symbolic.specs.ConstantFolding.{constants_folded}
use Rattle.stark_symbolic.specs.Symbolic.{symbolic_operations, symbolic_environment, symbolic_value}
use Rattle.stark_symbolic.specs.declared.builder.SymbolicConstraint.{SymbolicConstraint}
use Rattle.stark_symbolic.specs.declared.builder.SymbolicConstraint.TheVariants.{Base, Extension}

-- A constraint's value, with its mark.
abbrev pub marked_value : {F : Type 0} → Operations F (Option (Tree F)) → Environment (Option (Tree F)) → Constraint F → SymbolicConstraint F
marked_value o e (base t) = Base (value o e t)
marked_value o e (extension t) = Extension (value o e t)

-- A constraint's tree with constants folded, with its mark.
abbrev pub marked_tree : {F : Type 0} → RingOps F → Constraint F → SymbolicConstraint F
marked_tree ring (base t) = Base (Some (constants_folded ring t))
marked_tree ring (extension t) = Extension (Some (constants_folded ring t))

-- The base constraints' trees with constants folded, in order.
abbrev pub base_trees : {F : Type 0} → RingOps F → List (Constraint F) → List (Option (Tree F))
base_trees ring [] = []
base_trees ring (base t ∷ cs) = Some (constants_folded ring t) ∷ base_trees ring cs
base_trees ring (extension t ∷ cs) = base_trees ring cs

-- The extension constraints' trees with constants folded, in order.
abbrev pub extension_trees : {F : Type 0} → RingOps F → List (Constraint F) → List (Option (Tree F))
extension_trees ring [] = []
extension_trees ring (base t ∷ cs) = extension_trees ring cs
extension_trees ring (extension t ∷ cs) = Some (constants_folded ring t) ∷ extension_trees ring cs

pub marked_values_are : {F : Type 0} (ring : RingOps F) (cs : List (Constraint F)) → map (marked_value (symbolic_operations ring) symbolic_environment) cs ≡ map (marked_tree ring) cs
marked_values_are ring [] = refl
marked_values_are {F} ring (base t ∷ cs) =
    ap (λ (v : Option (Tree F)). Base v ∷ map (marked_value (symbolic_operations ring) symbolic_environment) cs) (symbolic_value ring t) ∙
    ap (λ (l : List (SymbolicConstraint F)). Base (Some (constants_folded ring t)) ∷ l) (marked_values_are ring cs)
marked_values_are {F} ring (extension t ∷ cs) =
    ap (λ (v : Option (Tree F)). Extension v ∷ map (marked_value (symbolic_operations ring) symbolic_environment) cs) (symbolic_value ring t) ∙
    ap (λ (l : List (SymbolicConstraint F)). Extension (Some (constants_folded ring t)) ∷ l) (marked_values_are ring cs)

-- What the symbolic builder holds once an AIR's constraints were asserted on it.
pub collected_trees : {F : Type 0} (ring : RingOps F) (before after : List (SymbolicConstraint F)) (row : Environment (Option (Tree F))) (cs : List (Constraint F)) → after ≡ before ++ map (marked_value (symbolic_operations ring) row) cs → before ≡ [] → row ≡ symbolic_environment → after ≡ map (marked_tree ring) cs
collected_trees {F} ring before after row cs appended nothing plain =
    appended ∙
    ap (λ (l : List (SymbolicConstraint F)). l ++ map (marked_value (symbolic_operations ring) row) cs) nothing ∙
    ap (λ (e : Environment (Option (Tree F))). map (marked_value (symbolic_operations ring) e) cs) plain ∙
    marked_values_are ring cs

-- The expressions of the base constraints in a list, in order.
abbrev pub base_part : {F : Type 0} → List (SymbolicConstraint F) → List (Option (Tree F))
base_part [] = []
base_part (Base x ∷ xs) = x ∷ base_part xs
base_part (Extension x ∷ xs) = base_part xs

-- The expressions of the extension constraints in a list, in order.
abbrev pub extension_part : {F : Type 0} → List (SymbolicConstraint F) → List (Option (Tree F))
extension_part [] = []
extension_part (Base x ∷ xs) = extension_part xs
extension_part (Extension x ∷ xs) = x ∷ extension_part xs

pub base_part_append : {F : Type 0} (xs ys : List (SymbolicConstraint F)) → base_part (xs ++ ys) ≡ base_part xs ++ base_part ys
base_part_append [] ys = refl
base_part_append (Base x ∷ xs) ys = ap (λ l. x ∷ l) (base_part_append xs ys)
base_part_append (Extension x ∷ xs) ys = base_part_append xs ys

pub extension_part_append : {F : Type 0} (xs ys : List (SymbolicConstraint F)) → extension_part (xs ++ ys) ≡ extension_part xs ++ extension_part ys
extension_part_append [] ys = refl
extension_part_append (Base x ∷ xs) ys = extension_part_append xs ys
extension_part_append (Extension x ∷ xs) ys = ap (λ l. x ∷ l) (extension_part_append xs ys)

pub base_part_is : {F : Type 0} (ring : RingOps F) (cs : List (Constraint F)) → base_part (map (marked_tree ring) cs) ≡ base_trees ring cs
base_part_is ring [] = refl
base_part_is ring (base t ∷ cs) = ap (λ l. Some (constants_folded ring t) ∷ l) (base_part_is ring cs)
base_part_is ring (extension t ∷ cs) = base_part_is ring cs

pub extension_part_is : {F : Type 0} (ring : RingOps F) (cs : List (Constraint F)) → extension_part (map (marked_tree ring) cs) ≡ extension_trees ring cs
extension_part_is ring [] = refl
extension_part_is ring (base t ∷ cs) = extension_part_is ring cs
extension_part_is ring (extension t ∷ cs) = ap (λ l. Some (constants_folded ring t) ∷ l) (extension_part_is ring cs)

-- One more constraint, put into its part.
pub one_more_base : {F : Type 0} (xs : List (SymbolicConstraint F)) (c : SymbolicConstraint F) (x : Option (Tree F)) (before after others : List (Option (Tree F))) → c ≡ Base x → after ≡ before ++ x ∷ [] → before ≡ base_part xs → others ≡ extension_part xs → (after ≡ base_part (xs ++ c ∷ [])) × (others ≡ extension_part (xs ++ c ∷ []))
one_more_base {F} xs c x before after others is pushed so_far rest = (
  pushed ∙ ap (λ (l : List (Option (Tree F))). l ++ x ∷ []) so_far ∙ sym (base_part_append xs (Base x ∷ [])) ∙ ap (λ (d : SymbolicConstraint F). base_part (xs ++ d ∷ [])) (sym is),
  rest ∙ sym (append-nil (extension_part xs)) ∙ sym (extension_part_append xs (Base x ∷ [])) ∙ ap (λ (d : SymbolicConstraint F). extension_part (xs ++ d ∷ [])) (sym is),
)

pub one_more_extension : {F : Type 0} (xs : List (SymbolicConstraint F)) (c : SymbolicConstraint F) (x : Option (Tree F)) (before after others : List (Option (Tree F))) → c ≡ Extension x → after ≡ before ++ x ∷ [] → others ≡ base_part xs → before ≡ extension_part xs → (others ≡ base_part (xs ++ c ∷ [])) × (after ≡ extension_part (xs ++ c ∷ []))
one_more_extension {F} xs c x before after others is pushed rest so_far = (
  rest ∙ sym (append-nil (base_part xs)) ∙ sym (base_part_append xs (Extension x ∷ [])) ∙ ap (λ (d : SymbolicConstraint F). base_part (xs ++ d ∷ [])) (sym is),
  pushed ∙ ap (λ (l : List (Option (Tree F))). l ++ x ∷ []) so_far ∙ sym (extension_part_append xs (Extension x ∷ [])) ∙ ap (λ (d : SymbolicConstraint F). extension_part (xs ++ d ∷ [])) (sym is),
)
