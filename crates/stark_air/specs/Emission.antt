-- What a call that asserts constraints leaves in a builder.
use Rattle.std.specs.Prelude.{◌≡◌, List, [], ◌++◌, Result, Ok, Err, map, ◌∷◌}
use Rattle.stark_air.specs.Tree.{Tree, Constraint, base, constant, extension, product, difference}
use Rattle.stark_support.specs.Operations.{Operations}
use Rattle.stark_air.specs.Layout.{Layout}
use Rattle.stark_air.specs.Value.{Environment, value}

-- The constraint under a condition.
abbrev pub under : {F : Type 0} → Tree F → Constraint F → Constraint F
under c (base t) = base (product c t)
under c (extension t) = extension (product c t)

-- What every builder keeps: asserting nothing leaves it as it is, one list after another is the joined list, and its row stays.
pub record EmissionLaws {F : Type 0} {S : Type 0} {E : Type 0} (environment : S → Environment E) (layout : S → Layout) (after : S → List (Constraint F) → S → Type 0) : Type 0 where
  pub nothing : (s : S) → after s [] s
  pub both : (s t u : S) (cs ds : List (Constraint F)) → after s cs t → after t ds u → after s (cs ++ ds) u
  pub same_environment : (s t : S) (cs : List (Constraint F)) → after s cs t → environment t ≡ environment s
  pub same_layout : (s t : S) (cs : List (Constraint F)) → after s cs t → layout t ≡ layout s

-- What a builder holds once constraints were asserted, each under the condition that an expression stands for.
pub record AfterUnder {F : Type 0} {S : Type 0} {E : Type 0} (o : Operations F E) (stands : E → E → Type 0) (environment : S → Environment E) (layout : S → Layout) (after : S → List (Constraint F) → S → Type 0) (condition : E) (s : S) (cs : List (Constraint F)) (t : S) : Type 0 where
  pub same_environment : environment t ≡ environment s
  pub same_layout : layout t ≡ layout s
  pub asserted : (c : Tree F) → stands (value o (environment s) c) condition → after s (map (under c) cs) t

-- Some beginning of the constraints was asserted.
pub record AfterBeginning {F : Type 0} {S : Type 0} (after : S → List (Constraint F) → S → Type 0) (s : S) (cs : List (Constraint F)) (t : S) : Type 0 where
  pub beginning : List (Constraint F)
  pub rest : List (Constraint F)
  pub joined : beginning ++ rest ≡ cs
  pub asserted : after s beginning t

-- An Ok leaves what is held once all the constraints were asserted, an Err what is held once a beginning of them was.
abbrev pub Asserted : {F : Type 0} {S : Type 0} {A : Type 0} {E : Type 0} → (S → List (Constraint F) → S → Type 0) → Result A E → S → List (Constraint F) → S → Type 0
Asserted after (Ok x) s cs t = after s cs t
Asserted after (Err x) s cs t = AfterBeginning after s cs t

-- ---- assertions

-- Of whatever tree an expression stands for, this constraint was asserted.
abbrev pub Asserts : {F S E X : Type 0} → Operations F E → (E → X → Type 0) → (S → Environment E) → (S → List (Constraint F) → S → Type 0)
    → (Tree F → Constraint F) → S → X → S → Type 0
Asserts {F = F} o stands environment after constraint s x t = (tree : Tree F) → stands (value o (environment s) tree) x → after s (constraint tree ∷ []) t

-- Of whatever trees two expressions stand for.
abbrev pub AssertsPair : {F S E : Type 0} → Operations F E → (E → E → Type 0) → (S → Environment E) → (S → List (Constraint F) → S → Type 0)
    → (Tree F → Tree F → Constraint F) → S → E → E → S → Type 0
AssertsPair {F = F} o stands environment after constraint s x y t = (left right : Tree F) → stands (value o (environment s) left) x
    → stands (value o (environment s) right) y → after s (constraint left right ∷ []) t

-- The constraint that two trees are equal, on all rows or on those that a selector picks.
abbrev pub equal : {F : Type 0} → Tree F → Tree F → Constraint F
equal left right = base (difference left right)

abbrev pub equal_on : {F : Type 0} → Tree F → Tree F → Tree F → Constraint F
equal_on selector left right = base (product selector (difference left right))

-- The constraint that a tree is equal to a constant.
abbrev pub equal_to : {F : Type 0} → F → Tree F → Constraint F
equal_to k left = base (difference left (constant k))

-- An expression that is turned into one of the extension stands for the same value there.
abbrev pub KeepsStanding : {E X : Type 0} → (E → X → Type 0) → (E → E → Type 0) → (E → X → Type 0) → Type 0
KeepsStanding {E} {X} gives stands stands_above = (x : E) (y : X) (v : E) → gives x y → stands v x → stands_above v y

-- A product stands for the product of what its factors stand for.
abbrev pub StandsForProduct : {E X : Type 0} → (E → E → E) → (X → X → X → Type 0) → (E → X → Type 0) → Type 0
StandsForProduct {E} {X} times gives stands_above = (v w : E) (x y z : X) → gives x y z → stands_above v x → stands_above w y → stands_above (times v w) z
