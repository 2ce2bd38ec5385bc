-- How symbolic expressions compute: an expression is a tree, or none where memory was refused.
use Rattle.std.specs.Prelude.{◌≡◌, Bool, true, false, Option, Some, None, refl}
use Rattle.std.proofs.Common.{sym, ◌∙◌, ap, subst}
use Rattle.stark_support.specs.Ring.{RingOps, difference as ring_difference}
use Rattle.stark_support.specs.Operations.{Operations}
use Rattle.stark_air.specs.Tree.{Tree, constant, main_current, main_next, preprocessed_current, preprocessed_next, public_value, periodic_value, first_row, last_row, transition, sum, difference, product, negation}
use Rattle.stark_air.specs.Value.{Environment, value}
use Rattle.stark_symbolic.specs.ConstantFolding.{constant_in, both_constants, pair_or_constant, single_or_constant, folded_pair, folded_single, constants_folded}

pub ap_two : {A : Type 0} {B : Type 0} {C : Type 0} (f : A → B → C) {a : A} {b : A} {c : B} {d : B} → a ≡ b → c ≡ d → f a c ≡ f b d
ap_two {A} {B} {C} f {a} {b} {c} {d} p q = ap (λ (x : A). f x c) p ∙ ap (λ (y : B). f b y) q

-- The node of two expressions, refused where one of them is.
abbrev pub pair_node : {F : Type 0} → (Tree F → Tree F → Tree F) → Option (Tree F) → Option (Tree F) → Option (Tree F)
pair_node node (Some t) (Some u) = Some (node t u)
pair_node node (Some t) None = None
pair_node node None y = None

abbrev pub single_node : {F : Type 0} → (Tree F → Tree F) → Option (Tree F) → Option (Tree F)
single_node node (Some t) = Some (node t)
single_node node None = None

-- The constant that an expression is.
abbrev pub known_constant : {F : Type 0} → Option (Tree F) → Option F
known_constant (Some t) = constant_in t
known_constant None = None

-- The second is the first, or was refused memory.
abbrev pub Stands : {F : Type 0} → Option (Tree F) → Option (Tree F) → Type 0
Stands v None = Unit {0}
Stands v (Some t) = v ≡ Some t

-- A tree of one node, which it takes no memory to copy.
abbrev pub one_node : {F : Type 0} → Tree F → Bool
one_node (constant k) = true
one_node (main_current c) = true
one_node (main_next c) = true
one_node (preprocessed_current c) = true
one_node (preprocessed_next c) = true
one_node (public_value i) = true
one_node (periodic_value c) = true
one_node first_row = true
one_node last_row = true
one_node transition = true
one_node (sum t u) = false
one_node (difference t u) = false
one_node (product t u) = false
one_node (negation t) = false

abbrev pub is_leaf : {F : Type 0} → Option (Tree F) → Bool
is_leaf (Some t) = one_node t
is_leaf None = false

-- A node of two expressions is no leaf.
pub pair_no_leaf : {F : Type 0} (node : Tree F → Tree F → Tree F) → ((t u : Tree F) → one_node (node t u) ≡ false) → (x y : Option (Tree F)) → is_leaf (pair_node node x y) ≡ false
pair_no_leaf node inner (Some t) (Some u) = inner t u
pair_no_leaf node inner (Some t) None = refl
pair_no_leaf node inner None y = refl

-- What an operator gives: the constant of constants, else the node or a refusal.
abbrev pub GivesNode : {F : Type 0} {K : Type 0} → (K → F) → Option K → Option (Tree F) → Option (Tree F) → Type 0
GivesNode operation (Some p) w z = z ≡ Some (constant (operation p))
GivesNode operation None w z = Stands w z

abbrev pub GivesPair : {F : Type 0} → (Tree F → Tree F → Tree F) → (F → F → F) → Option (Tree F) → Option (Tree F) → Option (Tree F) → Type 0
GivesPair node operation x y z = GivesNode (λ p. operation p.0 p.1) (both_constants (known_constant x) (known_constant y)) (pair_node node x y) z

abbrev pub GivesSingle : {F : Type 0} → (Tree F → Tree F) → (F → F) → Option (Tree F) → Option (Tree F) → Type 0
GivesSingle node operation x z = GivesNode operation (known_constant x) (single_node node x) z

-- The operations on expressions, with memory given.
abbrev pub symbolic_operations : {F : Type 0} → RingOps F → Operations F (Option (Tree F))
symbolic_operations ring = record {
  embed = λ k. Some (constant k);
  plus = pair_node (folded_pair sum ring.add);
  minus = pair_node (folded_pair difference (ring_difference ring));
  times = pair_node (folded_pair product ring.mul);
  negated = single_node (folded_single negation ring.neg);
}

-- Each leaf is worth itself.
abbrev pub symbolic_environment : {F : Type 0} → Environment (Option (Tree F))
symbolic_environment = record {
  main_current = λ c. Some (main_current c);
  main_next = λ c. Some (main_next c);
  preprocessed_current = λ c. Some (preprocessed_current c);
  preprocessed_next = λ c. Some (preprocessed_next c);
  public_value = λ i. Some (public_value i);
  periodic_value = λ c. Some (periodic_value c);
  first_row = Some first_row;
  last_row = Some last_row;
  transition = Some transition;
}

-- A tree's value there is the tree with constants folded.
pub symbolic_value : {F : Type 0} (ring : RingOps F) (t : Tree F) → value (symbolic_operations ring) symbolic_environment t ≡ Some (constants_folded ring t)
symbolic_value ring (constant k) = refl
symbolic_value ring (main_current c) = refl
symbolic_value ring (main_next c) = refl
symbolic_value ring (preprocessed_current c) = refl
symbolic_value ring (preprocessed_next c) = refl
symbolic_value ring (public_value i) = refl
symbolic_value ring (periodic_value c) = refl
symbolic_value ring first_row = refl
symbolic_value ring last_row = refl
symbolic_value ring transition = refl
symbolic_value {F} ring (sum t u) = ap_two (pair_node (folded_pair sum ring.add)) (symbolic_value ring t) (symbolic_value ring u)
symbolic_value {F} ring (difference t u) = ap_two (pair_node (folded_pair difference (ring_difference ring))) (symbolic_value ring t) (symbolic_value ring u)
symbolic_value {F} ring (product t u) = ap_two (pair_node (folded_pair product ring.mul)) (symbolic_value ring t) (symbolic_value ring u)
symbolic_value {F} ring (negation t) = ap (single_node (folded_single negation ring.neg)) (symbolic_value ring t)

pub stands_itself : {F : Type 0} (x : Option (Tree F)) → Stands x x
stands_itself None = tt
stands_itself (Some t) = refl

pair_stands_folded : {F : Type 0} (node : Tree F → Tree F → Tree F) (operation : F → F → F) (p : Option (F × F)) (t u : Tree F) (z : Option (Tree F)) → GivesNode (λ q. operation q.0 q.1) p (Some (node t u)) z → Stands (Some (pair_or_constant node operation p t u)) z
pair_stands_folded node operation (Some p) t u None h = tt
pair_stands_folded node operation (Some p) t u (Some s) h = sym h
pair_stands_folded node operation None t u z h = h

single_stands_folded : {F : Type 0} (node : Tree F → Tree F) (operation : F → F) (p : Option F) (t : Tree F) (z : Option (Tree F)) → GivesNode operation p (Some (node t)) z → Stands (Some (single_or_constant node operation p t)) z
single_stands_folded node operation (Some p) t None h = tt
single_stands_folded node operation (Some p) t (Some s) h = sym h
single_stands_folded node operation None t z h = h

refused_stands : {F : Type 0} (w z : Option (Tree F)) → Stands None z → Stands w z
refused_stands w None h = tt
refused_stands w (Some t) h = absurd (cc)

no_second_constant : {F : Type 0} (p : Option F) → both_constants p None ≡ None
no_second_constant None = refl
no_second_constant (Some a) = refl

pub pair_stands : {F : Type 0} (node : Tree F → Tree F → Tree F) (operation : F → F → F) (x y z v w : Option (Tree F)) → GivesPair node operation x y z → Stands v x → Stands w y → Stands (pair_node (folded_pair node operation) v w) z
pair_stands node operation None y z v w h p q = refused_stands (pair_node (folded_pair node operation) v w) z h
pair_stands {F} node operation (Some t) None z v w h p q = refused_stands (pair_node (folded_pair node operation) v w) z (subst (λ (k : Option (F × F)). GivesNode (λ q. operation q.0 q.1) k None z) (no_second_constant (constant_in t)) h)
pair_stands {F} node operation (Some t) (Some u) z v w h p q = subst (λ (v : Option (Tree F)). Stands (pair_node (folded_pair node operation) v w) z) (sym p) (subst (λ (w : Option (Tree F)). Stands (pair_node (folded_pair node operation) (Some t) w) z) (sym q) (pair_stands_folded node operation (both_constants (constant_in t) (constant_in u)) t u z h))

pub single_stands : {F : Type 0} (node : Tree F → Tree F) (operation : F → F) (x z v : Option (Tree F)) → GivesSingle node operation x z → Stands v x → Stands (single_node (folded_single node operation) v) z
single_stands node operation None z v h p = refused_stands (single_node (folded_single node operation) v) z h
single_stands {F} node operation (Some t) z v h p = subst (λ (v : Option (Tree F)). Stands (single_node (folded_single node operation) v) z) (sym p) (single_stands_folded node operation (constant_in t) t z h)

pub embedding_stands : {F : Type 0} (k : F) (x : Option (Tree F)) → x ≡ Some (constant k) → Stands (Some (constant k)) x
embedding_stands k None h = tt
embedding_stands k (Some t) h = sym h
