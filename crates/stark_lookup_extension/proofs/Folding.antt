-- Zeros and ones that are folded.
use Rattle.std.proofs.Common.{◌≡◌, ◌⊎◌, ◌∙◌, ℕ, ◌<◌, Bool, true, false, List, [], ◌∷◌, ◌++◌, Option, Some, None, Result, Ok, Err, IfOk, OnOk, length, map, get_or, slice_get, refl, sym, ap, subst, inl, inr, arith}
use Rattle.std.proofs.lemmas.Option.{get_or_from_slice_get, slice_get_within}
use Rattle.stark_support.specs.Ring.{RingOps}
use Rattle.stark_air.specs.Layout.{Layout}
use Rattle.stark_air.specs.Tree.{Tree, constant, sum, product, negation}
use Rattle.stark_logup.specs.Fractions.{Decides}
use Rattle.stark_lookup_air.specs.LookupConstraints.{constant_or_not, light_sum, light_product, light_opposite}
use Rattle.stark_tree_air.specs.Nodes.{tree_at}
use Rattle.stark_tree_air.specs.declared.list.TreeList.{TreeList}
use Rattle.stark_tree_air.specs.declared.node.TreeNode.{TreeNode}
use Rattle.stark_tree_air.specs.declared.node.TreeNode.TheVariants.{Sum, Product, Negation}
use Rattle.stark_lookup_extension.specs.Written.{DecidesConstant, Spelling, StandsAt, Whether, Written, WritesOne, WritesTwo}
use Rattle.stark_lookup_extension.proofs.Steps.{node_written, tree_there, unchanged}

-- ---- results

pub if_ok : {A X : Type 0} (Q : A → Type 0) (r : Result A X) → ((p : A) → r ≡ Ok p → Q p) → IfOk r Q
if_ok Q (Ok p) f = f p refl
if_ok Q (Err e) f = tt

pub given_ok : {A X : Type 0} (P : A → Type 0) (r : Result A X) (p : A) → r ≡ Ok p → IfOk r P → P p
given_ok P r p e h = subst (λ s. IfOk s P) e h

pub on_ok : {A X : Type 0} (P : Type 0) (r : Result A X) (p : A) → r ≡ Ok p → OnOk r P → P
on_ok P r p e h = subst (λ s. OnOk s P) e h

pub mapped_ok : {A X : Type 0} (P Q : A → Type 0) (r : Result A X) → IfOk r P → ((p : A) → P p → Q p) → IfOk r Q
mapped_ok P Q (Ok p) h f = f p h
mapped_ok P Q (Err e) h f = tt

-- ---- choices

abbrev chosen : {A P : Type 0} → P ⊎ (Unit {0}) → A → A → A
chosen d x y = elim d [ inl e ↦ x | inr e ↦ y ]

module _ {F : Type 0} (same : Decides F) where
  chosen_same : {A : Type 0} (k : F) (x y : A) → chosen (constant_or_not same k (constant k)) x y ≡ x
  chosen_same k x y = elim (same k k) as (λ d. chosen {P = constant k ≡ constant k} (elim d [ inl here ↦ inl (ap constant here) | inr other ↦ inr tt ]) x y ≡ x) [ inl here ↦ refl | inr other ↦ absurd (other refl) ]

  chosen_known : {A : Type 0} (k : F) (t : Tree F) (x y : A) → t ≡ constant k → chosen (constant_or_not same k t) x y ≡ x
  chosen_known k t x y e = subst (λ u. chosen (constant_or_not same k u) x y ≡ x) (sym e) (chosen_same k x y)

  chosen_other : {A : Type 0} (k : F) (t : Tree F) (x y : A) → (t ≡ constant k → ⊥) → chosen (constant_or_not same k t) x y ≡ y
  chosen_other k t x y isnt = elim (constant_or_not same k t) as (λ d. chosen d x y ≡ y) [ inl here ↦ absurd (isnt here) | inr other ↦ refl ]

  module _ (ring : RingOps F) where
    pub sum_is : (t u : Tree F) → light_sum same ring t u ≡ chosen (constant_or_not same ring.zero t) u (chosen (constant_or_not same ring.zero u) t (sum t u))
    sum_is t u = refl

    product_is : (t u : Tree F) → light_product same ring t u
        ≡ chosen (constant_or_not same ring.zero t) (constant ring.zero)
        (chosen (constant_or_not same ring.zero u) (constant ring.zero) (chosen (constant_or_not same ring.one t) u (chosen (constant_or_not same ring.one u) t (product t u))))
    product_is t u = refl

-- what an answer of `is_constant` says
abbrev pub IsConstant : {F : Type 0} → TreeList F → ℕ → F → Type 0
IsConstant {F} list p k = (l : Layout) (ts : List (Tree F)) (t : Tree F) → Spelling l list ts → StandsAt ts p t → t ≡ constant k

abbrev pub IsNoConstant : {F : Type 0} → TreeList F → ℕ → F → Type 0
IsNoConstant {F} list p k = (l : Layout) (ts : List (Tree F)) (t : Tree F) → Spelling l list ts → StandsAt ts p t → t ≡ constant k → ⊥

pub it_is : {F : Type 0} (list : TreeList F) (p : ℕ) (k j : F) (b : Bool) → k ≡ j → b ≡ true → DecidesConstant list p k b → IsConstant list p j
it_is list p k j b same e shows l ts t h at = subst (λ c. Whether c (t ≡ constant k)) e (shows l ts t h at) ∙ ap constant same

pub it_isnt : {F : Type 0} (list : TreeList F) (p : ℕ) (k j : F) (b : Bool) → k ≡ j → b ≡ false → DecidesConstant list p k b → IsNoConstant list p j
it_isnt list p k j b same e shows l ts t h at is = subst (λ c. Whether c (t ≡ constant k)) e (shows l ts t h at) (is ∙ ap constant (sym same))

module _ {F : Type 0} (ring : RingOps F) (list : TreeList F) (x y : ℕ) where
  pub sum_of_zero : IsConstant list x ring.zero → (same : Decides F) → WritesTwo StandsAt StandsAt StandsAt (light_sum same ring) list x y y list
  sum_of_zero is same l ts t u h a b = unchanged list h (subst (StandsAt ts y) (sym (chosen_known same ring.zero t u (chosen (constant_or_not same ring.zero u) t (sum t u)) (is l ts t h a))) b)

  pub sum_with_zero : IsNoConstant list x ring.zero → IsConstant list y ring.zero → (same : Decides F) → WritesTwo StandsAt StandsAt StandsAt (light_sum same ring) list x y x list
  sum_with_zero isnt is same l ts t u h a b =
      unchanged list h (subst (StandsAt ts x) (sym (chosen_other same ring.zero t u (chosen (constant_or_not same ring.zero u) t (sum t u)) (isnt l ts t h a) ∙ chosen_known same ring.zero u t (sum t u) (is l ts u h b))) a)

  -- a node of both
  module _ (new : TreeList F) (p : ℕ) (constants : new.constants.items ≡ list.constants.items) (constraints : new.constraints.items ≡ list.constraints.items) (at : p ≡ length list.nodes.items) where
    pub sum_written : new.nodes.items ≡ list.nodes.items ++ Sum x y ∷ [] → IsNoConstant list x ring.zero → IsNoConstant list y ring.zero → (same : Decides F) → WritesTwo StandsAt StandsAt StandsAt (light_sum same ring) list x y p new
    sum_written pushed isnt none same l ts t u h a b =
        node_written l ts list new p h (Sum x y) (light_sum same ring t u) (slice_get_within ts x t a, slice_get_within ts y u b)
        (ap (λ s. sum s (tree_at ts y)) (tree_there ts x t a) ∙ ap (sum t) (tree_there ts y u b)
        ∙ sym (chosen_other same ring.zero t u (chosen (constant_or_not same ring.zero u) t (sum t u)) (isnt l ts t h a) ∙ chosen_other same ring.zero u t (sum t u) (none l ts u h b)))
        constants constraints pushed at

    pub product_written : new.nodes.items ≡ list.nodes.items ++ Product x y ∷ [] → IsNoConstant list x ring.zero → IsNoConstant list y ring.zero → IsNoConstant list x ring.one → IsNoConstant list y ring.one
        → (same : Decides F) → WritesTwo StandsAt StandsAt StandsAt (light_product same ring) list x y p new
    product_written pushed isnt none some many same l ts t u h a b =
        let last = chosen (constant_or_not same ring.one u) t (product t u) in
        let later = chosen (constant_or_not same ring.one t) u last in
        node_written l ts list new p h (Product x y) (light_product same ring t u) (slice_get_within ts x t a, slice_get_within ts y u b)
        (ap (λ s. product s (tree_at ts y)) (tree_there ts x t a) ∙ ap (product t) (tree_there ts y u b)
        ∙ sym (chosen_other same ring.zero t (constant ring.zero) (chosen (constant_or_not same ring.zero u) (constant ring.zero) later) (isnt l ts t h a)
        ∙ chosen_other same ring.zero u (constant ring.zero) later (none l ts u h b) ∙ chosen_other same ring.one t u last (some l ts t h a) ∙ chosen_other same ring.one u t (product t u) (many l ts u h b)))
        constants constraints pushed at

    pub opposite_written : new.nodes.items ≡ list.nodes.items ++ Negation x ∷ [] → IsNoConstant list x ring.zero → (same : Decides F) → WritesOne StandsAt StandsAt (light_opposite same ring) list x p new
    opposite_written pushed isnt same l ts t h a =
        node_written l ts list new p h (Negation x) (light_opposite same ring t) (slice_get_within ts x t a)
        (ap negation (tree_there ts x t a) ∙ sym (chosen_other same ring.zero t (constant ring.zero) (negation t) (isnt l ts t h a)))
        constants constraints pushed at

  module _ (same : Decides F) (l : Layout) (ts : List (Tree F)) (t u : Tree F) (h : Spelling l list ts) (a : StandsAt ts x t) (b : StandsAt ts y u) where
    abbrev last : Tree F
    last = chosen (constant_or_not same ring.one u) t (product t u)

    abbrev later : Tree F
    later = chosen (constant_or_not same ring.one t) u last

    zero_first : t ≡ constant ring.zero → StandsAt ts x (light_product same ring t u)
    zero_first is = subst (StandsAt ts x) (is ∙ sym (chosen_known same ring.zero t (constant ring.zero) (chosen (constant_or_not same ring.zero u) (constant ring.zero) later) is)) a

    zero_second : (t ≡ constant ring.zero → ⊥) → u ≡ constant ring.zero → StandsAt ts y (light_product same ring t u)
    zero_second isnt is =
        subst (StandsAt ts y) (is ∙ sym (chosen_other same ring.zero t (constant ring.zero) (chosen (constant_or_not same ring.zero u) (constant ring.zero) later) isnt
        ∙ chosen_known same ring.zero u (constant ring.zero) later is)) b

    one_first : (t ≡ constant ring.zero → ⊥) → (u ≡ constant ring.zero → ⊥) → t ≡ constant ring.one → StandsAt ts y (light_product same ring t u)
    one_first isnt none is =
        subst (StandsAt ts y) (sym (chosen_other same ring.zero t (constant ring.zero) (chosen (constant_or_not same ring.zero u) (constant ring.zero) later) isnt
        ∙ chosen_other same ring.zero u (constant ring.zero) later none ∙ chosen_known same ring.one t u last is)) b

    one_second : (t ≡ constant ring.zero → ⊥) → (u ≡ constant ring.zero → ⊥) → (t ≡ constant ring.one → ⊥) → u ≡ constant ring.one → StandsAt ts x (light_product same ring t u)
    one_second isnt none other is =
        subst (StandsAt ts x) (sym (chosen_other same ring.zero t (constant ring.zero) (chosen (constant_or_not same ring.zero u) (constant ring.zero) later) isnt
        ∙ chosen_other same ring.zero u (constant ring.zero) later none ∙ chosen_other same ring.one t u last other ∙ chosen_known same ring.one u t (product t u) is)) a

  pub opposite_of_zero : IsConstant list x ring.zero → (same : Decides F) → WritesOne StandsAt StandsAt (light_opposite same ring) list x x list
  opposite_of_zero is same l ts t h a =
      let zero = is l ts t h a in
      unchanged list h (subst (StandsAt ts x) (zero ∙ sym (chosen_known same ring.zero t (constant ring.zero) (negation t) zero)) a)

  pub product_of_zero : IsConstant list x ring.zero → (same : Decides F) → WritesTwo StandsAt StandsAt StandsAt (light_product same ring) list x y x list
  product_of_zero is same l ts t u h a b = unchanged list h (zero_first same l ts t u h a b (is l ts t h a))

  pub product_with_zero : IsNoConstant list x ring.zero → IsConstant list y ring.zero → (same : Decides F) → WritesTwo StandsAt StandsAt StandsAt (light_product same ring) list x y y list
  product_with_zero isnt is same l ts t u h a b = unchanged list h (zero_second same l ts t u h a b (isnt l ts t h a) (is l ts u h b))

  pub product_of_one : IsNoConstant list x ring.zero → IsNoConstant list y ring.zero → IsConstant list x ring.one → (same : Decides F) → WritesTwo StandsAt StandsAt StandsAt (light_product same ring) list x y y list
  product_of_one isnt none is same l ts t u h a b = unchanged list h (one_first same l ts t u h a b (isnt l ts t h a) (none l ts u h b) (is l ts t h a))

  pub product_with_one : IsNoConstant list x ring.zero → IsNoConstant list y ring.zero → IsNoConstant list x ring.one → IsConstant list y ring.one
      → (same : Decides F) → WritesTwo StandsAt StandsAt StandsAt (light_product same ring) list x y x list
  product_with_one isnt none other is same l ts t u h a b = unchanged list h (one_second same l ts t u h a b (isnt l ts t h a) (none l ts u h b) (other l ts t h a) (is l ts u h b))
