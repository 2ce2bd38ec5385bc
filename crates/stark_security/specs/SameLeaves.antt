-- Constraints are worth the same over rows whose leaves are.
use Rattle.std.specs.Prelude.{◌≡◌, ◌<◌, ℕ, List, [], ◌∷◌, refl}
use Rattle.std.proofs.Common.{◌∙◌, ap}
use Rattle.stark_support.specs.Ring.{RingOps, difference as ring_difference}
use Rattle.stark_support.specs.Operations.{ring_operations}
use Rattle.stark_air.specs.Tree.{Tree, Constraint, base as over_base, extension as over_extension, constant, main_current, main_next, preprocessed_current, preprocessed_next, public_value, periodic_value, first_row, last_row, transition, sum, difference, product, negation}
use Rattle.stark_air.specs.Layout.{Layout, TreeWithin, LeavesWithin}
use Rattle.stark_air.specs.Value.{Environment, value, constraint_values}

-- Two environments have the same values at each leaf of a layout.
pub record AgreeWithin {E : Type 0} (l : Layout) (e : Environment E) (f : Environment E) : Type 0 where
  pub main_current : (c : ℕ) → c < l.main → e.main_current c ≡ f.main_current c
  pub main_next : (c : ℕ) → c < l.main_next → e.main_next c ≡ f.main_next c
  pub preprocessed_current : (c : ℕ) → c < l.preprocessed → e.preprocessed_current c ≡ f.preprocessed_current c
  pub preprocessed_next : (c : ℕ) → c < l.preprocessed_next → e.preprocessed_next c ≡ f.preprocessed_next c
  pub public_value : (k : ℕ) → k < l.public_values → e.public_value k ≡ f.public_value k
  pub periodic_value : (c : ℕ) → c < l.periodics → e.periodic_value c ≡ f.periodic_value c
  pub first_row : e.first_row ≡ f.first_row
  pub last_row : e.last_row ≡ f.last_row
  pub transition : e.transition ≡ f.transition

module _ {F E : Type 0} (ring : RingOps E) (embed : F → E) (l : Layout) (e f : Environment E) (agree : AgreeWithin l e f) where
  abbrev worth : Environment E → Tree F → E
  worth env t = value (ring_operations ring embed) env t

  same_tree : (t : Tree F) → TreeWithin l t → worth e t ≡ worth f t
  same_tree (constant k) h = refl
  same_tree (main_current c) h = agree.main_current c h
  same_tree (main_next c) h = agree.main_next c h
  same_tree (preprocessed_current c) h = agree.preprocessed_current c h
  same_tree (preprocessed_next c) h = agree.preprocessed_next c h
  same_tree (public_value k) h = agree.public_value k h
  same_tree (periodic_value c) h = agree.periodic_value c h
  same_tree first_row h = agree.first_row
  same_tree last_row h = agree.last_row
  same_tree transition h = agree.transition
  same_tree (sum t u) h = ap (λ w. ring.add w (worth e u)) (same_tree t h.0) ∙ ap (ring.add (worth f t)) (same_tree u h.1)
  same_tree (difference t u) h = ap (λ w. ring_difference ring w (worth e u)) (same_tree t h.0) ∙ ap (ring_difference ring (worth f t)) (same_tree u h.1)
  same_tree (product t u) h = ap (λ w. ring.mul w (worth e u)) (same_tree t h.0) ∙ ap (ring.mul (worth f t)) (same_tree u h.1)
  same_tree (negation t) h = ap ring.neg (same_tree t h)

  -- Constraints within the layout are worth the same.
  pub same_constraints : (cs : List (Constraint F)) → LeavesWithin l cs → constraint_values (ring_operations ring embed) e cs ≡ constraint_values (ring_operations ring embed) f cs
  same_constraints [] h = refl
  same_constraints (over_base t ∷ cs) h = ap (λ w. w ∷ constraint_values (ring_operations ring embed) e cs) (same_tree t h.0) ∙ ap (λ ws. worth f t ∷ ws) (same_constraints cs h.1)
  same_constraints (over_extension t ∷ cs) h = ap (λ w. w ∷ constraint_values (ring_operations ring embed) e cs) (same_tree t h.0) ∙ ap (λ ws. worth f t ∷ ws) (same_constraints cs h.1)
