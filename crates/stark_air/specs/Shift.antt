-- What constraints over some of the main columns mean over all of them.
use Rattle.std.specs.Prelude.{◌≡◌, ℕ, ◌+◌, ◌-◌, min, List, ◌++◌, map, refl, Option, None, if◌then◌else◌, nat_lt}
use Rattle.std.proofs.Common.{sym, ◌∙◌, ap, subst}
use Rattle.std.proofs.lemmas.List.{map-append}
use Rattle.stark_support.specs.Operations.{Operations}
use Rattle.stark_air.specs.Tree.{Tree, Constraint, base, extension, constant, main_current, main_next, preprocessed_current, preprocessed_next, public_value, periodic_value, first_row, last_row, transition, sum, difference, product, negation}
use Rattle.stark_air.specs.Layout.{Layout}
use Rattle.stark_air.specs.Value.{Environment, value}
use Rattle.stark_air.specs.Emission.{EmissionLaws}

-- Main column c is column start + c; all else is the same.
abbrev pub shifted_environment : {E : Type 0} → ℕ → Environment E → Environment E
shifted_environment start e = record e { main_current = λ c. e.main_current (start + c); main_next = λ c. e.main_next (start + c) }

-- The main columns from `start` up to `end`, as far as there are any; all else is the same.
abbrev pub shifted_layout : ℕ → ℕ → Layout → Layout
shifted_layout start end l = record l { main = min (end - start) (l.main - start); main_next = min (end - start) (l.main_next - start) }

-- The columns of a row from `start` up to `end`.
abbrev pub columns_at : {T : Type 0} → ℕ → ℕ → (ℕ → Option T) → ℕ → Option T
columns_at start end row c = (if nat_lt (start + c) end then row (start + c) else None)

-- The tree over all columns: main column c is column s + c.
abbrev pub shift_tree : {F : Type 0} → ℕ → Tree F → Tree F
shift_tree s (constant k) = constant k
shift_tree s (main_current c) = main_current (s + c)
shift_tree s (main_next c) = main_next (s + c)
shift_tree s (preprocessed_current c) = preprocessed_current c
shift_tree s (preprocessed_next c) = preprocessed_next c
shift_tree s (public_value i) = public_value i
shift_tree s (periodic_value c) = periodic_value c
shift_tree s first_row = first_row
shift_tree s last_row = last_row
shift_tree s transition = transition
shift_tree s (sum t u) = sum (shift_tree s t) (shift_tree s u)
shift_tree s (difference t u) = difference (shift_tree s t) (shift_tree s u)
shift_tree s (product t u) = product (shift_tree s t) (shift_tree s u)
shift_tree s (negation t) = negation (shift_tree s t)

abbrev pub shift : {F : Type 0} → ℕ → Constraint F → Constraint F
shift s (base t) = base (shift_tree s t)
shift s (extension t) = extension (shift_tree s t)

-- A tree over the shifted row is worth what the shifted tree is over the row.
pub value_shift : {F : Type 0} {E : Type 0} (o : Operations F E) (e : Environment E) (s : ℕ) (t : Tree F) → value o (shifted_environment s e) t ≡ value o e (shift_tree s t)
value_shift o e s (constant k) = refl
value_shift o e s (main_current c) = refl
value_shift o e s (main_next c) = refl
value_shift o e s (preprocessed_current c) = refl
value_shift o e s (preprocessed_next c) = refl
value_shift o e s (public_value i) = refl
value_shift o e s (periodic_value c) = refl
value_shift o e s first_row = refl
value_shift o e s last_row = refl
value_shift o e s transition = refl
value_shift {F} {E} o e s (sum t u) = ap (λ (x : E). o.plus x (value o (shifted_environment s e) u)) (value_shift o e s t) ∙ ap (λ (x : E). o.plus (value o e (shift_tree s t)) x) (value_shift o e s u)
value_shift {F} {E} o e s (difference t u) = ap (λ (x : E). o.minus x (value o (shifted_environment s e) u)) (value_shift o e s t) ∙ ap (λ (x : E). o.minus (value o e (shift_tree s t)) x) (value_shift o e s u)
value_shift {F} {E} o e s (product t u) = ap (λ (x : E). o.times x (value o (shifted_environment s e) u)) (value_shift o e s t) ∙ ap (λ (x : E). o.times (value o e (shift_tree s t)) x) (value_shift o e s u)
value_shift {F} {E} o e s (negation t) = ap (λ (x : E). o.negated x) (value_shift o e s t)

-- Shifted constraints keep the laws of every builder: `n` is the start at `s`, `m` at `t`.
module _ {F : Type 0} {S : Type 0} {E : Type 0} {environment : S → Environment E} {layout : S → Layout} {after : S → List (Constraint F) → S → Type 0} (laws : EmissionLaws environment layout after) (n m : ℕ) (s t : S) (cs : List (Constraint F)) (same : m ≡ n) (h : after s (map (shift n) cs) t) where
  pub shift_both : (u : S) (ds : List (Constraint F)) → after t (map (shift m) ds) u → after s (map (shift n) (cs ++ ds)) u
  shift_both u ds k = subst (λ l. after s l u) (sym (map-append (shift n) cs ds)) (laws.both s t u (map (shift n) cs) (map (shift n) ds) h (subst (λ (i : ℕ). after t (map (shift i) ds) u) same k))

  pub shift_environment : shifted_environment m (environment t) ≡ shifted_environment n (environment s)
  shift_environment =
      ap (λ (i : ℕ). shifted_environment i (environment t)) same ∙ ap (λ (e : Environment E). shifted_environment n e) (laws.same_environment s t (map (shift n) cs) h)

  pub shift_layout : (v w : ℕ) → v ≡ w → shifted_layout m v (layout t) ≡ shifted_layout n w (layout s)
  shift_layout v w wide =
      ap (λ (i : ℕ). shifted_layout i v (layout t)) same ∙ ap (λ (i : ℕ). shifted_layout n i (layout t)) wide ∙ ap (λ (l : Layout). shifted_layout n w l) (laws.same_layout s t (map (shift n) cs) h)
