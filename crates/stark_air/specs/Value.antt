-- What a tree is worth over one row, in any algebra.
use Rattle.std.specs.Prelude.{ℕ, ◌<◌, List, map, Option, Some, None}
use Rattle.stark_support.specs.Operations.{Operations}
use Rattle.stark_air.specs.Tree.{Tree, Constraint, base, extension, constant, main_current, main_next, preprocessed_current, preprocessed_next, public_value, periodic_value, first_row, last_row, transition, sum, difference, product, negation}
use Rattle.std.specs.List.{slice_get}
use Rattle.stark_air.specs.Layout.{Layout}

-- A value for each leaf that is no constant.
pub record Environment (E : Type 0) : Type 0 where
  pub main_current : ℕ → E
  pub main_next : ℕ → E
  pub preprocessed_current : ℕ → E
  pub preprocessed_next : ℕ → E
  pub public_value : ℕ → E
  pub periodic_value : ℕ → E
  pub first_row : E
  pub last_row : E
  pub transition : E

-- The value of a tree.
abbrev pub value : {F : Type 0} {E : Type 0} → Operations F E → Environment E → Tree F → E
value o e (constant k) = o.embed k
value o e (main_current c) = e.main_current c
value o e (main_next c) = e.main_next c
value o e (preprocessed_current c) = e.preprocessed_current c
value o e (preprocessed_next c) = e.preprocessed_next c
value o e (public_value i) = e.public_value i
value o e (periodic_value c) = e.periodic_value c
value o e first_row = e.first_row
value o e last_row = e.last_row
value o e transition = e.transition
value o e (sum t u) = o.plus (value o e t) (value o e u)
value o e (difference t u) = o.minus (value o e t) (value o e u)
value o e (product t u) = o.times (value o e t) (value o e u)
value o e (negation t) = o.negated (value o e t)

-- A constraint's value, in an algebra that has both the base's and the extension's.
abbrev pub constraint_value : {F : Type 0} {E : Type 0} → Operations F E → Environment E → Constraint F → E
constraint_value o e (base t) = value o e t
constraint_value o e (extension t) = value o e t

abbrev pub constraint_values : {F : Type 0} {E : Type 0} → Operations F E → Environment E → List (Constraint F) → List E
constraint_values o e cs = map (constraint_value o e) cs

-- A variable is there, and each expression that it is turned into stands for the value.
abbrev pub IsVariableOf : {V : Type 0} {E : Type 0} → (V → E → Type 0) → (E → E → Type 0) → E → Option V → Type 0
IsVariableOf from_gives stands v None = ⊥
IsVariableOf from_gives stands v (Some x) = (y : _) → from_gives x y → stands v y

-- The first `count` variables of a row stand for the values.
pub record Shows {V : Type 0} {E : Type 0} (from_gives : V → E → Type 0) (stands : E → E → Type 0) (values : ℕ → E) (count : ℕ) (row : ℕ → Option V) : Type 0 where
  pub shows : (c : ℕ) → c < count → IsVariableOf from_gives stands (values c) (row c)

-- What a builder lends shows its row: public values and periodic ones,
abbrev pub ShowsPublicValues : {S V E : Type 0} → (V → E → Type 0) → (E → E → Type 0) → (S → Environment E) → (S → Layout) → S → List V → Type 0
ShowsPublicValues gives stands environment layout s values = Shows gives stands (environment s).public_value (layout s).public_values (slice_get values)

abbrev pub ShowsPeriodicValues : {S V E : Type 0} → (V → E → Type 0) → (E → E → Type 0) → (S → Environment E) → (S → Layout) → S → List V → Type 0
ShowsPeriodicValues gives stands environment layout s values = Shows gives stands (environment s).periodic_value (layout s).periodics (slice_get values)

-- and both rows of the main columns.
abbrev pub ShowsMain : {S V E W : Type 0} → (V → E → Type 0) → (E → E → Type 0) → (S → Environment E) → (S → Layout) → S → (W → ℕ → Option V) → (W → ℕ → Option V) → W → Type 0
ShowsMain gives stands environment layout s current_at next_at w = (Shows gives stands (environment s).main_current (layout s).main (current_at w))
    × (Shows gives stands (environment s).main_next (layout s).main_next (next_at w))

abbrev pub ShowsPreprocessed : {S V E W : Type 0} → (V → E → Type 0) → (E → E → Type 0) → (S → Environment E) → (S → Layout) → S → (W → ℕ → Option V) → (W → ℕ → Option V) → W → Type 0
ShowsPreprocessed gives stands environment layout s current_at next_at w = (Shows gives stands (environment s).preprocessed_current (layout s).preprocessed (current_at w))
    × (Shows gives stands (environment s).preprocessed_next (layout s).preprocessed_next (next_at w))
