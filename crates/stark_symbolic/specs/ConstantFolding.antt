-- Trees in which an operation on constants alone is the constant.
use Rattle.std.specs.Prelude.{Option, Some, None}
use Rattle.stark_support.specs.Ring.{RingOps, difference as ring_difference}
use Rattle.stark_air.specs.Tree.{Tree, constant, main_current, main_next, preprocessed_current, preprocessed_next, public_value, periodic_value, first_row, last_row, transition, sum, difference, product, negation}

-- The constant that a tree is.
abbrev pub constant_in : {F : Type 0} → Tree F → Option F
constant_in (constant k) = Some k
constant_in _ = None

abbrev pub both_constants : {F : Type 0} → Option F → Option F → Option (F × F)
both_constants (Some a) (Some b) = Some (a, b)
both_constants (Some a) None = None
both_constants None q = None

-- The node of two trees, or the constant where both are known to be constants.
abbrev pub pair_or_constant : {F : Type 0} → (Tree F → Tree F → Tree F) → (F → F → F) → Option (F × F) → Tree F → Tree F → Tree F
pair_or_constant node operation (Some p) t u = constant (operation p.0 p.1)
pair_or_constant node operation None t u = node t u

abbrev pub single_or_constant : {F : Type 0} → (Tree F → Tree F) → (F → F) → Option F → Tree F → Tree F
single_or_constant node operation (Some k) t = constant (operation k)
single_or_constant node operation None t = node t

abbrev pub folded_pair : {F : Type 0} → (Tree F → Tree F → Tree F) → (F → F → F) → Tree F → Tree F → Tree F
folded_pair node operation t u = pair_or_constant node operation (both_constants (constant_in t) (constant_in u)) t u

abbrev pub folded_single : {F : Type 0} → (Tree F → Tree F) → (F → F) → Tree F → Tree F
folded_single node operation t = single_or_constant node operation (constant_in t) t

-- The tree with each operation on constants alone computed.
abbrev pub constants_folded : {F : Type 0} → RingOps F → Tree F → Tree F
constants_folded ring (constant k) = constant k
constants_folded ring (main_current c) = main_current c
constants_folded ring (main_next c) = main_next c
constants_folded ring (preprocessed_current c) = preprocessed_current c
constants_folded ring (preprocessed_next c) = preprocessed_next c
constants_folded ring (public_value i) = public_value i
constants_folded ring (periodic_value c) = periodic_value c
constants_folded ring first_row = first_row
constants_folded ring last_row = last_row
constants_folded ring transition = transition
constants_folded ring (sum t u) = folded_pair sum ring.add (constants_folded ring t) (constants_folded ring u)
constants_folded ring (difference t u) = folded_pair difference (ring_difference ring) (constants_folded ring t) (constants_folded ring u)
constants_folded ring (product t u) = folded_pair product ring.mul (constants_folded ring t) (constants_folded ring u)
constants_folded ring (negation t) = folded_single negation ring.neg (constants_folded ring t)
