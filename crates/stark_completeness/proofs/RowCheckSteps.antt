-- A check of a trace's rows.
use Rattle.std.proofs.Common.{◌≡◌, ◌≢◌, ◌∙◌, ap, sym, subst, arith, refl, add-one, ℕ, zero, suc, ◌+◌, ◌*◌, ◌^◌, ◌<◌, ◌≤◌, List, [], ◌∷◌, length, take, Option, Some, None, inl, inr}
use Rattle.std.specs.List.{AllByRecursion, slice_get}
use Rattle.std.proofs.lemmas.List.{take_all}
use Rattle.std.proofs.lemmas.Bool.{cases_lt}
use Rattle.stark_support.specs.Ring.{RingOps, FieldLaws}
use Rattle.stark_support.specs.Powers.{power, power_sum}
use Rattle.stark_support.specs.TwoAdic.{HasOrder}
use Rattle.stark_support.specs.Selectors.{first_row_selector, last_row_selector}
use Rattle.stark_support.specs.Subgroup.{group_of}
use Rattle.stark_completeness.proofs.SelectorRows.{first_elsewhere, last_elsewhere}
use Rattle.stark_support.specs.Operations.{ring_operations}
use Rattle.stark_air.specs.Declaration.{Trace, next_width}
use Rattle.stark_air.specs.Rows.{environment_of}
use Rattle.stark_air.specs.Tree.{Constraint}
use Rattle.stark_air.specs.Value.{Environment}
use Rattle.stark_security.specs.ConstraintPolynomial.{AirInstance, height}
use Rattle.stark_completeness.specs.RowSatisfaction.{TraceRows, HoldsInRow}
use Rattle.stark_completeness.specs.RowCheck.{base_air, rows_in, trace_rows, IsBrokenIn, IsFirstNonzero, IsFirstViolation, IsFoundIn, IsRefusedOr, values_in}
use Rattle.stark_completeness.specs.CheckedRows.{IsGiven, checked_air, checked_rows}
use Rattle.stark_completeness.specs.declared.check.CheckedTrace.{CheckedTrace}
use Rattle.stark_completeness.specs.declared.violation.ConstraintViolation.{ConstraintViolation}
use Rattle.stark_completeness.specs.declared.violation.ConstraintCheckError.{ConstraintCheckError}
use Rattle.stark_completeness.specs.declared.violation.ConstraintCheckError.TheVariants.{OutOfMemory, Violation}

module _ {A : Type 0} (P : A → Type 0) where
  -- One more element.
  grown : (xs : List A) (k : ℕ) (x : A) → slice_get xs k ≡ Some x → P x → AllByRecursion P (take k xs) → AllByRecursion P (take (suc k) xs)
  grown [] k x h p so_far = absurd (cc)
  grown (y ∷ ys) zero x h p so_far = (subst P (let same : x ≡ y = cc in same) p, tt)
  grown (y ∷ ys) (suc k) x h p so_far = (so_far.0, grown ys k x h p so_far.1)

  pub front_grows : (xs : List A) (k : ℕ) (x : A) → slice_get xs k ≡ Some x → P x → AllByRecursion P (take k xs) → AllByRecursion P (take (k + 1) xs)
  front_grows xs k x h p so_far = subst (λ n. AllByRecursion P (take n xs)) (sym (add-one k)) (grown xs k x h p so_far)

  -- All of them.
  pub front_is_all : (xs : List A) (k : ℕ) → length xs ≤ k → AllByRecursion P (take k xs) → AllByRecursion P xs
  front_is_all xs k all so_far = subst (AllByRecursion P) (take_all k xs all) so_far

-- The sum of powers grows by the next one.
pub sum_grows : {K : Type 0} (ring : RingOps K) (x next sum after : K) (k : ℕ) → after ≡ ring.add next sum → next ≡ power ring x k → sum ≡ power_sum ring x k → after ≡ power_sum ring x (k + 1)
unfolding power_sum
sum_grows ring x next sum after k is is_next is_sum =
    is ∙ ap (λ n. ring.add n sum) is_next ∙ ap (ring.add (power ring x k)) is_sum ∙ ap (power_sum ring x) (sym (add-one k))

pub power_grows : {K : Type 0} (ring : RingOps K) (x next after : K) (k : ℕ) → after ≡ ring.mul x next → next ≡ power ring x k → after ≡ power ring x (k + 1)
unfolding power
power_grows ring x next after k is is_next = is ∙ ap (ring.mul x) is_next ∙ ap (power ring x) (sym (add-one k))

pub no_powers : {K : Type 0} (ring : RingOps K) (x : K) → ring.zero ≡ power_sum ring x 0
unfolding power_sum
no_powers ring x = refl

pub no_power : {K : Type 0} (ring : RingOps K) (x : K) → ring.one ≡ power ring x 0
unfolding power
no_power ring x = refl

-- The sum of the powers of one.
pub as_many_ones : {K : Type 0} (ring : RingOps K) (sum one : K) (count size : ℕ) → sum ≡ power_sum ring one count → one ≡ ring.one → count ≡ size → sum ≡ power_sum ring ring.one size
as_many_ones ring sum one count size is is_one is_size = is ∙ ap (λ x. power_sum ring x count) is_one ∙ ap (power_sum ring ring.one) is_size

module _ {K : Type 0} {ring : RingOps K} {inverse : K → K} (laws : FieldLaws ring inverse) (g : K) (log_size : ℕ) (order : HasOrder ring g (2 ^ log_size)) (nonzero : g ≢ ring.zero) where
  -- The first row's selector, in the first row and in each other one.
  pub first_there : (s : K) → s ≡ power_sum ring ring.one (2 ^ log_size) → (k : ℕ) → k ≡ 0 → s ≡ first_row_selector ring (λ c. c) (group_of inverse g log_size) (power ring g k)
  first_there s is k at = is ∙ ap (λ x. power_sum ring x (2 ^ log_size)) (no_power ring g ∙ ap (power ring g) (sym at))

  pub first_not_there : (z : K) → z ≡ ring.zero → (k : ℕ) → k ≢ 0 → k < 2 ^ log_size → z ≡ first_row_selector ring (λ c. c) (group_of inverse g log_size) (power ring g k)
  first_not_there z is k elsewhere below = is ∙ sym (first_elsewhere laws g log_size order nonzero k (let later : 0 < k = omega (arith, elsewhere) in later) below)

  -- The last row's.
  pub last_there : (s : K) → s ≡ ring.mul g (power_sum ring ring.one (2 ^ log_size)) → (k : ℕ) → k + 1 ≡ 2 ^ log_size → s ≡ last_row_selector ring (λ c. c) (group_of inverse g log_size) (power ring g k)
  unfolding power
  last_there s is k at =
      let whole : ring.mul g (power ring g k) ≡ ring.one = ap (power ring g) (sym (add-one k) ∙ at) ∙ order.reaches in
      is ∙ ap (λ x. ring.mul g (power_sum ring x (2 ^ log_size))) (sym whole)

  pub last_not_there : (z : K) → z ≡ ring.zero → (k : ℕ) → k + 1 ≢ 2 ^ log_size → k < 2 ^ log_size → z ≡ last_row_selector ring (λ c. c) (group_of inverse g log_size) (power ring g k)
  last_not_there z is k elsewhere below = is ∙ sym (last_elsewhere laws g log_size order nonzero k (let before : suc k < 2 ^ log_size = omega (arith, elsewhere, below) in before))

-- So many rows, by other names.
pub as_many_rows : (values bits width log columns : ℕ) → values ≡ 2 ^ bits * width → log ≡ bits → columns ≡ width → values ≡ 2 ^ log * columns
as_many_rows values bits width log columns number is_log is_width = number ∙ ap (λ n. 2 ^ n * width) (sym is_log) ∙ ap (λ w. 2 ^ log * w) (sym is_width)

-- Of a next row no more is read than the row has.
pub next_within : (columns : List ℕ) (width : ℕ) → next_width columns width ≤ width
next_within [] width = omega arith
next_within (c ∷ cs) width = omega arith

-- Rows of the same values have the same leaves.
module _ {F : Type 0} (ring : RingOps F) where
  abbrev leaves : List F → List F → List F → List F → List F → List F → F → F → F → Environment F
  leaves main next preprocessed preprocessed_next public_values periodic first last change = environment_of (ring_operations ring (λ c. c)) ring.zero ring.zero main next preprocessed preprocessed_next public_values periodic first last change

  pub same_leaves : (public_values : List F) {m n f h p m' n' f' h' p' : List F} {a b c a' b' c' : F} → m ≡ m' → n ≡ n' → f ≡ f' → h ≡ h' → p ≡ p' → a ≡ a' → b ≡ b' → c ≡ c'
      → leaves m n f h public_values p a b c ≡ leaves m' n' f' h' public_values p' a' b' c'
  same_leaves public_values {m} {n} {f} {h} {p} {m'} {n'} {f'} {h'} {p'} {a} {b} {c} {a'} {b'} {c'} em en ef eh ep ea eb ec =
      ap (λ x. leaves x n f h public_values p a b c) em ∙ ap (λ x. leaves m' x f h public_values p a b c) en ∙ ap (λ x. leaves m' n' x h public_values p a b c) ef ∙ ap (λ x. leaves m' n' f' x public_values p a b c) eh
      ∙ ap (λ x. leaves m' n' f' h' public_values x a b c) ep ∙ ap (λ x. leaves m' n' f' h' public_values p' x b c) ea ∙ ap (λ x. leaves m' n' f' h' public_values p' a' x c) eb ∙ ap (λ x. leaves m' n' f' h' public_values p' a' b' x) ec

module _ {F E : Type 0} (i : AirInstance F E) (rows : TraceRows F) where
  -- Where no value is found that isn't zero, the row breaks nothing,
  pub none_found : (k : ℕ) (values : List F) → values ≡ values_in i rows k → IsFoundIn i.base.zero values None → HoldsInRow i rows k
  none_found k values are obtained = subst (AllByRecursion (λ c. c ≡ i.base.zero)) are obtained

  -- and else the first.
  pub one_found : (k : ℕ) (values : List F) (violation : ConstraintViolation F) → values ≡ values_in i rows k → violation.row ≡ k → IsFirstNonzero i.base.zero values violation.constraint violation.value → IsBrokenIn i rows k violation
  one_found k values violation are at obtained = record { row_is = at; first = subst (λ list. IsFirstNonzero i.base.zero list violation.constraint violation.value) are obtained }

  -- It is the first of all where no row before breaks one.
  pub first_of_all : (k : ℕ) (error : ConstraintCheckError F) → k < height i → ((n : ℕ) → n < k → HoldsInRow i rows n) → IsRefusedOr (IsBrokenIn i rows k) error → IsRefusedOr (IsFirstViolation i rows) error
  first_of_all k OutOfMemory below before broken = tt
  first_of_all k (Violation violation) below before broken =
      let at = sym broken.row_is in
      record {
        within = subst (λ n. n < height i) at below;
        before = subst (λ n. (j : ℕ) → j < n → HoldsInRow i rows j) at before;
        broken = record { row_is = refl; first = subst (λ n. IsFirstNonzero i.base.zero (values_in i rows n) violation.constraint violation.value) at broken.first };
      }

  -- One more row.
  pub rows_grow : (k : ℕ) → ((n : ℕ) → n < k → HoldsInRow i rows n) → HoldsInRow i rows k → (n : ℕ) → n < k + 1 → HoldsInRow i rows n
  rows_grow k before there n below = elim (cases_lt n k) [
    | inl earlier ↦ before n earlier
    | inr now ↦ subst (HoldsInRow i rows) (let same : k ≡ n = omega (arith, below, now) in same) there
  ]

module _ {F : Type 0} where
  -- Matrices of the same values and widths have the same rows.
  pub same_rows : (public_values : List F) {v v' : List F} {w w' : ℕ} {f f' : List F} {u u' : ℕ} → v ≡ v' → w ≡ w' → f ≡ f' → u ≡ u' → rows_in v w f u public_values ≡ rows_in v' w' f' u' public_values
  same_rows public_values {v} {v'} {w} {w'} {f} {f'} {u} {u'} ev ew ef eu =
      ap (λ x. rows_in x w f u public_values) ev ∙ ap (λ x. rows_in v' x f u public_values) ew ∙ ap (λ x. rows_in v' w' x u public_values) ef ∙ ap (λ x. rows_in v' w' f' x public_values) eu

  -- What is said of a violation.
  pub follows_of : (A B : ConstraintViolation F → Type 0) → ((v : ConstraintViolation F) → A v → B v) → (e : ConstraintCheckError F) → IsRefusedOr A e → IsRefusedOr B e
  follows_of A B follows OutOfMemory said = tt
  follows_of A B follows (Violation v) said = follows v said

-- What is said of an AIR and rows, of the same AIR and rows.
pub said_of_same : {I R : Type 0} (P : I → R → Type 0) {i j : I} {r s : R} → i ≡ j → r ≡ s → P i r → P j s
said_of_same P {i} {j} {r} {s} same_air same_rows holds = subst (λ x. P x s) same_air (subst (P i) same_rows holds)

-- What is said of what is checked, of what was given.
pub said_of_given : {F : Type 0} (ring : RingOps F) (inverse : F → F) (root : ℕ → F) (constraints : List (Constraint F)) {columns : List (List F)} {trace : Trace F} {preprocessed : Option (Trace F)} {values : List F} {t : CheckedTrace F}
    (P : AirInstance F F → TraceRows F → Type 0) → IsGiven columns trace preprocessed values t → (log_size : ℕ) → length trace.values ≡ 2 ^ log_size * trace.width
    → P (checked_air ring inverse root constraints t) (checked_rows t) → P (base_air ring inverse root constraints columns log_size) (trace_rows trace preprocessed values)
said_of_given ring inverse root constraints {columns = columns} {t = t} P given log_size number holds =
    said_of_same P (ap (λ p. base_air ring inverse root constraints p t.log_height) given.periodic ∙ ap (base_air ring inverse root constraints columns) (given.height log_size number)) given.rows holds
