-- A running sum comes round to where it began exactly where what is added in the rows is zero in all.
use Rattle.std.specs.Prelude.{◌≡◌, ◌≢◌, ◌⊎◌, ℕ, zero, suc, ◌+◌, ◌-◌, ◌*◌, ◌<◌, ◌≤◌, List, [], ◌∷◌, map, length, refl}
use Rattle.std.proofs.Common.{sym, ap, ◌∙◌, subst, arith, inl, inr}
use Rattle.std.proofs.lemmas.List.{map-append}
use Rattle.stark_support.specs.Ring.{RingOps, RingLaws, FieldLaws, difference}
use Rattle.stark_support.specs.RingSolver.{solve, opposite_of, ◌⊕◌, v0, v1}
use Rattle.stark_support.specs.Polynomial.{HoldsOfAtMost}
use Rattle.stark_logup.specs.Fractions.{Entry, keys, total, fraction_sum, list_sum, IsKeyOf, AreHelpers, AuxiliaryColumns, joined, rows_below}
use Rattle.stark_logup.specs.Columns.{sum_below}
use Rattle.stark_logup.specs.EntryFacts.{merged, merged_length, weighted_joined}
use Rattle.stark_logup.specs.Counts.{all_parts, fewer_hold, more_allowed, either_holds}
use Rattle.stark_logup.specs.FractionFacts.{IsApart, IsZeroSum, cleared, few_poles, few_zero_sums, helpers_sum, pole_or_apart}

-- ---- sums of a function of rows

-- From each row to the next the running sum gains what the row adds, and after the last it is what it was at first.
pub record RunsRound {K : Type 0} (ring : RingOps K) (rows : ℕ) (added sums : ℕ → K) : Type 0 where
  pub step : (r : ℕ) → r < rows → sums (suc r) ≡ ring.add (sums r) (added r)
  pub round : sums rows ≡ sums 0

last_row : (n : ℕ) → n < suc n
last_row n = omega arith

earlier_row : (r n : ℕ) → r < n → r < suc n
earlier_row r n h = omega arith

last_or_earlier : (r n : ℕ) → r < suc n → (r ≡ n) ⊎ (r < n)
last_or_earlier r n h = grind arith

module _ {K : Type 0} {ring : RingOps K} (laws : RingLaws ring) where
  pub reached : (n : ℕ) (added sums : ℕ → K) → ((r : ℕ) → r < n → sums (suc r) ≡ ring.add (sums r) (added r)) → sums n ≡ ring.add (sums 0) (sum_below ring added n)
  reached zero added sums step = sym (laws.add_zero (sums 0))
  reached (suc n) added sums step =
      step n (last_row n) ∙ ap (λ w. ring.add w (added n)) (reached n added sums (λ r below. step r (earlier_row r n below))) ∙ laws.add_assoc _ _ _

  nothing_added : (x y : K) → ring.add x y ≡ x → y ≡ ring.zero
  nothing_added x y h =
      solve laws (x ∷ y ∷ []) v1 (opposite_of v0 ⊕ (v0 ⊕ v1)) refl ∙ ap (ring.add (ring.neg x)) h ∙ laws.add_comm _ _ ∙ laws.add_neg x

  -- Where it comes round, the rows add nothing in all.
  pub round_adds_nothing : (rows : ℕ) (added sums : ℕ → K) → RunsRound ring rows added sums → sum_below ring added rows ≡ ring.zero
  round_adds_nothing rows added sums runs = nothing_added (sums 0) (sum_below ring added rows) (sym (reached rows added sums runs.step) ∙ runs.round)

  -- Where they add nothing in all, a running sum from any value on comes round.
  pub comes_round : (rows : ℕ) (added : ℕ → K) (first : K) → sum_below ring added rows ≡ ring.zero → RunsRound ring rows added (λ r. ring.add first (sum_below ring added r))
  comes_round rows added first none = record {
    step = λ r below. sym (laws.add_assoc first (sum_below ring added r) (added r));
    round = ap (ring.add first) none;
  }

-- ---- the rows' fractions

module _ {K : Type 0} {ring : RingOps K} {inverse : K → K} (laws : FieldLaws ring inverse) (groups : ℕ → List (List (Entry K K))) (gamma : K) where
  abbrev below : ℕ → List (Entry K K)
  below n = rows_below (λ r. joined (groups r)) n

  keys_below : (n : ℕ) → IsApart gamma (below (suc n)) → IsApart gamma (below n) × IsApart gamma (joined (groups n))
  keys_below n apart =
      all_parts (λ y. gamma ≢ y) (keys (below n)) (keys (joined (groups n))) (rw (← map-append (λ (e : Entry K K). e.key) (below n) (joined (groups n))) apart)

  apart_in_row : (n r : ℕ) → r < n → IsApart gamma (below n) → IsApart gamma (joined (groups r))
  apart_in_row zero r h apart = absurd (omega arith)
  apart_in_row (suc n) r h apart = elim (last_or_earlier r n h) [
    | inl same ↦ subst (λ k. IsApart gamma (joined (groups k))) (sym same) (keys_below n apart).1
    | inr less ↦ apart_in_row n r less (keys_below n apart).0
  ]

  -- Off the poles the rows' helpers add up to the sum of all fractions.
  pub rows_sum : (n : ℕ) (helpers : ℕ → List K) → IsApart gamma (below n) → ((r : ℕ) → r < n → AreHelpers ring gamma (groups r) (helpers r))
      → sum_below ring (λ r. list_sum ring (helpers r)) n ≡ fraction_sum ring inverse gamma (below n)
  rows_sum zero helpers apart helps = refl
  rows_sum (suc n) helpers apart helps =
      let parts = keys_below n apart in
      ap (λ w. ring.add w (list_sum ring (helpers n))) (rows_sum n helpers parts.0 (λ r h. helps r (earlier_row r n h)))
      ∙ ap (ring.add (fraction_sum ring inverse gamma (below n))) (helpers_sum laws gamma (groups n) (helpers n) parts.1 (helps n (last_row n)))
      ∙ sym (weighted_joined laws.of_ring (λ a. inverse (difference ring gamma a)) (below n) (joined (groups n)))

  -- Where auxiliary columns meet the constraints, gamma is a pole or the sum of all fractions is zero.
  pub pole_or_zero_sum : (rows : ℕ) → AuxiliaryColumns ring gamma groups rows → IsKeyOf gamma (below rows) ⊎ IsZeroSum ring inverse (below rows) gamma
  pole_or_zero_sum rows columns = elim (pole_or_apart laws.decides gamma (below rows)) [
    | inl pole ↦ inl pole
    | inr apart ↦ inr (record {
      apart = apart;
      sum = sym (rows_sum rows columns.helpers apart (λ r h. (columns.adds r h).helps))
          ∙ round_adds_nothing laws.of_ring rows (λ r. list_sum ring (columns.helpers r)) columns.sums (record { step = λ r h. (columns.adds r h).step; round = columns.round });
    })
  ]

  -- ---- the columns of a prover

  fractions_help : (gs : List (List (Entry K K))) → IsApart gamma (joined gs) → AreHelpers ring gamma gs (map (fraction_sum ring inverse gamma) gs)
  fractions_help [] apart = tt
  fractions_help (g ∷ gs) apart =
      let parts = all_parts (λ y. gamma ≢ y) (keys g) (keys (joined gs)) (rw (← map-append (λ (e : Entry K K). e.key) g (joined gs)) apart) in
      (laws.of_ring.mul_comm _ _ ∙ sym (cleared laws gamma g parts.0), fractions_help gs parts.1)

  -- Each helper is its group's sum of fractions, and the running sum begins with zero.
  pub computed_columns : (rows : ℕ) → IsApart gamma (below rows) → fraction_sum ring inverse gamma (below rows) ≡ ring.zero → AuxiliaryColumns ring gamma groups rows
  computed_columns rows apart none =
      let helpers = λ (r : ℕ). map (fraction_sum ring inverse gamma) (groups r) in
      let helps : (r : ℕ) → r < rows → AreHelpers ring gamma (groups r) (helpers r) = λ r h. fractions_help (groups r) (apart_in_row rows r h apart) in
      let added = λ (r : ℕ). list_sum ring (helpers r) in
      let runs = comes_round laws.of_ring rows added ring.zero (rows_sum rows helpers apart helps ∙ none) in
      record {
        helpers = helpers;
        sums = λ r. ring.add ring.zero (sum_below ring added r);
        adds = λ r h. record { helps = helps r h; step = runs.step r h };
        round = runs.round;
      }

all_allowed : (m n : ℕ) → m ≤ n → n + (m - 1) ≤ 2 * n - 1
all_allowed m n h = omega arith

module _ {K : Type 0} {ring : RingOps K} {inverse : K → K} (laws : FieldLaws ring inverse) (groups : ℕ → List (List (Entry K K))) (rows : ℕ) where
  -- Where some key isn't balanced, few gammas let any auxiliary columns pass.
  pub few_gammas : (k : K) → total ring laws.decides k (rows_below (λ r. joined (groups r)) rows) ≢ ring.zero
      → HoldsOfAtMost (2 * length (rows_below (λ r. joined (groups r)) rows) - 1) (λ gamma. AuxiliaryColumns ring gamma groups rows)
  few_gammas k unbalanced =
      let es = rows_below (λ r. joined (groups r)) rows in
      let once = merged ring laws.decides es in
      let either = either_holds (length es) (length once - 1) (few_poles es) (few_zero_sums laws laws.decides k es unbalanced) in
      more_allowed (length es + (length once - 1)) (2 * length es - 1) (all_allowed (length once) (length es) (merged_length ring laws.decides es))
      (fewer_hold (length es + (length once - 1)) (λ gamma columns. pole_or_zero_sum laws groups gamma rows columns) either)
