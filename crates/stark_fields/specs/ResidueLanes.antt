-- Four residues in the lanes of a vector, as the ring of four residues.
use Rattle.std.specs.Prelude.{◌≡◌, ℕ, zero, suc, ◌+◌, ◌-◌, ◌*◌, ◌<◌, ◌%◌, List, [], ◌∷◌, length, map, slice_index, refl}
use Rattle.std.specs.Simd.Lanes.{zip2}
use Rattle.std.proofs.Common.{sym, ◌∙◌, ap, arith, lit<}
use Rattle.std.specs.Coded.{le_prop}
use Rattle.std.proofs.Math.Nat.{mod-eq_of_lt}
use mathlib.Core.HLevel.{is_prop→PathP, Π_prop}
use native.Mathlib.Nat.{ℕ_set}
use Rattle.stark_support.specs.Ring.{RingOps}
use Rattle.stark_support.specs.KeepsRing.{KeepsRing, kept_difference}
use Rattle.stark_support.specs.Operations.{ring_operations}
use Rattle.stark_support.specs.Lanes.{IsLaneByLane}
use Rattle.stark_fields.specs.Residues.{residue, residue_ring, residue_of_value}
use Rattle.stark_fields.specs.SmallResidues.{Residue12289}
use Rattle.stark_fields.specs.declared.lanes.Lanes.{Lanes}

-- what a function answers at the four lanes
abbrev pub in_fours : {A : Type 0} → (ℕ → A) → List A
in_fours f = f 0 ∷ f 1 ∷ f 2 ∷ f 3 ∷ []

-- ---- of the numbers in the lanes, not reduced
unfoldable pub number_sums : {M : Type 0} → Lanes M → Lanes M → List ℕ
number_sums x y = zip2 (λ a b. a + b) x.numbers y.numbers

unfoldable pub number_products : {M : Type 0} → Lanes M → Lanes M → List ℕ
number_products x y = zip2 (λ a b. a * b) x.numbers y.numbers

unfoldable pub number_complements : {M : Type 0} → Lanes M → List ℕ
number_complements x = map (λ n. 12289 - n) x.numbers

-- each number modulo 12289
unfoldable pub number_remainders : List ℕ → List ℕ
number_remainders xs = map (λ n. n % 12289) xs

-- ---- as residues
-- the residue in a lane
abbrev pub lane : {M : Type 0} → Lanes M → ℕ → Residue12289 M
lane x i = residue (slice_index x.numbers i)

-- the residues in the lanes, in order
abbrev pub lanes_of : {M : Type 0} → Lanes M → List (Residue12289 M)
lanes_of x = in_fours (lane x)

module _ {M : Type 0} where
  pub numbers_in_range : (f : ℕ → Residue12289 M) (i : ℕ) → slice_index (in_fours (λ j. (f j).value)) i < 12289
  numbers_in_range f zero = (f 0).in_range
  numbers_in_range f (suc zero) = (f 1).in_range
  numbers_in_range f (suc (suc zero)) = (f 2).in_range
  numbers_in_range f (suc (suc (suc zero))) = (f 3).in_range
  numbers_in_range f (suc (suc (suc (suc i)))) = lit< tt

-- what a function answers at the four lanes, in them
abbrev pub from_lanes : {M : Type 0} → (ℕ → Residue12289 M) → Lanes M
from_lanes f = record { numbers = in_fours (λ i. (f i).value); kind = record {}; four = refl; in_range = numbers_in_range f }

unfoldable pub in_each_lane : {M : Type 0} → Residue12289 M → Lanes M
in_each_lane x = from_lanes (λ _. x)

-- the operations, lane by lane
unfoldable pub lanes_ring : {M : Type 0} → RingOps (Lanes M)
lanes_ring = record {
  zero = in_each_lane (residue 0);
  one = in_each_lane (residue 1);
  add = λ x y. from_lanes (λ i. residue_ring.add (lane x i) (lane y i));
  mul = λ x y. from_lanes (λ i. residue_ring.mul (lane x i) (lane y i));
  neg = λ x. from_lanes (λ i. residue_ring.neg (lane x i));
}

pub in_fours_same : {A : Type 0} (f g : ℕ → A) → ((i : ℕ) → i < 4 → f i ≡ g i) → in_fours f ≡ in_fours g
in_fours_same f g h = λ t. h 0 (lit< tt) t ∷ h 1 (lit< tt) t ∷ h 2 (lit< tt) t ∷ h 3 (lit< tt) t ∷ []

-- four numbers are those at the four lanes
pub four_numbers : (xs : List ℕ) → length xs ≡ 4 → in_fours (λ i. slice_index xs i) ≡ xs
four_numbers [] h = absurd (omega arith)
four_numbers (a ∷ []) h = absurd (omega arith)
four_numbers (a ∷ (b ∷ [])) h = absurd (omega arith)
four_numbers (a ∷ (b ∷ (c ∷ []))) h = absurd (omega arith)
four_numbers (a ∷ (b ∷ (c ∷ (d ∷ [])))) h = refl
four_numbers (a ∷ (b ∷ (c ∷ (d ∷ (e ∷ r))))) h = absurd (omega arith)

module _ {M : Type 0} where
  pub same_numbers : (x y : Lanes M) → x.numbers ≡ y.numbers → x ≡ y
  same_numbers x y e = λ i. record {
    numbers = e i;
    kind = x.kind;
    four = is_prop→PathP (λ j. length (e j) ≡ 4) (λ j. ℕ_set _ _) x.four y.four i;
    in_range = is_prop→PathP (λ j. (k : ℕ) → slice_index (e j) k < 12289) (λ j. Π_prop (λ k. le_prop)) x.in_range y.in_range i;
  }

  lane_numbers : (x : Lanes M) → map (λ (r : Residue12289 M). r.value) (lanes_of x) ≡ x.numbers
  lane_numbers x =
      in_fours_same (λ i. slice_index x.numbers i % 12289) (λ i. slice_index x.numbers i) (λ i h. mod-eq_of_lt (x.in_range i))
      ∙ four_numbers x.numbers x.four

  -- the lanes say all
  pub same_lanes : (x y : Lanes M) → lanes_of x ≡ lanes_of y → x ≡ y
  same_lanes x y e = same_numbers x y (sym (lane_numbers x) ∙ ap (map (λ (r : Residue12289 M). r.value)) e ∙ lane_numbers y)

  pub lane_made : (f : ℕ → Residue12289 M) (i : ℕ) → i < 4 → lane (from_lanes f) i ≡ f i
  lane_made f zero h = residue_of_value (f 0)
  lane_made f (suc zero) h = residue_of_value (f 1)
  lane_made f (suc (suc zero)) h = residue_of_value (f 2)
  lane_made f (suc (suc (suc zero))) h = residue_of_value (f 3)
  lane_made f (suc (suc (suc (suc i)))) h = absurd (omega arith)

  pub lane_of_each : (x : Residue12289 M) (i : ℕ) → i < 4 → lane (in_each_lane x) i ≡ x
  unfolding in_each_lane
  lane_of_each x i h = lane_made (λ _. x) i h

  -- a lane keeps the operations
  pub lane_keeps : (i : ℕ) → i < 4 → KeepsRing (lanes_ring {M = M}) residue_ring (λ x. lane x i)
  unfolding lanes_ring in_each_lane
  lane_keeps i h = record {
    zero = lane_made (λ _. residue 0) i h;
    one = lane_made (λ _. residue 1) i h;
    add = λ x y. lane_made (λ j. residue_ring.add (lane x j) (lane y j)) i h;
    mul = λ x y. lane_made (λ j. residue_ring.mul (lane x j) (lane y j)) i h;
    neg = λ x. lane_made (λ j. residue_ring.neg (lane x j)) i h;
  }

  pub is_lane_by_lane : IsLaneByLane (residue_ring {K = M}) (ring_operations lanes_ring in_each_lane) 4 lanes_of
  is_lane_by_lane = record {
    exponent = 2;
    power_of_two = refl;
    as_many = λ x. refl;
    same = same_lanes;
    embed = λ k x. in_fours_same _ _ (λ i h. lane_of_each k i h);
    plus = λ x y. in_fours_same _ _ (λ i h. (lane_keeps i h).add x y);
    minus = λ x y. in_fours_same _ _ (λ i h. kept_difference (lane_keeps i h) x y _ _ refl refl);
    times = λ x y. in_fours_same _ _ (λ i h. (lane_keeps i h).mul x y);
    negated = λ x. in_fours_same _ _ (λ i h. (lane_keeps i h).neg x);
  }

-- The product of two factors, lane by lane, and with something added to it.
abbrev pub product : {M : Type 0} → Lanes M × Lanes M → Lanes M
product factors = lanes_ring.mul factors.0 factors.1

abbrev pub plus_product : {M : Type 0} → Lanes M × Lanes M → Lanes M → Lanes M
plus_product factors rest = lanes_ring.add (product factors) rest
