-- Two packed values side by side, seen as one list of lanes: those of the first, and behind them those of the second.
use Rattle.std.specs.Prelude.{◌≡◌, ◌≢◌, ◌*◌, ℕ, zero, suc, List, [], ◌∷◌, ◌++◌, length, take, drop, refl}
use Rattle.std.specs.Simd.Lanes.{zip2}
use Rattle.std.proofs.Common.{ap, sym, ◌∙◌, arith, length-append, pow-suc}
use Rattle.std.proofs.lemmas.List.{map-append}
use Rattle.stark_support.specs.Ring.{RingOps, difference}
use Rattle.stark_support.specs.Operations.{Operations}
use Rattle.stark_support.specs.Lanes.{IsLaneByLane}
use Rattle.stark_support.specs.declared.vectorized.PackedPair.{PackedPair}

-- A value that is two others, and nothing else.
pub record IsPair {P V : Type 0} (pair : P → P → V) (first second : V → P) : Type 0 where
  pub first_is : (x y : P) → first (pair x y) ≡ x
  pub second_is : (x y : P) → second (pair x y) ≡ y
  pub whole : (v w : V) → first v ≡ first w → second v ≡ second w → v ≡ w

module _ {F P V : Type 0} (pair : P → P → V) (first second : V → P) where
  -- Each operation works on the first values and on the second ones.
  abbrev pub pair_operations : Operations F P → Operations F V
  pair_operations o = record {
    embed = λ k. pair (o.embed k) (o.embed k);
    plus = λ v w. pair (o.plus (first v) (first w)) (o.plus (second v) (second w));
    minus = λ v w. pair (o.minus (first v) (first w)) (o.minus (second v) (second w));
    times = λ v w. pair (o.times (first v) (first w)) (o.times (second v) (second w));
    negated = λ v. pair (o.negated (first v)) (o.negated (second v));
  }

  abbrev pub pair_lanes : (P → List F) → V → List F
  pair_lanes lanes v = lanes (first v) ++ lanes (second v)

front_same : {F : Type 0} (xs ys us vs : List F) → length xs ≡ length us → xs ++ ys ≡ us ++ vs → xs ≡ us
front_same [] ys [] vs number same = refl
front_same [] ys (u ∷ us) vs number same = absurd (omega (arith, number))
front_same (x ∷ xs) ys [] vs number same = absurd (omega (arith, number))
front_same (x ∷ xs) ys (u ∷ us) vs number same =
    let head = ap (λ l. take 1 l) same in
    let rest = front_same xs ys us vs (omega (arith, number)) (ap (drop 1) same) in
    ap (λ l. l ++ xs) head ∙ ap (λ l. u ∷ l) rest

rest_same : {F : Type 0} (xs ys us vs : List F) → length xs ≡ length us → xs ++ ys ≡ us ++ vs → ys ≡ vs
rest_same [] ys [] vs number same = same
rest_same [] ys (u ∷ us) vs number same = absurd (omega (arith, number))
rest_same (x ∷ xs) ys [] vs number same = absurd (omega (arith, number))
rest_same (x ∷ xs) ys (u ∷ us) vs number same = rest_same xs ys us vs (omega (arith, number)) (ap (drop 1) same)

zipped_behind : {F : Type 0} (f : F → F → F) (xs ys us vs : List F) → length xs ≡ length us → zip2 f (xs ++ ys) (us ++ vs) ≡ zip2 f xs us ++ zip2 f ys vs
zipped_behind f [] ys [] vs number = refl
zipped_behind f [] ys (u ∷ us) vs number = absurd (omega (arith, number))
zipped_behind f (x ∷ xs) ys [] vs number = absurd (omega (arith, number))
zipped_behind f (x ∷ xs) ys (u ∷ us) vs number = ap (λ l. f x u ∷ l) (zipped_behind f xs ys us vs (omega (arith, number)))

module _ {F P V : Type 0} {pair : P → P → V} {first second : V → P} (is_pair : IsPair pair first second)
    {ring : RingOps F} {o : Operations F P} {width : ℕ} {lanes : P → List F} (by_lane : IsLaneByLane ring o width lanes) where
  lanes_made : (x y : P) (xs ys : List F) → lanes x ≡ xs → lanes y ≡ ys → pair_lanes pair first second lanes (pair x y) ≡ xs ++ ys
  lanes_made x y xs ys p q =
      ap (λ z. lanes z ++ lanes (second (pair x y))) (is_pair.first_is x y) ∙ ap (λ z. lanes x ++ lanes z) (is_pair.second_is x y) ∙ ap (λ l. l ++ lanes y) p ∙ ap (λ l. xs ++ l) q

  as_long : (x y : P) → length (lanes x) ≡ length (lanes y)
  as_long x y = by_lane.as_many x ∙ sym (by_lane.as_many y)

  two : (operation : F → F → F) (above : P → P → P) → ((x y : P) → lanes (above x y) ≡ zip2 operation (lanes x) (lanes y)) → (v w : V)
      → pair_lanes pair first second lanes (pair (above (first v) (first w)) (above (second v) (second w))) ≡ zip2 operation (pair_lanes pair first second lanes v) (pair_lanes pair first second lanes w)
  two operation above each v w =
      lanes_made _ _ _ _ (each (first v) (first w)) (each (second v) (second w)) ∙
      sym (zipped_behind operation (lanes (first v)) (lanes (second v)) (lanes (first w)) (lanes (second w)) (as_long (first v) (first w)))

  pub pair_is_lane_by_lane : IsLaneByLane ring (pair_operations pair first second o) (2 * width) (pair_lanes pair first second lanes)
  pair_is_lane_by_lane = record {
    exponent = suc by_lane.exponent;
    power_of_two = omega (arith, by_lane.power_of_two, pow-suc 2 by_lane.exponent);
    as_many = λ v.
        let one = by_lane.as_many (first v) in
        let other = by_lane.as_many (second v) in
        length-append (lanes (first v)) (lanes (second v)) ∙ omega (arith, one, other);
    same = λ v w e.
        is_pair.whole v w
        (by_lane.same _ _ (front_same (lanes (first v)) (lanes (second v)) (lanes (first w)) (lanes (second w)) (as_long (first v) (first w)) e))
        (by_lane.same _ _ (rest_same (lanes (first v)) (lanes (second v)) (lanes (first w)) (lanes (second w)) (as_long (first v) (first w)) e));
    embed = λ k v.
        lanes_made _ _ _ _ (by_lane.embed k (first v)) (by_lane.embed k (second v)) ∙ sym (map-append (λ _. k) (lanes (first v)) (lanes (second v)));
    plus = two ring.add o.plus by_lane.plus;
    minus = two (difference ring) o.minus by_lane.minus;
    times = two ring.mul o.times by_lane.times;
    negated = λ v.
        lanes_made _ _ _ _ (by_lane.negated (first v)) (by_lane.negated (second v)) ∙ sym (map-append ring.neg (lanes (first v)) (lanes (second v)));
  }

-- ---- operators that answer what the operations do
module _ {P V : Type 0} {pair : P → P → V} {first second : V → P} (is_pair : IsPair pair first second) where
  -- A value whose parts are known is the pair of them.
  pub is_made : (v : V) (x y : P) → first v ≡ x → second v ≡ y → v ≡ pair x y
  is_made v x y p q = is_pair.whole v (pair x y) (p ∙ sym (is_pair.first_is x y)) (q ∙ sym (is_pair.second_is x y))

  pub pair_binary : (stands : P → P → Type 0) → ((x : P) → stands x x) → ((v x : P) → stands v x → x ≡ v) → (operation : P → P → P) (gives : P → P → P → Type 0)
      → ((x y z v w : P) → gives x y z → stands v x → stands w y → stands (operation v w) z)
      → (x y z v w : V) → gives (first x) (first y) (first z) × gives (second x) (second y) (second z) → x ≡ v → y ≡ w → z ≡ pair (operation (first v) (first w)) (operation (second v) (second w))
  pair_binary stands itself exact operation gives each x y z v w given p q =
      is_made z (operation (first x) (first y)) (operation (second x) (second y))
      (exact _ _ (each _ _ _ _ _ given.0 (itself (first x)) (itself (first y)))) (exact _ _ (each _ _ _ _ _ given.1 (itself (second x)) (itself (second y)))) ∙
      ap (λ t. pair (operation (first t) (first y)) (operation (second t) (second y))) p ∙ ap (λ t. pair (operation (first v) (first t)) (operation (second v) (second t))) q

  pub pair_unary : (stands : P → P → Type 0) → ((x : P) → stands x x) → ((v x : P) → stands v x → x ≡ v) → (operation : P → P) (gives : P → P → Type 0)
      → ((x z v : P) → gives x z → stands v x → stands (operation v) z)
      → (x z v : V) → gives (first x) (first z) × gives (second x) (second z) → x ≡ v → z ≡ pair (operation (first v)) (operation (second v))
  pair_unary stands itself exact operation gives each x z v given p =
      is_made z (operation (first x)) (operation (second x))
      (exact _ _ (each _ _ _ given.0 (itself (first x)))) (exact _ _ (each _ _ _ given.1 (itself (second x)))) ∙
      ap (λ t. pair (operation (first t)) (operation (second t))) p

module _ {F P Level : Type 0} {N : ℕ} where
  abbrev pub side_by_side : P → P → PackedPair F P Level N
  side_by_side x y = record { first = x; second = y; level = record {} }

  -- The pack at a place: the first one at 0, the second one from 1 on.
  abbrev pub pack_at : ℕ → PackedPair F P Level N → P
  pack_at zero v = v.first
  pack_at (suc n) v = v.second

  pub later_pack : (n : ℕ) (v : PackedPair F P Level N) → n ≢ 0 → v.second ≡ pack_at n v
  later_pack zero v some = absurd (some refl)
  later_pack (suc n) v some = refl

  -- Each operation, on both.
  abbrev pub both_operations : Operations F P → Operations F (PackedPair F P Level N)
  both_operations o = pair_operations side_by_side (λ v. v.first) (λ v. v.second) o

  abbrev pub both_lanes : (P → List F) → PackedPair F P Level N → List F
  both_lanes lanes v = lanes v.first ++ lanes v.second

  pub pair_parts : IsPair side_by_side (λ (v : PackedPair F P Level N). v.first) (λ v. v.second)
  pair_parts = record { first_is = λ x y. refl; second_is = λ x y. refl; whole = λ v w p q i. record { first = p i; second = q i; level = v.level } }
