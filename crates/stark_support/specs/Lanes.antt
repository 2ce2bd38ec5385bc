-- Packed values: several values, on which one operation works lane by lane.
use Rattle.std.specs.Prelude.{◌≡◌, ◌<◌, ℕ, zero, suc, ◌^◌, Some, List, [], ◌∷◌, map, length, slice_index_or, slice_set, refl}
use Rattle.std.specs.Simd.Lanes.{zip2}
use Rattle.std.specs.List.{slice_get}
use Rattle.std.proofs.Common.{ap, sym, arith, get_or}
use Rattle.std.proofs.lemmas.Option.{same_Some}
use Rattle.stark_support.specs.Ring.{RingOps, difference}
use Rattle.stark_support.specs.Operations.{Operations, ring_operations}

-- Each operation works lane by lane, an embedded value is in each lane, and the lanes say all of a packed value.
pub record IsLaneByLane {F P : Type 0} (ring : RingOps F) (operations : Operations F P) (width : ℕ) (lanes : P → List F) : Type 0 where
  pub exponent : ℕ
  pub power_of_two : width ≡ 2 ^ exponent
  pub as_many : (x : P) → length (lanes x) ≡ width
  pub same : (x y : P) → lanes x ≡ lanes y → x ≡ y
  pub embed : (k : F) (x : P) → lanes (operations.embed k) ≡ map (λ _. k) (lanes x)
  pub plus : (x y : P) → lanes (operations.plus x y) ≡ zip2 ring.add (lanes x) (lanes y)
  pub minus : (x y : P) → lanes (operations.minus x y) ≡ zip2 (difference ring) (lanes x) (lanes y)
  pub times : (x y : P) → lanes (operations.times x y) ≡ zip2 ring.mul (lanes x) (lanes y)
  pub negated : (x : P) → lanes (operations.negated x) ≡ map ring.neg (lanes x)

-- A packed value that is turned into one of an extension has each lane embedded.
abbrev pub EmbedsLanes : {F E P Q : Type 0} → (F → E) → (P → List F) → (Q → List E) → (P → Q → Type 0) → Type 0
EmbedsLanes {P = P} {Q = Q} embed lanes extension_lanes gives = (x : P) (y : Q) → gives x y → extension_lanes y ≡ map embed (lanes x)

-- Lane by lane an element of a basis times a coordinate, and the rest.
abbrev pub AddsProduct : {F E Q : Type 0} → RingOps E → (F → E) → List E → (Q → List E) → ℕ → ℕ → List F → Q → Q → Type 0
AddsProduct {E = E} ring embed basis lanes width index coordinate rest sum = (element : E) → slice_get basis index ≡ Some element → (i : ℕ) → i < width
    → slice_index_or (lanes sum) i ring.zero ≡ ring.add (ring.mul element (slice_index_or (map embed coordinate) i ring.zero)) (slice_index_or (lanes rest) i ring.zero)

-- A value by itself is packed into one lane.
abbrev pub one_lane : {F : Type 0} → F → List F
one_lane x = x ∷ []

first_or : {F : Type 0} → F → List F → F
first_or d [] = d
first_or d (x ∷ xs) = x

pub alone_is_lane_by_lane : {F : Type 0} (ring : RingOps F) → IsLaneByLane ring (ring_operations ring (λ x. x)) 1 one_lane
unfolding first_or
alone_is_lane_by_lane ring = record {
  exponent = 0;
  power_of_two = refl;
  as_many = λ x. refl;
  same = λ x y e. ap (first_or x) e;
  embed = λ k x. refl;
  plus = λ x y. refl;
  minus = λ x y. refl;
  times = λ x y. refl;
  negated = λ x. refl;
}

-- Of one lane: what it is made of, and read as.
pub lone_slice : {F : Type 0} (xs : List F) (x : F) → length xs ≡ 1 → x ≡ get_or xs 0 x → one_lane x ≡ xs
lone_slice [] x e is = absurd (omega arith)
lone_slice (y ∷ []) x e is = ap one_lane is
lone_slice (y ∷ z ∷ xs) x e is = absurd (omega arith)

pub lone_mapped : {F E : Type 0} (f : F → E) (xs : List F) (x : F) → length xs ≡ 1 → slice_get xs 0 ≡ Some x → one_lane (f x) ≡ map f xs
lone_mapped f [] x e is = absurd (omega arith)
lone_mapped f (y ∷ []) x e is = ap (λ z. one_lane (f z)) (sym (same_Some y x is))
lone_mapped f (y ∷ z ∷ xs) x e is = absurd (omega arith)

pub lone_replaced : {F : Type 0} (x y : F) (lane : ℕ) → lane < 1 → one_lane y ≡ slice_set (one_lane x) lane y
lone_replaced x y zero below = refl
lone_replaced x y (suc n) below = absurd (omega arith)

pub lone_extracted : {F : Type 0} (x : F) (lane : ℕ) → lane < 1 → slice_get (one_lane x) lane ≡ Some x
lone_extracted x zero below = refl
lone_extracted x (suc n) below = absurd (omega arith)
