-- What a packed sum of products is in each lane.
use Rattle.std.specs.Prelude.{◌≡◌, ◌<◌, ℕ, List, [], ◌∷◌, map, slice_index_or, refl}
use Rattle.stark_support.specs.Ring.{RingOps}
use Rattle.stark_support.specs.Operations.{Operations, ring_operations}
use Rattle.stark_support.specs.Lanes.{IsLaneByLane}
use Rattle.stark_support.specs.Combination.{linear_combination}
use Rattle.stark_air.specs.LaneValues.{lane_embedded, lane_two}

module _ {F : Type 0} {P : Type 0} {ring : RingOps F} {o : Operations F P} {width : ℕ} {lanes : P → List F} (by_lane : IsLaneByLane ring o width lanes) (i : ℕ) (d : F) (within : i < width) where
  -- Lane i of a sum of products is the sum of the products of lane i.
  pub lane_combination : (zero : F) (vs : List P) (cs : List F) → slice_index_or (lanes (linear_combination o zero vs cs)) i d ≡ linear_combination (ring_operations ring (λ x. x)) zero (map (λ v. slice_index_or (lanes v) i d) vs) cs
  lane_combination zero [] cs = lane_embedded by_lane i d within zero
  lane_combination zero (v ∷ vs) [] = lane_embedded by_lane i d within zero
  lane_combination zero (v ∷ vs) (c ∷ cs) =
      lane_two by_lane i d within ring.add (o.times v (o.embed c)) (linear_combination o zero vs cs) _ _ _ (by_lane.plus (o.times v (o.embed c)) (linear_combination o zero vs cs))
      (lane_two by_lane i d within ring.mul v (o.embed c) _ _ _ (by_lane.times v (o.embed c)) refl (lane_embedded by_lane i d within c))
      (lane_combination zero vs cs)
