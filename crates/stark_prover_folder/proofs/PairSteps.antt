-- Lanes of two packed values side by side.
use Rattle.std.proofs.Common.{◌≡◌, ◌⊎◌, ◌∙◌, ◌<◌, ◌≤◌, ◌+◌, ◌-◌, ℕ, List, [], ◌∷◌, length, map, slice_index_or, ap, arith, refl, inl, inr}
use Rattle.std.proofs.lemmas.List.{get_or_append_left, get_or-append-add}
use Rattle.stark_support.specs.Pairs.{both_lanes, pack_at}
use Rattle.stark_support.specs.declared.vectorized.PackedPair.{PackedPair}
use Rattle.stark_prover_folder.specs.Finalized.{lane_values}

before_or_behind : (i n : ℕ) → (i < n) ⊎ (n ≤ i)
before_or_behind i n = grind arith

module _ {F P Level : Type 0} {N : ℕ} (lanes : P → List F) (width : ℕ) (many : (x : P) → length (lanes x) ≡ width) (i : ℕ) (d : F) where
  pub first_lane : i < width → (v : PackedPair F P Level N) → slice_index_or (both_lanes lanes v) i d ≡ slice_index_or (lanes v.first) i d
  first_lane before v = get_or_append_left (lanes v.first) (lanes v.second) d i (omega (arith, before, many v.first))

  pub second_lane : width ≤ i → (v : PackedPair F P Level N) → slice_index_or (both_lanes lanes v) i d ≡ slice_index_or (lanes v.second) (i - width) d
  second_lane behind v =
      ap (λ k. slice_index_or (both_lanes lanes v) k d) (let e : i ≡ length (lanes v.first) + (i - width) = omega (arith, behind, many v.first) in e) ∙
      get_or-append-add (lanes v.first) (lanes v.second) (i - width) d

  pub first_lanes : i < width → (vs : List (PackedPair F P Level N)) → lane_values (both_lanes lanes) i d vs ≡ lane_values lanes i d (map (pack_at 0) vs)
  first_lanes before [] = refl
  first_lanes before (v ∷ vs) = ap (λ x. x ∷ lane_values (both_lanes lanes) i d vs) (first_lane before v) ∙ ap (λ l. slice_index_or (lanes v.first) i d ∷ l) (first_lanes before vs)

  pub second_lanes : width ≤ i → (vs : List (PackedPair F P Level N)) → lane_values (both_lanes lanes) i d vs ≡ lane_values lanes (i - width) d (map (pack_at 1) vs)
  second_lanes behind [] = refl
  second_lanes behind (v ∷ vs) = ap (λ x. x ∷ lane_values (both_lanes lanes) i d vs) (second_lane behind v) ∙ ap (λ l. slice_index_or (lanes v.second) (i - width) d ∷ l) (second_lanes behind vs)

  -- What holds of a lane of the first, and of one of the second, holds of the lane of both.
  pub in_both : (v : PackedPair F P Level N) (x : F) → (i < width → slice_index_or (lanes v.first) i d ≡ x) → (width ≤ i → slice_index_or (lanes v.second) (i - width) d ≡ x)
      → slice_index_or (both_lanes lanes v) i d ≡ x
  in_both v x one other = elim (before_or_behind i width) [
    | inl before ↦ first_lane before v ∙ one before
    | inr behind ↦ second_lane behind v ∙ other behind
  ]
