-- A weighted sum of lanes, gathered from its end.
use Rattle.std.proofs.Common.{◌≡◌, ◌∙◌, ℕ, zero, suc, ◌+◌, ◌≤◌, Some, List, [], ◌∷◌, length, drop, option_map, ap, sym, arith}
use Rattle.std.specs.List.{slice_get}
use Rattle.std.proofs.lemmas.List.{drop_all}
use Rattle.std.proofs.lemmas.Option.{none-some, same_Some}
use Rattle.stark_support.specs.Combination.{linear_combination}
use Rattle.stark_support.specs.Operations.{ring_operations}
use Rattle.stark_fields.specs.Residues.{residue}
use Rattle.stark_fields.specs.ResidueLanes.{in_each_lane, lanes_ring}
use Rattle.stark_fields.specs.SmallResidues.{Residue12289}
use Rattle.stark_fields.specs.declared.lanes.Lanes.{Lanes}

module _ {M : Type 0} where
  -- the sum of the values from a place on, each times its weight
  abbrev pub sum_from : List (Lanes M) → List (Residue12289 M) → ℕ → Lanes M
  sum_from vs cs i = linear_combination (ring_operations lanes_ring in_each_lane) (residue 0) (drop i vs) (drop i cs)

  pub sum_of_none : (vs : List (Lanes M)) (cs : List (Residue12289 M)) (i : ℕ) (sum : Lanes M) (z : Residue12289 M) → length vs ≤ i → z ≡ residue 0 → sum ≡ in_each_lane z → sum ≡ sum_from vs cs i
  sum_of_none vs cs i sum z past is e =
      e ∙ ap in_each_lane is
      ∙ ap (λ us. linear_combination (ring_operations lanes_ring in_each_lane) (residue 0) us (drop i cs)) (sym (drop_all i vs past))

  term_before : (vs : List (Lanes M)) (cs : List (Residue12289 M)) (i : ℕ) (v w : Lanes M) → slice_get vs i ≡ Some v → option_map in_each_lane (slice_get cs i) ≡ Some w
      → lanes_ring.add (lanes_ring.mul v w) (sum_from vs cs (suc i)) ≡ sum_from vs cs i
  term_before [] cs i v w h k = absurd (none-some v h)
  term_before (a ∷ vs) [] i v w h k = absurd (none-some w k)
  term_before (a ∷ vs) (b ∷ cs) zero v w h k =
      let value = same_Some a v h in
      let weight = same_Some (in_each_lane b) w k in
      λ t. lanes_ring.add (lanes_ring.mul (sym value t) (sym weight t)) (sum_from vs cs zero)
  term_before (a ∷ vs) (b ∷ cs) (suc i) v w h k = term_before vs cs i v w h k

  module _ (vs : List (Lanes M)) (cs : List (Residue12289 M)) where
    -- a value and its weight at a place
    pub record At (i : ℕ) (v w : Lanes M) : Type 0 where
      pub value : slice_get vs i ≡ Some v
      pub weight : option_map in_each_lane (slice_get cs i) ≡ Some w

    pub one_more_term : (i j : ℕ) (v w sum : Lanes M) → i + 1 ≡ j → At i v w → sum ≡ sum_from vs cs j → lanes_ring.add (lanes_ring.mul v w) sum ≡ sum_from vs cs i
    one_more_term i j v w sum next at e =
        let before : j ≡ suc i = omega (arith, next) in
        ap (lanes_ring.add (lanes_ring.mul v w)) (e ∙ ap (sum_from vs cs) before) ∙ term_before vs cs i v w at.value at.weight
