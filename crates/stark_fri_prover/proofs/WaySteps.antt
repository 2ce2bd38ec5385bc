-- A way through layers, one layer after the other.
use Rattle.std.proofs.Common.{◌≡◌, ◌∙◌, ℕ, ◌+◌, ◌*◌, ◌<◌, ◌≤◌, List, [], ◌∷◌, ◌++◌, append_assoc, ap, drop, get_or, length, refl, subst, sym}
use Rattle.std.proofs.lemmas.List.{append-nil, drop_all}
use Rattle.stark_support.proofs.Places.{from_place}
use Rattle.stark_merkle.specs.Tree.{digests_in}
use Rattle.stark_fri_proof.specs.declared.proof.LayerOpening.{LayerOpening}
use Rattle.stark_fri_prover.specs.Layers.{HavePlaces, OpenWay, OpensPlace, half_of, pair_place}
use Rattle.stark_fri_prover.specs.declared.layers.Layer.{Layer}

module _ {E : Type 0} (layers : List (Layer E)) (start : ℕ) where
  -- From the layer i on there is the place, and whatever is opened there ends the way.
  abbrev pub WayTo : ℕ → ℕ → List (LayerOpening E) → Type 0
  WayTo i place opened = HavePlaces layers start → HavePlaces (drop i layers) place × ((rest : List (LayerOpening E)) → OpenWay (drop i layers) place rest → OpenWay layers start (opened ++ rest))

  pub no_way : (opened : List (LayerOpening E)) → opened ≡ [] → WayTo 0 start opened
  no_way opened none = λ have. (have, λ rest way. subst (λ t. OpenWay layers start (t ++ rest)) (sym none) way)

  module _ (i : ℕ) (place : ℕ) (layer : Layer E) (opened : List (LayerOpening E)) (within : i < length layers) (is : layer ≡ get_or layers i layer) (so_far : WayTo i place opened) where
    here : drop i layers ≡ layer ∷ drop (i + 1) layers
    here = from_place layers i (i + 1) layer refl within is

    -- The layer has the place.
    pub has_place : HavePlaces layers start → place < half_of layer * 2
    unfolding HavePlaces
    has_place have = (subst (λ t. HavePlaces t place) here (so_far have).0).0

    pub way_more : (next : ℕ) (opening : LayerOpening E) (after : List (LayerOpening E)) → after ≡ opened ++ opening ∷ [] → next ≡ pair_place (half_of layer) place
        → OpensPlace layer.values.items (digests_in layer.tree.items) place opening → WayTo (i + 1) next after
    unfolding HavePlaces OpenWay
    way_more next opening after pushed leads opens = λ have.
        let way = so_far have in (
          subst (HavePlaces (drop (i + 1) layers)) (sym leads) (subst (λ t. HavePlaces t place) here way.0).1,
          λ rest left.
              let both : OpenWay (layer ∷ drop (i + 1) layers) place (opening ∷ rest) = (opens, subst (λ n. OpenWay (drop (i + 1) layers) n rest) leads left) in
              subst (OpenWay layers start) (sym (ap (λ t. t ++ rest) pushed ∙ append_assoc opened (opening ∷ []) rest))
              (way.1 (opening ∷ rest) (subst (λ t. OpenWay t place (opening ∷ rest)) (sym here) both)),
        )

    -- A layer that opens nothing hasn't the place, which no way leads to.
    pub no_more_way : (next : ℕ) → (place < half_of layer * 2 → ⊥) → WayTo (i + 1) next opened
    no_more_way next none = λ have. absurd (none (has_place have))

  pub way_all : (i : ℕ) (place : ℕ) (opened : List (LayerOpening E)) → length layers ≤ i → WayTo i place opened → HavePlaces layers start → OpenWay layers start opened
  unfolding OpenWay
  way_all i place opened ended so_far = λ have.
      let way = so_far have in
      subst (OpenWay layers start) (append-nil opened) (way.1 [] (subst (λ t. OpenWay t place []) (sym (drop_all i layers ended)) tt))
