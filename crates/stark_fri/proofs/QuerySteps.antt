-- What is found of a query, of what its tests find in memory.
use Rattle.std.proofs.Common.{◌≡◌, ◌∙◌, ℕ, List, length, map, None, Some, sym, ap, subst}
use Rattle.std.specs.List.{AllByRecursion}
use Rattle.std.proofs.lemmas.List.{length-map}
use Rattle.stark_support.specs.Faults.{FindsFirstFault}
use Rattle.stark_support.specs.Polynomial.{value}
use Rattle.stark_merkle.specs.Tree.{TreeDigests}
use Rattle.stark_fri_proof.specs.Parts.{FriProofView, InputOpening, QueryProof}
use Rattle.stark_fri_proof.specs.declared.proof.LayerOpening.{LayerOpening}
use Rattle.stark_fri_proof.specs.declared.proof.Phase.{Phase}
use Rattle.stark_fri.specs.Claims.{RoundRead}
use Rattle.stark_fri.specs.Found.{FindsInputFault, target_by}
use Rattle.stark_fri.specs.Eights.{EndsAt, IsQueryWalk}
use Rattle.stark_fri.specs.Parts.{FriFields}
use Rattle.stark_fri.specs.Query.{Fits, InputsLead, PairLeads, QueryFails, QueryFits, QueryHolds, batched_at, extension_coset, last_point, phase_root, query_pairs}
use Rattle.stark_fri.specs.Walks.{FindsLayerFault, openings_of}
use Rattle.stark_fri.specs.declared.error.QueryFault.TheVariants.{Final, Layer}
use Rattle.stark_fri.specs.declared.folds.FoldWalk.{FoldWalk}
use Rattle.stark_fri.specs.declared.folds.Pair.{Pair}
use Rattle.stark_fri.specs.declared.replay.Drawn.{Drawn}
use Rattle.stark_fri.proofs.FoldSteps.{openings_are}

module _ {F E : Type 0} (fields : FriFields F E) (hash : TreeDigests) (rounds : List (RoundRead E)) (bits : ℕ) (drawn : Drawn E) (proof : FriProofView F E) (place : ℕ) (query : QueryProof F E) where
  module _ (phases : List (Phase F)) (is_phases : phases ≡ proof.phases) (shape : QueryFits rounds (length phases) query)
      (inputs : List (InputOpening F)) (is_inputs : inputs ≡ query.inputs) (lead : FindsInputFault fields hash bits place rounds inputs None) where
    fits : Fits fields hash (target_by rounds bits drawn proof) (place, query)
    fits = subst (λ n. QueryFits rounds n query) (ap length is_phases ∙ sym (length-map proof.phases phase_root)) shape

    inputs_lead : InputsLead fields hash (target_by rounds bits drawn proof) (place, query)
    inputs_lead = subst (λ t. FindsInputFault fields hash bits place rounds t None) is_inputs lead

    module _ (walk : FoldWalk E) (is_walk : IsQueryWalk fields (target_by rounds bits drawn proof) place query walk) (layers : List (LayerOpening E)) (is_layers : layers ≡ query.layers)
        (pairs : List (Pair E)) (is_pairs : pairs ≡ walk.pairs.items) where
      opened : openings_of fields bits (map phase_root phases) layers pairs ≡ query_pairs fields hash (target_by rounds bits drawn proof) (place, query)
      opened =
          ap (λ t. openings_of fields bits (map phase_root t) layers pairs) is_phases ∙ ap (λ t. openings_of fields bits (map phase_root proof.phases) t pairs) is_layers
          ∙ ap (openings_of fields bits (map phase_root proof.phases) query.layers) (is_pairs ∙ is_walk.0)
          ∙ openings_are fields (extension_coset fields bits) place (batched_at fields drawn.alpha bits rounds place query.inputs) (map phase_root proof.phases) drawn.betas.items query.layers

      layers_lead : FindsLayerFault fields hash bits phases layers pairs None → AllByRecursion (PairLeads hash) (query_pairs fields hash (target_by rounds bits drawn proof) (place, query))
      layers_lead obtained = subst (AllByRecursion (PairLeads hash)) opened obtained

      -- The value at the end, with the number of the folds told by the trees.
      counted : value fields.ring proof.final_polynomial (last_point fields (length proof.phases) (extension_coset fields bits) place)
          ≡ value fields.ring proof.final_polynomial (last_point fields (length (map phase_root proof.phases)) (extension_coset fields bits) place)
      counted = ap (λ n. value fields.ring proof.final_polynomial (last_point fields n (extension_coset fields bits) place)) (sym (length-map proof.phases phase_root))

      pub layer_fails : (layer : ℕ) → FindsLayerFault fields hash bits phases layers pairs (Some layer) → QueryFails fields hash (target_by rounds bits drawn proof) (Layer layer) (place, query)
      layer_fails layer obtained = (fits, inputs_lead, subst (λ t. FindsFirstFault (PairLeads hash) t (Some layer)) opened obtained)

      pub final_fails : FindsLayerFault fields hash bits phases layers pairs None → (EndsAt fields proof bits place walk → ⊥) → QueryFails fields hash (target_by rounds bits drawn proof) Final (place, query)
      final_fails obtained never = (fits, inputs_lead, layers_lead obtained, λ holds. never (is_walk.1 ∙ holds ∙ sym counted))

      pub query_holds : FindsLayerFault fields hash bits phases layers pairs None → EndsAt fields proof bits place walk → QueryHolds fields hash (target_by rounds bits drawn proof) (place, query)
      query_holds obtained ends = record { fits = fits; inputs = inputs_lead; layers = layers_lead obtained; final = sym is_walk.1 ∙ ends ∙ counted }
