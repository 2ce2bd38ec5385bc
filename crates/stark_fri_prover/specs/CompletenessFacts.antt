-- An honest prover's proof is accepted.
use Rattle.std.specs.Prelude.{◌≡◌, ℕ, ◌+◌, ◌^◌, ◌<◌, ◌≤◌, true, List, [], ◌∷◌, length, map, refl}
use Rattle.std.specs.List.{AllByRecursion, zip}
use Rattle.std.proofs.Common.{sym, ap, ◌∙◌, subst, arith}
use Rattle.std.proofs.lemmas.List.{length-map}
use Rattle.std.proofs.lemmas.Nat.{pow-add}
use Rattle.stark_support.specs.Claims.{RoundPoints}
use Rattle.stark_support.specs.Coset.{IsTwoAdicCoset, TwoAdicCoset, coset_point}
use Rattle.stark_support.specs.Embedding.{embedded_two_adic}
use Rattle.stark_support.specs.Faults.{PlaceByPlace}
use Rattle.stark_support.specs.Polynomial.{value}
use Rattle.stark_support.specs.Scheme.{row_at}
use Rattle.stark_support.specs.Sponge.{observed_all}
use Rattle.stark_support.specs.TwoAdic.{TwoAdicLaws}
use Rattle.stark_folding.specs.Walk.{folded_all, steps_of_layers, walked}
use Rattle.stark_folding.specs.WalkFacts.{walk_of_layers}
use Rattle.stark_fri.proofs.AcceptSteps.{betas_counted}
use Rattle.stark_fri.specs.Accept.{Accepted, Holds, bits_of, log_final, log_height_of, target_of}
use Rattle.stark_fri.specs.Parts.{FriDataView, FriOps}
use Rattle.stark_fri.specs.Query.{InputLeads, batched_value, extension_coset, extension_root, last_point, phase_root}
use Rattle.stark_fri.specs.Scheme.{extension_of, instance_of, own_rounds}
use Rattle.stark_fri.specs.Transcript.{Instance, Passes, after_final, after_work, alpha_of, fold_betas, observed_extension, places_from, query_places}
use Rattle.stark_fri_proof.specs.Parts.{FriProofView, InputOpening, QueryProof}
use Rattle.stark_fri_proof.specs.declared.parameters.FriParameters.{FriParameters}
use Rattle.stark_fri_prover.specs.CommitFacts.{rows_are}
use Rattle.stark_fri_prover.specs.MadeOpening.{AreLawful, IsExtendedRound, IsOpening, OpensQuery, OpensRound, own_instance}
use Rattle.stark_fri_prover.specs.CompletenessFactsLengths.{folded_all_halves, places_below, places_counted}
use Rattle.stark_fri_prover.specs.CompletenessFactsLists.{all_zipped, related_count, related_with}
use Rattle.stark_fri_prover.specs.CompletenessFactsOpened.{batched_is_value, embedded_point, inputs_fit}
use Rattle.stark_fri_prover.specs.CompletenessFactsWay.{LeadsToRoots, have_places, way_leads}

module _ {C F E : Type 0} (ops : FriOps C F E) (bytes_of : F → List ℕ) (coordinates : E → List F) (lawful : AreLawful ops.fields bytes_of coordinates) (s : FriParameters)
    (rounds : List (RoundPoints E (FriDataView F))) (start : C) (proof : FriProofView F E) (opening : IsOpening ops bytes_of coordinates s rounds start proof) where
  abbrev own : Instance C F E
  own = own_instance ops s rounds start proof

  abbrev bits : ℕ
  bits = bits_of ops own

  abbrev height : ℕ
  height = log_height_of ops own

  abbrev betas : List E
  betas = fold_betas ops.sponge own

  abbrev coset : TwoAdicCoset E
  coset = extension_coset ops.fields bits

  abbrev point : ℕ → E
  point place = coset_point ops.fields.ring (extension_root ops.fields) coset place

  lifted : TwoAdicLaws ops.fields.ring ops.fields.adicity (extension_root ops.fields) (ops.fields.embed ops.fields.generator)
  lifted = embedded_two_adic lawful.embeds ops.fields.adicity ops.fields.root ops.fields.generator lawful.two_adic

  valid : IsTwoAdicCoset ops.fields.ring ops.fields.adicity coset
  valid = record { shift_nonzero = lifted.generator_nonzero; within = opening.claims.within }

  number : length betas ≡ length proof.phases
  number = betas_counted ops.sponge own betas refl

  number_of_trees : length betas ≡ length (map phase_root proof.phases)
  number_of_trees = number ∙ sym (length-map proof.phases phase_root)

  few : length betas ≤ bits
  few =
      let folds = opening.folding.folds.number in
      omega (arith, number, folds)

  -- ---- the shape

  final_length : length proof.final_polynomial ≡ 2 ^ log_final s height
  final_length =
      let folds = opening.folding.folds.number in
      let whole : height ≡ length betas + log_final s height = omega (arith, number, folds) in
      ap length opening.folding.folds.folded
      ∙ folded_all_halves ops.fields.ring betas opening.polynomial (2 ^ log_final s height)
      (opening.batch.number ∙ ap (λ m. 2 ^ m) whole ∙ pow-add 2 (length betas) (log_final s height))

  -- ---- the work

  state_is : observed_all (observed_extension ops.sponge.observing) proof.final_polynomial opening.folding.after_folds ≡ after_final ops.sponge own
  state_is = ap (observed_all (observed_extension ops.sponge.observing) proof.final_polynomial) opening.folding.folds.state

  query_work : Passes ops.sponge s.query_proof_of_work_bits (after_final ops.sponge own, proof.query_witness)
  query_work = (opening.folding.work.none_asked, subst (λ state. ops.sponge.passes state s.query_proof_of_work_bits proof.query_witness ≡ true) state_is opening.folding.work.passing)

  work_is : opening.folding.after_work ≡ after_work ops.sponge own
  work_is = opening.folding.work.state ∙ ap (λ state. ops.sponge.after_check state s.query_proof_of_work_bits proof.query_witness) state_is

  -- ---- a query

  abbrev Opens : ℕ → QueryProof F E → Type 0
  Opens place query = OpensQuery ops.fields bits ops.hash rounds opening.folding.layers place query

  abbrev ReadsAt : ℕ → RoundPoints E (FriDataView F) → InputOpening F → Type 0
  ReadsAt place round input =
      input.rows ≡ map (λ columns. row_at ops.fields.base (λ c. c) columns (coset_point ops.fields.base ops.fields.root (extension_of ops.fields.generator bits) place)) round.0.matrices

  reads : (place : ℕ) → place < 2 ^ bits → (query : QueryProof F E) → Opens place query → PlaceByPlace (ReadsAt place) rounds query.inputs
  reads place below query opens =
      related_with (IsExtendedRound ops.fields bits) (OpensRound ops.fields bits ops.hash place) (ReadsAt place)
      (λ round input extended opened.
      opened.rows ∙ rows_are ops.fields.base ops.fields.root (extension_of ops.fields.generator bits) round.0.matrices round.0.extended extended.rows place below)
      rounds query.inputs opening.extended opens.inputs

  have_points : (some : List (RoundPoints E (FriDataView F))) → AllByRecursion (IsExtendedRound ops.fields bits) some
      → AllByRecursion (λ (round : RoundPoints E (FriDataView F)). length round.1 ≡ length round.0.matrices) some
  have_points [] all = tt
  have_points (round ∷ some) all = (all.0.points, have_points some all.1)

  inputs_lead : (place : ℕ) (some : List (RoundPoints E (FriDataView F))) (inputs : List (InputOpening F)) → PlaceByPlace (OpensRound ops.fields bits ops.hash place) some inputs
      → AllByRecursion (InputLeads ops.fields ops.hash bits place) (zip (own_rounds ops some) inputs)
  unfolding PlaceByPlace
  inputs_lead place [] inputs all = tt
  inputs_lead place (round ∷ some) [] all = tt
  inputs_lead place (round ∷ some) (input ∷ inputs) all = (all.0.path, inputs_lead place some inputs all.1)

  value_is : (place : ℕ) → place < 2 ^ bits → (query : QueryProof F E) → Opens place query
      → batched_value ops.fields ops.hash (target_of ops own) (place, query) ≡ value ops.fields.ring opening.polynomial (point place)
  value_is place below query opens =
      batched_is_value ops.fields lawful.embeds lawful.base lawful.extension lawful.two_adic (alpha_of ops.sponge own) bits place opening.claims.within rounds query.inputs opening.claims.off
      (reads place below query opens)
      ∙ sym (opening.batch.values (point place))

  leads : (place : ℕ) → place < 2 ^ bits → (query : QueryProof F E) → Opens place query
      → LeadsToRoots ops.fields ops.hash coset betas opening.polynomial place
      (batched_value ops.fields ops.hash (target_of ops own) (place, query)) (map phase_root proof.phases) query.layers
  leads place below query opens =
      way_leads ops.fields bytes_of coordinates ops.fields.ring.zero ops.hash lawful.pair_bytes lawful.extension lifted coset valid betas opening.polynomial opening.folding.layers proof.phases query.layers place
      (batched_value ops.fields ops.hash (target_of ops own) (place, query)) few below (value_is place below query opens) opening.folding.words opening.folding.trees
      (opens.way (have_places ops.fields coset betas opening.polynomial opening.folding.layers place few below opening.folding.words))

  query_holds : (place : ℕ) (query : QueryProof F E) → place < 2 ^ bits → Opens place query → Holds ops own (place, query)
  query_holds place query below opens =
      let on_way = leads place below query opens in
      let base_point = coset_point ops.fields.base ops.fields.root (extension_of ops.fields.generator bits) place in
      let walk = λ (v : E) (steps : List (E × E)). walked ops.fields.ring ops.fields.inverse (extension_root ops.fields) coset place v steps in
      record {
        fits = (
          inputs_fit ops.fields lawful.embeds (point place) base_point (embedded_point ops.fields lawful.embeds bits place) rounds query.inputs (have_points rounds opening.extended)
              (reads place below query opens),
          on_way.number ∙ number_of_trees,
        );
        inputs = inputs_lead place rounds query.inputs opens.inputs;
        layers = on_way.pairs;
        final = ap (walk (batched_value ops.fields ops.hash (target_of ops own) (place, query))) on_way.steps
            ∙ ap (λ v. walk v (steps_of_layers ops.fields.ring (extension_root ops.fields) coset place opening.polynomial betas)) (value_is place below query opens)
            ∙ walk_of_layers lawful.extension ops.fields.adicity (extension_root ops.fields) (ops.fields.embed ops.fields.generator) lifted coset valid betas few opening.polynomial place below
            ∙ ap (λ n. value ops.fields.ring (folded_all ops.fields.ring betas opening.polynomial) (last_point ops.fields n coset place)) number_of_trees
            ∙ ap (λ p. value ops.fields.ring p (last_point ops.fields (length (map phase_root proof.phases)) coset place)) (sym opening.folding.folds.folded);
      }

  -- ---- the whole

  opened : PlaceByPlace Opens (query_places ops.sponge own bits) proof.queries
  opened = subst (λ state. PlaceByPlace Opens (places_from ops.sponge bits s.num_queries state) proof.queries) work_is opening.queries

  -- An honest prover's proof is accepted of its own claims.
  pub opening_is_accepted : Accepted ops (instance_of s (own_rounds ops rounds) proof start)
  opening_is_accepted = record {
    shape = record {
      claims = opening.claims;
      phases = opening.folding.folds.number;
      final = final_length;
      queries = related_count Opens (query_places ops.sponge own bits) proof.queries opened ∙ places_counted ops.sponge bits s.num_queries (after_work ops.sponge own);
    };
    folds_work = opening.folding.folds.passing;
    query_work = query_work;
    queries = all_zipped Opens (λ place. place < 2 ^ bits) (Holds ops own) query_holds (query_places ops.sponge own bits) proof.queries
        (places_below ops.sponge bits s.num_queries (after_work ops.sponge own)) opened;
  }
