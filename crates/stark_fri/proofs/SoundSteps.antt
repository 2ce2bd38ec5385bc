-- What is accepted is sound: each drawn query passes, so that all but few places pass or the draws were of few.
use Rattle.std.specs.Prelude.{◌≡◌, ◌⊎◌, ◌↔◌, ℕ, zero, suc, ◌+◌, ◌-◌, ◌*◌, ◌^◌, ◌%◌, ◌<◌, ◌≤◌, Bool, true, false, min, List, [], ◌∷◌, length, map, refl}
use Rattle.std.specs.List.{AllByRecursion, zip}
use Rattle.std.proofs.Common.{sym, ap, ◌∙◌, subst, inl, inr, arith, mul-le-mul, pow-suc}
use Rattle.std.proofs.Math.Nat.{pow-zero}
use Rattle.std.proofs.lemmas.Bool.{cases_lt}
use Rattle.std.proofs.lemmas.List.{length-map}
use Rattle.std.proofs.lemmas.Nat.{pow-add}
use Rattle.stark_support.specs.Coset.{IsTwoAdicCoset, TwoAdicCoset, coset_point}
use Rattle.stark_support.specs.Embedding.{embedded_two_adic}
use Rattle.stark_support.specs.Polynomial.{HasDegreeBelow, value}
use Rattle.stark_support.specs.Ring.{FieldLaws, RingOps}
use Rattle.stark_support.specs.Sponge.{drawn_in_turn}
use Rattle.stark_support.specs.TwoAdic.{TwoAdicLaws}
use Rattle.stark_merkle.specs.Tree.{HashCollision}
use Rattle.stark_folding.specs.Fold.{squared_coset}
use Rattle.stark_folding.specs.Reduce.{reduced_at}
use Rattle.stark_folding.specs.Walk.{half_size, walked}
use Rattle.stark_fri_soundness.specs.Agreement.{ArePointsApart, count}
use Rattle.stark_fri_soundness.specs.BadFacts.{bad_draws_are_decided}
use Rattle.stark_fri_soundness.specs.BaseWordFacts.{base_claims_follow}
use Rattle.stark_fri_soundness.specs.Beta.{folded_word}
use Rattle.stark_fri_soundness.specs.Chain.{EndsAt, Layer, Opens, Passes, first_word}
use Rattle.stark_fri_soundness.specs.ChainFacts.{queries_pass}
use Rattle.stark_fri_soundness.specs.Claims.{Claim, ClaimsHold, ColumnIndex, all_seen_at}
use Rattle.stark_fri_soundness.specs.Halves.{place_below}
use Rattle.stark_fri_soundness.specs.QueryFacts.{few_queries_pass}
use Rattle.stark_fri_soundness.specs.Run.{NoDrawIsBad, PlacePasses, RunFits}
use Rattle.stark_fri_soundness.specs.RunFacts.{few_are_bad, fri_is_sound, points_apart}
use Rattle.stark_fri_soundness.specs.Searches.{decide_both}
use Rattle.stark_fri_proof.specs.Parts.{QueryProof}
use Rattle.stark_fri.specs.Accept.{Accepted, Holds, ProofFits, bits_of, log_final, log_height_of, target_of}
use Rattle.stark_fri.specs.Parts.{FriOps}
use Rattle.stark_fri.specs.Query.{QueryAt, batched_value, extension_coset, extension_root, last_point, phase_root, seen_of}
use Rattle.stark_fri.specs.Scheme.{extension_of}
use Rattle.stark_fri.specs.Soundness.{AreFields, ArePassing, BytesNameValues, ClaimsHoldOn, FewAreBad, IsRadius, IsSound, LeadToRoots, QueryOpens, Shown, drawn_places, final_length, row_count, row_point, run_of, trees_of}
use Rattle.stark_fri.specs.Transcript.{Instance, alpha_of, fold_betas, index_of}
use Rattle.stark_fri.specs.Words.{AreBoundAt, RowsAreOpened, Words, claims_of, column_word, embedded_column}
use Rattle.stark_fri.proofs.AcceptSteps.{betas_counted}
use Rattle.stark_fri.proofs.BoundSteps.{folds_open, rows_open}
use Rattle.stark_fri.proofs.WordSteps.{all_mean, claims_off, point_is, rounds_seen, seconds, valid, zip_length}

-- ---- numbers

whole_power : (k m : ℕ) → m ≤ k → 2 ^ (k - m) * 2 ^ m ≡ 2 ^ k
whole_power k m less = let whole : k - m + m ≡ k = omega arith in sym (pow-add 2 (k - m) m) ∙ ap (λ n. 2 ^ n) whole

least_left : (k l : ℕ) → min k l ≤ k
least_left k l = omega arith

smaller_power : (a b n : ℕ) → a ≤ b → a ^ n ≤ b ^ n
smaller_power a b zero less = omega (arith, pow-zero a, pow-zero b)
smaller_power a b (suc n) less = let powers : a ^ n * a ≤ b ^ n * b = mul-le-mul (smaller_power a b n less) less in omega (arith, powers, pow-suc a n, pow-suc b n)

fewer_places : (n e few : ℕ) → few + e < n → few ≤ n - suc e
fewer_places n e few below = omega arith

more_than_height : (e d n s : ℕ) → 2 * e + d < n → n ≤ s + e → suc d ≤ s
more_than_height e d n s h k = omega arith

within_bound : (length bound more : ℕ) → length ≤ bound → bound ≤ more → length ≤ more
within_bound length bound more few less = omega arith

-- ---- lists

drawn_count : {C T : Type 0} (draw : C → T) (after : C → C) (n : ℕ) (state : C) → length (drawn_in_turn draw after n state) ≡ n
unfolding drawn_in_turn
drawn_count draw after zero state = refl
drawn_count draw after (suc n) state = ap suc (drawn_count draw after n (after state))

all_drawn : {C T : Type 0} (P : T → Type 0) (draw : C → T) (after : C → C) → ((state : C) → P (draw state)) → (n : ℕ) (state : C) → AllByRecursion P (drawn_in_turn draw after n state)
unfolding drawn_in_turn
all_drawn P draw after each zero state = tt
all_drawn P draw after each (suc n) state = (each state, all_drawn P draw after each n (after state))

-- ---- the shape of what is accepted

module _ {C F E : Type 0} (ops : FriOps C F E) (i : Instance C F E) (shape : ProofFits ops i) where
  abbrev height : ℕ
  height = log_height_of ops i

  abbrev final_bits : ℕ
  final_bits = log_final i.parameters height

  abbrev bits : ℕ
  bits = bits_of ops i

  as_many_betas : length (fold_betas ops.sponge i) ≡ length i.proof.phases
  as_many_betas = betas_counted ops.sponge i (fold_betas ops.sponge i) refl

  as_many_trees : length (trees_of ops i) ≡ length (fold_betas ops.sponge i)
  as_many_trees = length-map i.proof.phases phase_root ∙ sym as_many_betas

  fold_number : length (fold_betas ops.sponge i) ≡ height - final_bits
  fold_number = as_many_betas ∙ shape.phases

  folds_fit : length (fold_betas ops.sponge i) ≤ bits
  folds_fit = omega (arith, fold_number)

  final_fits : HasDegreeBelow (2 ^ final_bits) i.proof.final_polynomial
  final_fits = omega (arith, shape.final)

  degree_is : 2 ^ length (fold_betas ops.sponge i) * 2 ^ final_bits ≡ 2 ^ height
  degree_is = ap (λ n. 2 ^ n * 2 ^ final_bits) fold_number ∙ whole_power height final_bits (least_left height i.parameters.log_final_poly_len)

  drawn_number : length (drawn_places ops i) ≡ length i.proof.queries
  drawn_number = drawn_count (index_of ops.sponge bits) (λ s. ops.sponge.after_bits s bits) i.parameters.num_queries _ ∙ sym shape.queries

  places_below : AllByRecursion (λ place. place < 2 ^ bits) (drawn_places ops i)
  places_below = all_drawn (λ place. place < 2 ^ bits) (index_of ops.sponge bits) (λ s. ops.sponge.after_bits s bits) (λ state. place_below (ops.sponge.bits_of state bits) bits) i.parameters.num_queries _

-- ---- the run of the words

module _ {C F E : Type 0} (ops : FriOps C F E) (are : AreFields ops.fields) (i : Instance C F E) (shape : ProofFits ops i) (words : Words F E) (as_many : length words.folds ≡ length i.proof.phases) where
  abbrev log_rows : ℕ
  log_rows = bits_of ops i

  abbrev betas : List E
  betas = fold_betas ops.sponge i

  abbrev layers : List (Layer E)
  layers = zip words.folds betas

  abbrev coset : TwoAdicCoset E
  coset = extension_coset ops.fields log_rows

  two_adic : TwoAdicLaws ops.fields.ring ops.fields.adicity (extension_root ops.fields) (ops.fields.embed ops.fields.generator)
  two_adic = embedded_two_adic are.embeds ops.fields.adicity ops.fields.root ops.fields.generator are.two_adic

  as_folds : length words.folds ≡ length betas
  as_folds = as_many ∙ sym (as_many_betas ops i shape)

  layer_count : length layers ≡ length betas
  layer_count = zip_length words.folds betas as_folds

  layer_betas : map (λ (layer : Layer E). layer.1) layers ≡ betas
  layer_betas = seconds words.folds betas as_folds

  valid_coset : IsTwoAdicCoset ops.fields.ring ops.fields.adicity coset
  valid_coset = valid ops.fields are log_rows shape.claims.within

  layers_fit : length layers ≤ log_rows
  layers_fit = subst (λ n. n ≤ log_rows) (sym layer_count) (folds_fit ops i shape)

  whole_degree : 2 ^ length layers * final_length ops i ≡ 2 ^ log_height_of ops i
  whole_degree = ap (λ n. 2 ^ n * final_length ops i) layer_count ∙ degree_is ops i shape

  run_fits : (e : ℕ) → IsRadius ops i e → RunFits ops.fields.ring ops.fields.inverse (extension_root ops.fields) (run_of ops i words) ops.fields.adicity (final_length ops i) e
  run_fits e radius = record {
    valid = valid_coset;
    folds = layers_fit;
    off = claims_off ops.fields are log_rows shape.claims.within i.rounds shape.claims.off;
    final = final_fits ops i shape;
    radius = subst (λ n. 2 * e + n < 2 ^ log_rows) (sym whole_degree) radius;
  }

  abbrev Passing : ℕ → Type 0
  Passing place = PlacePasses ops.fields.ring ops.fields.inverse (extension_root ops.fields) (run_of ops i words) place

  -- ---- queries

  module _ (named : BytesNameValues ops.fields ops.hash) where
    module _ (q : QueryAt F E) (below : q.0 < 2 ^ log_rows) (holds : Holds ops i q) where
      abbrev first_value : E
      first_value = batched_value ops.fields ops.hash (target_of ops i) q

      abbrev siblings : List E
      siblings = map (λ layer. layer.sibling) q.1.layers

      ends : EndsAt ops.fields.ring ops.fields.inverse (extension_root ops.fields) coset i.proof.final_polynomial layers q.0 first_value siblings
      ends =
          ap (λ bs. walked ops.fields.ring ops.fields.inverse (extension_root ops.fields) coset q.0 first_value (zip bs siblings)) layer_betas
          ∙ holds.final ∙ ap (λ n. value ops.fields.ring i.proof.final_polynomial (last_point ops.fields n coset q.0)) (as_many_trees ops i shape ∙ sym layer_count)

      opened_passes : RowsAreOpened ops.fields words 0 q.0 q.1.inputs → Opens ops.fields.ring ops.fields.inverse (extension_root ops.fields) coset layers q.0 first_value siblings → Passing q.0
      opened_passes rows folds =
          let way = queries_pass are.extension ops.fields.adicity (extension_root ops.fields) (ops.fields.embed ops.fields.generator) two_adic
          coset valid_coset layers layers_fit i.proof.final_polynomial q.0 below first_value siblings folds ends in
          let sees : seen_of ops.fields i.rounds q.1.inputs ≡ all_seen_at ops.fields.ring ops.fields.inverse (embedded_column ops.fields words) (claims_of i.rounds) q.0
          = rounds_seen ops.fields words q.0 0 i.rounds q.1.inputs holds.fits.0 rows in (
            ap (reduced_at ops.fields.ring ops.fields.inverse (alpha_of ops.sponge i) (coset_point ops.fields.ring (extension_root ops.fields) coset q.0)) (sym sees) ∙ way.0,
            way.1,
          )

      query_opens : AreBoundAt ops.fields ops.hash log_rows i.rounds (trees_of ops i) words q.0 → QueryOpens ops i words q ⊎ ((QueryOpens ops i words q → ⊥) × HashCollision ops.hash)
      query_opens bound =
          elim (rows_open ops.fields ops.hash named words log_rows q.0 0 i.rounds q.1.inputs holds.fits.0 holds.inputs bound.rows) [
            | inr other ↦ inr (λ opens. other.0 opens.rows, other.1)
            | inl rows ↦
                elim (folds_open ops.fields ops.hash named coset q.0 first_value (trees_of ops i) betas words.folds q.1.layers (folds_fit ops i shape) below (as_many_trees ops i shape) as_folds
                (holds.fits.1 ∙ as_many_trees ops i shape) holds.layers bound.folds) [
                  | inr other ↦ inr (λ opens. other.0 opens.folds, other.1)
                  | inl folds ↦ inl (record { rows = rows; folds = folds })
                ]
          ]

    abbrev AllPass : List ℕ → Type 0
    AllPass drawn = AllByRecursion (λ place. (place < 2 ^ log_rows) × Passing place) drawn

    abbrev AllOpen : List (QueryAt F E) → Type 0
    AllOpen queries = AllByRecursion (QueryOpens ops i words) queries

    -- All drawn places pass, or some query opens something else.
    all_pass : (drawn : List ℕ) (queries : List (QueryProof F E)) → length drawn ≡ length queries → AllByRecursion (λ place. place < 2 ^ log_rows) drawn → AllByRecursion (Holds ops i) (zip drawn queries)
        → AllByRecursion (AreBoundAt ops.fields ops.hash log_rows i.rounds (trees_of ops i) words) drawn → AllPass drawn ⊎ ((AllOpen (zip drawn queries) → ⊥) × HashCollision ops.hash)
    all_pass [] queries same below holds bound = inl tt
    all_pass (place ∷ drawn) [] same below holds bound = absurd (omega arith)
    all_pass (place ∷ drawn) (query ∷ queries) same below holds bound =
        elim (query_opens (place, query) below.0 holds.0 bound.0) [
          | inr other ↦ inr (λ opens. other.0 opens.0, other.1)
          | inl here ↦ elim (all_pass drawn queries (omega arith) below.1 holds.1 bound.1) [
            | inr other ↦ inr (λ opens. other.0 opens.1, other.1)
            | inl rest ↦ inl ((below.0, opened_passes (place, query) below.0 holds.0 here.rows here.folds), rest)
          ]
        ]

    -- They are of a set that has all passing places.
    in_set : (places : ℕ → Bool) → ArePassing ops i words places → (drawn : List ℕ) → AllByRecursion (λ place. (place < 2 ^ log_rows) × Passing place) drawn
        → AllByRecursion (λ place. (place < 2 ^ log_rows) × (places place ≡ true)) drawn
    in_set places passing [] pass = tt
    in_set places passing (place ∷ drawn) pass = ((pass.0.0, (passing place pass.0.0).1 pass.0.1), in_set places passing drawn pass.1)

-- ---- the passing places

record Answer (P : Type 0) : Type 0 where
  pub answer : Bool
  pub is : (answer ≡ true) ↔ P

answer_of : {P : Type 0} → P ⊎ (P → ⊥) → Answer P
answer_of {P} decided = elim decided [
  | inl holds ↦ record { answer = true; is = (λ _. holds, λ _. refl) }
  | inr fails ↦ record { answer = false; is = (λ yes. absurd (cc), λ holds. absurd (fails holds)) }
]

module _ {K : Type 0} {ring : RingOps K} {inverse : K → K} (laws : FieldLaws ring inverse) (root : ℕ → K) where
  decide_passes : (c : TwoAdicCoset K) (final : List K) (layers : List (Layer K)) (i : ℕ) → Passes ring inverse root c final layers i ⊎ (Passes ring inverse root c final layers i → ⊥)
  unfolding Passes
  decide_passes c final [] i = inl tt
  decide_passes c final (layer ∷ layers) i =
      decide_both (laws.decides (folded_word ring inverse root c layer.1 layer.0 (i % half_size c)) (first_word ring inverse root (squared_coset ring c) final layers (i % half_size c)))
      (decide_passes (squared_coset ring c) final layers (i % half_size c))

-- There is a set of the places that pass.
passing_places : {C F E : Type 0} (ops : FriOps C F E) → AreFields ops.fields → (i : Instance C F E) (words : Words F E) → (places : ℕ → Bool) × ArePassing ops i words places
passing_places ops are i words =
    let run = run_of ops i words in
    let root = extension_root ops.fields in
    let at : (place : ℕ) → Answer (PlacePasses ops.fields.ring ops.fields.inverse root run place) =
    λ place. answer_of (decide_both
    (are.extension.decides (reduced_at ops.fields.ring ops.fields.inverse run.alpha (coset_point ops.fields.ring root run.coset place) (all_seen_at ops.fields.ring ops.fields.inverse run.columns run.claims place))
    (first_word ops.fields.ring ops.fields.inverse root run.coset run.final run.layers place))
    (decide_passes are.extension root run.coset run.final run.layers place)) in
    ((λ place. (at place).answer), λ place within. (at place).is)

-- ---- what is proved

module _ {C F E : Type 0} (ops : FriOps C F E) (are : AreFields ops.fields) (i : Instance C F E) where
  module _ (shape : ProofFits ops i) (words : Words F E) (places : ℕ → Bool) where
    abbrev HoldBelow : ℕ → Type 0
    HoldBelow n = ClaimsHold ops.fields.ring (coset_point ops.fields.ring (extension_root ops.fields) (extension_coset ops.fields (bits_of ops i))) (row_count ops i) (suc n) places (embedded_column ops.fields words) (claims_of i.rounds)

    base_points_apart : ArePointsApart (row_count ops i) (row_point ops i)
    base_points_apart =
        points_apart are.base ops.fields.adicity ops.fields.root ops.fields.generator are.two_adic (extension_of ops.fields.generator (bits_of ops i))
        (record { shift_nonzero = are.two_adic.generator_nonzero; within = shape.claims.within })

    -- What holds by polynomials over the extension holds by polynomials over the base field.
    hold_over_base : suc (2 ^ log_height_of ops i) ≤ count (row_count ops i) places → HoldBelow (2 ^ log_height_of ops i) → ClaimsHoldOn ops i words places
    hold_over_base enough hold =
        let point = coset_point ops.fields.ring (extension_root ops.fields) (extension_coset ops.fields (bits_of ops i)) in
        base_claims_follow are.base are.extension are.embeds ColumnIndex (row_point ops i) (row_count ops i) (2 ^ log_height_of ops i) base_points_apart places enough (column_word ops.fields words) (claims_of i.rounds)
        (record {
          polynomials = hold.polynomials;
          degrees = hold.degrees;
          takes = all_mean
              {P = λ (claim : Claim ColumnIndex E). (j : ℕ) → j < row_count ops i → places j ≡ true → embedded_column ops.fields words claim.column j ≡ value ops.fields.ring (hold.polynomials claim.column) (point j)}
              {Q = λ (claim : Claim ColumnIndex E). (j : ℕ) → j < row_count ops i → places j ≡ true
              → embedded_column ops.fields words claim.column j ≡ value ops.fields.ring (hold.polynomials claim.column) (ops.fields.embed (row_point ops i j))}
              (λ claim takes j below is. takes j below is ∙ ap (value ops.fields.ring (hold.polynomials claim.column)) (point_is ops.fields are (bits_of ops i) shape.claims.within j)) (claims_of i.rounds) hold.takes;
          are_true = hold.are_true;
        })

  module _ (named : BytesNameValues ops.fields ops.hash) (accepted : Accepted ops i) (words : Words F E) (lead : LeadToRoots ops i words) (e : ℕ) (radius : IsRadius ops i e) where
    shown_by : (places : ℕ → Bool) → ArePassing ops i words places → NoDrawIsBad ops.fields.ring ops.fields.inverse (extension_root ops.fields) (run_of ops i words) (final_length ops i) e → Shown ops i words e
    shown_by places passing good =
        let shape = accepted.shape in
        let n = row_count ops i in
        elim (cases_lt (count n places + e) n) [
          | inr many ↦ Shown.claims_are_true (record {
            places = places;
            passing = passing;
            many = many;
            hold = hold_over_base shape words places (more_than_height e (2 ^ log_height_of ops i) n (count n places) radius many) (subst (HoldBelow shape words places) (whole_degree ops are i shape words lead.folds)
                (fri_is_sound are.extension ops.fields.adicity (extension_root ops.fields) (ops.fields.embed ops.fields.generator) (two_adic ops are i shape words lead.folds) ColumnIndex
                (run_of ops i words) (final_length ops i) e (run_fits ops are i shape words lead.folds e radius) good places many (λ place within is. (passing place within).0 is)));
          })
          | inl few ↦ elim (all_pass ops are i shape words lead.folds named (drawn_places ops i) i.proof.queries (drawn_number ops i shape) (places_below ops i shape) accepted.queries lead.places) [
            | inr other ↦ Shown.digests_collide (record { otherwise = other.0; collision = other.1 })
            | inl pass ↦ Shown.few_places_pass (record { places = places; passing = passing; few = few; drawn = (refl, in_set ops are i shape words lead.folds named places passing (drawn_places ops i) pass) })
          ]
        ]

    shown : Shown ops i words e
    shown =
        let shape = accepted.shape in
        let set = passing_places ops are i words in
        elim (bad_draws_are_decided are.extension ops.fields.adicity (extension_root ops.fields) (ops.fields.embed ops.fields.generator) (two_adic ops are i shape words lead.folds) ColumnIndex
        (run_of ops i words) (final_length ops i) e (run_fits ops are i shape words lead.folds e radius)) [
          | inl good ↦ shown_by set.0 set.1 good
          | inr bad ↦ elim bad [
            | inl alpha ↦ Shown.alpha_is_bad alpha
            | inr beta ↦ Shown.beta_is_bad beta
          ]
        ]

  few_draws : ProofFits ops i → FewAreBad ops i
  few_draws shape words as_many e radius =
      let n = row_count ops i in
      let few = few_are_bad are.extension ops.fields.adicity (extension_root ops.fields) (ops.fields.embed ops.fields.generator) (two_adic ops are i shape words as_many) ColumnIndex
      (run_of ops i words) (final_length ops i) e (run_fits ops are i shape words as_many e radius) in
      record {
        alphas = few.0;
        betas = few.1;
        places = λ places less number lists apart all.
            within_bound (length lists) (count n places ^ number) ((n - suc e) ^ number) (few_queries_pass n places number lists apart all)
            (smaller_power (count n places) (n - suc e) number (fewer_places n e (count n places) less));
      }

  pub accepted_is_sound : BytesNameValues ops.fields ops.hash → Accepted ops i → IsSound ops i
  accepted_is_sound named accepted words lead e radius = shown named accepted words lead e radius

  pub accepted_has_few : Accepted ops i → FewAreBad ops i
  accepted_has_few accepted words as_many e radius = few_draws accepted.shape words as_many e radius
