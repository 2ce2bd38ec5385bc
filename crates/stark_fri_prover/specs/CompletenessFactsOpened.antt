-- What is seen of an honest prover's rows at a place are the opened polynomials' values there, so that they are batched into the value of one polynomial.
use Rattle.std.specs.Prelude.{◌≡◌, ◌≢◌, ℕ, ◌^◌, ◌≤◌, List, [], ◌∷◌, ◌++◌, length, map, refl}
use Rattle.std.specs.List.{AllByRecursion, flat_map, zip}
use Rattle.std.proofs.Common.{sym, ap, ◌∙◌, subst, arith}
use Rattle.std.proofs.lemmas.List.{length-map, map-append}
use Rattle.stark_support.specs.Claims.{RoundPoints}
use Rattle.stark_support.specs.Coset.{coset_point}
use Rattle.stark_support.specs.Embedding.{IsEmbedding}
use Rattle.stark_support.specs.Faults.{PlaceByPlace}
use Rattle.stark_support.specs.KeepsRing.{kept_power, kept_value_over}
use Rattle.stark_support.specs.PointFacts.{all_unmapped}
use Rattle.stark_support.specs.Polynomial.{value, value_over}
use Rattle.stark_support.specs.Powers.{power}
use Rattle.stark_support.specs.Ring.{FieldLaws}
use Rattle.stark_support.specs.Scheme.{row_at}
use Rattle.stark_support.specs.TwoAdic.{TwoAdicLaws}
use Rattle.stark_folding.specs.Reduce.{Opened, Seen, reduced, reduced_at}
use Rattle.stark_folding.specs.Reduce.{seen_at as seen_polynomial}
use Rattle.stark_folding.specs.ReduceFacts.{reduced_value, value_embedded}
use Rattle.stark_fri.proofs.PointSteps.{all_apart, apart_from_rows}
use Rattle.stark_fri.specs.Claims.{AreOff, own_claim, own_matrices}
use Rattle.stark_fri.specs.Parts.{FriDataView, FriFields}
use Rattle.stark_fri.specs.Query.{InputFits, RowFits, batched_at, extension_coset, extension_root, rows_seen, seen_at, seen_at_points, seen_of}
use Rattle.stark_fri.specs.Scheme.{extension_of}
use Rattle.stark_fri_proof.specs.Parts.{InputOpening}
use Rattle.stark_fri_prover.specs.Batching.{opened_at, opened_in, opened_in_matrix, opened_in_round}

module _ {F E : Type 0} (fields : FriFields F E) (embeds : IsEmbedding fields.base fields.ring fields.embed) where
  -- A point of the extended rows' coset, in the extension.
  pub embedded_point : (bits place : ℕ) → fields.embed (coset_point fields.base fields.root (extension_of fields.generator bits) place)
      ≡ coset_point fields.ring (extension_root fields) (extension_coset fields bits) place
  embedded_point bits place =
      embeds.keeps.mul fields.generator (power fields.base (fields.root bits) place)
      ∙ ap (fields.ring.mul (fields.embed fields.generator)) (kept_power embeds.keeps (fields.root bits) (fields.embed (fields.root bits)) place refl)

  module _ (x : E) (y : F) (is : fields.embed y ≡ x) where
    -- What is seen of an opened polynomial at x.
    abbrev seen_there : Opened E → Seen E
    seen_there = seen_polynomial fields.ring x

    -- The values of the columns at y, a row.
    abbrev row_there : List (List F) → List F
    row_there columns = row_at fields.base (λ c. c) columns y

    -- The claim of the columns' values at a point.
    abbrev claimed_at : List (List F) → E → E × List E
    claimed_at columns z = (z, row_at fields.ring fields.embed columns z)

    -- Of one point, of all points of a matrix, of all matrices of a round, and of all rounds: row and claims show the polynomials' values at x.
    seen_at_one : (z : E) (columns : List (List F))
        → map (seen_at fields z) (zip (row_there columns) (row_at fields.ring fields.embed columns z)) ≡ map seen_there (opened_at fields.embed columns z)
    seen_at_one z [] = refl
    seen_at_one z (column ∷ columns) =
        let here : fields.embed (value_over fields.base (λ c. c) column y) ≡ value fields.ring (map fields.embed column) x
        = kept_value_over embeds.keeps (λ c. c) fields.embed (λ c. refl) column y x is ∙ value_embedded fields.ring fields.embed column x in
        let claimed = value_embedded fields.ring fields.embed column z in
        let rest = seen_at_one z columns in
        λ k. (here k, claimed k, z) ∷ rest k

    seen_at_all : (columns : List (List F)) (points : List E)
        → seen_at_points fields (row_there columns) (map (claimed_at columns) points) ≡ map seen_there (flat_map (opened_at fields.embed columns) points)
    seen_at_all columns [] = refl
    seen_at_all columns (z ∷ points) =
        let first = seen_at_one z columns in
        let rest = seen_at_all columns points in
        (λ k. first k ++ rest k) ∙ sym (map-append seen_there (opened_at fields.embed columns z) (flat_map (opened_at fields.embed columns) points))

    seen_in_matrices : (height : ℕ) (matrices : List (List (List F))) (points : List (List E))
        → rows_seen fields (own_matrices fields.ring fields.embed height matrices points) (map row_there matrices)
        ≡ map seen_there (flat_map (opened_in_matrix fields.embed) (zip matrices points))
    seen_in_matrices height [] points = refl
    seen_in_matrices height (columns ∷ matrices) [] = refl
    seen_in_matrices height (columns ∷ matrices) (zs ∷ points) =
        let first = seen_at_all columns zs in
        let rest = seen_in_matrices height matrices points in
        (λ k. first k ++ rest k) ∙ sym (map-append seen_there (flat_map (opened_at fields.embed columns) zs) (flat_map (opened_in_matrix fields.embed) (zip matrices points)))

    -- The rows that are opened of a round are the columns' values at y.
    abbrev pub ReadsRows : RoundPoints E (FriDataView F) → InputOpening F → Type 0
    ReadsRows round input = input.rows ≡ map row_there round.0.matrices

    pub seen_in_rounds : (rounds : List (RoundPoints E (FriDataView F))) (inputs : List (InputOpening F)) → PlaceByPlace ReadsRows rounds inputs
        → seen_of fields (map (own_claim fields.ring fields.embed) rounds) inputs ≡ map seen_there (opened_in fields.embed rounds)
    unfolding PlaceByPlace
    seen_in_rounds [] [] all = refl
    seen_in_rounds [] (input ∷ inputs) all = absurd all
    seen_in_rounds (round ∷ rounds) [] all = absurd all
    seen_in_rounds (round ∷ rounds) (input ∷ inputs) all =
        let first = ap (rows_seen fields (own_matrices fields.ring fields.embed round.0.log_height round.0.matrices round.1)) all.0
        ∙ seen_in_matrices round.0.log_height round.0.matrices round.1 in
        let rest = seen_in_rounds rounds inputs all.1 in
        (λ k. first k ++ rest k) ∙ sym (map-append seen_there (opened_in_round fields.embed round) (opened_in fields.embed rounds))

    -- ---- shapes

    -- Each row has as many elements as there are values at each point.
    row_fits : (columns : List (List F)) (points : List E) → AllByRecursion (λ (p : E × List E). length p.1 ≡ length (row_there columns)) (map (claimed_at columns) points)
    row_fits columns [] = tt
    row_fits columns (z ∷ points) = (
      length-map columns (λ p. value_over fields.ring fields.embed p z) ∙ sym (length-map columns (λ p. value_over fields.base (λ c. c) p y)),
      row_fits columns points,
    )

    rows_fit : (height : ℕ) (matrices : List (List (List F))) (points : List (List E)) → length points ≡ length matrices
        → PlaceByPlace RowFits (own_matrices fields.ring fields.embed height matrices points) (map row_there matrices)
    unfolding PlaceByPlace
    rows_fit height [] [] same = tt
    rows_fit height [] (zs ∷ points) same = absurd (omega arith)
    rows_fit height (columns ∷ matrices) [] same = absurd (omega arith)
    rows_fit height (columns ∷ matrices) (zs ∷ points) same = (row_fits columns zs, rows_fit height matrices points (omega arith))

    pub inputs_fit : (rounds : List (RoundPoints E (FriDataView F))) (inputs : List (InputOpening F))
        → AllByRecursion (λ (round : RoundPoints E (FriDataView F)). length round.1 ≡ length round.0.matrices) rounds → PlaceByPlace ReadsRows rounds inputs
        → PlaceByPlace InputFits (map (own_claim fields.ring fields.embed) rounds) inputs
    unfolding PlaceByPlace
    inputs_fit [] [] same all = tt
    inputs_fit [] (input ∷ inputs) same all = absurd all
    inputs_fit (round ∷ rounds) [] same all = absurd all
    inputs_fit (round ∷ rounds) (input ∷ inputs) same all = (
      subst (PlaceByPlace RowFits (own_matrices fields.ring fields.embed round.0.log_height round.0.matrices round.1)) (sym all.0)
          (rows_fit round.0.log_height round.0.matrices round.1 same.0),
      inputs_fit rounds inputs same.1 all.1,
    )

  -- ---- the batched value

  module _ (base_laws : FieldLaws fields.base fields.base_inverse) (laws : FieldLaws fields.ring fields.inverse)
      (two_adic : TwoAdicLaws fields.base fields.adicity fields.root fields.generator) where
    -- What a query computes of the rows at a place is the batched polynomial's value there.
    pub batched_is_value : (alpha : E) (bits place : ℕ) → bits ≤ fields.adicity → (rounds : List (RoundPoints E (FriDataView F))) (inputs : List (InputOpening F))
        → AreOff fields bits (map (own_claim fields.ring fields.embed) rounds)
        → PlaceByPlace (λ round input. input.rows ≡ map (λ columns. row_at fields.base (λ c. c) columns (coset_point fields.base fields.root (extension_of fields.generator bits) place)) round.0.matrices) rounds inputs
        → batched_at fields alpha bits (map (own_claim fields.ring fields.embed) rounds) place inputs
        ≡ value fields.ring (reduced fields.ring alpha (opened_in fields.embed rounds)) (coset_point fields.ring (extension_root fields) (extension_coset fields bits) place)
    batched_is_value alpha bits place within rounds inputs off read =
        let y = coset_point fields.base fields.root (extension_of fields.generator bits) place in
        let x = coset_point fields.ring (extension_root fields) (extension_coset fields bits) place in
        let own = map (own_claim fields.ring fields.embed) rounds in
        let is : fields.embed y ≡ x = embedded_point bits place in
        let seen = seen_in_rounds x y is rounds inputs read in
        let apart : (p : E × List E) → _ → x ≢ p.0 = apart_from_rows fields base_laws two_adic embeds bits place within x (sym is) in
        let all = all_apart fields x (2 ^ bits) apart own inputs off in
        let opened = opened_in fields.embed rounds in
        ap (reduced_at fields.ring fields.inverse alpha x) seen
        ∙ reduced_value laws alpha x opened
        (all_unmapped (seen_polynomial fields.ring x) (λ s. x ≢ s.2) opened (subst (AllByRecursion (λ s. x ≢ s.2)) seen all))
