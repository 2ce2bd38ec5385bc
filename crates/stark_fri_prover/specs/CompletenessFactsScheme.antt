-- The scheme of kept trees keeps the laws, and what a prover makes of rounds that stand is accepted of their true claims.
use Rattle.std.specs.Prelude.{◌≡◌, ℕ, ◌+◌, ◌^◌, ◌<◌, List, [], ◌∷◌, length, map, Option}
use Rattle.std.specs.Borrow.{Bor}
use Rattle.std.specs.List.{AllByRecursion}
use Rattle.std.proofs.Common.{sym, ap, ◌∙◌, subst, arith}
use Rattle.std.proofs.lemmas.Simd.{map-map}
use Rattle.stark_support.specs.Claims.{RoundPoints}
use Rattle.stark_support.specs.Coset.{coset_size}
use Rattle.stark_support.specs.PointFacts.{all_mapped, all_unmapped}
use Rattle.stark_support.specs.Polynomial.{HasDegreeBelow}
use Rattle.stark_support.specs.Scheme.{CommittedMatrix, CommittingCalls, OpenedRound, RoundStands, SchemeLaws, handed, true_claim}
use Rattle.stark_merkle.specs.Bytes.{row_bytes_of}
use Rattle.stark_merkle.specs.declared.root.Root.{Root}
use Rattle.stark_fri.specs.Accept.{Accepted}
use Rattle.stark_fri.specs.Parts.{FriDataView, FriOps}
use Rattle.stark_fri.specs.Scheme.{IsFull, columns_of, fri_scheme, instance_of, own_rounds, points_view}
use Rattle.stark_fri.specs.SchemeFacts.{fri_laws, own_is_true}
use Rattle.stark_fri.specs.Transcript.{places_from}
use Rattle.stark_fri_proof.specs.Parts.{FriProofView}
use Rattle.stark_fri_proof.specs.declared.parameters.FriParameters.{FriParameters}
use Rattle.stark_fri_prover.specs.MadeOpening.{AreLawful, HaveDegreesBelow, IsOpening, IsKeptRound, IsMade, kept_scheme, own_bits, own_height, seen_round, seen_rounds}
use Rattle.stark_fri_prover.specs.CompletenessFacts.{opening_is_accepted}
use Rattle.stark_fri_prover.specs.CompletenessFactsLengths.{places_below}
use Rattle.stark_fri_prover.specs.CompletenessFactsTrees.{extended_rounds, queries_lead, stands_is_kept}

-- ---- what is made of rounds in memory

module _ {C F E T X : Type 0} (ops : FriOps C F E) (bytes_of : F → List ℕ) (coordinates : E → List F) (lawful : AreLawful ops.fields bytes_of coordinates) (data_of : T → FriDataView F)
    (layers_of : T → List (List (List ℕ))) (points_of : X → List (List E)) (s : FriParameters) (rounds : List (Bor T × X)) (start : C) (proof : FriProofView F E)
    (makes : IsMade ops bytes_of coordinates data_of layers_of points_of s rounds start proof) where
  abbrev seen : List (RoundPoints E (FriDataView F))
  seen = seen_rounds data_of points_of rounds

  abbrev bits : ℕ
  bits = own_bits ops s seen start proof

  -- What is made of kept rounds, of columns of a degree below their height, is an opening of them.
  pub made_is_opening : AllByRecursion (λ (round : Bor T × X). IsKeptRound ops.fields bits ops.hash bytes_of (layers_of round.0.now) (seen_round data_of points_of round)) rounds
      → HaveDegreesBelow (2 ^ own_height ops s seen start proof) seen → IsOpening ops bytes_of coordinates s seen start proof
  made_is_opening kept degrees = record {
    claims = makes.claims;
    extended = extended_rounds ops.fields bits ops.hash bytes_of lawful.row_bytes data_of layers_of points_of rounds kept;
    polynomial = makes.polynomial;
    batch = makes.batch degrees;
    folding = makes.folding;
    queries = queries_lead ops.fields bits ops.hash bytes_of lawful.row_bytes data_of layers_of points_of rounds kept makes.folding.layers
        (places_from ops.sponge bits s.num_queries makes.folding.after_work) proof.queries (places_below ops.sponge bits s.num_queries makes.folding.after_work) makes.queries;
  }

-- ---- of rounds that stand

module _ {C F E S T P : Type 0} (ops : FriOps C F E) (bytes_of : F → List ℕ) (parameters_of : S → FriParameters) (data_of : T → FriDataView F) (layers_of : T → List (List (List ℕ)))
    (proof_of : P → FriProofView F E) (calls : CommittingCalls S F Root T) where
  -- It keeps the laws of schemes.
  pub kept_laws : ops.fields.adicity < 64 → SchemeLaws (kept_scheme ops bytes_of parameters_of data_of layers_of proof_of calls)
  kept_laws bound =
      let laws = fri_laws ops parameters_of data_of proof_of calls bound in
      record {
        excludes = laws.excludes;
        degrees = λ s root stored matrices stands. laws.degrees s root stored matrices stands.0;
        least_height = laws.least_height;
        greatest_height = laws.greatest_height;
      }

  module _ (s : S) where
    abbrev pub Round : Type 0
    Round = OpenedRound F E Root T

    -- The round stands, and so does its tree.
    abbrev pub IsStanding : Round → Type 0
    IsStanding round = RoundStands (kept_scheme ops bytes_of parameters_of data_of layers_of proof_of calls) s round

    abbrev pub StandsAlone : Round → Type 0
    StandsAlone round = RoundStands (fri_scheme ops parameters_of data_of proof_of calls) s round

    -- They stand as the scheme without trees sees them.
    pub stand_alone : (made : List Round) → AllByRecursion IsStanding made → AllByRecursion StandsAlone made
    stand_alone [] stand = tt
    stand_alone (round ∷ made) stand = (record { stands = stand.0.stands.0; number = stand.0.number }, stand_alone made stand.1)

    -- What is handed on of the rounds is of this height.
    abbrev HaveHeight : ℕ → List (RoundPoints E T) → Type 0
    HaveHeight height rounds = AllByRecursion (λ (round : RoundPoints E T). (data_of round.0).log_height ≡ height) rounds

    -- ---- degrees

    within_height : (n : ℕ) (columns : List (List F)) → AllByRecursion (λ column. length column ≡ n) columns → AllByRecursion (HasDegreeBelow n) columns
    within_height n [] all = tt
    within_height n (column ∷ columns) all = (omega (arith, all.0), within_height n columns all.1)

    matrices_within : (height k : ℕ) → k ≡ height → (matrices : List (CommittedMatrix F)) → AllByRecursion IsFull matrices → AllByRecursion (λ (m : CommittedMatrix F). m.domain.log_size ≡ k) matrices
        → AllByRecursion (AllByRecursion (HasDegreeBelow (2 ^ height))) (columns_of matrices)
    matrices_within height k is [] full heights = tt
    matrices_within height k is (matrix ∷ matrices) full heights = (
      subst (λ n. AllByRecursion (HasDegreeBelow (2 ^ n)) matrix.columns) (heights.0 ∙ is) (within_height (coset_size matrix.domain) matrix.columns full.0),
      matrices_within height k is matrices full.1 heights.1,
    )

    abbrev HasDegrees : ℕ → RoundPoints E T → Type 0
    HasDegrees height round = AllByRecursion (AllByRecursion (HasDegreeBelow (2 ^ height))) (data_of round.0).matrices

    degrees_within : (height : ℕ) (made : List Round) → AllByRecursion IsStanding made → HaveHeight height (map handed made) → AllByRecursion (HasDegrees height) (map handed made)
    degrees_within height [] stand heights = tt
    degrees_within height (round ∷ made) stand heights =
        let stands = stand.0.stands.0 in (
          subst (AllByRecursion (AllByRecursion (HasDegreeBelow (2 ^ height)))) (sym stands.columns)
              (matrices_within height (data_of round.prover_data).log_height heights.0 round.matrices stands.full stands.heights),
          degrees_within height made stand.1 heights.1,
        )

    -- ---- trees

    module _ (row_bytes : (rows : List (List F)) → ops.fields.row_bytes rows ≡ row_bytes_of bytes_of rows) (height : ℕ) where
      abbrev IsKept : RoundPoints E T → Type 0
      IsKept round = IsKeptRound ops.fields (height + (parameters_of s).log_blowup) ops.hash bytes_of (layers_of round.0) (data_of round.0, round.1)

      are_kept : (made : List Round) → AllByRecursion IsStanding made → HaveHeight height (map handed made) → AllByRecursion IsKept (map handed made)
      are_kept [] stand heights = tt
      are_kept (round ∷ made) stand heights = (
        subst (λ n. IsKeptRound ops.fields (n + (parameters_of s).log_blowup) ops.hash bytes_of (layers_of round.prover_data) (data_of round.prover_data, round.points)) heights.0
            (stands_is_kept ops bytes_of row_bytes (parameters_of s) round.commitment round.matrices (data_of round.prover_data, round.points) (layers_of round.prover_data)
            stand.0.stands.0 stand.0.number stand.0.stands.1),
        are_kept made stand.1 heights.1,
      )

    -- ---- what was made

    module _ {X : Type 0} (points_of : X → List (List E)) (coordinates : E → List F) (lawful : AreLawful ops.fields bytes_of coordinates) (rounds : List (Bor T × X)) (start : C) (proof : P)
        (makes : IsMade ops bytes_of coordinates data_of layers_of points_of (parameters_of s) rounds start (proof_of proof)) where
      abbrev pub round_points : Bor T × X → RoundPoints E T
      round_points round = (round.0.now, points_of round.1)

      abbrev own_seen : List (RoundPoints E (FriDataView F))
      own_seen = seen_rounds data_of points_of rounds

      abbrev height_of : ℕ
      height_of = own_height ops (parameters_of s) own_seen start (proof_of proof)

      abbrev bits_here : ℕ
      bits_here = own_bits ops (parameters_of s) own_seen start (proof_of proof)

      module _ (made : List Round) (stand : AllByRecursion IsStanding made) (same : map round_points rounds ≡ map handed made) where
        of_height : HaveHeight height_of (map handed made)
        of_height = subst (HaveHeight height_of) same
            (all_mapped round_points (λ (round : RoundPoints E T). (data_of round.0).log_height ≡ height_of) rounds
            (all_unmapped (seen_round data_of points_of) (λ (round : RoundPoints E (FriDataView F)). round.0.log_height ≡ height_of) rounds makes.heights))

        of_degree : HaveDegreesBelow (2 ^ height_of) own_seen
        of_degree =
            all_mapped (seen_round data_of points_of) (λ (round : RoundPoints E (FriDataView F)). AllByRecursion (AllByRecursion (HasDegreeBelow (2 ^ height_of))) round.0.matrices) rounds
            (all_unmapped round_points (HasDegrees height_of) rounds (subst (AllByRecursion (HasDegrees height_of)) (sym same) (degrees_within height_of made stand of_height)))

        kept : AllByRecursion (λ (round : Bor T × X). IsKeptRound ops.fields bits_here ops.hash bytes_of (layers_of round.0.now) (seen_round data_of points_of round)) rounds
        kept = all_unmapped round_points (IsKept lawful.row_bytes height_of) rounds
            (subst (AllByRecursion (IsKept lawful.row_bytes height_of)) (sym same) (are_kept lawful.row_bytes height_of made stand of_height))

        seen_is_handed : own_seen ≡ map (points_view ops parameters_of data_of proof_of) (map handed made)
        seen_is_handed = sym (map-map (points_view ops parameters_of data_of proof_of) round_points rounds) ∙ ap (map (points_view ops parameters_of data_of proof_of)) same

        -- What is made of rounds that stand is accepted of their true claims.
        pub made_is_accepted : (index : Option ℕ)
            → (kept_scheme ops bytes_of parameters_of data_of layers_of proof_of calls).Accepts s (map (true_claim ops.fields.ring ops.fields.embed) made) proof start index
        made_is_accepted index =
            own_is_true ops parameters_of data_of proof_of calls s made proof start index (stand_alone made stand)
            (subst (λ some. Accepted ops (instance_of (parameters_of s) (own_rounds ops some) (proof_of proof) start)) seen_is_handed
            (opening_is_accepted ops bytes_of coordinates lawful (parameters_of s) own_seen start (proof_of proof)
            (made_is_opening ops bytes_of coordinates lawful data_of layers_of points_of (parameters_of s) rounds start (proof_of proof) makes kept of_degree)))
