-- The rounds of an opening argument, and what is opened.
use Rattle.std.specs.Prelude.{◌≡◌, ℕ, ◌+◌, Bool, is_some, true, false, List, [], ◌∷◌, ◌++◌, map, replicate, Option, None, Some, Result, IfOk, IfErr, codes, option_to_list}
use Rattle.std.specs.List.{AllByRecursion}
use Rattle.std.specs.declared.vec.Vec.{Vec}
use Rattle.std.specs.Option.{option_copied}
use Rattle.stark_support.specs.Ring.{RingOps}
use Rattle.stark_support.specs.Claims.{RoundPoints, opened_view}
use Rattle.stark_support.specs.Scheme.{OpenedRound, RoundStands, SchemeOps, handed, true_claim, true_values, zk_bits}
use Rattle.stark_transcript.specs.declared.error.ProvingError.{ProvingError}
use Rattle.stark_proof.specs.ProofView.{OpeningsView, PreprocessedView, openings_view}
use Rattle.stark_proof.specs.declared.values.OpenedValues.{OpenedValues}
use Rattle.stark_protocol.specs.Instance.{ProtocolOps}
use Rattle.stark_prover.specs.SchemeFaults.{IsOutOfMemoryOr, IsSchemeFault}
use Rattle.stark_prover.specs.declared.rounds.OpenedData.{OpenedData}
use Rattle.stark_prover.specs.declared.rounds.OpeningPoints.{OpeningPoints}

-- The points of a matrix: zeta, and the next point where the next row is read.
abbrev pub points_of : {E : Type 0} → E → E → Bool → List E
points_of zeta next_zeta true = zeta ∷ next_zeta ∷ []
points_of zeta next_zeta false = zeta ∷ []

-- The round of the random commitment, if there is one.
abbrev pub random_points : {E T : Type 0} → E → Option T → List (RoundPoints E T)
random_points zeta None = []
random_points zeta (Some prover_data) = (prover_data, (zeta ∷ []) ∷ []) ∷ []

-- The round of the preprocessed columns, if there are any.
abbrev pub preprocessed_points : {E T : Type 0} → List E → Option T → List (RoundPoints E T)
preprocessed_points points None = []
preprocessed_points points (Some prover_data) = (prover_data, points ∷ []) ∷ []

-- The lists of a round, if there is one.
abbrev pub optional_view : {E A B C : Type 0} → Option (Vec (Vec (Vec E A) B) C) → List (List (List (List E)))
optional_view round = map (λ r. map (λ m. map (λ p. p.items) m.items) r.items) (option_to_list round)

-- Random commitment, trace, quotient in so many chunks, and preprocessed columns, in this order.
abbrev pub rounds_of : {E T : Type 0} → E → List E → List E → ℕ → Option T → T → T → Option T → List (RoundPoints E T)
rounds_of zeta points points_of_preprocessed chunks random trace quotient preprocessed =
    random_points zeta random ++ ((trace, points ∷ []) ∷ (quotient, replicate chunks (zeta ∷ [])) ∷ preprocessed_points points_of_preprocessed preprocessed)

-- The place of the preprocessed round, where there is one.
abbrev pub place_of : {T : Type 0} → Bool → Option T → Option ℕ
place_of is_zk None = None
place_of is_zk (Some prover_data) = Some (2 + zk_bits is_zk)

-- ---- what is opened

-- the rows of a matrix at its points
abbrev pub rows_of : {E : Type 0} → List E → Option (List E) → List (List E)
rows_of local None = local ∷ []
rows_of local (Some next) = local ∷ next ∷ []

abbrev pub random_opened : {E : Type 0} → Option (List E) → List (List (List (List E)))
random_opened None = []
random_opened (Some row) = ((row ∷ []) ∷ []) ∷ []

abbrev pub preprocessed_opened : {E : Type 0} → Option (PreprocessedView E) → List (List (List (List E)))
preprocessed_opened None = []
preprocessed_opened (Some rows) = (rows_of rows.local rows.next ∷ []) ∷ []

-- The opened values, for each round, matrix and point.
abbrev pub opened_lists : {E : Type 0} → OpeningsView E → List (List (List (List E)))
opened_lists opened =
    random_opened opened.random ++ ((rows_of opened.trace_local opened.trace_next ∷ []) ∷ map (λ chunk. chunk ∷ []) opened.quotient_chunks ∷ preprocessed_opened opened.preprocessed)

-- ---- the scheme's answer

-- What the scheme answers of these rounds, from this state: of whatever stands behind them the true values, which a complete
-- scheme accepts; or a refusal that it may have.
pub record IsOpeningAnswer {S F E C K T P X Y O : Type 0} (scheme : SchemeOps S F E C K T P X Y) (ring : RingOps E) (embed : F → E) (s : S) (rounds : List (RoundPoints E T)) (state : C) (index : Option ℕ)
    (view : O → List (List (List (List E)))) (answer : Result (O × P) (ProvingError Y)) : Type 0 where
  pub true_values : IfOk answer (λ opened. (made : List (OpenedRound F E K T)) → AllByRecursion (RoundStands scheme s) made → rounds ≡ map handed made → view opened.0 ≡ map (true_values ring embed) made)
  pub complete : IfOk answer (λ opened. (made : List (OpenedRound F E K T)) → AllByRecursion (RoundStands scheme s) made → rounds ≡ map handed made → scheme.IsComplete s
      → scheme.Accepts s (map (true_claim ring embed) made) opened.1 state index)
  pub fault : IfErr answer (IsOutOfMemoryOr (IsSchemeFault (codes "opening") (scheme.RefusesOpening s rounds state index)))

-- What stands behind the rounds of an opening argument: these commitments, which the argument is handed, and whose true
-- values are these.
pub record StandBehind {S F E C K T P X Y : Type 0} (scheme : SchemeOps S F E C K T P X Y) (ring : RingOps E) (embed : F → E) (s : S) (is_random : Bool) (rounds : List (RoundPoints E T)) (made : List (OpenedRound F E K T)) (opened : OpeningsView E) : Type 0 where
  pub stand : AllByRecursion (RoundStands scheme s) made
  pub are_handed : rounds ≡ map handed made
  pub values : map (true_values ring embed) made ≡ opened_lists opened
  pub random : is_some opened.random ≡ is_random

-- ---- the opening of a proof

-- The rounds of these data, at these points.
abbrev pub rounds_at : {E T : Type 0} → OpeningPoints E → OpenedData T → List (RoundPoints E T)
rounds_at points of =
    rounds_of points.zeta (points_of points.zeta points.next_zeta points.reads_next) (points_of points.zeta points.next_zeta points.reads_preprocessed_next) points.chunks (option_copied of.random) of.trace.now of.quotient.now
    (option_copied of.preprocessed)

-- What the scheme answers of these rounds.
abbrev pub IsAnswer : {S F E C K T P X Y A0 A1 A2 A3 : Type 0} → SchemeOps S F E C K T P X Y → RingOps E → (F → E) → Bool → S → OpeningPoints E → OpenedData T → C → Result (Vec (Vec (Vec (Vec E A0) A1) A2) A3 × P) (ProvingError Y) → Type 0
IsAnswer scheme ring embed is_zk s points of state answer = IsOpeningAnswer scheme ring embed s (rounds_at points of) state (place_of is_zk (option_copied of.preprocessed)) opened_view answer

module _ {S F E C K T P X Y : Type 0} (ops : ProtocolOps S F E C K T P X Y) (s : S) (points : OpeningPoints E) (of : OpenedData T) where
  -- By all that a configuration's types compute, what the scheme answers.
  abbrev pub IsAnswerOf : {A0 A1 A2 A3 : Type 0} → C → Result (Vec (Vec (Vec (Vec E A0) A1) A2) A3 × P) (ProvingError Y) → Type 0
  IsAnswerOf state answer = IsAnswer ops.opening.scheme ops.opening.fields.ring ops.opening.fields.embed ops.opening.is_zk s points of state answer

  -- This stands behind them,
  abbrev pub StandsBehind : List (OpenedRound F E K T) → OpeningsView E → Type 0
  StandsBehind made opened = StandBehind ops.opening.scheme ops.opening.fields.ring ops.opening.fields.embed s ops.opening.is_zk (rounds_at points of) made opened

  -- or something does.
  abbrev pub HaveStanding : Type 0
  HaveStanding = (made : List (OpenedRound F E K T)) × (view : OpeningsView E) × StandsBehind made view

  -- Of whatever stands behind them: the opened values are the true ones,
  abbrev pub AreTrueValues : OpenedValues E × P → Type 0
  AreTrueValues opened = (made : List (OpenedRound F E K T)) (view : OpeningsView E) → StandsBehind made view → openings_view opened.0 ≡ view

  -- and where the scheme refuses no true opening, it accepts the argument.
  abbrev pub IsTrueArgument : C → OpenedValues E × P → Type 0
  IsTrueArgument state opened = (made : List (OpenedRound F E K T)) (view : OpeningsView E) → StandsBehind made view → ops.opening.scheme.IsComplete s
      → ops.opening.scheme.Accepts s (map (true_claim ops.opening.fields.ring ops.opening.fields.embed) made) opened.1 state (place_of ops.opening.is_zk (option_copied of.preprocessed))

  -- Or the scheme refuses to open.
  abbrev pub IsOpeningRefusal : C → ProvingError Y → Type 0
  IsOpeningRefusal state error = IsOutOfMemoryOr (IsSchemeFault (codes "opening") (ops.opening.scheme.RefusesOpening s (rounds_at points of) state (place_of ops.opening.is_zk (option_copied of.preprocessed)))) error
