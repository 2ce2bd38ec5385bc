-- What is observed and drawn, in order, and which witnesses are checked.
use Rattle.std.specs.Prelude.{◌≡◌, ℕ, ◌^◌, ◌%◌, true, List, [], ◌∷◌, length}
use Rattle.std.specs.List.{AllByRecursion}
use Rattle.stark_support.specs.Seed.{number}
use Rattle.stark_support.specs.Sponge.{drawn_in_turn, observed_all, observed_bytes}
use Rattle.stark_fri_proof.specs.declared.parameters.FriParameters.{FriParameters}
use Rattle.stark_fri_proof.specs.Parts.{FriProofView}
use Rattle.stark_fri_proof.specs.declared.proof.Phase.{Phase}
use Rattle.stark_fri.specs.Claims.{MatrixRead, RoundRead}
use Rattle.stark_fri.specs.Parts.{ObservingCalls, SpongeCalls}

-- What the scheme decides: the parameters, what is read of the claims, the proof, and the challenger's state before.
pub record Instance (C F E : Type 0) : Type 0 where
  pub parameters : FriParameters
  pub rounds : List (RoundRead E)
  pub proof : FriProofView F E
  pub start : C

-- The parameters in the order in which they are observed.
abbrev pub parameter_numbers : FriParameters → List ℕ
parameter_numbers s = s.log_blowup ∷ s.log_final_poly_len ∷ s.num_queries ∷ s.commit_proof_of_work_bits ∷ s.query_proof_of_work_bits ∷ []

-- ---- what is observed

module _ {C F E : Type 0} (calls : ObservingCalls C F E) where
  -- A number is observed as its 8 bytes, each as an element.
  abbrev pub observed_number : C → ℕ → C
  observed_number state n = observed_bytes calls.observe_element calls.from_byte (number n) state

  abbrev pub observed_parameters : C → FriParameters → C
  observed_parameters state s = observed_all observed_number (parameter_numbers s) state

  -- An element of the extension is observed coordinate by coordinate.
  abbrev pub observed_extension : C → E → C
  observed_extension state x = observed_all calls.observe_element (calls.coordinates x) state

  -- A point, and how many values are claimed there and which.
  abbrev pub observed_point : C → E × List E → C
  observed_point state p = observed_all observed_extension p.1 (observed_number (observed_extension state p.0) (length p.1))

  -- A matrix: the logarithm of its height, and how many points it has and which.
  abbrev pub observed_matrix : C → MatrixRead E → C
  observed_matrix state m = observed_all observed_point m.1 (observed_number (observed_number state m.0) (length m.1))

  -- A round: how many matrices it has, the root, and the matrices.
  abbrev pub observed_round : C → RoundRead E → C
  observed_round state round = observed_all observed_matrix round.1 (calls.observe_root (observed_number state (length round.1)) round.0)

  -- All that is read of the claims: how many rounds there are, and the rounds.
  abbrev pub observed_claims : C → List (RoundRead E) → C
  observed_claims state rounds = observed_all observed_round rounds (observed_number state (length rounds))

-- ---- what is drawn

module _ {C F E : Type 0} (sponge : SpongeCalls C F E) where
  -- ---- the folds

  -- The state in which a fold's witness is checked.
  abbrev pub asked : C → Phase F → C
  asked state phase = sponge.observing.observe_root state phase.root

  abbrev pub worked : ℕ → C → Phase F → C
  worked bits state phase = sponge.after_check (asked state phase) bits phase.witness

  unfoldable pub betas_of : ℕ → C → List (Phase F) → List E
  betas_of bits state [] = []
  betas_of bits state (phase ∷ phases) = sponge.draw (worked bits state phase) ∷ betas_of bits (sponge.after_draw (worked bits state phase)) phases

  unfoldable pub after_phases : ℕ → C → List (Phase F) → C
  after_phases bits state [] = state
  after_phases bits state (phase ∷ phases) = after_phases bits (sponge.after_draw (worked bits state phase)) phases

  -- Each fold's state and witness.
  unfoldable pub checks_of : ℕ → C → List (Phase F) → List (C × F)
  checks_of bits state [] = []
  checks_of bits state (phase ∷ phases) = (asked state phase, phase.witness) ∷ checks_of bits (sponge.after_draw (worked bits state phase)) phases

  -- A witness passes that the challenger lets by, and where no work is asked for it is zero: no proof has two texts.
  abbrev pub Passes : ℕ → C × F → Type 0
  Passes bits check = (bits ≡ 0 → check.1 ≡ sponge.zero) × (sponge.passes check.0 bits check.1 ≡ true)

  -- ---- the places

  -- A number of so many bits.
  abbrev pub index_of : ℕ → C → ℕ
  index_of bits state = sponge.bits_of state bits % 2 ^ bits

  -- So many places in 2 ^ bits rows.
  abbrev pub places_from : ℕ → ℕ → C → List ℕ
  places_from bits count state = drawn_in_turn (index_of bits) (λ s. sponge.after_bits s bits) count state

  -- ---- the whole

  module _ (i : Instance C F E) where
    -- Parameters and claims are bound before alpha is drawn.
    abbrev pub after_claims : C
    after_claims = observed_claims sponge.observing (observed_parameters sponge.observing i.start i.parameters) i.rounds

    abbrev pub alpha_of : E
    alpha_of = sponge.draw after_claims

    abbrev pub after_alpha : C
    after_alpha = sponge.after_draw after_claims

    abbrev pub fold_betas : List E
    fold_betas = betas_of i.parameters.commit_proof_of_work_bits after_alpha i.proof.phases

    abbrev pub fold_checks : List (C × F)
    fold_checks = checks_of i.parameters.commit_proof_of_work_bits after_alpha i.proof.phases

    -- The final polynomial is bound behind the folds.
    abbrev pub after_final : C
    after_final = observed_all (observed_extension sponge.observing) i.proof.final_polynomial (after_phases i.parameters.commit_proof_of_work_bits after_alpha i.proof.phases)

    abbrev pub FoldsWork : Type 0
    FoldsWork = AllByRecursion (Passes i.parameters.commit_proof_of_work_bits) fold_checks

    abbrev pub QueryWorkPasses : Type 0
    QueryWorkPasses = Passes i.parameters.query_proof_of_work_bits (after_final, i.proof.query_witness)

    -- The state behind the queries' work, from which the places are drawn.
    abbrev pub after_work : C
    after_work = sponge.after_check after_final i.parameters.query_proof_of_work_bits i.proof.query_witness

    -- The drawn places in 2 ^ bits extended rows.
    abbrev pub query_places : ℕ → List ℕ
    query_places bits = places_from bits i.parameters.num_queries after_work
