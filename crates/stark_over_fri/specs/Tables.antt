-- What an accepted proof by FRI shows of tables: of rows of each matrix at each place, and a word for each fold, that lead to the proof's roots.
use Rattle.std.specs.Prelude.{◌≡◌, ◌⊎◌, ℕ, zero, suc, ◌+◌, ◌^◌, List, [], ◌∷◌, length, map, take, Ok}
use Rattle.std.specs.List.{AllByRecursion}
use Rattle.stark_support.specs.Polynomial.{HasDegreeBelow}
use Rattle.stark_support.specs.RecompositionPolynomial.{ChunksFit}
use Rattle.stark_support.specs.Ring.{RingOps}
use Rattle.stark_support.specs.Scheme.{row_at, zk_bits}
use Rattle.stark_merkle.specs.declared.root.Root.{Root}
use Rattle.stark_proof.specs.ProofView.{OpeningsView, ProofView}
use Rattle.stark_security.specs.BadValues.{ColumnsFit, IsBadAlpha, IsBadZeta, Satisfies}
use Rattle.stark_security.specs.ConstraintPolynomial.{Columns, height}
use Rattle.stark_security.specs.DegreeBound.{alpha_bound, zeta_bound}
use Rattle.stark_security.specs.ErrorBound.{FewBadDraws}
use Rattle.stark_protocol.specs.Acceptance.{challenges, log_parts, preprocessed_local}
use Rattle.stark_protocol.specs.Instance.{Instance, ProtocolOps}
use Rattle.stark_protocol.specs.OpenedClaims.{claims}
use Rattle.stark_verifier.specs.SoundAcceptance.{proved_air, proved_shifts}
use Rattle.stark_verifier.specs.TakenValues.{embedded_polynomials}
use Rattle.stark_fri_soundness.specs.Claims.{ColumnIndex}
use Rattle.stark_fri_proof.specs.declared.parameters.FriParameters.{FriParameters}
use Rattle.stark_fri_proof.specs.Parts.{FriProofView}
use Rattle.stark_fri.specs.Accept.{bits_of}
use Rattle.stark_fri.specs.Parts.{FriOps}
use Rattle.stark_fri.specs.Scheme.{claimed_of}
use Rattle.stark_fri.specs.Soundness.{ClaimsAreTrue, FewDrawsAreBad, FewPlacesPass, IsBadBatch, IsBadFold, IsRadius, LeadToRoots, OpensOtherwise, drawn_places, row_point, trees_of}
use Rattle.stark_fri.specs.Transcript.{alpha_of}
use Rattle.stark_fri.specs.Transcript as transcript
use Rattle.stark_fri.specs.Words.{AreBoundAt, Words}

-- ---- the polynomials that tables agree with, as columns

module _ {F : Type 0} (polynomials : ColumnIndex → List F) where
  -- One for each element of a row of a matrix, from a column on.
  abbrev pub columns_for : {E : Type 0} → (round matrix number : ℕ) → List E → List (List F)
  columns_for round matrix number [] = []
  columns_for round matrix number (v ∷ row) = polynomials (record { round = round; matrix = matrix; number = number }) ∷ columns_for round matrix (suc number) row

  -- Those of a round's matrices, from a matrix on, by a row of each.
  abbrev pub matrices_for : {E : Type 0} → (round matrix : ℕ) → List (List E) → List (List (List F))
  matrices_for round matrix [] = []
  matrices_for round matrix (row ∷ rows) = columns_for round matrix 0 row ∷ matrices_for round (suc matrix) rows

  -- The preprocessed columns are the third round's matrix.
  abbrev pub opened_preprocessed : {E : Type 0} → OpeningsView E → List (List F)
  opened_preprocessed opened = columns_for 2 0 0 (preprocessed_local opened.preprocessed)

  -- The trace is the first round's matrix; beside it stand preprocessed columns.
  abbrev pub columns_beside : {E : Type 0} → (F → E) → OpeningsView E → List (List F) → List F → Columns F E
  columns_beside embed opened preprocessed public_values = record {
    main = embedded_polynomials embed (columns_for 0 0 0 opened.trace_local);
    preprocessed = embedded_polynomials embed preprocessed;
    public_values = public_values;
  }

  abbrev pub columns_of_rounds : {E : Type 0} → (F → E) → OpeningsView E → List F → Columns F E
  columns_of_rounds embed opened public_values = columns_beside embed opened (opened_preprocessed opened) public_values

  -- The chunks are the second round's matrices.
  abbrev pub chunks_of_round : {E : Type 0} → (F → E) → OpeningsView E → List (List (List E))
  chunks_of_round embed opened = map (embedded_polynomials embed) (matrices_for 1 0 opened.quotient_chunks)

-- ---- tables beside columns that are known

-- A prover's tables: at each place a row of the trace and one of each chunk, and for each fold a word.
pub record ProverTables (F E : Type 0) : Type 0 where
  pub trace : ℕ → List F
  pub chunks : ℕ → List (List F)
  pub folds : List (ℕ → E)

module _ {F E : Type 0} (base : RingOps F) (point : ℕ → F) (known : List (List F)) (tables : ProverTables F E) where
  -- The rows of the first round are the trace's, those of the second the chunks', and those of a later one the values of the known columns.
  abbrev pub rows_beside : ℕ → ℕ → List (List F)
  rows_beside zero place = tables.trace place ∷ []
  rows_beside (suc zero) place = tables.chunks place
  rows_beside (suc (suc round)) place = row_at base (λ c. c) known (point place) ∷ []

  abbrev pub words_beside : Words F E
  words_beside = record { rows = rows_beside; folds = tables.folds }

-- ---- what is shown of tables

module _ {S F E C T P X Y : Type 0} (ops : ProtocolOps S F E C Root T P X Y) (fri : FriOps C F E) (parameters_of : S → FriParameters) (proof_of : P → FriProofView F E) (i : Instance S F C Root) (p : ProofView Root E P F) where
  -- What FRI decides of the proof: its claims at zeta, from the state after zeta was drawn.
  abbrev pub asked_at : E → transcript.Instance C F E
  asked_at zeta = claimed_of (parameters_of i.scheme) (claims ops.opening i.key p zeta) (proof_of p.opening_proof) (challenges ops i p).state

  -- Columns and chunks of a degree up to the height have at most this number of coefficients.
  abbrev pub coefficient_count : ℕ
  coefficient_count = suc (2 ^ p.degree_bits)

  abbrev pub chunk_count : ℕ
  chunk_count = 2 ^ (log_parts ops i p + zk_bits ops.opening.is_zk)

  -- Columns satisfy the AIR on H, or alpha is bad for them and the public values, or zeta is bad for these, alpha and the chunks.
  abbrev pub SatisfiesUnlessBad : E → E → Columns F E → List (List (List E)) → Type 0
  SatisfiesUnlessBad alpha zeta columns chunks =
      Satisfies (proved_air ops i p) columns ⊎ (IsBadAlpha (proved_air ops i p) columns alpha ⊎ IsBadZeta (proved_air ops i p) columns (proved_shifts ops i p) chunks alpha zeta)

  module _ (alpha zeta : E) (words : Words F E) (e : ℕ) (preprocessed_of : (ColumnIndex → List F) → List (List F)) where
    -- The tables agree at all places but e with polynomials over the base field of which all claims are true. As columns, beside preprocessed
    -- ones, these satisfy the AIR on H, or alpha or zeta is bad for them.
    pub record SatisfyNearTables : Type 0 where
      pub near : ClaimsAreTrue fri (asked_at zeta) words e
      pub columns : Columns F E
      pub chunks : List (List (List E))
      pub columns_are : columns ≡ columns_beside near.hold.polynomials ops.opening.fields.embed p.opened_values (preprocessed_of near.hold.polynomials) i.public_values
      pub chunks_are : chunks ≡ chunks_of_round near.hold.polynomials ops.opening.fields.embed p.opened_values
      pub columns_fit : ColumnsFit coefficient_count columns
      pub chunks_fit : ChunksFit coefficient_count chunks
      pub satisfy : SatisfiesUnlessBad alpha zeta columns chunks

    -- Or a draw of FRI is bad for the tables, or all drawn places are among few, or a query opens something else than the tables under the
    -- same root, so that the trees' hash collides.
    pub data ShownOfTables : Type 0 where
      columns_satisfy : SatisfyNearTables → ShownOfTables
      batch_is_bad : IsBadBatch fri (asked_at zeta) words e (alpha_of fri.sponge (asked_at zeta)) → ShownOfTables
      fold_is_bad : IsBadFold fri (asked_at zeta) words e → ShownOfTables
      few_places_pass : FewPlacesPass fri (asked_at zeta) words e → ShownOfTables
      digests_collide : OpensOtherwise fri (asked_at zeta) words → ShownOfTables

  module _ (zeta : E) (words : Words F E) (e : ℕ) where
    -- How few draws each of these is.
    pub record FewDrawsOfTables : Type 0 where
      pub of_fri : FewDrawsAreBad fri (asked_at zeta) words e
      pub of_stark : FewBadDraws (proved_air ops i p) coefficient_count chunk_count (alpha_bound i.constraints) (zeta_bound coefficient_count (height (proved_air ops i p)) chunk_count i.constraints)
      pub shifts : length (proved_shifts ops i p) ≡ chunk_count

  -- So it is of all tables that lead to the proof's roots at the drawn places, within each radius, with the alpha and zeta that are drawn.
  abbrev pub TablesAreSound : Type 0
  TablesAreSound = (alpha zeta : E) → (challenges ops i p).answer ≡ Ok (alpha, zeta) → (words : Words F E) → LeadToRoots fri (asked_at zeta) words → (e : ℕ) → IsRadius fri (asked_at zeta) e
      → ShownOfTables alpha zeta words e (λ polynomials. opened_preprocessed polynomials p.opened_values)

  abbrev pub FewBadDrawsOfTables : Type 0
  FewBadDrawsOfTables = (alpha zeta : E) → (challenges ops i p).answer ≡ Ok (alpha, zeta) → (words : Words F E) → LeadToRoots fri (asked_at zeta) words → (e : ℕ) → IsRadius fri (asked_at zeta) e
      → FewDrawsOfTables zeta words e

  -- ---- beside columns that are known

  -- As many columns as the AIR has preprocessed ones, of degrees up to the height.
  pub record FitAsPreprocessed (known : List (List F)) : Type 0 where
    pub number : length known ≡ i.layout.preprocessed
    pub degrees : AllByRecursion (HasDegreeBelow coefficient_count) known

  -- The prover's tables with the values of known columns as those of the preprocessed ones.
  abbrev pub words_with : E → List (List F) → ProverTables F E → Words F E
  words_with zeta known tables = words_beside fri.fields.base (row_point fri (asked_at zeta)) known tables

  -- Where they lead to the roots, the columns are the known ones: the tables agree with a trace and chunks that satisfy the AIR beside these,
  -- or one of the other four holds.
  abbrev pub TablesAreSoundBeside : List (List F) → Type 0
  TablesAreSoundBeside known = (alpha zeta : E) → (challenges ops i p).answer ≡ Ok (alpha, zeta) → (tables : ProverTables F E) → LeadToRoots fri (asked_at zeta) (words_with zeta known tables)
      → (e : ℕ) → IsRadius fri (asked_at zeta) e → ShownOfTables alpha zeta (words_with zeta known tables) e (λ polynomials. known)

  -- There is a word for each fold; and at each drawn place the rows of the trace and of the chunks, and the folds, lead to the roots that the
  -- proof has, by any paths. Of the key's root nothing is asked.
  pub record LeadToProofRoots (zeta : E) (words : Words F E) : Type 0 where
    pub folds : length words.folds ≡ length (asked_at zeta).proof.phases
    pub places : AllByRecursion (AreBoundAt fri.fields fri.hash (bits_of fri (asked_at zeta)) (take 2 (asked_at zeta).rounds) (trees_of fri (asked_at zeta)) words) (drawn_places fri (asked_at zeta))

  -- Where the key was set up of columns that take the same rows, that is enough.
  abbrev pub TablesAreSoundBesideOwn : List (List F) → Type 0
  TablesAreSoundBesideOwn known = (alpha zeta : E) → (challenges ops i p).answer ≡ Ok (alpha, zeta) → (tables : ProverTables F E) → LeadToProofRoots zeta (words_with zeta known tables)
      → (e : ℕ) → IsRadius fri (asked_at zeta) e → ShownOfTables alpha zeta (words_with zeta known tables) e (λ polynomials. known)

  abbrev pub AreSoundBesideKnown : Type 0
  AreSoundBesideKnown = (known : List (List F)) → FitAsPreprocessed known → TablesAreSoundBeside known

  -- All that is shown of a proof's tables.
  pub record AreShown : Type 0 where
    pub sound : TablesAreSound
    pub beside : AreSoundBesideKnown
    pub few : FewBadDrawsOfTables
