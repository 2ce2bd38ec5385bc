-- What an accepted proof with lookups by FRI shows of tables: of rows of each matrix at each place, and a word for each fold, that lead to
-- the proof's roots.
use Rattle.std.specs.Prelude.{◌≡◌, ◌==◌, ℕ, suc, ◌+◌, ◌^◌, if◌then◌else◌, List, [], ◌∷◌, length, map, take, drop, option_map, Option, Ok}
use Rattle.std.specs.List.{AllByRecursion}
use Rattle.stark_support.specs.Claims.{RoundClaim}
use Rattle.stark_support.specs.RecompositionPolynomial.{ChunksFit}
use Rattle.stark_support.specs.Polynomial.{HasDegreeBelow}
use Rattle.stark_support.specs.Ring.{RingOps}
use Rattle.stark_support.specs.Scheme.{row_at, zk_bits}
use Rattle.stark_merkle.specs.declared.root.Root.{Root}
use Rattle.stark_security.specs.BadValues.{ColumnsFit}
use Rattle.stark_security.specs.ConstraintPolynomial.{Columns, height}
use Rattle.stark_security.specs.DegreeBound.{alpha_bound, zeta_bound}
use Rattle.stark_security.specs.ErrorBound as stark
use Rattle.stark_protocol.specs.Acceptance.{challenges, log_parts}
use Rattle.stark_protocol.specs.OpenedClaims.{claims}
use Rattle.stark_verifier.specs.SoundAcceptance.{proved_shifts}
use Rattle.stark_verifier.specs.TakenValues.{embedded_polynomials}
use Rattle.stark_fri_soundness.specs.Claims.{ColumnIndex}
use Rattle.stark_fri_proof.specs.declared.parameters.FriParameters.{FriParameters}
use Rattle.stark_fri_proof.specs.Parts.{FriProofView}
use Rattle.stark_fri.specs.Parts.{FriOps}
use Rattle.stark_fri.specs.Scheme.{claimed_of}
use Rattle.stark_fri.specs.Soundness.{ClaimsAreTrue, FewDrawsAreBad as FewFriDrawsAreBad, FewPlacesPass, IsBadBatch, IsBadFold, IsRadius, LeadToRoots, OpensOtherwise, row_point}
use Rattle.stark_fri.specs.Transcript.{alpha_of}
use Rattle.stark_fri.specs.Transcript as transcript
use Rattle.stark_fri.specs.Words.{Words}
use Rattle.stark_over_fri.specs.Tables.{chunks_of_round, columns_for, opened_preprocessed}
use Rattle.stark_two_part.specs.InParts.{parted_claims}
use Rattle.stark_two_part.specs.declared.in_parts.InParts.{InParts}
use Rattle.stark_two_part.specs.declared.in_parts.InParts.TheVariants.{Parts}
use Rattle.stark_lookup.specs.LookupSound.{NeedsBadDraws, extended_rows, with_auxiliary}
use Rattle.stark_lookup.specs.LookupVerdict.{LookupGiven, LookupOps, extended_instance, extended_proof, whole_key}
use Rattle.stark_lookup.specs.declared.proof.LookupProof.{LookupProof}
use Rattle.stark_lookup_over_fri.specs.PlacesInParts.{joined_polynomials, round_after}

-- How many columns the AIR itself has: those of the trace's first part.
abbrev pub own_width : {S F E C K : Type 0} → LookupGiven S F E C K → ℕ
own_width given = given.air.own.declaration.columns.width

-- The round of the preprocessed columns, after the two parts of the trace and the quotient's chunks.
abbrev pub preprocessed_round : {K : Type 0} → InParts K → ℕ
preprocessed_round quotient_chunks = round_after quotient_chunks 2

module _ {F : Type 0} (base : RingOps F) (point : ℕ → F) (last : ℕ) (known : List (List F)) where
  -- Rows of rounds, of which those of one are the values of known columns.
  abbrev pub rows_beside : (ℕ → ℕ → List (List F)) → ℕ → ℕ → List (List F)
  rows_beside rows round place = if round == last then row_at base (λ c. c) known (point place) ∷ [] else rows round place

module _ {S F E C T P X Y : Type 0} (ops : LookupOps S F E C Root T P X Y) (given : LookupGiven S F E C Root) (p : LookupProof Root E P F) where
  -- Columns and chunks of a degree up to the height have at most this number of coefficients.
  abbrev pub coefficient_count : ℕ
  coefficient_count = suc (2 ^ (extended_proof ops given p).degree_bits)

  -- The AIR's own columns are the first round's matrix, the auxiliary ones the second's.
  abbrev pub own_main : (ColumnIndex → List F) → List (List E)
  own_main polynomials = embedded_polynomials ops.inner.opening.fields.embed (columns_for polynomials 0 0 0 (take (own_width given) (extended_proof ops given p).opened_values.trace_local))

  -- The AIR's own columns, beside preprocessed ones.
  abbrev pub own_columns : (ColumnIndex → List F) → List (List F) → Columns F E
  own_columns polynomials preprocessed = record { main = own_main polynomials; preprocessed = embedded_polynomials ops.inner.opening.fields.embed preprocessed; public_values = given.public_values }

  abbrev pub auxiliary_columns : (ColumnIndex → List F) → List (List E)
  auxiliary_columns polynomials = embedded_polynomials ops.inner.opening.fields.embed (columns_for polynomials 1 0 0 (drop (own_width given) (extended_proof ops given p).opened_values.trace_local))

  module _ (zeta : E) where
    -- What the proof of the extended AIR claims at zeta of its commitments, and these.
    abbrev pub claims_at : List (RoundClaim F E (InParts Root))
    claims_at = claims ops.inner.opening (option_map whole_key given.key) (extended_proof ops given p) zeta

    abbrev pub commitments_at : List (InParts Root)
    commitments_at = map (λ claim. claim.0) claims_at

    -- Polynomials of the commitments' columns, where these are those of their parts' columns.
    abbrev pub joined_at : (ColumnIndex → List F) → ColumnIndex → List F
    joined_at polynomials = joined_polynomials (own_width given) commitments_at polynomials

    -- The preprocessed columns are the last commitment's.
    abbrev pub preprocessed_joined : (ColumnIndex → List F) → List (List F)
    preprocessed_joined polynomials = opened_preprocessed (joined_at polynomials) (extended_proof ops given p).opened_values

    abbrev pub chunks_joined : (ColumnIndex → List F) → List (List (List E))
    chunks_joined polynomials = chunks_of_round (joined_at polynomials) ops.inner.opening.fields.embed (extended_proof ops given p).opened_values

module _ {S F E C T P X Y : Type 0} (ops : LookupOps S F E C Root T P X Y) (fri : FriOps C F E) (parameters_of : S → FriParameters) (proof_of : P → FriProofView F E) (given : LookupGiven S F E C Root) (p : LookupProof Root E P F) (main : Root) where
  -- What FRI decides of the proof: the claims on each part, from the state after zeta was drawn.
  abbrev pub asked_at : E → transcript.Instance C F E
  asked_at zeta =
      claimed_of (parameters_of given.config.pcs) (parted_claims (own_width given) (claims_at ops given p zeta)) (proof_of (extended_proof ops given p).opening_proof)
      (challenges ops.inner (extended_instance ops given p main) (extended_proof ops given p)).state

  abbrev pub chunk_count : ℕ
  chunk_count = 2 ^ (log_parts ops.inner (extended_instance ops given p main) (extended_proof ops given p) + zk_bits ops.inner.opening.is_zk)

  -- ---- what is shown

  module _ (alpha zeta : E) (words : Words F E) (e : ℕ) (preprocessed_of : (ColumnIndex → List F) → List (List F)) where
    -- The tables agree at all places but e with polynomials over the base field of which all claims are true. Where these, as the
    -- AIR's own columns beside preprocessed ones, break a constraint, or leave a tuple unbalanced, a draw is bad for them.
    pub record BalanceNearTables : Type 0 where
      pub near : ClaimsAreTrue fri (asked_at zeta) words e
      pub own : Columns F E
      pub more : List (List E)
      pub chunks : List (List (List E))
      pub own_are : own ≡ own_columns ops given p near.hold.polynomials (preprocessed_of near.hold.polynomials)
      pub more_are : more ≡ auxiliary_columns ops given p near.hold.polynomials
      pub chunks_are : chunks ≡ chunks_joined ops given p zeta near.hold.polynomials
      pub columns_fit : ColumnsFit (coefficient_count ops given p) (with_auxiliary ops given p main own more)
      pub chunks_fit : ChunksFit (coefficient_count ops given p) chunks
      pub needs : NeedsBadDraws ops given p main own more chunks alpha zeta

    -- Or a draw of FRI is bad for the tables, or all drawn places are among few, or a query opens something else than the tables under the
    -- same root, so that the trees' hash collides.
    pub data ShownOfLookupTables : Type 0 where
      columns_balance : BalanceNearTables → ShownOfLookupTables
      batch_is_bad : IsBadBatch fri (asked_at zeta) words e (alpha_of fri.sponge (asked_at zeta)) → ShownOfLookupTables
      fold_is_bad : IsBadFold fri (asked_at zeta) words e → ShownOfLookupTables
      few_places_pass : FewPlacesPass fri (asked_at zeta) words e → ShownOfLookupTables
      digests_collide : OpensOtherwise fri (asked_at zeta) words → ShownOfLookupTables

  module _ (zeta : E) (words : Words F E) (e : ℕ) where
    -- How few draws of FRI and of the proof of the extended AIR these are; how few betas and gammas, `NeedsBadDraws` says.
    pub record FewDrawsOfLookupTables : Type 0 where
      pub of_fri : FewFriDrawsAreBad fri (asked_at zeta) words e
      pub of_stark : stark.FewBadDraws (extended_rows ops given p main) (coefficient_count ops given p) chunk_count (alpha_bound (extended_rows ops given p main).constraints)
          (zeta_bound (coefficient_count ops given p) (height (extended_rows ops given p main)) chunk_count (extended_rows ops given p main).constraints)
      pub shifts : length (proved_shifts ops.inner (extended_instance ops given p main) (extended_proof ops given p)) ≡ chunk_count

module _ {S F E C T P X Y : Type 0} (ops : LookupOps S F E C Root T P X Y) (fri : FriOps C F E) (parameters_of : S → FriParameters) (proof_of : P → FriProofView F E) (given : LookupGiven S F E C Root) (p : LookupProof Root E P F) where
  -- So it is of all tables that lead to the proof's roots at the drawn places, within each radius, with the alpha and zeta that are drawn.
  abbrev pub OfTables : ((main : Root) (alpha zeta : E) (words : Words F E) (e : ℕ) → Type 0) → Type 0
  OfTables Shows = (main others : Root) (alpha zeta : E) → p.inner.commitments.trace ≡ Parts main others → (challenges ops.inner (extended_instance ops given p main) (extended_proof ops given p)).answer ≡ Ok (alpha, zeta)
      → (words : Words F E) → LeadToRoots fri (asked_at ops fri parameters_of proof_of given p main zeta) words → (e : ℕ) → IsRadius fri (asked_at ops fri parameters_of proof_of given p main zeta) e → Shows main alpha zeta words e

  abbrev pub TablesAreSound : Type 0
  TablesAreSound = OfTables (λ main alpha zeta words e. ShownOfLookupTables ops fri parameters_of proof_of given p main alpha zeta words e (preprocessed_joined ops given p zeta))

  abbrev pub FewDrawsAreBad : Type 0
  FewDrawsAreBad = OfTables (λ main alpha zeta words e. FewDrawsOfLookupTables ops fri parameters_of proof_of given p main zeta words e)

  -- ---- beside columns that are known

  -- As many columns as the AIR has preprocessed ones, of degrees up to the height.
  pub record FitAsPreprocessed (main : Root) (known : List (List F)) : Type 0 where
    pub number : length known ≡ (extended_instance ops given p main).layout.preprocessed
    pub degrees : AllByRecursion (HasDegreeBelow (coefficient_count ops given p)) known

  -- The prover's tables, with the values of known columns as the rows of the preprocessed ones' round.
  abbrev pub words_with : Root → E → List (List F) → Words F E → Words F E
  words_with main zeta known tables = record {
    rows = rows_beside fri.fields.base (row_point fri (asked_at ops fri parameters_of proof_of given p main zeta)) (preprocessed_round (extended_proof ops given p).commitments.quotient_chunks) known tables.rows;
    folds = tables.folds;
  }

  -- Where they lead to the roots, the columns are the known ones.
  abbrev pub AreSoundBesideKnown : Type 0
  AreSoundBesideKnown = (main others : Root) (alpha zeta : E) → p.inner.commitments.trace ≡ Parts main others → (challenges ops.inner (extended_instance ops given p main) (extended_proof ops given p)).answer ≡ Ok (alpha, zeta)
      → (known : List (List F)) → FitAsPreprocessed main known → (tables : Words F E) → LeadToRoots fri (asked_at ops fri parameters_of proof_of given p main zeta) (words_with main zeta known tables)
      → (e : ℕ) → IsRadius fri (asked_at ops fri parameters_of proof_of given p main zeta) e → ShownOfLookupTables ops fri parameters_of proof_of given p main alpha zeta (words_with main zeta known tables) e (λ polynomials. known)

  -- All that is shown of a proof's tables.
  pub record LookupTablesAreSound : Type 0 where
    pub sound : TablesAreSound
    pub beside : AreSoundBesideKnown
    pub few : FewDrawsAreBad
