-- A key that was set up of declared rows is the root over columns that take them: so of a prover's tables nothing is asked at this root.
use Rattle.std.proofs.Common.{◌≡◌, ◌∙◌, ap, arith, refl, subst, sym, ℕ, suc, ◌+◌, ◌*◌, ◌/◌, ◌^◌, ◌<◌, ◌≤◌, Bool, true, false, List, [], ◌∷◌, length, map, take, Option, None, Some, Ok}
use Rattle.std.specs.List.{AllByRecursion, range_with_len}
use Rattle.std.proofs.lemmas.List.{length-map}
use Rattle.stark_support.specs.Coset.{TwoAdicCoset}
use Rattle.stark_support.specs.Polynomial.{HasDegreeBelow, value_over}
use Rattle.stark_support.specs.Ring.{RingOps}
use Rattle.stark_support.specs.Scheme.{CommittedMatrix, TakesRows, matrix_row, natural_coset, row_at, zk_bits}
use Rattle.stark_air.specs.Declaration.{Trace}
use Rattle.stark_merkle.specs.Tree.{AreDigests, layer_above}
use Rattle.stark_merkle.specs.declared.root.Root.{Root}
use Rattle.stark_proof.specs.ProofView.{OpeningsView, PreprocessedView, ProofView}
use Rattle.stark_protocol.specs.Acceptance.{Accepted, challenges}
use Rattle.stark_protocol.specs.Instance.{Instance, ProtocolOps}
use Rattle.stark_protocol.specs.OpenedClaims.{claims_of, next_point, preprocessed_rounds}
use Rattle.stark_protocol.specs.Preprocessing.{IsSetUp}
use Rattle.stark_protocol.specs.declared.preprocessed.PreprocessedProverData.{PreprocessedProverData}
use Rattle.stark_protocol.specs.declared.preprocessed.PreprocessedVerifierKey.{PreprocessedVerifierKey}
use Rattle.stark_fri_proof.specs.declared.parameters.FriParameters.{FriParameters}
use Rattle.stark_fri_proof.specs.Parts.{FriProofView}
use Rattle.stark_fri.specs.Accept.{bits_of}
use Rattle.stark_fri.specs.Claims.{round_read}
use Rattle.stark_fri.specs.Parts.{FriDataView, FriOps}
use Rattle.stark_fri.specs.Scheme.{ArePlain, FriStands, IsRootOf, extended_row}
use Rattle.stark_fri.specs.Soundness.{AreFields, IsRadius, LeadToRoots, drawn_places, row_point, trees_of}
use Rattle.stark_fri.specs.Words.{AreBoundAt, RoundsAreBound, RowsAreBound, Words}
use Rattle.stark_over_fri.specs.Tables.{LeadToProofRoots, ProverTables, TablesAreSoundBeside, TablesAreSoundBesideOwn, asked_at, words_with}
use Rattle.stark_over_fri.proofs.AcceptedSteps.{IsByFri, height_is_claimed, random}
use Rattle.stark_over_fri.proofs.DeclaredPaths.{row_has_path}
use Rattle.stark_over_fri.proofs.DeclaredRows.{same_rows}

mapped_same : {A B : Type 0} (f g : A → B) → ((x : A) → f x ≡ g x) → (xs : List A) → map f xs ≡ map g xs
mapped_same f g same [] = refl
mapped_same f g same (x ∷ xs) = ap (λ y. y ∷ map f xs) (same x) ∙ ap (λ ys. g x ∷ ys) (mapped_same f g same xs)

each : {A : Type 0} (P Q : A → Type 0) → ((x : A) → P x → Q x) → (xs : List A) → AllByRecursion P xs → AllByRecursion Q xs
each P Q follows [] all = tt
each P Q follows (x ∷ xs) all = (follows x all.0, each P Q follows xs all.1)

takes_in : {F : Type 0} (field other : RingOps F) (root other_root : ℕ → F) → field ≡ other → root ≡ other_root → (n width : ℕ) (declared : ℕ → List F) (columns : List (List F))
    → TakesRows field root (natural_coset field n) width declared columns → TakesRows other other_root (natural_coset other n) width declared columns
takes_in field other root other_root same same_root n width declared columns takes =
    subst (λ r. TakesRows other r (natural_coset other n) width declared columns) same_root (subst (λ f. TakesRows f root (natural_coset f n) width declared columns) same takes)

length_of_row : {F : Type 0} (field : RingOps F) (columns : List (List F)) (x : F) → length (row_at field (λ c. c) columns x) ≡ length columns
length_of_row field columns x = length-map columns (λ p. value_over field (λ c. c) p x)

unmasked : (is_zk : Bool) (n m : ℕ) → is_zk ≡ false → n + zk_bits is_zk ≡ m → m ≡ n
unmasked true n m plain is = absurd (cc)
unmasked false n m plain is = omega (arith, is)

-- ---- the configuration's scheme is FRI also where it commits

-- It computes in the base field; what stands is the root over the columns' values, and columns that are known have no mask; digests are 32
-- bytes, and rows of fewer than 2^32 elements have fewer than 2^64 bytes.
pub record CommitsByFri {S F E C T P X Y : Type 0} (ops : ProtocolOps S F E C Root T P X Y) (fri : FriOps C F E) (parameters_of : S → FriParameters) : Type 0 where
  pub adicity : ops.opening.fields.adicity ≡ fri.fields.adicity
  pub base : ops.opening.fields.base ≡ fri.fields.base
  pub root : ops.opening.fields.root ≡ fri.fields.root
  pub data_of : T → FriDataView F
  pub stands : (s : S) (root : Root) (stored : T) (matrices : List (CommittedMatrix F)) → ops.opening.scheme.Stands s root stored matrices → FriStands fri (parameters_of s) root (data_of stored) matrices
  pub plain : (s : S) (domain : TwoAdicCoset F) (values : List F) (width : ℕ) (made : Root × T) → ops.opening.scheme.calls.CommitsPreprocessing s domain values width made
      → ArePlain fri.fields.base (length values / width) (data_of made.1).matrices
  pub digests : AreDigests fri.hash
  pub short : (row : List F) → length row < 2 ^ 32 → length (fri.fields.row_bytes (row ∷ [])) < 2 ^ 64

module _ {C F E : Type 0} (fri : FriOps C F E) where
  -- Columns with the same values have the same root.
  root_of_same : (bits : ℕ) (columns known : List (List F)) → ((x : F) → row_at fri.fields.base (λ c. c) columns x ≡ row_at fri.fields.base (λ c. c) known x) → (root : Root)
      → IsRootOf fri bits (columns ∷ []) root → IsRootOf fri bits (known ∷ []) root
  root_of_same bits columns known same root top =
      let leaf = (λ (columns : List (List F)) (i : ℕ). fri.hash.leaf (fri.fields.row_bytes (extended_row fri bits (columns ∷ []) i))) in
      subst (λ leaves. layer_above fri.hash.node bits leaves ≡ root.bytes ∷ [])
      (mapped_same (leaf columns) (leaf known) (λ i. ap (λ row. fri.hash.leaf (fri.fields.row_bytes (row ∷ []))) (same _)) (range_with_len 0 (2 ^ bits))) top

module _ {S F E C T P X Y : Type 0} (ops : ProtocolOps S F E C Root T P X Y) (fri : FriOps C F E) (parameters_of : S → FriParameters) (are : AreFields fri.fields) (commits : CommitsByFri ops fri parameters_of)
    (is_plain : ops.opening.is_zk ≡ false) where
  -- A key's root is the one over any columns of degree below the declared rows' number that take them.
  pub key_has_root : (s : S) (log_rows : ℕ) (trace : Trace F) (prover : PreprocessedProverData Root T) (key : PreprocessedVerifierKey Root)
      → IsSetUp ops.opening.scheme s ops.opening.fields.base ops.opening.fields.root ops.opening.is_zk log_rows trace prover key → length trace.values / trace.width ≡ 2 ^ log_rows → log_rows ≤ fri.fields.adicity
      → (known : List (List F)) → TakesRows ops.opening.fields.base ops.opening.fields.root (natural_coset ops.opening.fields.base log_rows) trace.width (matrix_row trace.values trace.width) known
      → AllByRecursion (HasDegreeBelow (2 ^ log_rows)) known → IsRootOf fri (log_rows + (parameters_of s).log_blowup) (known ∷ []) key.commitment
  key_has_root s log_rows trace prover key set height within known takes below =
      let base = fri.fields.base in
      let coset = natural_coset ops.opening.fields.base (log_rows + zk_bits ops.opening.is_zk) in
      let stored = commits.data_of prover.prover_data in
      let blowup = (parameters_of s).log_blowup in
      let stands = commits.stands s prover.commitment prover.prover_data (record { domain = coset; columns = set.columns } ∷ []) set.stands in
      let columns_are : stored.matrices ≡ set.columns ∷ [] = stands.columns in
      let rows : stored.log_height ≡ log_rows = unmasked ops.opening.is_zk log_rows stored.log_height is_plain stands.heights.0 in
      let plain : ArePlain base (2 ^ log_rows) (set.columns ∷ []) = subst (λ matrices. ArePlain base (2 ^ log_rows) matrices) columns_are
      (subst (λ n. ArePlain base n stored.matrices) height (commits.plain s coset trace.values trace.width (prover.commitment, prover.prover_data) set.made)) in
      let own : IsRootOf fri (log_rows + blowup) (set.columns ∷ []) key.commitment = subst (λ root. IsRootOf fri (log_rows + blowup) (set.columns ∷ []) root) (sym set.same)
      (subst (λ n. IsRootOf fri (n + blowup) (set.columns ∷ []) prover.commitment) rows (subst (λ matrices. IsRootOf fri (stored.log_height + blowup) matrices prover.commitment) columns_are stands.extended)) in
      let given = (λ (columns : List (List F)) (takes : TakesRows ops.opening.fields.base ops.opening.fields.root (natural_coset ops.opening.fields.base log_rows) trace.width (matrix_row trace.values trace.width) columns).
      takes_in ops.opening.fields.base base ops.opening.fields.root fri.fields.root commits.base commits.root log_rows trace.width (matrix_row trace.values trace.width) columns takes) in
      root_of_same fri (log_rows + blowup) set.columns known
      (same_rows base are.base fri.fields.adicity fri.fields.root fri.fields.generator are.two_adic log_rows within trace.width (matrix_row trace.values trace.width) set.columns known
      (given set.columns set.takes) (given known takes) plain.0 below)
      key.commitment own

-- ---- tables that lead to the proof's own roots

module _ {S F E C T P X Y : Type 0} (ops : ProtocolOps S F E C Root T P X Y) (fri : FriOps C F E) (parameters_of : S → FriParameters) (proof_of : P → FriProofView F E) (i : Instance S F C Root) (p : ProofView Root E P F)
    (by : IsByFri ops fri parameters_of proof_of) (commits : CommitsByFri ops fri parameters_of) (accepted : Accepted ops i p) where
  module _ (zeta : E) (known : List (List F)) (narrow : length known < 2 ^ 32) (tables : ProverTables F E)
      (is_root : (key : PreprocessedVerifierKey Root) → i.key ≡ Some key → IsRootOf fri (bits_of fri (asked_at ops fri parameters_of proof_of i p zeta)) (known ∷ []) key.commitment) where
    abbrev bits : ℕ
    bits = bits_of fri (asked_at ops fri parameters_of proof_of i p zeta)

    abbrev words : Words F E
    words = words_with ops fri parameters_of proof_of i p zeta known tables

    abbrev coset : TwoAdicCoset F
    coset = natural_coset ops.opening.fields.base p.degree_bits

    abbrev next : E
    next = next_point ops.opening p.degree_bits zeta

    abbrev Bound : ℕ → ℕ → Root → Type 0
    Bound round place root = RowsAreBound fri.fields fri.hash words bits round place root

    key_bound : (place : ℕ) → place < 2 ^ bits → (key : PreprocessedVerifierKey Root) → i.key ≡ Some key → Bound 2 place key.commitment
    key_bound place within key is =
        let row = row_at fri.fields.base (λ c. c) known (row_point fri (asked_at ops fri parameters_of proof_of i p zeta) place) in
        let found = row_has_path fri.hash commits.digests (λ at. fri.fields.row_bytes (extended_row fri bits (known ∷ []) at)) bits place key.commitment.bytes within (is_root key is) in
        record {
          path = found.0;
          short = commits.short row (subst (λ n. n < 2 ^ 32) (sym (length_of_row fri.fields.base known _)) narrow);
          leads = found.1;
        }

    later_bound : (place : ℕ) (key : Option (PreprocessedVerifierKey Root)) (rows : Option (PreprocessedView E)) → ((k : PreprocessedVerifierKey Root) → key ≡ Some k → Bound 2 place k.commitment)
        → RoundsAreBound fri.fields fri.hash words bits 2 place (map round_read (preprocessed_rounds coset zeta next key rows))
    unfolding RoundsAreBound
    later_bound place None rows bound = tt
    later_bound place (Some k) None bound = tt
    later_bound place (Some k) (Some rows) bound = (bound k refl, tt)

    all_bound : (place : ℕ) (commitment : Option Root) → commitment ≡ None
        → RoundsAreBound fri.fields fri.hash words bits 0 place (take 2 (map round_read (claims_of coset zeta next i.key p.commitments.trace p.commitments.quotient_chunks commitment p.opened_values)))
        → RoundsAreBound fri.fields fri.hash words bits 0 place (map round_read (claims_of coset zeta next i.key p.commitments.trace p.commitments.quotient_chunks commitment p.opened_values))
    unfolding RoundsAreBound
    all_bound place (Some root) none own = absurd (cc)
    all_bound place None none own = (own.0, (own.1.0, later_bound place i.key p.opened_values.preprocessed (key_bound place own.0.leads.1)))

    -- So they lead to the key's root too.
    lead_to_all : LeadToProofRoots ops fri parameters_of proof_of i p zeta words → LeadToRoots fri (asked_at ops fri parameters_of proof_of i p zeta) words
    lead_to_all lead =
        let asked = asked_at ops fri parameters_of proof_of i p zeta in
        record {
          folds = lead.folds;
          places = each (AreBoundAt fri.fields fri.hash bits (take 2 asked.rounds) (trees_of fri asked) words) (AreBoundAt fri.fields fri.hash bits asked.rounds (trees_of fri asked) words)
              (λ place at. record { rows = all_bound place p.commitments.random (random ops fri parameters_of proof_of i p by accepted) at.rows; folds = at.folds }) (drawn_places fri asked) lead.places;
        }

  -- What is shown of tables that lead to all roots is shown of those that lead to the proof's.
  pub sound_beside_own : (log_rows : ℕ) (known : List (List F)) → length known < 2 ^ 32 → ((key : PreprocessedVerifierKey Root) → i.key ≡ Some key → log_rows ≡ p.degree_bits)
      → ((key : PreprocessedVerifierKey Root) → i.key ≡ Some key → IsRootOf fri (log_rows + (parameters_of i.scheme).log_blowup) (known ∷ []) key.commitment)
      → TablesAreSoundBeside ops fri parameters_of proof_of i p known → TablesAreSoundBesideOwn ops fri parameters_of proof_of i p known
  sound_beside_own log_rows known narrow same is_root sound alpha zeta drawn tables lead =
      let blowup = (parameters_of i.scheme).log_blowup in
      sound alpha zeta drawn tables
      (lead_to_all zeta known narrow tables
      (λ key is. subst (λ n. IsRootOf fri (n + blowup) (known ∷ []) key.commitment) (same key is ∙ sym (height_is_claimed ops fri parameters_of proof_of i p by accepted alpha zeta drawn)) (is_root key is))
      lead)
