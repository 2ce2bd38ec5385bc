-- What is opened of kept rows leads to the root of the tree over them.
use Rattle.std.specs.Prelude.{◌≡◌, ℕ, ◌+◌, ◌^◌, ◌<◌, ◌≤◌, List, [], ◌∷◌, length, map, Some}
use Rattle.std.specs.Borrow.{Bor}
use Rattle.std.specs.List.{AllByRecursion, range_with_len, slice_get}
use Rattle.std.proofs.Common.{sym, ap, ◌∙◌, subst, arith}
use Rattle.std.proofs.lemmas.List.{length-map}
use Rattle.std.proofs.lemmas.List.FromFn.{get_or-map-range_with_len, length-map-range_with_len}
use Rattle.std.proofs.lemmas.Option.{slice_get-get_or}
use Rattle.stark_support.specs.Claims.{RoundPoints}
use Rattle.stark_support.specs.Coset.{TwoAdicCoset}
use Rattle.stark_support.specs.Faults.{PlaceByPlace}
use Rattle.stark_support.specs.Ring.{RingOps}
use Rattle.stark_support.specs.Scheme.{CommittedMatrix}
use Rattle.stark_merkle.specs.Bytes.{row_bytes_of}
use Rattle.stark_merkle.specs.Tree.{HasPath, IsPath, IsPathIn, TreeDigests, layer_above, led}
use Rattle.stark_merkle.specs.TreeFacts.{full_has_path, led_to_root, path_in_layers, path_length}
use Rattle.stark_merkle.specs.declared.root.Root.{Root}
use Rattle.stark_fri.specs.Claims.{HasHeight, MatrixRead, own_claim, own_matrices}
use Rattle.stark_fri.specs.Parts.{FriDataView, FriFields, FriOps}
use Rattle.stark_fri.specs.Scheme.{FriStands, extended_row, extension_of}
use Rattle.stark_fri_proof.specs.Parts.{InputOpening, QueryProof}
use Rattle.stark_fri_proof.specs.Paths.{digests_of}
use Rattle.stark_fri_proof.specs.declared.parameters.FriParameters.{FriParameters}
use Rattle.stark_fri_prover.specs.Commit.{AreLayersOver, HaveRow, leaf_at, leaves_of, row_of}
use Rattle.stark_fri_prover.specs.CommitFacts.{have_rows, same_leaves}
use Rattle.stark_fri_prover.specs.MadeOpening.{AreOfHeight, IsExtendedRound, IsKeptRound, OpensQuery, OpensRound, seen_round, seen_rounds}
use Rattle.stark_fri_prover.specs.CompletenessFactsLists.{related_mapped, related_with}
use Rattle.stark_fri_prover.specs.Layers.{OpensAt, OpensEach, OpensRow, OpensRows}
use Rattle.stark_fri_prover.specs.declared.layers.Layer.{Layer}

module _ {F E : Type 0} (fields : FriFields F E) (bits : ℕ) (hash : TreeDigests) (bytes_of : F → List ℕ) (row_bytes : (rows : List (List F)) → fields.row_bytes rows ≡ row_bytes_of bytes_of rows) where
  -- A row that is opened of a kept round leads to its root.
  pub row_leads : (place : ℕ) → place < 2 ^ bits → (round : RoundPoints E (FriDataView F)) (layers : List (List (List ℕ))) (opened : InputOpening F)
      → IsKeptRound fields bits hash bytes_of layers round → OpensRow place round.0.extended layers opened → OpensRound fields bits hash place round opened
  row_leads place below round layers opened kept opens =
      let coset : TwoAdicCoset F = extension_of fields.generator bits in
      let node = hash.node in
      let matrices = round.0.matrices in
      let extended = round.0.extended in
      let digests = digests_of opened.path in
      let leaves = leaves_of hash bytes_of extended (2 ^ bits) in
      let leaf = leaf_at hash bytes_of extended in
      let have : HaveRow place extended = have_rows fields.base fields.root coset matrices extended kept.extended.rows place (omega (arith, below)) in
      let rows = opens.rows have in
      let full : length leaves ≡ 2 ^ bits = length-map-range_with_len leaf 0 (2 ^ bits) in
      let way : IsPathIn layers place digests = (opens.path have).path (subst (λ t. HasPath t place) (sym kept.tree) (full_has_path node bits leaves place full below)) in
      let path : IsPath node bits leaves place digests = path_in_layers node bits leaves place digests (subst (λ t. IsPathIn t place digests) kept.tree way) in
      let top : layer_above node bits leaves ≡ round.0.root.bytes ∷ []
      = ap (layer_above node bits) (same_leaves fields.base fields.root coset hash bytes_of matrices extended kept.extended.rows (2 ^ bits) (omega arith)) ∙ kept.root in
      let there : slice_get leaves place ≡ Some (leaf place)
      = slice_get-get_or leaves place [] (subst (λ m. place < m) (sym full) below) ∙ ap Some (get_or-map-range_with_len leaf 0 (2 ^ bits) place place [] below (omega arith)) in
      let bytes : fields.row_bytes opened.rows ≡ row_bytes_of bytes_of (map (row_of place) extended) = row_bytes opened.rows ∙ ap (row_bytes_of bytes_of) rows in
      record {
        rows = rows;
        path = (
          path_length node bits leaves place digests path,
          below,
          ap (λ t. led node place (hash.leaf t) digests) bytes ∙ led_to_root node bits leaves round.0.root.bytes place (leaf place) digests top there path,
        );
      }

  -- What is kept of rounds in memory, whose data are seen so.
  module _ {T X : Type 0} (data_of : T → FriDataView F) (layers_of : T → List (List (List ℕ))) (points_of : X → List (List E)) where
    abbrev pub IsKeptInMemory : Bor T × X → Type 0
    IsKeptInMemory round = IsKeptRound fields bits hash bytes_of (layers_of round.0.now) (seen_round data_of points_of round)

    pub extended_rounds : (rounds : List (Bor T × X)) → AllByRecursion IsKeptInMemory rounds → AllByRecursion (IsExtendedRound fields bits) (seen_rounds data_of points_of rounds)
    extended_rounds [] kept = tt
    extended_rounds (round ∷ rounds) kept = (kept.0.extended, extended_rounds rounds kept.1)

    pub rows_lead : (place : ℕ) → place < 2 ^ bits → (rounds : List (Bor T × X)) (inputs : List (InputOpening F)) → AllByRecursion IsKeptInMemory rounds
        → OpensRows (λ stored. (data_of stored).extended) layers_of place rounds inputs → PlaceByPlace (OpensRound fields bits hash place) (seen_rounds data_of points_of rounds) inputs
    rows_lead place below rounds inputs kept opens =
        related_mapped (seen_round data_of points_of) (OpensRound fields bits hash place) rounds inputs
        (related_with IsKeptInMemory (λ round input. OpensRow place (data_of round.0.now).extended (layers_of round.0.now) input) (λ round input. OpensRound fields bits hash place (seen_round data_of points_of round) input)
        (λ round input is opened. row_leads place below (seen_round data_of points_of round) (layers_of round.0.now) input is opened) rounds inputs kept opens)

    -- What is opened at each of the places.
    pub queries_lead : (rounds : List (Bor T × X)) → AllByRecursion IsKeptInMemory rounds → (layers : List (Layer E)) (places : List ℕ) (queries : List (QueryProof F E))
        → AllByRecursion (λ place. place < 2 ^ bits) places → OpensEach (λ stored. (data_of stored).extended) layers_of rounds layers places queries
        → PlaceByPlace (OpensQuery fields bits hash (seen_rounds data_of points_of rounds) layers) places queries
    queries_lead rounds kept layers places queries below opens =
        related_with (λ place. place < 2 ^ bits) (OpensAt (λ stored. (data_of stored).extended) layers_of rounds layers) (OpensQuery fields bits hash (seen_rounds data_of points_of rounds) layers)
        (λ place query inside opened. record { inputs = rows_lead place inside rounds query.inputs kept opened.0; way = opened.1 }) places queries below opens

-- ---- data that stand for matrices

module _ {F E : Type 0} (ring : RingOps E) (embed : F → E) where
  -- A round of which something is claimed has the claims' height.
  own_height : (height log_height : ℕ) (matrices : List (List (List F))) (points : List (List E)) → AllByRecursion (λ (m : MatrixRead E). m.0 ≡ height) (own_matrices ring embed log_height matrices points)
      → length points ≡ length matrices → 1 ≤ length matrices → log_height ≡ height
  own_height height log_height [] points all same some = absurd (omega arith)
  own_height height log_height (columns ∷ matrices) [] all same some = absurd (omega arith)
  own_height height log_height (columns ∷ matrices) (zs ∷ points) all same some = all.0

  pub has_claimed_height : (height : ℕ) (round : RoundPoints E (FriDataView F)) → HasHeight height (own_claim ring embed round) → length round.1 ≡ length round.0.matrices → 1 ≤ length round.0.matrices
      → round.0.log_height ≡ height
  has_claimed_height height round all same some = own_height height round.0.log_height round.0.matrices round.1 all same some

  -- So have all of them.
  pub have_claimed_height : (height : ℕ) (rounds : List (RoundPoints E (FriDataView F))) → AllByRecursion (HasHeight height) (map (own_claim ring embed) rounds)
      → AllByRecursion (λ (round : RoundPoints E (FriDataView F)). length round.1 ≡ length round.0.matrices) rounds
      → AllByRecursion (λ (round : RoundPoints E (FriDataView F)). 1 ≤ length round.0.matrices) rounds
      → AreOfHeight height rounds
  have_claimed_height height [] all same some = tt
  have_claimed_height height (round ∷ rounds) all same some = (has_claimed_height height round all.0 same.0 some.0, have_claimed_height height rounds all.1 same.1 some.1)

module _ {C F E : Type 0} (ops : FriOps C F E) (bytes_of : F → List ℕ) (row_bytes : (rows : List (List F)) → ops.fields.row_bytes rows ≡ row_bytes_of bytes_of rows) (s : FriParameters) where
  -- The data of a commitment that stands, with the tree over its rows, are kept.
  pub stands_is_kept : (root : Root) (matrices : List (CommittedMatrix F)) (round : RoundPoints E (FriDataView F)) (layers : List (List (List ℕ))) → FriStands ops s root round.0 matrices
      → length round.1 ≡ length matrices → AreLayersOver ops.hash bytes_of (round.0.log_height + s.log_blowup) round.0.extended layers
      → IsKeptRound ops.fields (round.0.log_height + s.log_blowup) ops.hash bytes_of layers round
  stands_is_kept root matrices round layers stands number built =
      let bits = round.0.log_height + s.log_blowup in
      let same : ops.fields.row_bytes ≡ row_bytes_of bytes_of = λ k rows. row_bytes rows k in
      record {
        extended = record { rows = stands.rows; points = number ∙ sym (length-map matrices (λ m. m.columns)) ∙ ap length (sym stands.columns) };
        tree = built;
        root = ap (λ (bytes : List (List F) → List ℕ). layer_above ops.hash.node bits (map (λ i. ops.hash.leaf (bytes (extended_row ops bits round.0.matrices i))) (range_with_len 0 (2 ^ bits)))) (sym same)
            ∙ stands.extended ∙ ap (λ (top : Root). top.bytes ∷ []) stands.commitment;
      }
