-- What an accepted proof shows of words that lead to its roots: the claims are true of polynomials near to them, or one of few draws was
-- made, or the proof opens something else under the same roots.
use Rattle.std.specs.Prelude.{◌≡◌, ◌↔◌, ℕ, suc, ◌+◌, ◌-◌, ◌*◌, ◌^◌, ◌<◌, ◌≤◌, Bool, true, List, length, map}
use Rattle.std.specs.List.{AllByRecursion, zip}
use Rattle.std.specs.Borrow.{Bor}
use Rattle.std.specs.declared.vec.Vec.{Vec}
use Rattle.stark_support.specs.Coset.{TwoAdicCoset, coset_point}
use Rattle.stark_support.specs.Embedding.{IsEmbedding}
use Rattle.stark_support.specs.Polynomial.{HoldsOfAtMost}
use Rattle.stark_support.specs.Ring.{FieldLaws}
use Rattle.stark_support.specs.TwoAdic.{TwoAdicLaws}
use Rattle.stark_merkle.specs.Tree.{AreDigests, HashCollision, TreeDigests}
use Rattle.stark_merkle.specs.declared.root.Root.{Root}
use Rattle.stark_fri_soundness.specs.Agreement.{count}
use Rattle.stark_fri_soundness.specs.BaseWords.{BaseClaimsHold}
use Rattle.stark_fri_soundness.specs.Chain.{Opens}
use Rattle.stark_fri_soundness.specs.Claims.{ColumnIndex}
use Rattle.stark_fri_soundness.specs.Run.{HasBadBeta, IsBadAlpha, PlacePasses, Run}
use Rattle.stark_fri_soundness.specs.Sound.{ArePlacesOf, FewBadInFolds}
use Rattle.stark_fri_proof.specs.declared.parameters.FriParameters.{FriParameters}
use Rattle.stark_fri_proof.specs.Parts.{FriProofView}
use Rattle.stark_fri.specs.Accept.{Accepted, all_queries, bits_of, log_final, log_height_of, target_of}
use Rattle.stark_fri.specs.Parts.{FriFields, FriOps}
use Rattle.stark_fri.specs.Query.{QueryAt, batched_value, extension_coset, extension_root, phase_root}
use Rattle.stark_fri.specs.Scheme.{claimed_by, extension_of}
use Rattle.stark_fri.specs.Transcript.{Instance, alpha_of, fold_betas, query_places}
use Rattle.stark_fri.specs.Words.{AreBoundAt, RowsAreOpened, Words, claims_of, column_word, embedded_column}

-- ---- what is asked of the fields and the hash

-- The laws of the base field, of the extension, of the embedding and of the two-adic roots.
pub record AreFields {F E : Type 0} (fields : FriFields F E) : Type 0 where
  pub base : FieldLaws fields.base fields.base_inverse
  pub extension : FieldLaws fields.ring fields.inverse
  pub embeds : IsEmbedding fields.base fields.ring fields.embed
  pub two_adic : TwoAdicLaws fields.base fields.adicity fields.root fields.generator

-- Leaves and nodes have 32 bytes, and rows and pairs with the same bytes are the same.
pub record BytesNameValues {F E : Type 0} (fields : FriFields F E) (hash : TreeDigests) : Type 0 where
  pub digests : AreDigests hash
  pub rows : (rows others : List (List F)) → length (fields.row_bytes others) < 2 ^ 64 → fields.row_bytes rows ≡ fields.row_bytes others → rows ≡ others
  pub pairs : (x y other_x other_y : E) → fields.pair_bytes x y ≡ fields.pair_bytes other_x other_y → (x ≡ other_x) × (y ≡ other_y)

-- ---- words that lead to a proof's roots

module _ {C F E : Type 0} (ops : FriOps C F E) (i : Instance C F E) where
  -- How many extended rows there are, and their points.
  abbrev pub row_count : ℕ
  row_count = 2 ^ bits_of ops i

  abbrev pub row_point : ℕ → F
  row_point = coset_point ops.fields.base ops.fields.root (extension_of ops.fields.generator (bits_of ops i))

  -- How many coefficients the final polynomial has.
  abbrev pub final_length : ℕ
  final_length = 2 ^ log_final i.parameters (log_height_of ops i)

  abbrev pub trees_of : List (List ℕ)
  trees_of = map phase_root i.proof.phases

  -- The places that the queries are drawn at.
  abbrev pub drawn_places : List ℕ
  drawn_places = query_places ops.sponge i (bits_of ops i)

  -- Twice the radius e is below the distance of the code: of polynomials of degree below 2^height, by their values at the rows' points.
  abbrev pub IsRadius : ℕ → Type 0
  IsRadius e = 2 * e + 2 ^ log_height_of ops i < row_count

  module _ (words : Words F E) where
    -- There is a word for each fold, and at each drawn place the words lead to the proof's roots, by any paths.
    pub record LeadToRoots : Type 0 where
      pub folds : length words.folds ≡ length i.proof.phases
      pub places : AllByRecursion (AreBoundAt ops.fields ops.hash (bits_of ops i) i.rounds trees_of words) drawn_places

    -- The run of FRI that the words make with what is claimed and drawn.
    abbrev pub run_of : Run ColumnIndex E
    run_of = record {
      coset = extension_coset ops.fields (bits_of ops i);
      columns = embedded_column ops.fields words;
      claims = claims_of i.rounds;
      alpha = alpha_of ops.sponge i;
      layers = zip words.folds (fold_betas ops.sponge i);
      final = i.proof.final_polynomial;
    }

    -- The set of the places that pass: there the columns' batched value is the first fold's, and the folds lead to one another and to the
    -- final polynomial.
    abbrev pub ArePassing : (ℕ → Bool) → Type 0
    ArePassing places = (place : ℕ) → place < row_count → (places place ≡ true) ↔ PlacePasses ops.fields.ring ops.fields.inverse (extension_root ops.fields) run_of place

    -- On these places the columns agree with polynomials over the base field of degree at most 2^height, and all claims are true of these.
    abbrev pub ClaimsHoldOn : (ℕ → Bool) → Type 0
    ClaimsHoldOn places =
        BaseClaimsHold ops.fields.base ops.fields.ring ops.fields.embed row_point row_count (suc (2 ^ log_height_of ops i)) places (column_word ops.fields words) (claims_of i.rounds)

    -- What a query opens is the words': each round's rows at its place, and the values on its way through the folds.
    pub record QueryOpens (q : QueryAt F E) : Type 0 where
      pub rows : RowsAreOpened ops.fields words 0 q.0 q.1.inputs
      pub folds : Opens ops.fields.ring ops.fields.inverse (extension_root ops.fields) (extension_coset ops.fields (bits_of ops i)) (zip words.folds (fold_betas ops.sponge i)) q.0
          (batched_value ops.fields ops.hash (target_of ops i) q) (map (λ layer. layer.sibling) q.1.layers)

    -- Some query opens something else than the words, though both lead to one root; so the trees' hash collides.
    pub record OpensOtherwise : Type 0 where
      pub otherwise : AllByRecursion QueryOpens (all_queries ops i) → ⊥
      pub collision : HashCollision ops.hash

    module _ (e : ℕ) where
      -- So they do on the passing places, which are all but e of the rows' places or more.
      pub record ClaimsAreTrue : Type 0 where
        pub places : ℕ → Bool
        pub passing : ArePassing places
        pub many : row_count ≤ count row_count places + e
        pub hold : ClaimsHoldOn places

      -- An alpha is bad for the claims.
      abbrev pub IsBadBatch : E → Type 0
      IsBadBatch alpha = IsBadAlpha ops.fields.ring ops.fields.inverse (extension_root ops.fields) run_of final_length e alpha

      -- Some fold's beta is bad for its word.
      abbrev pub IsBadFold : Type 0
      IsBadFold = HasBadBeta ops.fields.ring ops.fields.inverse (extension_root ops.fields) run_of final_length e

      -- Fewer than all but e places pass, and all drawn places are among them.
      pub record FewPlacesPass : Type 0 where
        pub places : ℕ → Bool
        pub passing : ArePassing places
        pub few : count row_count places + e < row_count
        pub drawn : ArePlacesOf row_count places (length drawn_places) drawn_places

-- What an accepted proof shows of words that lead to its roots, within a radius: one of five.
pub data Shown {C F E : Type 0} (ops : FriOps C F E) (i : Instance C F E) (words : Words F E) (e : ℕ) : Type 0 where
  claims_are_true : ClaimsAreTrue ops i words e → Shown ops i words e
  alpha_is_bad : IsBadBatch ops i words e (alpha_of ops.sponge i) → Shown ops i words e
  beta_is_bad : IsBadFold ops i words e → Shown ops i words e
  few_places_pass : FewPlacesPass ops i words e → Shown ops i words e
  digests_collide : OpensOtherwise ops i words → Shown ops i words e

-- It shows one of these of all words that lead to its roots, within each radius.
abbrev pub IsSound : {C F E : Type 0} → FriOps C F E → Instance C F E → Type 0
IsSound {C} {F} {E} ops i = (words : Words F E) → LeadToRoots ops i words → (e : ℕ) → IsRadius ops i e → Shown ops i words e

-- ---- how few draws are bad

-- Of c claims no more than (c - 1) (2^bits + e) alphas are bad, and at each fold few betas (`FewBadInFolds`); and of all lists of q places no
-- more than (2^bits - e - 1)^q lie in a set of fewer than 2^bits - e places.
pub record FewDrawsAreBad {C F E : Type 0} (ops : FriOps C F E) (i : Instance C F E) (words : Words F E) (e : ℕ) : Type 0 where
  pub alphas : HoldsOfAtMost ((length (claims_of i.rounds) - 1) * (row_count ops i + e)) (IsBadBatch ops i words e)
  pub betas : FewBadInFolds ops.fields.ring ops.fields.inverse (extension_root ops.fields) (extension_coset ops.fields (bits_of ops i)) (final_length ops i) e (zip words.folds (fold_betas ops.sponge i))
  pub places : (places : ℕ → Bool) → count (row_count ops i) places + e < row_count ops i → (number : ℕ)
      → HoldsOfAtMost ((row_count ops i - suc e) ^ number) (ArePlacesOf (row_count ops i) places number)

-- This is so of all words with one for each fold, within each radius.
abbrev pub FewAreBad : {C F E : Type 0} → FriOps C F E → Instance C F E → Type 0
FewAreBad {C} {F} {E} ops i = (words : Words F E) → length words.folds ≡ length i.proof.phases → (e : ℕ) → IsRadius ops i e → FewDrawsAreBad ops i words e

-- ---- what is proved

-- What is accepted is sound, and few draws are bad.
abbrev pub AcceptedIsSound : {C F E : Type 0} → FriOps C F E → Type 0
AcceptedIsSound {C} {F} {E} ops = (i : Instance C F E) → Accepted ops i → IsSound ops i × FewAreBad ops i

-- ---- of claims as they stand in memory

module _ {C F E : Type 0} (ops : FriOps C F E) {D A B : Type 0} (coset_of : D → TwoAdicCoset F) (s : FriParameters) (claims : List (Bor Root × Vec (D × Vec (E × Bor (List E)) A) B)) where
  abbrev pub IsSoundOfClaims : C → FriProofView F E → Type 0
  IsSoundOfClaims state proof = IsSound ops (claimed_by coset_of s claims proof state)

  abbrev pub FewAreBadOfClaims : C → FriProofView F E → Type 0
  FewAreBadOfClaims state proof = FewAreBad ops (claimed_by coset_of s claims proof state)
