-- Where a prover finds no witness, as there is none.
use Rattle.std.specs.Prelude.{◌≡◌, ℕ, ◌<◌, false, Bool, List, [], ◌∷◌, ◌++◌, length, IfNone, IfOk, Option, Result}
use Rattle.stark_support.specs.Coset.{TwoAdicCoset, coset_from}
use Rattle.stark_support.specs.Sponge.{observed_all}
use Rattle.stark_merkle.specs.Bytes.{element_bytes}
use Rattle.stark_merkle.specs.declared.root.Root.{Root}
use Rattle.stark_fri.specs.Parts.{FriOps}
use Rattle.stark_fri.specs.Query.{extension_root}
use Rattle.stark_fri.specs.Transcript.{betas_of, observed_extension}
use Rattle.stark_fri_proof.specs.declared.proof.Phase.{Phase}
use Rattle.stark_fri_prover.specs.Batching.{AreWordsOf}
use Rattle.stark_fri_prover.specs.Folds.{AreFolds}
use Rattle.stark_fri_prover.specs.Layers.{AreLayersOf, IsLayerOf}
use Rattle.stark_fri_prover.specs.Words.{IsWordIn}
use Rattle.stark_fri_prover.specs.declared.layers.Layer.{Layer}

-- No element passes as a witness of this number of bits of work in this state.
abbrev pub NonePasses : {C F : Type 0} → (C → ℕ → F → Bool) → ℕ → C → Type 0
NonePasses {C} {F} passes bits state = (witness : F) → passes state bits witness ≡ false

-- What holds where none was made; nothing is said of want of memory, and where one was.
abbrev pub IfNoneMade : {T X : Type 0} → Result (Option T) X → Type 0 → Type 0
IfNoneMade result holds = IfOk result (λ made. IfNone made holds)

module _ {C F E : Type 0} (ops : FriOps C F E) (bytes_of : F → List ℕ) (bits : ℕ) where
  -- The roots of the phases are those of the trees over the words of a polynomial and of what it is folded to, from a coset on.
  pub record AreRootsOf (coset : TwoAdicCoset E) (start : C) (polynomial : List E) (phases : List (Phase F)) : Type 0 where
    pub layers : List (Layer E)
    pub words : AreWordsOf ops.fields.ring (extension_root ops.fields) coset (betas_of ops.sponge bits start phases) polynomial layers
    pub trees : AreLayersOf bytes_of ops.sponge.observing.coordinates ops.fields.ring.zero ops.hash coset.log_size phases layers

  -- A phase of which the witness is of no account.
  abbrev pub without_work : Root → Phase F
  without_work root = record { root = root; witness = ops.sponge.zero }

  module _ (shift : F) (log_size : ℕ) where
    -- No witness passes after the root of a polynomial's word.
    pub record StopsAtRoot (state : C) (polynomial : List E) : Type 0 where
      pub layer : Layer E
      pub root : Root
      pub word : IsWordIn ops.fields.ring ops.fields.embed ops.fields.root shift log_size polynomial layer.values.items
      pub tree : IsLayerOf bytes_of ops.sponge.observing.coordinates ops.fields.ring.zero ops.hash log_size root layer
      pub none : NonePasses ops.sponge.passes bits (ops.sponge.observing.observe_root state root)

    -- Fewer folds than asked for were made, and for the next one, whose root is that of what is left, no witness passes.
    pub record StopsAtFold (count : ℕ) (start : C) (polynomial : List E) : Type 0 where
      pub phases : List (Phase F)
      pub fewer : length phases < count
      pub after : C
      pub left : List E
      pub folds : AreFolds ops.sponge ops.fields.ring bits (length phases) start after polynomial phases left
      pub root : Root
      pub roots : AreRootsOf (coset_from (ops.fields.embed shift) log_size) start polynomial (phases ++ without_work root ∷ [])
      pub none : NonePasses ops.sponge.passes bits (ops.sponge.observing.observe_root after root)

    -- All folds were made, and after the final polynomial no witness passes for the queries.
    pub record StopsAtQueries (count query_bits : ℕ) (start : C) (polynomial : List E) : Type 0 where
      pub phases : List (Phase F)
      pub after : C
      pub last : List E
      pub folds : AreFolds ops.sponge ops.fields.ring bits count start after polynomial phases last
      pub roots : AreRootsOf (coset_from (ops.fields.embed shift) log_size) start polynomial phases
      pub none : NonePasses ops.sponge.passes query_bits (observed_all (observed_extension ops.sponge.observing) last after)

-- ---- in memory

module _ {C F E : Type 0} (ops : FriOps C F E) (size : ℕ) (number_of : F → ℕ) (bits : ℕ) (shift : F) (log_size : ℕ) where
  -- Where no fold was made, no witness passes after the root of the polynomial's word; where not all folds were, one of them stops so.
  abbrev pub NoFold : {T X : Type 0} → C → List E → Result (Option T) X → Type 0
  NoFold state polynomial result = IfNoneMade result (StopsAtRoot ops (element_bytes size number_of) bits shift log_size state polynomial)

  abbrev pub NoFolds : {T X : Type 0} → ℕ → C → List E → Result (Option T) X → Type 0
  NoFolds count start polynomial result = IfNoneMade result (StopsAtFold ops (element_bytes size number_of) bits shift log_size count start polynomial)
