-- What the prover's folds leave.
use Rattle.std.specs.Prelude.{◌≡◌, ℕ, true, Bool, List, length, Option, Result}
use Rattle.std.specs.List.{AllByRecursion}
use Rattle.stark_columns.specs.Made.{IfMade}
use Rattle.stark_folding.specs.Fold.{folded, squared_coset}
use Rattle.stark_folding.specs.Walk.{folded_all}
use Rattle.stark_fri.specs.Parts.{SpongeCalls}
use Rattle.stark_fri.specs.Transcript.{Passes, after_phases, asked, betas_of, checks_of, worked}
use Rattle.stark_fri_proof.specs.declared.proof.Phase.{Phase}
use Rattle.stark_support.specs.Coset.{coset_from}
use Rattle.stark_support.specs.Ring.{RingOps}
use Rattle.stark_merkle.specs.Tree.{TreeDigests}
use Rattle.stark_fri_prover.specs.Batching.{AreWordsOf, IsWordOf}
use Rattle.stark_fri_prover.specs.Layers.{AreLayersOf, IsLayerOf}
use Rattle.stark_fri_prover.specs.Words.{IsWordIn}
use Rattle.stark_fri_prover.specs.declared.phases.Folds.{Folds}
use Rattle.stark_fri_prover.specs.declared.phases.Halved.{Halved}

-- The witness passes from this state, and is zero where no work is asked for; the state after it is that after its check.
pub record IsWitness {C F : Type 0} (zero : F) (passes : C → ℕ → F → Bool) (after_check : C → ℕ → F → C) (bits : ℕ) (before after : C) (witness : F) : Type 0 where
  pub none_asked : bits ≡ 0 → witness ≡ zero
  pub passing : passes before bits witness ≡ true
  pub state : after ≡ after_check before bits witness

-- One fold: its witness passes, and by the challenge that is drawn after it the polynomial is folded.
pub record IsFold {C F E : Type 0} (sponge : SpongeCalls C F E) (ring : RingOps E) (bits : ℕ) (before after : C) (polynomial : List E) (phase : Phase F) (half : List E) : Type 0 where
  pub passing : Passes sponge bits (asked sponge before phase, phase.witness)
  pub by_beta : half ≡ folded ring (sponge.draw (worked sponge bits before phase)) polynomial
  pub state : after ≡ sponge.after_draw (worked sponge bits before phase)

-- So many folds, one after the other: all witnesses pass, and the polynomial that is left is folded by all challenges that were drawn.
pub record AreFolds {C F E : Type 0} (sponge : SpongeCalls C F E) (ring : RingOps E) (bits count : ℕ) (before after : C) (polynomial : List E) (phases : List (Phase F)) (last : List E) : Type 0 where
  pub number : length phases ≡ count
  pub passing : AllByRecursion (Passes sponge bits) (checks_of sponge bits before phases)
  pub folded : last ≡ folded_all ring (betas_of sponge bits before phases) polynomial
  pub state : after ≡ after_phases sponge bits before phases

-- ---- in memory

module _ {C F E : Type 0} (sponge : SpongeCalls C F E) (ring : RingOps E) (bits : ℕ) where
  -- A fold was made of the polynomial, with its layer.
  abbrev pub MakesFold : C → C → List E → Halved F E → Type 0
  MakesFold before after polynomial made = IsFold sponge ring bits before after polynomial made.phase made.polynomial.items

  -- So many folds were made.
  abbrev pub MakesFolds : ℕ → C → C → List E → Folds F E → Type 0
  MakesFolds count before after polynomial made = AreFolds sponge ring bits count before after polynomial made.phases.items made.last.items

module _ {F E : Type 0} (bytes_of : F → List ℕ) (coordinates : E → List F) (zero : E) (hash : TreeDigests) where
  -- The root of a fold's phase is that of its layer's tree.
  abbrev pub CommitsLayer : ℕ → Halved F E → Type 0
  CommitsLayer log_size made = IsLayerOf bytes_of coordinates zero hash log_size made.phase.root made.layer

  abbrev pub CommitsLayers : ℕ → Folds F E → Type 0
  CommitsLayers log_size made = AreLayersOf bytes_of coordinates zero hash log_size made.phases.items made.layers.items

-- A fold's layer has the polynomial's word on the coset, and what is left is the word of what it is folded to, on the squares.
abbrev pub FoldsWord : {F E : Type 0} → RingOps E → (F → E) → (ℕ → F) → F → ℕ → List E → Halved F E → Type 0
FoldsWord ring embed root shift log_size polynomial made =
    IsWordIn ring embed root shift log_size polynomial made.layer.values.items
    × IsWordOf ring (λ k. embed (root k)) (squared_coset ring (coset_from (embed shift) log_size)) made.polynomial.items made.word.items

-- The layers have the words of the polynomial and of what it is folded to by the betas that were drawn, from the coset on.
abbrev pub WordsOf : {C F E X : Type 0} → SpongeCalls C F E → RingOps E → (F → E) → (ℕ → F) → ℕ → F → ℕ → C → List E → Result (Option (Folds F E)) X → Type 0
WordsOf sponge ring embed root bits shift log_size before polynomial result =
    IfMade result (λ made. AreWordsOf ring (λ k. embed (root k)) (coset_from (embed shift) log_size) (betas_of sponge bits before made.phases.items) polynomial made.layers.items)
