-- From where no witness is found to where none passes.
use Rattle.std.proofs.Common.{◌≡◌, ◌∙◌, ℕ, zero, suc, ◌-◌, ◌/◌, ◌^◌, ◌≤◌, ◌<◌, List, [], ◌∷◌, ◌++◌, ap, arith, length, refl, subst, sym}
use native.Mathlib.Nat.{two-pow-succ}
use Rattle.std.specs.Prelude.{IfNone, None, Option, Some}
use Rattle.stark_support.specs.Coset.{coset_from}
use Rattle.stark_fri.specs.Parts.{FriOps}
use Rattle.stark_fri.specs.Query.{extension_root}
use Rattle.stark_fri.specs.Transcript.{asked, betas_of, worked}
use Rattle.stark_fri_proof.specs.declared.proof.Phase.{Phase}
use Rattle.stark_fri_prover.specs.Batching.{AreWordsOf}
use Rattle.stark_fri_prover.specs.Folds.{AreFolds}
use Rattle.stark_fri_prover.specs.Work.{StopsAtFold, StopsAtRoot, without_work}
use Rattle.stark_fri_prover.specs.declared.layers.Layer.{Layer}
use Rattle.stark_fri_prover.proofs.FoldSteps.{LayersSoFar, WordsTo, layer_more, one_more_beta}

-- Half of a power of two.
pub half_of_power : (k count : ℕ) → 1 ≤ k → count ≡ 2 ^ k → count / 2 ≡ 2 ^ (k - 1)
half_of_power zero count some is = absurd (omega (arith, some))
half_of_power (suc k) count some is =
    let less : suc k - 1 ≡ k = omega arith in
    subst (λ n. count / 2 ≡ 2 ^ n) (sym less) (omega (arith, is, two-pow-succ k))

-- Where folds were made and no witness passes after the root of what is left, the folds stop.
module _ {C F E : Type 0} (ops : FriOps C F E) (bytes_of : F → List ℕ) (bits : ℕ) (shift : F) (log_size count : ℕ) (start : C) (polynomial : List E) where
  pub stops_here : (n : ℕ) (state : C) (phases : List (Phase F)) (left : List E) (layers : List (Layer E)) (here : F) (size : ℕ) (word : List E) → n < count
      → AreFolds ops.sponge ops.fields.ring bits n start state polynomial phases left
      → LayersSoFar bytes_of ops.sponge.observing.coordinates ops.fields.ring.zero ops.hash log_size size phases layers
      → WordsTo ops.fields.ring (extension_root ops.fields) (coset_from (ops.fields.embed shift) log_size) polynomial (betas_of ops.sponge bits start phases) layers (coset_from (ops.fields.embed here) size) left word
      → StopsAtRoot ops bytes_of bits here size state left → StopsAtFold ops bytes_of bits shift log_size count start polynomial
  unfolding AreWordsOf
  stops_here n state phases left layers here size word below folds trees words stop =
      let next = without_work ops bytes_of bits stop.root in
      let beta = ops.sponge.draw (worked ops.sponge bits state next) in
      let drawn = one_more_beta ops.sponge bits ops.fields.ring start polynomial n state phases (phases ++ next ∷ []) left next refl folds in
      record {
        phases = phases;
        fewer = omega (arith, folds.number, below);
        after = state;
        left = left;
        folds = subst (λ k. AreFolds ops.sponge ops.fields.ring bits k start state polynomial phases left) (sym folds.number) folds;
        root = stop.root;
        roots = record {
          layers = layers ++ stop.layer ∷ [];
          words = subst (λ betas. AreWordsOf ops.fields.ring (extension_root ops.fields) (coset_from (ops.fields.embed shift) log_size) betas polynomial (layers ++ stop.layer ∷ [])) (sym drawn)
              (words.1 (beta ∷ []) (stop.layer ∷ []) (stop.word, tt));
          trees = (layer_more bytes_of ops.sponge.observing.coordinates ops.fields.ring.zero ops.hash log_size size (size - 1) phases (phases ++ next ∷ [])
              layers (layers ++ stop.layer ∷ []) next stop.layer refl refl stop.tree refl trees).0;
        };
        none = stop.none;
      }

-- What holds where there is none, of an option that isn't some.
pub where_none : {T : Type 0} (o : Option T) (holds : Type 0) → ((x : T) → o ≡ Some x → ⊥) → IfNone o holds → holds
where_none None holds not_some it = it
where_none (Some x) holds not_some it = absurd (not_some x refl)
