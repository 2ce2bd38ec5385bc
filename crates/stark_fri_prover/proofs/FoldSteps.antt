-- One fold more.
use Rattle.std.proofs.Common.{◌≡◌, ◌∙◌, ℕ, suc, ◌+◌, ◌-◌, List, [], ◌∷◌, ◌++◌, ap, append_assoc, arith, length, refl, subst, sym}
use Rattle.std.proofs.lemmas.List.{append-nil, length-append}
use Rattle.std.specs.List.{AllByRecursion}
use Rattle.stark_support.specs.Coset.{TwoAdicCoset, coset_from}
use Rattle.stark_support.specs.KeepsRing.{KeepsRing}
use Rattle.stark_support.specs.Ring.{RingOps}
use Rattle.stark_merkle.specs.Tree.{TreeDigests}
use Rattle.stark_folding.specs.Fold.{folded, squared_coset}
use Rattle.stark_folding.specs.Walk.{folded_all}
use Rattle.stark_fri.specs.Parts.{SpongeCalls}
use Rattle.stark_fri.specs.Transcript.{Passes, after_phases, asked, betas_of, checks_of, worked}
use Rattle.stark_fri_proof.specs.declared.proof.Phase.{Phase}
use Rattle.stark_fri_prover.specs.Folds.{AreFolds, IsFold}
use Rattle.stark_fri_prover.specs.Batching.{AreWordsOf, IsWordOf}
use Rattle.stark_fri_prover.specs.Layers.{AreLayersOf, IsLayerOf}
use Rattle.stark_fri_prover.specs.declared.layers.Layer.{Layer}

folded_by_one_more : {E : Type 0} (ring : RingOps E) (betas : List E) (beta : E) (p : List E) → folded_all ring (betas ++ beta ∷ []) p ≡ folded ring beta (folded_all ring betas p)
unfolding folded_all
folded_by_one_more ring [] beta p = refl
folded_by_one_more ring (b ∷ betas) beta p = folded_by_one_more ring betas beta (folded ring b p)

module _ {C F E : Type 0} (sponge : SpongeCalls C F E) (bits : ℕ) where
  after_one_more : (state : C) (phases : List (Phase F)) (phase : Phase F) → after_phases sponge bits state (phases ++ phase ∷ []) ≡ sponge.after_draw (worked sponge bits (after_phases sponge bits state phases) phase)
  unfolding after_phases
  after_one_more state [] phase = refl
  after_one_more state (p ∷ phases) phase = after_one_more (sponge.after_draw (worked sponge bits state p)) phases phase

  betas_of_one_more : (state : C) (phases : List (Phase F)) (phase : Phase F)
      → betas_of sponge bits state (phases ++ phase ∷ []) ≡ betas_of sponge bits state phases ++ sponge.draw (worked sponge bits (after_phases sponge bits state phases) phase) ∷ []
  unfolding betas_of after_phases
  betas_of_one_more state [] phase = refl
  betas_of_one_more state (p ∷ phases) phase =
      ap (λ t. sponge.draw (worked sponge bits state p) ∷ t) (betas_of_one_more (sponge.after_draw (worked sponge bits state p)) phases phase)

  passing_one_more : (state : C) (phases : List (Phase F)) (phase : Phase F) → AllByRecursion (Passes sponge bits) (checks_of sponge bits state phases)
      → Passes sponge bits (asked sponge (after_phases sponge bits state phases) phase, phase.witness) → AllByRecursion (Passes sponge bits) (checks_of sponge bits state (phases ++ phase ∷ []))
  unfolding checks_of after_phases
  passing_one_more state [] phase all here = (here, tt)
  passing_one_more state (p ∷ phases) phase all here = (all.0, passing_one_more (sponge.after_draw (worked sponge bits state p)) phases phase all.1 here)

  module _ (ring : RingOps E) (before : C) (polynomial : List E) where
    -- One more beta is drawn.
    pub one_more_beta : (n : ℕ) (state : C) (phases later : List (Phase F)) (last : List E) (phase : Phase F) → later ≡ phases ++ phase ∷ [] → AreFolds sponge ring bits n before state polynomial phases last
        → betas_of sponge bits before later ≡ betas_of sponge bits before phases ++ sponge.draw (worked sponge bits state phase) ∷ []
    one_more_beta n state phases later last phase pushed folds =
        ap (betas_of sponge bits before) pushed ∙ betas_of_one_more before phases phase
        ∙ ap (λ s. betas_of sponge bits before phases ++ sponge.draw (worked sponge bits s phase) ∷ []) (sym folds.state)

    pub no_betas : (phases : List (Phase F)) → phases ≡ [] → betas_of sponge bits before phases ≡ []
    unfolding betas_of
    no_betas phases none = ap (betas_of sponge bits before) none

    pub no_folds : (phases : List (Phase F)) → phases ≡ [] → AreFolds sponge ring bits 0 before before polynomial phases polynomial
    unfolding betas_of after_phases checks_of folded_all
    no_folds phases none = subst (λ t. AreFolds sponge ring bits 0 before before polynomial t polynomial) (sym none) (record { number = refl; passing = tt; folded = refl; state = refl })

    pub one_more_fold : (n : ℕ) (state after : C) (phases later : List (Phase F)) (last half : List E) (phase : Phase F) → later ≡ phases ++ phase ∷ []
        → IsFold sponge ring bits state after last phase half → AreFolds sponge ring bits n before state polynomial phases last → AreFolds sponge ring bits (n + 1) before after polynomial later half
    one_more_fold n state after phases later last half phase pushed one folds =
        let here = folds.state in
        let number : length (phases ++ phase ∷ []) ≡ n + 1 = omega (arith, length-append phases (phase ∷ []), folds.number) in
        subst (λ t. AreFolds sponge ring bits (n + 1) before after polynomial t half) (sym pushed) (record {
          number = number;
          passing = passing_one_more before phases phase folds.passing (subst (λ s. Passes sponge bits (asked sponge s phase, phase.witness)) here one.passing);
          folded = one.by_beta ∙ ap (λ s. folded ring (sponge.draw (worked sponge bits s phase)) last) here
              ∙ ap (folded ring (sponge.draw (worked sponge bits (after_phases sponge bits before phases) phase))) folds.folded
              ∙ sym (folded_by_one_more ring (betas_of sponge bits before phases) (sponge.draw (worked sponge bits (after_phases sponge bits before phases) phase)) polynomial)
              ∙ ap (λ t. folded_all ring t polynomial) (sym (betas_of_one_more before phases phase));
          state = one.state ∙ ap (λ s. sponge.after_draw (worked sponge bits s phase)) here ∙ sym (after_one_more before phases phase);
        })

-- ---- layers

module _ {F E : Type 0} (bytes_of : F → List ℕ) (coordinates : E → List F) (zero : E) (hash : TreeDigests) where
  abbrev Are : ℕ → List (Phase F) → List (Layer E) → Type 0
  Are log_size phases layers = AreLayersOf bytes_of coordinates zero hash log_size phases layers

  -- The layers so far, and the size of the coset after them.
  abbrev pub LayersSoFar : ℕ → ℕ → List (Phase F) → List (Layer E) → Type 0
  LayersSoFar log_size left phases layers = Are log_size phases layers × (left ≡ log_size - length layers)

  pub no_layers : (log_size : ℕ) (phases : List (Phase F)) (layers : List (Layer E)) → phases ≡ [] → layers ≡ [] → LayersSoFar log_size log_size phases layers
  unfolding AreLayersOf
  no_layers log_size phases layers none none_either =
      subst (λ t. LayersSoFar log_size log_size t layers) (sym none) (subst (λ t. LayersSoFar log_size log_size [] t) (sym none_either) (tt, omega arith))

  one_layer_more : (log_size : ℕ) (phases : List (Phase F)) (layers : List (Layer E)) (phase : Phase F) (layer : Layer E) → Are log_size phases layers
      → IsLayerOf bytes_of coordinates zero hash (log_size - length layers) phase.root layer → Are log_size (phases ++ phase ∷ []) (layers ++ layer ∷ [])
  unfolding AreLayersOf
  one_layer_more log_size [] [] phase layer all here = (subst (λ n. IsLayerOf bytes_of coordinates zero hash n phase.root layer) (omega arith) here, tt)
  one_layer_more log_size [] (l ∷ layers) phase layer all here = absurd all
  one_layer_more log_size (p ∷ phases) [] phase layer all here = absurd all
  one_layer_more log_size (p ∷ phases) (l ∷ layers) phase layer all here =
      let fewer : log_size - suc (length layers) ≡ log_size - 1 - length layers = omega arith in
      (all.0, one_layer_more (log_size - 1) phases layers phase layer all.1 (subst (λ n. IsLayerOf bytes_of coordinates zero hash n phase.root layer) fewer here))

  pub layer_more : (log_size left next : ℕ) (phases later : List (Phase F)) (layers more : List (Layer E)) (phase : Phase F) (layer : Layer E) → later ≡ phases ++ phase ∷ [] → more ≡ layers ++ layer ∷ []
      → IsLayerOf bytes_of coordinates zero hash left phase.root layer → next ≡ left - 1 → LayersSoFar log_size left phases layers → LayersSoFar log_size next later more
  layer_more log_size left next phases later layers more phase layer pushed pushed_too here half so_far =
      let number = length-append layers (layer ∷ []) in
      subst (λ t. LayersSoFar log_size next t more) (sym pushed) (subst (λ t. LayersSoFar log_size next (phases ++ phase ∷ []) t) (sym pushed_too) (
        one_layer_more log_size phases layers phase layer so_far.0 (subst (λ n. IsLayerOf bytes_of coordinates zero hash n phase.root layer) so_far.1 here),
        omega (arith, number, half, so_far.1),
      ))

-- ---- words

module _ {E : Type 0} (ring : RingOps E) (root : ℕ → E) (start : TwoAdicCoset E) (polynomial : List E) where
  -- From here on whatever has the words of what is left, after the layers so far has those of the polynomial.
  abbrev pub WordsTo : List E → List (Layer E) → TwoAdicCoset E → List E → List E → Type 0
  WordsTo betas layers here last word =
      IsWordOf ring root here last word
      × ((rest : List E) (left : List (Layer E)) → AreWordsOf ring root here rest last left → AreWordsOf ring root start (betas ++ rest) polynomial (layers ++ left))

  pub no_words : (betas : List E) (layers : List (Layer E)) (word : List E) → betas ≡ [] → layers ≡ [] → IsWordOf ring root start polynomial word → WordsTo betas layers start polynomial word
  no_words betas layers word none none_either is = (
    is,
    λ rest left words. subst (λ t. AreWordsOf ring root start (t ++ rest) polynomial (layers ++ left)) (sym none) (subst (λ t. AreWordsOf ring root start rest polynomial (t ++ left)) (sym none_either) words),
  )

  pub words_more : (betas later : List E) (layers more : List (Layer E)) (here next : TwoAdicCoset E) (last half word halved : List E) (beta : E) (layer : Layer E) → later ≡ betas ++ beta ∷ [] → more ≡ layers ++ layer ∷ []
      → next ≡ squared_coset ring here → half ≡ folded ring beta last → IsWordOf ring root here last layer.values.items × IsWordOf ring root (squared_coset ring here) half halved
      → WordsTo betas layers here last word → WordsTo later more next half halved
  unfolding AreWordsOf
  words_more betas later layers more here next last half word halved beta layer pushed pushed_too squares by_beta both so_far = (
    subst (λ c. IsWordOf ring root c half halved) (sym squares) both.1,
    λ rest left words.
        let folded_on : AreWordsOf ring root (squared_coset ring here) rest (folded ring beta last) left
        = subst (λ p. AreWordsOf ring root (squared_coset ring here) rest p left) by_beta (subst (λ c. AreWordsOf ring root c rest half left) squares words) in
        let all : AreWordsOf ring root here (beta ∷ rest) last (layer ∷ left) = (both.0, folded_on) in
        subst (λ t. AreWordsOf ring root start t polynomial (more ++ left)) (sym (ap (λ t. t ++ rest) pushed ∙ append_assoc betas (beta ∷ []) rest))
        (subst (λ t. AreWordsOf ring root start (betas ++ beta ∷ rest) polynomial t) (sym (ap (λ t. t ++ left) pushed_too ∙ append_assoc layers (layer ∷ []) left))
        (so_far.1 (beta ∷ rest) (layer ∷ left) all)),
  )

  pub words_all : (betas : List E) (layers : List (Layer E)) (here : TwoAdicCoset E) (last word : List E) → WordsTo betas layers here last word → AreWordsOf ring root start betas polynomial layers
  unfolding AreWordsOf
  words_all betas layers here last word so_far =
      subst (λ t. AreWordsOf ring root start t polynomial layers) (append-nil betas) (subst (λ t. AreWordsOf ring root start (betas ++ []) polynomial t) (append-nil layers) (so_far.1 [] [] tt))

-- The coset of the squares, of a coset of the base field in the extension.
pub squares_embedded : {F E : Type 0} {base : RingOps F} {ring : RingOps E} {embed : F → E} (keeps : KeepsRing base ring embed) (shift square : F) (log_size less : ℕ) → square ≡ base.mul shift shift → less ≡ log_size - 1
    → coset_from (embed square) less ≡ squared_coset ring (coset_from (embed shift) log_size)
squares_embedded {embed = embed} keeps shift square log_size less is half =
    ap (λ s. coset_from (embed s) less) is ∙ ap (λ s. coset_from s less) (keeps.mul shift shift) ∙ ap (coset_from _) half
