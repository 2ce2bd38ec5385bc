-- The folds of FRI one after another: where their words fit together, and which betas are bad.
use Rattle.std.specs.Prelude.{◌≡◌, ◌⊎◌, ℕ, ◌+◌, ◌*◌, ◌/◌, ◌^◌, ◌%◌, ◌<◌, ◌≤◌, Bool, true, ⊤, List, [], ◌∷◌, length, map}
use Rattle.std.specs.List.{zip}
use Rattle.stark_support.specs.Ring.{RingOps}
use Rattle.stark_support.specs.Coset.{IsTwoAdicCoset, TwoAdicCoset, coset_point, coset_size}
use Rattle.stark_support.specs.Polynomial.{value, HasDegreeBelow}
use Rattle.stark_folding.specs.Fold.{squared_coset}
use Rattle.stark_folding.specs.Walk.{half_size, last_coset, last_place, next_value, opposite_place, walked}
use Rattle.stark_fri_soundness.specs.Agreement.{count}
use Rattle.stark_fri_soundness.specs.Beta.{AgreesOn, IsBadBeta, folded_word}

-- A layer: a word, and the beta by which it is folded.
abbrev pub Layer : Type 0 → Type 0
Layer K = (ℕ → K) × K

module _ {K : Type 0} (ring : RingOps K) (inverse : K → K) (root : ℕ → K) where
  -- The word of the first layer; after the last one come the final polynomial's values.
  abbrev pub first_word : TwoAdicCoset K → List K → List (Layer K) → ℕ → K
  first_word c final [] i = value ring final (coset_point ring root c i)
  first_word c final (layer ∷ layers) i = layer.0 i

  -- A place passes where each layer's word folds to the next one's value on the way from there.
  unfoldable pub Passes : TwoAdicCoset K → List K → List (Layer K) → ℕ → Type 0
  Passes c final [] i = ⊤
  Passes c final (layer ∷ layers) i =
      (folded_word ring inverse root c layer.1 layer.0 (i % half_size c) ≡ first_word (squared_coset ring c) final layers (i % half_size c))
      × Passes (squared_coset ring c) final layers (i % half_size c)

  -- No layer's beta is bad for its word, where the first word may miss e places, the folded one half as many, and so on.
  unfoldable pub NoBadBeta : TwoAdicCoset K → ℕ → ℕ → List (Layer K) → Type 0
  NoBadBeta c d e [] = ⊤
  NoBadBeta c d e (layer ∷ layers) = (IsBadBeta ring inverse root c (2 ^ length layers * d) (e / 2) layer.0 layer.1 → ⊥) × NoBadBeta (squared_coset ring c) d (e / 2) layers

  -- Some layer's beta is.
  unfoldable pub SomeBadBeta : TwoAdicCoset K → ℕ → ℕ → List (Layer K) → Type 0
  SomeBadBeta c d e [] = ⊥
  SomeBadBeta c d e (layer ∷ layers) = IsBadBeta ring inverse root c (2 ^ length layers * d) (e / 2) layer.0 layer.1 ⊎ SomeBadBeta (squared_coset ring c) d (e / 2) layers

  -- Where no beta is bad and all but e places pass, the first word agrees there with a polynomial of degree below 2^m d.
  abbrev pub FoldsAreSound : ℕ → Type 0
  FoldsAreSound adicity = (c : TwoAdicCoset K) → IsTwoAdicCoset ring adicity c → (layers : List (Layer K)) → length layers ≤ c.log_size → (d e : ℕ) (final : List K) → HasDegreeBelow d final
      → NoBadBeta c d e layers → (places : ℕ → Bool) → coset_size c ≤ count (coset_size c) places + e → ((i : ℕ) → i < coset_size c → places i ≡ true → Passes c final layers i)
      → AgreesOn ring root c (2 ^ length layers * d) places (first_word c final layers)

  -- ---- queries

  -- The value at a place and the ones opposite on its way are those of the layers' words.
  unfoldable pub Opens : TwoAdicCoset K → List (Layer K) → ℕ → K → List K → Type 0
  Opens c [] i v siblings = ⊤
  Opens c (layer ∷ layers) i v [] = ⊥
  Opens c (layer ∷ layers) i v (sibling ∷ siblings) =
      (v ≡ layer.0 i) × (sibling ≡ layer.0 (opposite_place c i)) × Opens (squared_coset ring c) layers (i % half_size c) (next_value ring inverse root c layer.1 i v sibling) siblings

  -- A query's way ends at the final polynomial's value.
  abbrev pub EndsAt : TwoAdicCoset K → List K → List (Layer K) → ℕ → K → List K → Type 0
  EndsAt c final layers i v siblings = walked ring inverse root c i v (zip (map (λ (layer : Layer K). layer.1) layers) siblings)
      ≡ value ring final (coset_point ring root (last_coset ring (length layers) c) (last_place ring (length layers) c i))

  -- A query that opens values of the layers' words and ends at the final polynomial's value passes at its place.
  abbrev pub QueriesPass : ℕ → Type 0
  QueriesPass adicity = (c : TwoAdicCoset K) → IsTwoAdicCoset ring adicity c → (layers : List (Layer K)) → length layers ≤ c.log_size → (final : List K) (i : ℕ) → i < coset_size c
      → (v : K) (siblings : List K) → Opens c layers i v siblings → EndsAt c final layers i v siblings → (v ≡ first_word c final layers i) × Passes c final layers i
