-- What an honest prover batches and folds.
use Rattle.std.specs.Prelude.{◌≡◌, ℕ, ⊤, List, [], ◌∷◌, length, map}
use Rattle.std.specs.List.{flat_map, zip}
use Rattle.stark_support.specs.Claims.{RoundPoints}
use Rattle.stark_support.specs.Coset.{TwoAdicCoset, TakesOn}
use Rattle.stark_support.specs.Polynomial.{value}
use Rattle.stark_support.specs.Ring.{RingOps}
use Rattle.stark_folding.specs.Fold.{folded, squared_coset}
use Rattle.stark_folding.specs.Reduce.{Opened, reduced}
use Rattle.stark_fri.specs.Parts.{FriDataView}
use Rattle.stark_fri_prover.specs.declared.layers.Layer.{Layer}

-- The word of a polynomial on a coset: all of its values there, in row order.
abbrev pub IsWordOf : {E : Type 0} → RingOps E → (ℕ → E) → TwoAdicCoset E → List E → List E → Type 0
IsWordOf ring root coset polynomial word = TakesOn ring root coset (value ring polynomial) word

-- The layers are the words of a polynomial and of what it is folded to by each beta but the last, each on the coset of the squares of
-- the one before.
unfoldable pub AreWordsOf : {E : Type 0} → RingOps E → (ℕ → E) → TwoAdicCoset E → List E → List E → List (Layer E) → Type 0
AreWordsOf ring root coset [] polynomial [] = ⊤
AreWordsOf ring root coset [] polynomial (layer ∷ layers) = ⊥
AreWordsOf ring root coset (beta ∷ betas) polynomial [] = ⊥
AreWordsOf ring root coset (beta ∷ betas) polynomial (layer ∷ layers) =
    IsWordOf ring root coset polynomial layer.values.items × AreWordsOf ring root (squared_coset ring coset) betas (folded ring beta polynomial) layers

-- ---- the columns with the points at which they are opened, in the order of the claims

abbrev pub opened_at : {F E : Type 0} → (F → E) → List (List F) → E → List (Opened E)
opened_at embed columns point = map (λ column. (map embed column, point)) columns

abbrev pub opened_in_matrix : {F E : Type 0} → (F → E) → List (List F) × List E → List (Opened E)
opened_in_matrix embed both = flat_map (opened_at embed both.0) both.1

abbrev pub opened_in_round : {F E : Type 0} → (F → E) → RoundPoints E (FriDataView F) → List (Opened E)
opened_in_round embed round = flat_map (opened_in_matrix embed) (zip round.0.matrices round.1)

abbrev pub opened_in : {F E : Type 0} → (F → E) → List (RoundPoints E (FriDataView F)) → List (Opened E)
opened_in embed rounds = flat_map (opened_in_round embed) rounds

-- So many coefficients, whose polynomial is the sum of the quotients (p(X) - p(z)) / (X - z) of all that is opened, each times the
-- next power of alpha.
pub record IsBatch {F E : Type 0} (ring : RingOps E) (embed : F → E) (alpha : E) (size : ℕ) (rounds : List (RoundPoints E (FriDataView F))) (batch : List E) : Type 0 where
  pub number : length batch ≡ size
  pub values : (x : E) → value ring batch x ≡ value ring (reduced ring alpha (opened_in embed rounds)) x
