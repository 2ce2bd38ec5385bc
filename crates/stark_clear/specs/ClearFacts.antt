-- The laws of the scheme in the clear.
use Rattle.std.specs.Prelude.{◌≡◌, ℕ, zero, suc, ◌<◌, List, [], ◌∷◌, Option, map, length, All, refl}
use Rattle.std.specs.List.{AllByRecursion}
use Rattle.std.proofs.Common.{sym, ap, ◌∙◌, subst, arith}
use Rattle.std.proofs.lemmas.List.{length-map}
use Rattle.stark_support.specs.Ring.{RingOps}
use Rattle.stark_support.specs.Coset.{coset_size}
use Rattle.stark_support.specs.Claims.{RoundClaim}
use Rattle.stark_support.specs.Polynomial.{HasDegreeBelow}
use Rattle.stark_support.specs.Scheme.{CommittedMatrix, CommittingCalls, HasDegreesBelowSize, OpenedRound, RoundStands, SchemeLaws, handed, row_at, true_claim, true_matrix_claims, true_values}
use Rattle.stark_support.specs.Faults.{PlaceByPlace, no_first_fault}
use Rattle.stark_clear.specs.ClearClaims.{ClaimsAreTrue, ClaimsFault, HasValue, HasValues, MatrixHasShape, MatrixIsTrue, RoundHasShape, RoundIsTrue}
use Rattle.stark_columns.specs.Columns.{IsFull, columns_of}
use Rattle.stark_clear.specs.ClearScheme.{RefusesClaims, clear_scheme}
use Rattle.stark_clear.specs.Stops.{StopsAt}
use Rattle.stark_columns.specs.Opened.{matrices_at, opened_round}
use Rattle.stark_columns.specs.OpenedFacts.{opened_are_true}
use Rattle.stark_clear.specs.declared.clear.call.ClearCall.{ClearCall}
use Rattle.stark_clear.specs.declared.clear.call.ClearCall.TheVariants.{Verify}
use Rattle.stark_clear.specs.declared.clear.check.ClearError.{ClearError}
use Rattle.stark_clear.specs.declared.clear.check.ClearError.TheVariants.{Stopped, Shape, Value}

-- Claims that are true have no fault.
pub true_or_at_fault : {F E : Type 0} (ring : RingOps E) (embed : F → E) (claims : List (RoundClaim F E (List (List (List F))))) (error : ClearError) → ClaimsAreTrue ring embed claims → ClaimsFault ring embed claims error → ⊥
true_or_at_fault ring embed claims Stopped holds fault = fault
true_or_at_fault ring embed claims (Shape round) holds fault = no_first_fault RoundHasShape claims round fault holds.0
true_or_at_fault ring embed claims (Value round) holds fault = no_first_fault (RoundIsTrue ring embed) claims round fault.1 holds.1

-- Where verifying doesn't stop, a fault of the claims is refused.
pub at_fault : {F E : Type 0} (ring : RingOps E) (embed : F → E) (stops : Option ClearCall) (claims : List (RoundClaim F E (List (List (List F))))) (error : ClearError) → (StopsAt stops Verify → ⊥)
    → ClaimsFault ring embed claims error → RefusesClaims ring embed stops claims error
at_fault ring embed stops claims Stopped goes fault = absurd fault
at_fault ring embed stops claims (Shape round) goes fault = (goes, fault)
at_fault ring embed stops claims (Value round) goes fault = (goes, fault)

-- What is accepted isn't refused.
accepted_or_refused : {F E : Type 0} (ring : RingOps E) (embed : F → E) (stops : Option ClearCall) (claims : List (RoundClaim F E (List (List (List F))))) (error : ClearError)
    → ClaimsAreTrue ring embed claims × (StopsAt stops Verify → ⊥) → RefusesClaims ring embed stops claims error → ⊥
accepted_or_refused ring embed stops claims Stopped accepted refused = accepted.1 refused
accepted_or_refused ring embed stops claims (Shape round) accepted refused = true_or_at_fault ring embed claims (Shape round) accepted.0 refused.1
accepted_or_refused ring embed stops claims (Value round) accepted refused = true_or_at_fault ring embed claims (Value round) accepted.0 refused.1

module _ {F : Type 0} where
  within_size : (n : ℕ) (columns : List (List F)) → AllByRecursion (λ column. length column ≡ n) columns → All (HasDegreeBelow n) columns
  within_size n [] all k d below = absurd (omega arith)
  within_size n (column ∷ columns) all zero d below = omega (arith, all.0)
  within_size n (column ∷ columns) all (suc k) d below = within_size n columns all.1 k d (omega arith)

  pub full_is_within : (matrices : List (CommittedMatrix F)) → AllByRecursion IsFull matrices → All HasDegreesBelowSize matrices
  full_is_within [] all k d below = absurd (omega arith)
  full_is_within (matrix ∷ matrices) all zero d below = within_size (coset_size matrix.domain) matrix.columns all.0
  full_is_within (matrix ∷ matrices) all (suc k) d below = full_is_within matrices all.1 k d (omega arith)

module _ {F E : Type 0} (ring : RingOps E) (embed : F → E) where
  its_own_values : (columns : List (List F)) (x : E) → PlaceByPlace (HasValue ring embed x) columns (row_at ring embed columns x)
  unfolding PlaceByPlace
  its_own_values [] x = tt
  its_own_values (column ∷ columns) x = (refl, its_own_values columns x)

  as_many_values : (columns : List (List F)) (xs : List E) → AllByRecursion (λ (p : E × List E). length p.1 ≡ length columns) (map (λ x. (x, row_at ring embed columns x)) xs)
  as_many_values columns [] = tt
  as_many_values columns (x ∷ xs) = (length-map columns _, as_many_values columns xs)

  all_values : (columns : List (List F)) (xs : List E) → AllByRecursion (HasValues ring embed columns) (map (λ x. (x, row_at ring embed columns x)) xs)
  all_values columns [] = tt
  all_values columns (x ∷ xs) = (its_own_values columns x, all_values columns xs)

  true_shapes : (matrices : List (CommittedMatrix F)) (points : List (List E)) → length points ≡ length matrices → AllByRecursion IsFull matrices
      → PlaceByPlace MatrixHasShape (columns_of matrices) (true_matrix_claims ring embed matrices points)
  unfolding PlaceByPlace
  true_shapes [] points number full = tt
  true_shapes (m ∷ matrices) [] number full = absurd (omega arith)
  true_shapes (m ∷ matrices) (xs ∷ points) number full = ((full.0, as_many_values m.columns xs), true_shapes matrices points (omega arith) full.1)

  are_true : (matrices : List (CommittedMatrix F)) (points : List (List E)) → length points ≡ length matrices
      → PlaceByPlace (MatrixIsTrue ring embed) (columns_of matrices) (true_matrix_claims ring embed matrices points)
  unfolding PlaceByPlace
  are_true [] points number = tt
  are_true (m ∷ matrices) [] number = absurd (omega arith)
  are_true (m ∷ matrices) (xs ∷ points) number = (all_values m.columns xs, are_true matrices points (omega arith))

  module _ {S : Type 0} (C : Type 0) (adicity : ℕ) (stops : S → Option ClearCall) (calls : CommittingCalls S F (List (List (List F))) (List (List (List F)))) (s : S) where
    -- What is claimed of rounds that stand is true.
    pub true_claims : (made : List (OpenedRound F E (List (List (List F))) (List (List (List F))))) → AllByRecursion (RoundStands (clear_scheme {C = C} ring embed adicity stops calls) s) made → ClaimsAreTrue ring embed (map (true_claim ring embed) made)
    true_claims [] all = (tt, tt)
    true_claims (round ∷ made) all =
        let rest = true_claims made all.1 in
        let here = all.0.stands in (
          (subst (λ k. PlaceByPlace MatrixHasShape k (true_matrix_claims ring embed round.matrices round.points)) (sym here.0) (true_shapes round.matrices round.points all.0.number here.2), rest.0),
          (subst (λ k. PlaceByPlace (MatrixIsTrue ring embed) k (true_matrix_claims ring embed round.matrices round.points)) (sym here.0) (are_true round.matrices round.points all.0.number), rest.1),
        )

    -- What is opened of rounds that stand are the true values.
    pub true_openings : (made : List (OpenedRound F E (List (List (List F))) (List (List (List F))))) → AllByRecursion (RoundStands (clear_scheme {C = C} ring embed adicity stops calls) s) made
        → map (opened_round ring embed) (map handed made) ≡ map (true_values ring embed) made
    true_openings [] all = refl
    true_openings (round ∷ made) all =
        ap (λ t. matrices_at ring embed t round.points ∷ map (opened_round ring embed) (map handed made)) all.0.stands.1
        ∙ ap (λ t. t ∷ map (opened_round ring embed) (map handed made)) (opened_are_true ring embed round.matrices round.points)
        ∙ ap (λ t. true_values ring embed round ∷ t) (true_openings made all.1)

pub clear_laws : {S F E C : Type 0} (ring : RingOps E) (embed : F → E) (adicity : ℕ) (stops : S → Option ClearCall) (calls : CommittingCalls S F (List (List (List F))) (List (List (List F)))) → adicity < 64
    → SchemeLaws (clear_scheme {S = S} {C = C} ring embed adicity stops calls)
clear_laws ring embed adicity stops calls bound = record {
  excludes = λ s claims proof state index error accepted refused. accepted_or_refused ring embed (stops s) claims error accepted refused;
  degrees = λ s commitment prover_data matrices stands. full_is_within matrices stands.2;
  least_height = λ s. omega arith;
  greatest_height = λ s. omega (arith, bound);
}
