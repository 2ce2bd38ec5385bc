-- When claims are true of the columns that a commitment lists, and which claim is the first that isn't.
use Rattle.std.specs.Prelude.{◌≡◌, List, length}
use Rattle.std.specs.List.{AllByRecursion}
use Rattle.stark_support.specs.Ring.{RingOps}
use Rattle.stark_support.specs.Polynomial.{value_over}
use Rattle.stark_support.specs.Coset.{TwoAdicCoset, coset_size}
use Rattle.stark_support.specs.Claims.{RoundClaim}
use Rattle.stark_support.specs.Faults.{IsFirstFault, PlaceByPlace}
use Rattle.stark_clear.specs.declared.clear.check.ClearError.{ClearError}
use Rattle.stark_clear.specs.declared.clear.check.ClearError.TheVariants.{Stopped, Shape, Value}

-- Each column has as many coefficients as the claimed domain points, and there are as many columns as values at each point.
abbrev pub MatrixHasShape : {F E : Type 0} → List (List F) → TwoAdicCoset F × List (E × List E) → Type 0
MatrixHasShape columns claim = AllByRecursion (λ column. length column ≡ coset_size claim.0) columns × AllByRecursion (λ p. length p.1 ≡ length columns) claim.1

abbrev pub RoundHasShape : {F E : Type 0} → RoundClaim F E (List (List (List F))) → Type 0
RoundHasShape claim = PlaceByPlace MatrixHasShape claim.0 claim.1

abbrev pub HasValue : {F E : Type 0} → RingOps E → (F → E) → E → List F → E → Type 0
HasValue ring embed x column v = v ≡ value_over ring embed column x

-- Each value is that of the column at its place.
abbrev pub HasValues : {F E : Type 0} → RingOps E → (F → E) → List (List F) → E × List E → Type 0
HasValues ring embed columns p = PlaceByPlace (HasValue ring embed p.0) columns p.1

abbrev pub MatrixIsTrue : {F E : Type 0} → RingOps E → (F → E) → List (List F) → TwoAdicCoset F × List (E × List E) → Type 0
MatrixIsTrue ring embed columns claim = AllByRecursion (HasValues ring embed columns) claim.1

abbrev pub RoundIsTrue : {F E : Type 0} → RingOps E → (F → E) → RoundClaim F E (List (List (List F))) → Type 0
RoundIsTrue ring embed claim = PlaceByPlace (MatrixIsTrue ring embed) claim.0 claim.1

-- All shapes and all values are as claimed.
abbrev pub ClaimsAreTrue : {F E : Type 0} → RingOps E → (F → E) → List (RoundClaim F E (List (List (List F)))) → Type 0
ClaimsAreTrue ring embed claims = AllByRecursion RoundHasShape claims × AllByRecursion (RoundIsTrue ring embed) claims

-- The first round of a wrong shape, and where no round has one the first with a wrong value.
abbrev pub ClaimsFault : {F E : Type 0} → RingOps E → (F → E) → List (RoundClaim F E (List (List (List F)))) → ClearError → Type 0
ClaimsFault ring embed claims Stopped = ⊥
ClaimsFault ring embed claims (Shape round) = IsFirstFault RoundHasShape claims round
ClaimsFault ring embed claims (Value round) = AllByRecursion RoundHasShape claims × IsFirstFault (RoundIsTrue ring embed) claims round
