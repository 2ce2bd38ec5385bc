-- Where a quotient is taken, and its values there.
use Rattle.std.specs.Prelude.{◌≡◌, ◌<◌, ◌≤◌, ◌+◌, ◌/◌, ◌^◌, ℕ, List, Option, length, slice_index_or}
use Rattle.std.specs.Borrow.{Bor}
use Rattle.std.specs.declared.vec.Vec.{Vec}
use Rattle.stark_support.specs.Coset.{TwoAdicCoset, coset_size}
use Rattle.stark_support.specs.FieldPair.{FieldsOps}
use Rattle.stark_support.specs.declared.matrix.RowMajorMatrix.{RowMajorMatrix}
use Rattle.stark_air.specs.Declaration.{Trace}
use Rattle.stark_air.specs.Layout.{Layout}
use Rattle.stark_security.specs.ConstraintPolynomial.{AirInstance}
use Rattle.stark_quotient.specs.Groups.{AreApart, IsPrepared}
use Rattle.stark_quotient.specs.PackedParts.{HasRowPairs}
use Rattle.stark_quotient.specs.PointwiseQuotient.{ArePointwiseQuotients, HasShape, RowsOnCoset, pointwise_quotient, rows_in, rows_or_none}
use Rattle.stark_quotient.specs.declared.quotient.OnCoset.{OnCoset}

-- What a quotient is taken of: an AIR over the subgroup of a domain, and the rows that matrices have on a domain.
pub record QuotientOps (D F E : Type 0) : Type 0 where
  pub air_over : D → AirInstance F E
  pub rows_on : D → Trace F → Trace F → List F → RowsOnCoset F

-- The quotient's values on a domain, of the trace's domain, the matrices, the public values and alpha.
abbrev pub AreQuotientsOn : {D F E A : Type 0} → QuotientOps D F E → D → D → RowMajorMatrix F → Option (Bor (RowMajorMatrix F)) → List F → E → Vec E A → Type 0
AreQuotientsOn quotients trace_domain quotient_domain trace preprocessed public_values alpha values =
    ArePointwiseQuotients (quotients.air_over trace_domain) (quotients.rows_on quotient_domain (rows_in trace) (rows_or_none preprocessed) public_values) alpha values.items

-- The types are those of a configuration, in the order that the coset declares.
module _ {S O E C D K T A X Y F : Type 0} (on : OnCoset S O E C D K T A X Y F) where
  -- The coset's points are counted, as are those for each of the trace's domain, a subgroup, which lies apart from it.
  pub record IsPlaced (fields : FieldsOps F E) (coset_of : D → TwoAdicCoset F) : Type 0 where
    pub size : on.size ≡ coset_size (coset_of on.quotient_domain)
    pub step : on.step ≡ on.size / coset_size (coset_of on.trace_domain)
    pub room : on.size ≤ 2 ^ 63
    pub subgroup : (coset_of on.trace_domain).shift ≡ fields.base.one
    pub disjoint : AreApart fields.base fields.root coset_of on.trace_domain on.quotient_domain

  -- The matrices have a row for each point, as wide as an AIR of this layout declares, and there are as many public values.
  pub record FitsRows (layout : Layout) : Type 0 where
    pub main : HasShape layout.main on.size (rows_in on.main.now)
    pub preprocessed : HasShape layout.preprocessed on.size (rows_or_none on.preprocessed)
    pub public_values : length on.public_values.now ≡ layout.public_values

  -- What was computed ahead is of both domains and these periodic columns.
  abbrev pub HasPrepared : FieldsOps F E → (D → TwoAdicCoset F) → List (List F) → Type 0
  HasPrepared fields coset_of columns = IsPrepared fields coset_of on.trace_domain on.quotient_domain columns (on.selectors, on.periodic)

  -- In each lane stand a row of the main matrix, from one on, and behind it its next row; and so of the preprocessed matrix.
  abbrev pub HasMainPairs : {P : Type 0} → (P → List F) → ℕ → F → ℕ → List P → Type 0
  HasMainPairs lanes width zero start pairs = HasRowPairs lanes width zero (rows_in on.main.now) start on.step pairs

  abbrev pub HasPreprocessedPairs : {P : Type 0} → (P → List F) → ℕ → F → ℕ → List P → Type 0
  HasPreprocessedPairs lanes width zero start pairs = HasRowPairs lanes width zero (rows_or_none on.preprocessed) start on.step pairs

  module _ (quotients : QuotientOps D F E) where
    abbrev quotient_at : ℕ → E
    quotient_at k = pointwise_quotient (quotients.air_over on.trace_domain) (quotients.rows_on on.quotient_domain (rows_in on.main.now) (rows_or_none on.preprocessed) on.public_values.now)
        on.powers.alpha k

    -- The lanes have the quotients at the points from one on, as far as there are points.
    abbrev pub HasQuotientsFrom : {Q : Type 0} → ℕ → (Q → List E) → ℕ → Q → Type 0
    HasQuotientsFrom start lanes width packed = (i : ℕ) → i < width → start + i < on.size
        → slice_index_or (lanes packed) i (quotients.air_over on.trace_domain).ring.zero ≡ quotient_at (start + i)

    -- The quotients at all points.
    abbrev pub HasQuotients : {B : Type 0} → Vec E B → Type 0
    HasQuotients values = AreQuotientsOn quotients on.trace_domain on.quotient_domain on.main.now on.preprocessed on.public_values.now on.powers.alpha values
