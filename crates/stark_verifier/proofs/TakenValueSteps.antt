-- The equation over opened values is the equation of the polynomials that take them.
use Rattle.std.proofs.Common.{◌≡◌, ◌∙◌, ap, sym, refl, arith, ℕ, ◌<◌, List, [], ◌∷◌, map, Option, None, Some, IfSome, slice_index_or}
use Rattle.std.specs.List.{AllByRecursion}
use Rattle.std.proofs.lemmas.List.{length-map}
use Rattle.stark_support.specs.ListFacts.{mapped_or_filler}
use Rattle.stark_support.specs.Ring.{RingOps, FieldLaws}
use Rattle.stark_support.specs.Coset.{subgroup_vanishing}
use Rattle.stark_support.specs.Periodic.{periodic_value}
use Rattle.stark_support.specs.Polynomial.{value as polynomial_value, value_over, HasDegreeBelow}
use Rattle.stark_support.specs.Recomposition.{recomposition}
use Rattle.stark_support.specs.RecompositionPolynomial.{chunk_values}
use Rattle.stark_air.specs.Layout.{Layout, LeavesWithin}
use Rattle.stark_parts.specs.Folded.{folded}
use Rattle.stark_protocol.specs.Equation.{OpenedRows, opened_environment, EquationHolds}
use Rattle.stark_proof.specs.ProofView.{OpeningsView, PreprocessedView}
use Rattle.stark_security.specs.ConstraintPolynomial.{AirInstance, Columns, height, group, next_point, environment_at}
use Rattle.stark_security.specs.BadValues.{IsBalanced}
use Rattle.stark_security.specs.SameLeaves.{AgreeWithin, same_constraints}
use Rattle.stark_verifier.specs.TakenValues.{values_at, embedded_polynomials, TakeOpenedValues, BreakingNeedsBadDraws}
use Rattle.stark_security.proofs.BadValueSteps.{alpha_or_zeta_is_bad}
use Rattle.stark_security.proofs.ConstraintDegrees.{value_of_embedded}

-- The rows that stand for opened values in the equation, of an AIR that reads no more than the layout.
pub record StandFor {F E : Type 0} (l : Layout) (rows : OpenedRows F E) (opened : OpeningsView E) : Type 0 where
  pub local : rows.local ≡ opened.trace_local
  pub next : (row : List E) → opened.trace_next ≡ Some row → rows.next ≡ row
  pub no_next : opened.trace_next ≡ None → l.main_next ≡ 0
  pub preprocessed_local : (view : PreprocessedView E) → opened.preprocessed ≡ Some view → rows.preprocessed_local ≡ view.local
  pub preprocessed_next : (view : PreprocessedView E) (row : List E) → opened.preprocessed ≡ Some view → view.next ≡ Some row → rows.preprocessed_next ≡ row
  pub no_preprocessed : opened.preprocessed ≡ None → l.preprocessed ≡ 0
  pub no_preprocessed_next : (view : PreprocessedView E) → opened.preprocessed ≡ Some view → view.next ≡ None → l.preprocessed_next ≡ 0
  pub neither : opened.preprocessed ≡ None → l.preprocessed_next ≡ 0

no_leaf : (n c : ℕ) {X : Type 0} → n ≡ 0 → c < n → X
no_leaf n c none below = absurd (omega arith)

module _ {F E : Type 0} (i : AirInstance F E) (columns : Columns F E) (zeta : E) where
  -- a leaf of a row that is the polynomials' values at x
  value_leaf : (row : List E) (polynomials : List (List E)) (x : E) → row ≡ values_at i.ring polynomials x → (c : ℕ)
      → slice_index_or row c i.ring.zero ≡ polynomial_value i.ring (slice_index_or polynomials c []) x
  value_leaf row polynomials x is c = ap (λ r. slice_index_or r c i.ring.zero) is ∙ mapped_or_filler (λ p. polynomial_value i.ring p x) polynomials c [] i.ring.zero refl

  -- the same of a row that may be absent, where no leaf lies within it
  optional_leaf : (n : ℕ) (opened : Option (List E)) (row : List E) (polynomials : List (List E)) (x : E) → IfSome opened (λ r. r ≡ values_at i.ring polynomials x)
      → ((r : List E) → opened ≡ Some r → row ≡ r) → (opened ≡ None → n ≡ 0) → (c : ℕ) → c < n → slice_index_or row c i.ring.zero ≡ polynomial_value i.ring (slice_index_or polynomials c []) x
  optional_leaf n None row polynomials x taken is none c below = no_leaf n c (none refl) below
  optional_leaf n (Some r) row polynomials x taken is none c below = value_leaf row polynomials x (is r refl ∙ taken) c

  preprocessed_leaf : (n : ℕ) (opened : Option (PreprocessedView E)) (row : List E) → IfSome opened (λ rows. rows.local ≡ values_at i.ring columns.preprocessed zeta)
      → ((view : PreprocessedView E) → opened ≡ Some view → row ≡ view.local) → (opened ≡ None → n ≡ 0) → (c : ℕ) → c < n
      → slice_index_or row c i.ring.zero ≡ polynomial_value i.ring (slice_index_or columns.preprocessed c []) zeta
  preprocessed_leaf n None row taken is none c below = no_leaf n c (none refl) below
  preprocessed_leaf n (Some view) row taken is none c below = value_leaf row columns.preprocessed zeta (is view refl ∙ taken) c

  preprocessed_next_leaf : (n : ℕ) (opened : Option (PreprocessedView E)) (row : List E) (x : E) → IfSome opened (λ rows. IfSome rows.next (λ r. r ≡ values_at i.ring columns.preprocessed x))
      → ((view : PreprocessedView E) (r : List E) → opened ≡ Some view → view.next ≡ Some r → row ≡ r) → ((view : PreprocessedView E) → opened ≡ Some view → view.next ≡ None → n ≡ 0) → (opened ≡ None → n ≡ 0)
      → (c : ℕ) → c < n → slice_index_or row c i.ring.zero ≡ polynomial_value i.ring (slice_index_or columns.preprocessed c []) x
  preprocessed_next_leaf n None row x taken is none neither c below = no_leaf n c (neither refl) below
  preprocessed_next_leaf n (Some view) row x taken is none neither c below =
      optional_leaf n view.next row columns.preprocessed x taken (λ r e. is view r refl e) (λ e. none view refl e) c below

  periodic_leaf : (values : List E) → values ≡ map (λ column. periodic_value i.base i.base_inverse i.generator (height i) i.ring i.embed column zeta) i.periodic → (c : ℕ)
      → slice_index_or values c i.ring.zero ≡ periodic_value i.base i.base_inverse i.generator (height i) i.ring i.embed (slice_index_or i.periodic c []) zeta
  periodic_leaf values are c =
      ap (λ r. slice_index_or r c i.ring.zero) are ∙ mapped_or_filler (λ column. periodic_value i.base i.base_inverse i.generator (height i) i.ring i.embed column zeta) i.periodic c [] i.ring.zero refl

  module _ (l : Layout) (opened : OpeningsView E) (rows : OpenedRows F E) (stand : StandFor l rows opened) (chunks : List (List (List E))) (taken : TakeOpenedValues i columns chunks zeta opened)
      (same_public_values : columns.public_values ≡ rows.public_values) (periodic_is : rows.periodic ≡ map (λ column. periodic_value i.base i.base_inverse i.generator (height i) i.ring i.embed column zeta) i.periodic) where
    pub agree_within : AgreeWithin l (opened_environment i.base i.ring i.embed (group i) rows zeta) (environment_at i i.ring (λ c. c) columns zeta)
    agree_within = record {
      main_current = λ c below. value_leaf rows.local columns.main zeta (stand.local ∙ taken.local) c;
      main_next = λ c below. optional_leaf l.main_next opened.trace_next rows.next columns.main (next_point i i.ring (λ c. c) zeta) taken.next stand.next stand.no_next c below;
      preprocessed_current = λ c below. preprocessed_leaf l.preprocessed opened.preprocessed rows.preprocessed_local taken.preprocessed_local stand.preprocessed_local stand.no_preprocessed c below;
      preprocessed_next = λ c below. preprocessed_next_leaf l.preprocessed_next opened.preprocessed rows.preprocessed_next (next_point i i.ring (λ c. c) zeta) taken.preprocessed_next stand.preprocessed_next stand.no_preprocessed_next stand.neither c below;
      public_value = λ k below. ap (λ public_values. i.embed (slice_index_or public_values k i.base.zero)) (sym same_public_values);
      periodic_value = λ c below. periodic_leaf rows.periodic periodic_is c;
      first_row = refl;
      last_row = refl;
      transition = refl;
    }

    -- The equation over the opened values is that of the polynomials.
    pub balanced_of_opened : LeavesWithin l i.constraints → (shifts : List E) (alpha quotient : E)
        → quotient ≡ recomposition i.ring i.ring (λ c. c) i.inverse (height i) i.basis shifts opened.quotient_chunks zeta
        → EquationHolds i.base i.ring i.embed (group i) i.constraints rows zeta alpha quotient → IsBalanced i columns shifts chunks alpha zeta
    balanced_of_opened within shifts alpha quotient recomposed balanced =
        sym (ap (folded i.ring alpha) (same_constraints i.ring i.embed l (opened_environment i.base i.ring i.embed (group i) rows zeta) (environment_at i i.ring (λ c. c) columns zeta) agree_within i.constraints within))
        ∙ balanced ∙ ap (i.ring.mul (subgroup_vanishing i.ring (height i) zeta)) (recomposed ∙ ap (λ values. recomposition i.ring i.ring (λ c. c) i.inverse (height i) i.basis shifts values zeta) taken.quotient)

-- Where the verifier's equation holds, a broken trace has a bad alpha or a bad zeta.
pub accepted_needs_bad_draws : {F E : Type 0} (i : AirInstance F E) (laws : FieldLaws i.ring i.inverse) (l : Layout) (opened : OpeningsView E) (rows : OpenedRows F E) (shifts : List E) (alpha zeta quotient : E)
    → LeavesWithin l i.constraints → StandFor l rows opened
    → rows.periodic ≡ map (λ column. periodic_value i.base i.base_inverse i.generator (height i) i.ring i.embed column zeta) i.periodic
    → quotient ≡ recomposition i.ring i.ring (λ c. c) i.inverse (height i) i.basis shifts opened.quotient_chunks zeta
    → EquationHolds i.base i.ring i.embed (group i) i.constraints rows zeta alpha quotient
    → BreakingNeedsBadDraws i shifts opened rows.public_values alpha zeta
accepted_needs_bad_draws i laws l opened rows shifts alpha zeta quotient within stand periodic_is recomposed balanced =
    λ columns chunks same_public_values taken breaks. alpha_or_zeta_is_bad i laws columns breaks shifts chunks alpha zeta
    (balanced_of_opened i columns zeta l opened rows stand chunks taken same_public_values periodic_is within shifts alpha quotient recomposed balanced)

module _ {F E : Type 0} (ring : RingOps E) (embed : F → E) (x : E) where
  -- The values of polynomials over the base field.
  pub values_of_embedded : (polynomials : List (List F)) → values_at ring (embedded_polynomials embed polynomials) x ≡ map (λ p. value_over ring embed p x) polynomials
  values_of_embedded [] = refl
  values_of_embedded (p ∷ ps) =
      ap (λ v. v ∷ values_at ring (embedded_polynomials embed ps) x) (sym (value_of_embedded ring (λ c. c) embed p x)) ∙ ap (λ vs. value_over ring embed p x ∷ vs) (values_of_embedded ps)

  pub chunk_values_of_embedded : (chunks : List (List (List F))) → chunk_values ring (map (embedded_polynomials embed) chunks) x ≡ map (λ chunk. map (λ p. value_over ring embed p x) chunk) chunks
  chunk_values_of_embedded [] = refl
  chunk_values_of_embedded (chunk ∷ chunks) =
      ap (λ v. v ∷ chunk_values ring (map (embedded_polynomials embed) chunks) x) (values_of_embedded chunk) ∙ ap (λ vs. map (λ p. value_over ring embed p x) chunk ∷ vs) (chunk_values_of_embedded chunks)

-- Embedding keeps degrees.
pub embedded_fit : {F E : Type 0} (embed : F → E) (m : ℕ) (polynomials : List (List F)) → AllByRecursion (HasDegreeBelow m) polynomials → AllByRecursion (HasDegreeBelow m) (embedded_polynomials embed polynomials)
embedded_fit embed m [] fit = tt
embedded_fit embed m (p ∷ ps) fit = (rw (length-map p embed) fit.0, embedded_fit embed m ps fit.1)
