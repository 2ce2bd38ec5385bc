-- A quotient's value at a point, of its chunks' values there.
use Rattle.std.specs.Prelude.{◌≡◌, ℕ, ◌-◌, ◌^◌, List, map}
use Rattle.std.specs.declared.vec.Vec.{Vec}
use Rattle.stark_support.specs.Coset.{AreDisjointCosets, TwoAdicCoset}
use Rattle.stark_support.specs.FieldPair.{FieldsOps}
use Rattle.stark_support.specs.Polynomial.{value}
use Rattle.stark_support.specs.Recomposition.{common_log_size, common_size, recomposition}
use Rattle.stark_support.specs.RecompositionLaw.{AreChunksOf}
use Rattle.stark_support.specs.RecompositionPolynomial.{chunk_values}
use Rattle.stark_protocol.specs.Sizes.{chunk_shifts}

module _ {F E : Type 0} (fields : FieldsOps F E) where
  module _ {D : Type 0} (coset_of : D → TwoAdicCoset F) where
    -- The domains' first points, in the extension.
    abbrev pub shifts_of : List D → List E
    shifts_of domains = map (λ domain. fields.embed (coset_of domain).shift) domains

    -- No two of the domains share a point.
    abbrev pub AreApart : List D → Type 0
    AreApart domains = AreDisjointCosets fields.base fields.root (common_log_size (map coset_of domains)) (map coset_of domains)

    -- What chunks on domains of n points recompose to at a point, of the chunks' coordinates there,
    abbrev pub recomposed : {A : Type 0} → ℕ → List D → List (Vec E A) → E → E
    recomposed n domains chunks zeta = recomposition fields.ring fields.ring (λ c. c) fields.inverse n fields.basis (shifts_of domains) (map (λ chunk. chunk.items) chunks) zeta

    -- and on domains of the size that they share.
    abbrev pub quotient_of_chunks : {A : Type 0} → List D → List (Vec E A) → E → E
    quotient_of_chunks domains chunks zeta = recomposed (common_size (map coset_of domains)) domains chunks zeta

    -- It is a polynomial's value at the point, where the coordinates are those of that polynomial's chunks there.
    abbrev pub IsValueWhereChunksAre : {A : Type 0} → List D → List (Vec E A) → E → E → Type 0
    IsValueWhereChunksAre domains opened zeta quotient = (chunks : List (List (List E))) (p : List E)
        → AreChunksOf fields.ring (fields.embed (fields.root (common_log_size (map coset_of domains)))) (common_size (map coset_of domains)) fields.basis (shifts_of domains) chunks p
        → map (λ chunk. chunk.items) opened ≡ chunk_values fields.ring chunks zeta → quotient ≡ value fields.ring p zeta

  -- It is what chunks on the 2 ^ log_chunks parts of a coset recompose to at a point.
  abbrev pub IsQuotientOfParts : {A : Type 0} → TwoAdicCoset F → ℕ → List (Vec E A) → E → E → Type 0
  IsQuotientOfParts coset log_chunks chunks zeta quotient =
      quotient ≡ recomposition fields.ring fields.ring (λ c. c) fields.inverse (2 ^ (coset.log_size - log_chunks)) fields.basis (chunk_shifts fields.base fields.root fields.embed coset log_chunks)
      (map (λ chunk. chunk.items) chunks) zeta
