-- Polynomials of which all claims of a proof are true take its opened values, as columns and chunks.
use Rattle.std.proofs.Common.{◌≡◌, ◌∙◌, ap, refl, sym, subst, arith, ℕ, suc, List, [], ◌∷◌, ◌++◌, map, length, Option, None, Some, IfSome}
use Rattle.std.specs.List.{AllByRecursion}
use Rattle.stark_support.specs.Coset.{TwoAdicCoset}
use Rattle.stark_support.specs.Polynomial.{HasDegreeBelow, value_over}
use Rattle.stark_support.specs.RecompositionPolynomial.{ChunksFit}
use Rattle.stark_support.specs.Ring.{RingOps}
use Rattle.stark_merkle.specs.declared.root.Root.{Root}
use Rattle.stark_proof.specs.ProofView.{OpeningsView, PreprocessedView}
use Rattle.stark_security.specs.BadValues.{ColumnsFit}
use Rattle.stark_security.specs.ConstraintPolynomial.{AirInstance, next_point}
use Rattle.stark_protocol.specs.Acceptance.{preprocessed_local}
use Rattle.stark_protocol.specs.OpenedClaims.{chunk_claim, claims_of, preprocessed_rounds, row_points}
use Rattle.stark_protocol.specs.declared.preprocessed.PreprocessedVerifierKey.{PreprocessedVerifierKey}
use Rattle.stark_verifier.specs.TakenValues.{TakeOpenedValues, embedded_polynomials, values_at}
use Rattle.stark_verifier.proofs.TakenValueSteps.{chunk_values_of_embedded, embedded_fit, values_of_embedded}
use Rattle.stark_fri_soundness.specs.Claims.{Claim, ColumnIndex}
use Rattle.stark_fri.specs.Claims.{HasOneWidth, HasWidths, first_height, height_of, matrix_read, round_read}
use Rattle.stark_fri.specs.Words.{matrix_claims, point_claims, round_claims, value_claims}
use Rattle.stark_over_fri.specs.Tables.{chunks_of_round, columns_for, columns_of_rounds, matrices_for}

-- ---- lists

pub front : {A : Type 0} (P : A → Type 0) (xs ys : List A) → AllByRecursion P (xs ++ ys) → AllByRecursion P xs
front P [] ys h = tt
front P (x ∷ xs) ys h = (h.0, front P xs ys h.1)

pub back : {A : Type 0} (P : A → Type 0) (xs ys : List A) → AllByRecursion P (xs ++ ys) → AllByRecursion P ys
back P [] ys h = h
back P (x ∷ xs) ys h = back P xs ys h.1

-- ---- columns

module _ {F E : Type 0} (polynomials : ColumnIndex → List F) where
  as_wide : (round matrix number : ℕ) (row other : List E) → length row ≡ length other → columns_for polynomials round matrix number row ≡ columns_for polynomials round matrix number other
  as_wide round matrix number [] [] same = refl
  as_wide round matrix number [] (w ∷ other) same = absurd (omega (arith, same))
  as_wide round matrix number (v ∷ row) [] same = absurd (omega (arith, same))
  as_wide round matrix number (v ∷ row) (w ∷ other) same =
      ap (λ cs. polynomials (record { round = round; matrix = matrix; number = number }) ∷ cs) (as_wide round matrix (suc number) row other (omega (arith, same)))

  module _ (d : ℕ) (degrees : (column : ColumnIndex) → HasDegreeBelow d (polynomials column)) where
    columns_below : (round matrix number : ℕ) (row : List E) → AllByRecursion (HasDegreeBelow d) (columns_for polynomials round matrix number row)
    columns_below round matrix number [] = tt
    columns_below round matrix number (v ∷ row) = (degrees (record { round = round; matrix = matrix; number = number }), columns_below round matrix (suc number) row)

    matrices_below : (embed : F → E) (round matrix : ℕ) (rows : List (List E)) → ChunksFit d (map (embedded_polynomials embed) (matrices_for polynomials round matrix rows))
    matrices_below embed round matrix [] = tt
    matrices_below embed round matrix (row ∷ rows) = (embedded_fit embed d _ (columns_below round matrix 0 row), matrices_below embed round (suc matrix) rows)

    pub columns_fit : (embed : F → E) (opened : OpeningsView E) (public_values : List F) → ColumnsFit d (columns_of_rounds polynomials embed opened public_values)
    columns_fit embed opened public_values = record { main = embedded_fit embed d _ (columns_below 0 0 0 _); preprocessed = embedded_fit embed d _ (columns_below 2 0 0 _) }

    pub chunks_fit : (embed : F → E) (opened : OpeningsView E) → ChunksFit d (chunks_of_round polynomials embed opened)
    chunks_fit embed opened = matrices_below embed 1 0 opened.quotient_chunks

  module _ (ring : RingOps E) (embed : F → E) where
    abbrev pub ClaimIsTrue : Claim ColumnIndex E → Type 0
    ClaimIsTrue claim = value_over ring embed (polynomials claim.column) claim.at ≡ claim.claimed

    -- the columns for a row, at a point
    abbrev at : (round matrix number : ℕ) → List E → E → List E
    at round matrix number row z = values_at ring (embedded_polynomials embed (columns_for polynomials round matrix number row)) z

    values_true : (round matrix number : ℕ) (z : E) (row : List E) → AllByRecursion ClaimIsTrue (value_claims round matrix number z row) → row ≡ map (λ c. value_over ring embed c z) (columns_for polynomials round matrix number row)
    unfolding value_claims
    values_true round matrix number z [] h = refl
    values_true round matrix number z (v ∷ row) h =
        ap (λ w. w ∷ row) (sym h.0)
        ∙ ap (λ ws. value_over ring embed (polynomials (record { round = round; matrix = matrix; number = number })) z ∷ ws) (values_true round matrix (suc number) z row h.1)

    row_true : (round matrix : ℕ) (z : E) (row : List E) → AllByRecursion ClaimIsTrue (value_claims round matrix 0 z row) → row ≡ at round matrix 0 row z
    row_true round matrix z row h = values_true round matrix 0 z row h ∙ sym (values_of_embedded ring embed z (columns_for polynomials round matrix 0 row))

    rows_true : (round matrix : ℕ) (zeta next : E) (local : List E) (row : Option (List E)) → HasOneWidth (row_points zeta next local row)
        → AllByRecursion ClaimIsTrue (point_claims round matrix (row_points zeta next local row)) → (local ≡ at round matrix 0 local zeta) × IfSome row (λ r. r ≡ at round matrix 0 local next)
    unfolding point_claims
    rows_true round matrix zeta next local None widths h = (row_true round matrix zeta local (front ClaimIsTrue (value_claims round matrix 0 zeta local) [] h), tt)
    rows_true round matrix zeta next local (Some row) widths h =
        let firsts = value_claims round matrix 0 zeta local in
        let rest = value_claims round matrix 0 next row ++ [] in (
          row_true round matrix zeta local (front ClaimIsTrue firsts rest h),
          subst (λ cs. row ≡ values_at ring (embedded_polynomials embed cs) next) (as_wide round matrix 0 row local widths.0)
              (row_true round matrix next row (front ClaimIsTrue (value_claims round matrix 0 next row) [] (back ClaimIsTrue firsts rest h))),
        )

    chunks_true : (coset : TwoAdicCoset F) (zeta : E) (round matrix : ℕ) (chunks : List (List E)) → AllByRecursion ClaimIsTrue (matrix_claims round matrix (map matrix_read (map (chunk_claim coset zeta) chunks)))
        → chunks ≡ map (λ chunk. map (λ c. value_over ring embed c zeta) chunk) (matrices_for polynomials round matrix chunks)
    unfolding matrix_claims point_claims
    chunks_true coset zeta round matrix [] h = refl
    chunks_true coset zeta round matrix (chunk ∷ chunks) h =
        let own = value_claims round matrix 0 zeta chunk in
        let rest = matrix_claims round (suc matrix) (map matrix_read (map (chunk_claim coset zeta) chunks)) in
        ap (λ w. w ∷ chunks) (values_true round matrix 0 zeta chunk (front ClaimIsTrue own [] (front ClaimIsTrue (own ++ []) rest h)))
        ∙ ap (λ ws. map (λ c. value_over ring embed c zeta) (columns_for polynomials round matrix 0 chunk) ∷ ws) (chunks_true coset zeta round (suc matrix) chunks (back ClaimIsTrue (own ++ []) rest h))

    preprocessed_true : (coset : TwoAdicCoset F) (zeta next : E) (key : Option (PreprocessedVerifierKey Root)) (rows : Option (PreprocessedView E)) → (key ≡ None → rows ≡ None)
        → AllByRecursion HasWidths (map round_read (preprocessed_rounds coset zeta next key rows))
        → AllByRecursion ClaimIsTrue (round_claims 2 (map round_read (preprocessed_rounds coset zeta next key rows)))
        → IfSome rows (λ r. r.local ≡ at 2 0 0 (preprocessed_local rows) zeta)
        × IfSome rows (λ r. IfSome r.next (λ row. row ≡ at 2 0 0 (preprocessed_local rows) next))
    unfolding round_claims matrix_claims
    preprocessed_true coset zeta next key None both widths h = (tt, tt)
    preprocessed_true coset zeta next None (Some rows) both widths h = absurd (let clash : Some rows ≡ None = both refl in cc)
    preprocessed_true coset zeta next (Some key) (Some rows) both widths h =
        let points = point_claims 2 0 (row_points zeta next rows.local rows.next) in
        rows_true 2 0 zeta next rows.local rows.next widths.0.0 (front ClaimIsTrue points [] (front ClaimIsTrue (points ++ []) [] h))

-- ---- all rounds of a proof without a random commitment

module _ {F E : Type 0} (coset : TwoAdicCoset F) (zeta next : E) (key : Option (PreprocessedVerifierKey Root)) (trace quotient_chunks : Root) (opened : OpeningsView E) where
  pub height_is : height_of (map round_read (claims_of coset zeta next key trace quotient_chunks None opened)) ≡ coset.log_size
  unfolding first_height
  height_is = refl

module _ {F E : Type 0} (i : AirInstance F E) (polynomials : ColumnIndex → List F) (coset : TwoAdicCoset F) (zeta : E) (key : Option (PreprocessedVerifierKey Root)) (trace quotient_chunks : Root) (opened : OpeningsView E) (public_values : List F) where
  pub columns_take : (key ≡ None → opened.preprocessed ≡ None)
      → AllByRecursion HasWidths (map round_read (claims_of coset zeta (next_point i i.ring (λ c. c) zeta) key trace quotient_chunks None opened))
      → AllByRecursion (ClaimIsTrue polynomials i.ring i.embed) (round_claims 0 (map round_read (claims_of coset zeta (next_point i i.ring (λ c. c) zeta) key trace quotient_chunks None opened)))
      → TakeOpenedValues i (columns_of_rounds polynomials i.embed opened public_values) (chunks_of_round polynomials i.embed opened) zeta opened
  unfolding round_claims matrix_claims
  columns_take both widths h =
      let next = next_point i i.ring (λ c. c) zeta in
      let holds = ClaimIsTrue polynomials i.ring i.embed in
      let points = point_claims 0 0 (row_points zeta next opened.trace_local opened.trace_next) in
      let quotient = matrix_claims 1 0 (map matrix_read (map (chunk_claim coset zeta) opened.quotient_chunks)) in
      let others = round_claims 2 (map round_read (preprocessed_rounds coset zeta next key opened.preprocessed)) in
      let rows = rows_true polynomials i.ring i.embed 0 0 zeta next opened.trace_local opened.trace_next widths.0.0 (front holds points [] (front holds (points ++ []) (quotient ++ others) h)) in
      let later = back holds (points ++ []) (quotient ++ others) h in
      let preprocessed = preprocessed_true polynomials i.ring i.embed coset zeta next key opened.preprocessed both widths.1.1 (back holds quotient others later) in
      record {
        local = rows.0;
        next = rows.1;
        preprocessed_local = preprocessed.0;
        preprocessed_next = preprocessed.1;
        quotient =
            chunks_true polynomials i.ring i.embed coset zeta 1 0 opened.quotient_chunks (front holds quotient others later)
            ∙ sym (chunk_values_of_embedded i.ring i.embed zeta (matrices_for polynomials 1 0 opened.quotient_chunks));
      }
