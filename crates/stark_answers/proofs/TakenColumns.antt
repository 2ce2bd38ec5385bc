-- Where all claims of a proof are true in the clear, the lists in its commitments take the opened values.
use Rattle.std.proofs.Common.{◌≡◌, ◌∙◌, ap, refl, sym, arith, ℕ, ◌≤◌, List, [], ◌∷◌, map, length, Option, None, Some, IfSome}
use Rattle.std.specs.List.{AllByRecursion}
use Rattle.std.proofs.lemmas.Option.{IfSome_then}
use Rattle.stark_support.specs.Ring.{RingOps}
use Rattle.stark_support.specs.Coset.{TwoAdicCoset, coset_size}
use Rattle.stark_support.specs.Polynomial.{value_over, HasDegreeBelow}
use Rattle.stark_support.specs.RecompositionPolynomial.{ChunksFit}
use Rattle.stark_support.specs.Faults.{PlaceByPlace}
use Rattle.stark_clear.specs.ClearClaims.{HasValue, HasValues, MatrixHasShape, MatrixIsTrue, RoundHasShape, RoundIsTrue}
use Rattle.stark_security.specs.ConstraintPolynomial.{AirInstance, next_point}
use Rattle.stark_protocol.specs.OpenedClaims.{chunk_claim, claims_of, preprocessed_rounds, row_points}
use Rattle.stark_verifier.specs.TakenValues.{TakeOpenedValues, embedded_polynomials, values_at}
use Rattle.stark_protocol.specs.declared.preprocessed.PreprocessedVerifierKey.{PreprocessedVerifierKey}
use Rattle.stark_verifier.proofs.TakenValueSteps.{chunk_values_of_embedded, embedded_fit, values_of_embedded}
use Rattle.stark_proof.specs.ProofView.{OpeningsView, PreprocessedView}
use Rattle.stark_answers.specs.SoundRun.{Listed, key_columns, only_matrix}

module _ {F E : Type 0} (ring : RingOps E) (embed : F → E) where
  placed : (columns : List (List F)) (x : E) (row : List E) → PlaceByPlace (HasValue ring embed x) columns row → row ≡ map (λ c. value_over ring embed c x) columns
  unfolding PlaceByPlace
  placed [] x [] h = refl
  placed [] x (v ∷ vs) h = absurd h
  placed (c ∷ cs) x [] h = absurd h
  placed (c ∷ cs) x (v ∷ vs) h = ap (λ w. w ∷ vs) h.0 ∙ ap (λ ws. value_over ring embed c x ∷ ws) (placed cs x vs h.1)

  -- a row at x is the embedded columns' values
  taken_row : (columns : List (List F)) (x : E) (row : List E) → PlaceByPlace (HasValue ring embed x) columns row → row ≡ values_at ring (embedded_polynomials embed columns) x
  taken_row columns x row h = placed columns x row h ∙ sym (values_of_embedded ring embed x columns)

  only_true : (commitment : Listed F) (claim : TwoAdicCoset F × List (E × List E)) → PlaceByPlace (MatrixIsTrue ring embed) commitment (claim ∷ []) → MatrixIsTrue ring embed (only_matrix commitment) claim
  unfolding PlaceByPlace
  only_true [] claim h = absurd h
  only_true (columns ∷ more) claim h = h.0

  rows_taken : (columns : List (List F)) (zeta next : E) (local : List E) (row : Option (List E)) → AllByRecursion (HasValues ring embed columns) (row_points zeta next local row)
      → (local ≡ values_at ring (embedded_polynomials embed columns) zeta) × IfSome row (λ r. r ≡ values_at ring (embedded_polynomials embed columns) next)
  rows_taken columns zeta next local None h = (taken_row columns zeta local h.0, tt)
  rows_taken columns zeta next local (Some row) h = (taken_row columns zeta local h.0, taken_row columns next row h.1.0)

  chunks_taken : (coset : TwoAdicCoset F) (zeta : E) (chunks : Listed F) (rows : List (List E)) → PlaceByPlace (MatrixIsTrue ring embed) chunks (map (chunk_claim coset zeta) rows)
      → rows ≡ map (λ chunk. map (λ p. value_over ring embed p zeta) chunk) chunks
  unfolding PlaceByPlace
  chunks_taken coset zeta [] [] h = refl
  chunks_taken coset zeta [] (r ∷ rs) h = absurd h
  chunks_taken coset zeta (c ∷ cs) [] h = absurd h
  chunks_taken coset zeta (c ∷ cs) (r ∷ rs) h =
      ap (λ w. w ∷ rs) (placed c zeta r h.0.0) ∙ ap (λ ws. map (λ p. value_over ring embed p zeta) c ∷ ws) (chunks_taken coset zeta cs rs h.1)

  preprocessed_taken : (coset : TwoAdicCoset F) (zeta next : E) (key : Option (PreprocessedVerifierKey (Listed F))) (rows : Option (PreprocessedView E)) → (key ≡ None → rows ≡ None)
      → AllByRecursion (RoundIsTrue ring embed) (preprocessed_rounds coset zeta next key rows)
      → IfSome rows (λ r. r.local ≡ values_at ring (embedded_polynomials embed (key_columns key)) zeta)
      × IfSome rows (λ r. IfSome r.next (λ row. row ≡ values_at ring (embedded_polynomials embed (key_columns key)) next))
  preprocessed_taken coset zeta next key None both h = (tt, tt)
  preprocessed_taken coset zeta next None (Some rows) both h = absurd (let clash : Some rows ≡ None = both refl in cc)
  preprocessed_taken coset zeta next (Some key) (Some rows) both h =
      rows_taken (only_matrix key.commitment) zeta next rows.local rows.next (only_true key.commitment (coset, row_points zeta next rows.local rows.next) h.0)

  -- values of other columns with the same rows
  same_taken : (columns others : List (List F)) → ((x : E) → map (λ p. value_over ring embed p x) columns ≡ map (λ p. value_over ring embed p x) others)
      → (x : E) (row : List E) → row ≡ values_at ring (embedded_polynomials embed columns) x → row ≡ values_at ring (embedded_polynomials embed others) x
  same_taken columns others same x row is = is ∙ values_of_embedded ring embed x columns ∙ same x ∙ sym (values_of_embedded ring embed x others)

module _ {F E : Type 0} (i : AirInstance F E) (coset : TwoAdicCoset F) (zeta : E) (key : Option (PreprocessedVerifierKey (Listed F))) (trace quotient_chunks : Listed F) (opened : OpeningsView E) (public_values : List F) where
  -- Where all claims of a proof without a random commitment are true, the lists in its commitments and others with the same rows
  -- as those in the key's take the opened values.
  pub commitments_take : (preprocessed : List (List F)) → ((x : E) → map (λ p. value_over i.ring i.embed p x) (key_columns key) ≡ map (λ p. value_over i.ring i.embed p x) preprocessed)
      → (key ≡ None → opened.preprocessed ≡ None)
      → AllByRecursion (RoundIsTrue i.ring i.embed) (claims_of coset zeta (next_point i i.ring (λ c. c) zeta) key trace quotient_chunks None opened)
      → TakeOpenedValues i (record { main = embedded_polynomials i.embed (only_matrix trace); preprocessed = embedded_polynomials i.embed preprocessed; public_values = public_values })
      (map (embedded_polynomials i.embed) quotient_chunks) zeta opened
  commitments_take preprocessed same both claims =
      let next = next_point i i.ring (λ c. c) zeta in
      let rows = rows_taken i.ring i.embed (only_matrix trace) zeta next opened.trace_local opened.trace_next (only_true i.ring i.embed trace (coset, row_points zeta next opened.trace_local opened.trace_next) claims.0) in
      let taken = preprocessed_taken i.ring i.embed coset zeta next key opened.preprocessed both claims.1.1 in
      let other = same_taken i.ring i.embed (key_columns key) preprocessed same in
      record {
        local = rows.0;
        next = rows.1;
        preprocessed_local = IfSome_then opened.preprocessed taken.0 (λ r is. other zeta r.local is);
        preprocessed_next = IfSome_then opened.preprocessed taken.1 (λ r opens. IfSome_then r.next opens (λ row is. other next row is));
        quotient = chunks_taken i.ring i.embed coset zeta quotient_chunks opened.quotient_chunks claims.1.0 ∙ sym (chunk_values_of_embedded i.ring i.embed zeta quotient_chunks);
      }

-- ---- degrees

as_long : (n m : ℕ) → m ≡ n → m ≤ n
as_long n m e = omega arith

pub all_below : {F : Type 0} (n : ℕ) (columns : List (List F)) → AllByRecursion (λ column. length column ≡ n) columns → AllByRecursion (HasDegreeBelow n) columns
all_below n [] h = tt
all_below n (column ∷ columns) h = (as_long n (length column) h.0, all_below n columns h.1)

module _ {F E : Type 0} (coset : TwoAdicCoset F) (zeta next : E) (key : Option (PreprocessedVerifierKey (Listed F))) (embed : F → E) where
  only_below : (commitment : Listed F) (points : List (E × List E)) → PlaceByPlace MatrixHasShape commitment ((coset, points) ∷ []) → AllByRecursion (HasDegreeBelow (coset_size coset)) (only_matrix commitment)
  unfolding PlaceByPlace
  only_below [] points h = absurd h
  only_below (columns ∷ more) points h = all_below (coset_size coset) columns h.0.0

  one_listed : (commitment : Listed F) (points : List (E × List E)) → PlaceByPlace MatrixHasShape commitment ((coset, points) ∷ []) → commitment ≡ only_matrix commitment ∷ []
  unfolding PlaceByPlace
  one_listed [] points h = absurd h
  one_listed (columns ∷ []) points h = refl
  one_listed (columns ∷ other ∷ more) points h = absurd h.1

  chunks_below : (chunks : Listed F) (rows : List (List E)) → PlaceByPlace MatrixHasShape chunks (map (chunk_claim coset zeta) rows) → ChunksFit (coset_size coset) (map (embedded_polynomials embed) chunks)
  unfolding PlaceByPlace
  chunks_below [] rows h = tt
  chunks_below (c ∷ cs) [] h = absurd h
  chunks_below (c ∷ cs) (r ∷ rs) h = (embedded_fit embed (coset_size coset) c (all_below (coset_size coset) c h.0.0), chunks_below cs rs h.1)

  -- Where all claims have the right shape, the listed columns have degree below the domain's size.
  pub commitments_fit : (trace quotient_chunks : Listed F) (opened : OpeningsView E) → AllByRecursion RoundHasShape (claims_of coset zeta next key trace quotient_chunks None opened)
      → AllByRecursion (HasDegreeBelow (coset_size coset)) (embedded_polynomials embed (only_matrix trace)) × ChunksFit (coset_size coset) (map (embedded_polynomials embed) quotient_chunks)
  commitments_fit trace quotient_chunks opened shaped =
      (embedded_fit embed (coset_size coset) (only_matrix trace) (only_below trace (row_points zeta next opened.trace_local opened.trace_next) shaped.0), chunks_below quotient_chunks opened.quotient_chunks shaped.1.0)

  -- The trace's commitment is to one matrix.
  pub one_trace : (trace quotient_chunks : Listed F) (opened : OpeningsView E) → AllByRecursion RoundHasShape (claims_of coset zeta next key trace quotient_chunks None opened) → trace ≡ only_matrix trace ∷ []
  one_trace trace quotient_chunks opened shaped = one_listed trace (row_points zeta next opened.trace_local opened.trace_next) shaped.0
