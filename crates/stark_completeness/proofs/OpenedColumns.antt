-- The leaves of the equation over truly opened values are those of the columns.
use Rattle.std.proofs.Common.{◌≡◌, ◌∙◌, ap, sym, arith, refl, ℕ, ◌^◌, ◌<◌, Bool, true, List, [], ◌∷◌, map, replicate, slice_index_or, unwrap_or, Option, None, Some}
use Rattle.stark_support.specs.ListFacts.{mapped_or_filler}
use Rattle.stark_support.specs.Periodic.{periodic_value}
use Rattle.stark_support.specs.Polynomial.{value}
use Rattle.stark_support.specs.Scheme.{QuotientChunk, row_at}
use Rattle.stark_air.specs.Declaration.{Trace, IsDeclared, next_width}
use Rattle.stark_air.specs.Layout.{Layout}
use Rattle.stark_air.specs.Tree.{Constraint}
use Rattle.stark_transcript.specs.Shape.{opens_next_row}
use Rattle.stark_proof.specs.ProofView.{OpeningsView, PreprocessedView}
use Rattle.stark_protocol.specs.Acceptance.{periodic_values, preprocessed_local, preprocessed_next, rows_of}
use Rattle.stark_protocol.specs.Equation.{opened_environment}
use Rattle.stark_support.specs.FieldPair.{FieldsOps}
use Rattle.stark_security.specs.ConstraintPolynomial.{environment_at, group}
use Rattle.stark_quotient.specs.QuotientOfColumns.{value_leaf}
use Rattle.stark_security.specs.SameLeaves.{AgreeWithin}
use Rattle.stark_completeness.specs.TrueOpenings.{AreTrueOpenings, air_over, columns_above}
use Rattle.stark_completeness.proofs.ChunkPolynomials.{row_above}

no_leaf : (n c : ℕ) {X : Type 0} → n ≡ 0 → c < n → X
no_leaf n c none below = absurd (omega arith)

module _ {F E : Type 0} (fields : FieldsOps F E) where
  -- A leaf of a row that is columns' values at x.
  column_leaf : (row : List E) (columns : List (List F)) (x : E) → row ≡ row_at fields.ring fields.embed columns x → (c : ℕ)
      → slice_index_or row c fields.ring.zero ≡ value fields.ring (slice_index_or (map (map fields.embed) columns) c []) x
  column_leaf row columns x is c = value_leaf fields.ring row (map (map fields.embed) columns) x (is ∙ row_above fields.ring fields.embed columns x) c

  -- A leaf of a next row: there is none where no column of it is declared.
  next_leaf : (next_columns : List ℕ) (width : ℕ) (n : ℕ) (row : Option (List E)) (filler : List E) (columns : List (List F)) (x : E) → n ≡ next_width next_columns width
      → (opens_next_row next_columns ≡ true → row ≡ Some (row_at fields.ring fields.embed columns x)) → (c : ℕ) → c < n
      → slice_index_or (unwrap_or row filler) c fields.ring.zero ≡ value fields.ring (slice_index_or (map (map fields.embed) columns) c []) x
  next_leaf [] width n row filler columns x declared opened c below = no_leaf n c declared below
  next_leaf (k ∷ ks) width n row filler columns x declared opened c below = column_leaf (unwrap_or row filler) columns x (ap (λ r. unwrap_or r filler) (opened refl)) c

  -- A leaf of a row that isn't there is zero, as the value of a column that isn't there is.
  empty_leaf : (columns : List (List F)) (x : E) → columns ≡ [] → (c : ℕ) → fields.ring.zero ≡ value fields.ring (slice_index_or (map (map fields.embed) columns) c []) x
  empty_leaf columns x none c = column_leaf [] columns x (sym (ap (λ cs. row_at fields.ring fields.embed cs x) none)) c

  preprocessed_leaf : (opened : Option (PreprocessedView E)) (columns : List (List F)) (x : E) → ((rows : PreprocessedView E) → opened ≡ Some rows → rows.local ≡ row_at fields.ring fields.embed columns x)
      → (opened ≡ None → columns ≡ []) → (c : ℕ) → slice_index_or (preprocessed_local opened) c fields.ring.zero ≡ value fields.ring (slice_index_or (map (map fields.embed) columns) c []) x
  preprocessed_leaf None columns x is none c = empty_leaf columns x (none refl) c
  preprocessed_leaf (Some rows) columns x is none c = column_leaf rows.local columns x (is rows refl) c

  preprocessed_next_leaf : (next_columns : List ℕ) (width : ℕ) (n : ℕ) (opened : Option (PreprocessedView E)) (filler : List E) (columns : List (List F)) (x : E) → n ≡ next_width next_columns width
      → ((rows : PreprocessedView E) → opened ≡ Some rows → opens_next_row next_columns ≡ true → rows.next ≡ Some (row_at fields.ring fields.embed columns x)) → (opened ≡ None → columns ≡ []) → (c : ℕ) → c < n
      → slice_index_or (preprocessed_next filler opened) c fields.ring.zero ≡ value fields.ring (slice_index_or (map (map fields.embed) columns) c []) x
  preprocessed_next_leaf next_columns width n None filler columns x declared is none c below = empty_leaf columns x (none refl) c
  preprocessed_next_leaf next_columns width n (Some rows) filler columns x declared is none c below = next_leaf next_columns width n rows.next filler columns x declared (is rows refl) c below

  module _ (constraints : List (Constraint F)) (periodic : List (List F)) (log_size : ℕ) (l : Layout) (declared_preprocessed : Option (Trace F)) (main_next preprocessed_next : List ℕ) (declared : IsDeclared l declared_preprocessed periodic main_next preprocessed_next)
      (is_zk : Bool) (main preprocessed : List (List F)) (chunks : List (QuotientChunk F)) (public_values : List F) (zeta : E) (opened : OpeningsView E)
      (true_values : AreTrueOpenings fields is_zk main_next preprocessed_next main preprocessed chunks zeta (fields.ring.mul (fields.embed (fields.root log_size)) zeta) opened) where
    -- The opened values' leaves are the columns'.
    pub opened_leaves : AgreeWithin l
        (opened_environment fields.base fields.ring fields.embed (group (air_over fields constraints periodic log_size)) (rows_of fields.ring.zero l.main l.preprocessed opened (periodic_values fields periodic log_size zeta) public_values) zeta)
        (environment_at (air_over fields constraints periodic log_size) fields.ring (λ c. c) (columns_above fields.embed main preprocessed public_values) zeta)
    opened_leaves =
        let next_zeta = fields.ring.mul (fields.embed (fields.root log_size)) zeta in
        record {
          main_current = λ c below. column_leaf opened.trace_local main zeta true_values.local c;
          main_next = λ c below. next_leaf main_next l.main l.main_next opened.trace_next (replicate l.main fields.ring.zero) main next_zeta declared.main_next_row true_values.next c below;
          preprocessed_current = λ c below. preprocessed_leaf opened.preprocessed preprocessed zeta true_values.preprocessed_local true_values.no_preprocessed c;
          preprocessed_next = λ c below.
              preprocessed_next_leaf preprocessed_next l.preprocessed l.preprocessed_next opened.preprocessed (replicate l.preprocessed fields.ring.zero) preprocessed next_zeta
              declared.preprocessed_next_row true_values.preprocessed_next true_values.no_preprocessed c below;
          public_value = λ k below. refl;
          periodic_value = λ c below. mapped_or_filler (λ column. periodic_value fields.base fields.base_inverse (fields.root log_size) (2 ^ log_size) fields.ring fields.embed column zeta) periodic c [] fields.ring.zero refl;
          first_row = refl;
          last_row = refl;
          transition = refl;
        }
