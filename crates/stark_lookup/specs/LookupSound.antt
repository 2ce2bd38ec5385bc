-- What an accepted proof with lookups says of the columns that take its opened values.
use Rattle.std.specs.Prelude.{◌≡◌, ◌⊎◌, ◌+◌, ◌-◌, ◌*◌, ◌^◌, ℕ, List, [], ◌∷◌, map, length, Ok}
use Rattle.stark_support.specs.Polynomial.{HoldsOfAtMost}
use Rattle.stark_logup.specs.Fractions.{Decides, Entry}
use Rattle.stark_logup.specs.Lookups.{CanPass, IsBadBeta, IsUnbalanced}
use Rattle.stark_logup.specs.RowConstraints.{groups_worth}
use Rattle.stark_lookup_air.specs.LookupConstraints.{Lookups}
use Rattle.stark_lookup_air.specs.LookupSoundness.{extended_columns, worth_in_row}
use Rattle.stark_protocol.specs.Acceptance.{challenges}
use Rattle.stark_security.specs.BadValues.{IsBadAlpha, IsBadZeta, Satisfies}
use Rattle.stark_security.specs.ConstraintPolynomial.{AirInstance, Columns, height}
use Rattle.stark_tree_air.specs.Writing.{spelled_in}
use Rattle.stark_tree_air.specs.declared.air.TreeAir.{TreeAir}
use Rattle.stark_two_part.specs.declared.in_parts.InParts.TheVariants.{Parts}
use Rattle.stark_verifier.specs.SoundAcceptance.{proved_air, proved_shifts}
use Rattle.stark_verifier.specs.TakenValues.{TakeOpenedValues}
use Rattle.stark_lookup.specs.LookupDraws.{drawn_values}
use Rattle.stark_lookup.specs.LookupVerdict.{LookupGiven, LookupOps, draws_after, extended_instance, extended_proof, lookups_given}
use Rattle.stark_lookup.specs.declared.proof.LookupProof.{LookupProof}

-- The AIR that these nodes and columns spell, over the fields and the subgroup of another.
abbrev pub over_same_rows : {F E : Type 0} → AirInstance F E → TreeAir F → AirInstance F E
over_same_rows i air = record i { constraints = spelled_in air.list; periodic = map (λ c. c.items) air.declaration.columns.periodic_columns.items }

module _ {F E : Type 0} (own : AirInstance F E) (l : Lookups F) (columns : Columns F E) where
  -- The entries that each row sends and receives, in their groups; they are read from the AIR's own columns.
  abbrev pub rows_entries : ℕ → List (List (Entry (List E) E))
  rows_entries = groups_worth (worth_in_row own columns) l.groups

  -- Not as much of this tuple is received as is sent.
  abbrev pub LeavesUnbalanced : Decides (List E) → List E → Type 0
  LeavesUnbalanced same t = IsUnbalanced own.ring rows_entries (height own) same t

  -- By beta another tuple is the same element.
  abbrev pub HidesTuple : List E → E → Type 0
  HidesTuple t beta = IsBadBeta own.ring rows_entries (height own) t beta

  -- Beta doesn't hide the tuple, and with gamma some auxiliary columns pass.
  pub record IsBadGamma (t : List E) (beta gamma : E) : Type 0 where
    pub shows : HidesTuple t beta → ⊥
    pub passes : CanPass own.ring rows_entries (height own) beta gamma

-- ---- how few

-- how many interactions a row has
abbrev pub interactions : {A : Type 0} → List (List A) → ℕ
interactions [] = 0
interactions (g ∷ gs) = length g + interactions gs

-- The entries of all rows.
abbrev pub entries_number : {F : Type 0} → ℕ → Lookups F → ℕ
entries_number log_rows l = 2 ^ log_rows * interactions l.groups

abbrev pub bad_betas : {F : Type 0} → ℕ → Lookups F → ℕ
bad_betas log_rows l = (entries_number log_rows l - 1) * (l.width - 1)

abbrev pub bad_gammas : {F : Type 0} → ℕ → Lookups F → ℕ
bad_gammas log_rows l = 2 * entries_number log_rows l - 1

-- Where a tuple isn't balanced, at most that many betas hide it, and beside each beta at most that many gammas let it pass.
pub record FewBadDraws {F E : Type 0} (own : AirInstance F E) (l : Lookups F) (columns : Columns F E) : Type 0 where
  pub betas : (same : Decides (List E)) (t : List E) → LeavesUnbalanced own l columns same t → HoldsOfAtMost (bad_betas own.log_size l) (HidesTuple own l columns t)
  pub gammas : (same : Decides (List E)) (t : List E) → LeavesUnbalanced own l columns same t → (beta : E) → HoldsOfAtMost (bad_gammas own.log_size l) (IsBadGamma own l columns t beta)

-- ---- soundness

module _ {S F E C K T P X Y : Type 0} (ops : LookupOps S F E C K T P X Y) (given : LookupGiven S F E C K) (p : LookupProof K E P F) (main : K) where
  -- The extended AIR over the rows that the proof is about, and the author's own over these.
  abbrev pub extended_rows : AirInstance F E
  extended_rows = proved_air ops.inner (extended_instance ops given p main) (extended_proof ops given p)

  abbrev pub own_rows : AirInstance F E
  own_rows = over_same_rows extended_rows given.air.own

  abbrev pub with_auxiliary : Columns F E → List (List E) → Columns F E
  with_auxiliary own more = extended_columns own more (drawn_values ops.inner.opening.fields.ring ops.coordinates (lookups_given ops given p).width (draws_after ops given p main))

  -- Columns of the AIR's own, as many as it has, with the public values; with auxiliary ones they take the opened values at zeta, and
  -- so do the chunks.
  pub record TakeValues (own : Columns F E) (more : List (List E)) (chunks : List (List (List E))) (zeta : E) : Type 0 where
    pub width : length own.main ≡ given.air.own.declaration.columns.width
    pub values : own.public_values ≡ given.public_values
    pub opened : TakeOpenedValues extended_rows (with_auxiliary own more) chunks zeta (extended_proof ops given p).opened_values

  -- Alpha is bad for the columns with the auxiliary ones, or zeta is.
  abbrev pub AlphaOrZetaIsBad : Columns F E → List (List E) → List (List (List E)) → E → E → Type 0
  AlphaOrZetaIsBad own more chunks alpha zeta =
      IsBadAlpha extended_rows (with_auxiliary own more) alpha
      ⊎ IsBadZeta extended_rows (with_auxiliary own more) (proved_shifts ops.inner (extended_instance ops given p main) (extended_proof ops given p)) chunks alpha zeta

  -- Where they break a constraint of the AIR's own, or leave a tuple unbalanced, a draw is bad.
  pub record NeedsBadDraws (own : Columns F E) (more : List (List E)) (chunks : List (List (List E))) (alpha zeta : E) : Type 0 where
    pub breaking : (Satisfies own_rows own → ⊥) → AlphaOrZetaIsBad own more chunks alpha zeta
    pub unbalanced : (same : Decides (List E)) (t : List E) → LeavesUnbalanced own_rows (lookups_given ops given p) own same t
        → HidesTuple own_rows (lookups_given ops given p) own t (draws_after ops given p main).beta
        ⊎ (IsBadGamma own_rows (lookups_given ops given p) own t (draws_after ops given p main).beta (draws_after ops given p main).gamma
        ⊎ AlphaOrZetaIsBad own more chunks alpha zeta)
    pub few : FewBadDraws own_rows (lookups_given ops given p) own

module _ {S F E C K T P X Y : Type 0} (ops : LookupOps S F E C K T P X Y) (given : LookupGiven S F E C K) (p : LookupProof K E P F) where
  -- Whatever columns and chunks take the opened values: false ones need a bad draw.
  abbrev pub FalseNeedsBadDraws : Type 0
  FalseNeedsBadDraws =
      (main others : K) (alpha zeta : E) → p.inner.commitments.trace ≡ Parts main others → (challenges ops.inner (extended_instance ops given p main) (extended_proof ops given p)).answer ≡ Ok (alpha, zeta)
      → (own : Columns F E) (more : List (List E)) (chunks : List (List (List E))) → TakeValues ops given p main own more chunks zeta → NeedsBadDraws ops given p main own more chunks alpha zeta
