-- From the test of the constraints to the equation over a proof's opened values.
use Rattle.std.proofs.Common.{◌≡◌, ◌∙◌, ◌⊎◌, ◌<◌, ap, arith, inl, inr, sym, subst, refl, ℕ, All, List, get_or, length, map, replicate, Option, None, Some, option_map, Result, Ok, Err, IfOk, IfErr}
use Rattle.std.proofs.lemmas.List.{length-map, get_or-map}
use Rattle.stark_support.specs.Ring.{RingOps}
use Rattle.stark_support.specs.Selectors.{Subgroup}
use Rattle.stark_air.specs.Tree.{Constraint}
use Rattle.stark_transcript.specs.declared.error.VerificationError.{VerificationError}
use Rattle.stark_transcript.specs.declared.error.VerificationError.TheVariants.{OutOfMemory}
use Rattle.stark_protocol.specs.Equation.{ConstraintsFault, ConstraintsHold, EquationHolds, OpenedRows, row_or_empty, two_widths, unbalanced}
use Rattle.stark_proof.specs.ProofView.{PreprocessedView}
use Rattle.stark_protocol.specs.Acceptance.{preprocessed_local}
use Rattle.stark_protocol.specs.FirstFault.{EquationFault, in_balance}

-- Rows by other names.
pub rows_are : {F E : Type 0} (rows : OpenedRows F E) (local next preprocessed_local preprocessed_next periodic : List E) (public_values : List F)
    → local ≡ rows.local → next ≡ rows.next → preprocessed_local ≡ rows.preprocessed_local → preprocessed_next ≡ rows.preprocessed_next → periodic ≡ rows.periodic → public_values ≡ rows.public_values
    → (let given : OpenedRows F E = record { local = local; next = next; preprocessed_local = preprocessed_local; preprocessed_next = preprocessed_next; periodic = periodic; public_values = public_values } in given) ≡ rows
rows_are {F} {E} rows local next preprocessed_local preprocessed_next periodic public_values el en ef eg er ep =
    let at : List E → List E → List E → List E → List E → List F → OpenedRows F E = λ l x f g r p.
    record { local = l; next = x; preprocessed_local = f; preprocessed_next = g; periodic = r; public_values = p } in
    ap (λ l. at l next preprocessed_local preprocessed_next periodic public_values) el ∙
    ap (λ x. at rows.local x preprocessed_local preprocessed_next periodic public_values) en ∙
    ap (λ f. at rows.local rows.next f preprocessed_next periodic public_values) ef ∙
    ap (λ g. at rows.local rows.next rows.preprocessed_local g periodic public_values) eg ∙
    ap (λ r. at rows.local rows.next rows.preprocessed_local rows.preprocessed_next r public_values) er ∙
    ap (λ p. at rows.local rows.next rows.preprocessed_local rows.preprocessed_next rows.periodic p) ep

-- A row in which zeros stand in for what isn't opened.
pub filled : {E : Type 0} (at : List E → List E) (zero : E) {row filler holding : List E} {count width : ℕ} → row ≡ at filler → filler ≡ holding → holding ≡ replicate count zero → count ≡ width → row ≡ at (replicate width zero)
filled at zero is same zeros counted = is ∙ ap at (same ∙ zeros ∙ ap (λ n. replicate n zero) counted)

seen_row : {R E : Type 0} (view : R → List E) (row : Option R) → row_or_empty view row ≡ row_or_empty (λ r. r) (option_map view row)
seen_row view None = refl
seen_row view (Some row) = refl

local_row : {E : Type 0} (rows : Option (PreprocessedView E)) → row_or_empty (λ r. r) (option_map (λ rows. rows.local) rows) ≡ preprocessed_local rows
local_row None = refl
local_row (Some rows) = refl

-- the current preprocessed row
pub opened_local : {R E : Type 0} (view : R → List E) (row : Option R) (rows : Option (PreprocessedView E)) → option_map view row ≡ option_map (λ rows. rows.local) rows → row_or_empty view row ≡ preprocessed_local rows
opened_local view row rows same = seen_row view row ∙ ap (row_or_empty (λ r. r)) same ∙ local_row rows

-- the lengths of chunks, as they lie in memory
pub chunk_lengths : {V E : Type 0} (items : V → List E) (count : V → ℕ) → ((v : V) → count v ≡ length (items v)) → (n : ℕ) (chunks holding : List V) → holding ≡ chunks
    → All (λ chunk. length chunk ≡ n) (map items chunks) → All (λ v. count v ≡ n) holding
chunk_lengths items count counted n chunks holding same lengths k d within =
    let inside : k < length chunks = omega (arith, within, ap length same) in
    ap (λ vs. count (get_or vs k d)) same ∙ counted (get_or chunks k d) ∙ ap length (sym (get_or-map items chunks k d (items d) inside)) ∙
    lengths k (items d) (omega (arith, inside, length-map chunks items))

module _ {F E : Type 0} (base : RingOps F) (ring : RingOps E) (embed : F → E) (subgroup : Subgroup E) (constraints : List (Constraint F)) (given rows : OpenedRows F E) (zeta alpha quotient recomposed : E)
    (same : given ≡ rows) (is : quotient ≡ recomposed) where
  moved : EquationHolds base ring embed subgroup constraints given zeta alpha quotient ≡ EquationHolds base ring embed subgroup constraints rows zeta alpha recomposed
  moved = ap (λ (r : OpenedRows F E). EquationHolds base ring embed subgroup constraints r zeta alpha quotient) same ∙ ap (λ (q : E). EquationHolds base ring embed subgroup constraints rows zeta alpha q) is

  module _ {X : Type 0} where
    pub equation_held : (result : Result (Unit {0}) (VerificationError X)) → IfOk result (λ _. ConstraintsHold base ring embed subgroup constraints given zeta alpha quotient)
        → IfOk result (λ _. EquationHolds base ring embed subgroup constraints rows zeta alpha recomposed)
    equation_held (Ok done) holds = subst (λ (P : Type 0). P) moved holds.balanced
    equation_held (Err error) holds = tt

    obtained : length given.preprocessed_local ≡ length given.preprocessed_next → (error : VerificationError X) → ConstraintsFault base ring embed subgroup constraints given zeta alpha quotient error
        → EquationFault (EquationHolds base ring embed subgroup constraints rows zeta alpha recomposed) error
    obtained one_width error (two_widths differ) = absurd (differ one_width)
    obtained one_width error (unbalanced one fails) = in_balance (λ holds. fails (subst (λ (P : Type 0). P) (sym moved) holds))

    pub equation_fault : length rows.preprocessed_local ≡ length rows.preprocessed_next → (result : Result (Unit {0}) (VerificationError X))
        → IfErr result (λ error. (error ≡ OutOfMemory) ⊎ ConstraintsFault base ring embed subgroup constraints given zeta alpha quotient error)
        → IfErr result (λ error. (error ≡ OutOfMemory) ⊎ EquationFault (EquationHolds base ring embed subgroup constraints rows zeta alpha recomposed) error)
    equation_fault one_width (Ok done) fault = tt
    equation_fault one_width (Err error) (inl memory) = inl memory
    equation_fault one_width (Err error) (inr fault) =
        inr (obtained (ap (λ (r : OpenedRows F E). length r.preprocessed_local) same ∙ one_width ∙ sym (ap (λ (r : OpenedRows F E). length r.preprocessed_next) same)) error fault)
