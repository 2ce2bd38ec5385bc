-- What JSON values spell of commitments in the clear: arrays of matrices, each an array of columns, each an array of coefficients.
use Rattle.std.specs.Prelude.{◌≡◌, ◌≢◌, List, Option, Some, map}
use Rattle.std.proofs.Common.{ap}
use Rattle.serde_json.specs.Data.{Data, null}
use Rattle.stark_support.specs.Json.{array_at}
use Rattle.stark_support.specs.JsonFacts.{list_back, list_written}
use Rattle.stark_fields.specs.ElementJson.{is_null}
use Rattle.std.specs.declared.vec.Vec.{Vec}

abbrev pub commitment_at : {F : Type 0} → (Data → Option F) → Data → Option (List (List (List F)))
commitment_at coefficient_at d = array_at (array_at (array_at coefficient_at)) d

abbrev pub commitment_written : {F : Type 0} → (F → Data) → List (List (List F)) → Data
commitment_written coefficient_written matrices = list_written (list_written (list_written coefficient_written)) matrices

pub commitment_reads_back : {F : Type 0} (reading : Data → Option F) (writing : F → Data) → ((x : F) → reading (writing x) ≡ Some x) → (matrices : List (List (List F)))
    → commitment_at reading (commitment_written writing matrices) ≡ Some matrices
commitment_reads_back reading writing back matrices =
    list_back (array_at (array_at reading)) (list_written (list_written writing))
    (list_back (array_at reading) (list_written writing) (list_back reading writing back)) matrices

pub commitment_never_null : {F : Type 0} (writing : F → Data) (matrices : List (List (List F))) → commitment_written writing matrices ≢ null
commitment_never_null writing matrices e = let stated = ap is_null e in absurd (cc)

-- A commitment's matrices, columns and coefficients, as lists.
abbrev pub matrices_list : {F A B : Type 0} → List (Vec (Vec F A) B) → List (List (List F))
matrices_list matrices = map (λ matrix. map (λ column. column.items) matrix.items) matrices
