-- What JSON values spell of a proof and its parts, and what is written of them.
use Rattle.std.specs.Prelude.{◌≡◌, ℕ, List, Option, Some, Result, Ok, Err, ok_or, ⊤, codes, refl}
use Rattle.std.specs.Result.{result_ok}
use Rattle.serde_json.specs.Data.{Data, object, member, no_members}
use Rattle.stark_merkle.specs.RootJson.{root_at, root_reads_back, root_written}
use Rattle.stark_support.specs.Json.{◌>>=◌, array_at}
use Rattle.stark_support.specs.JsonFacts.{list_back, list_written}
use Rattle.stark_fri_proof.specs.Fields.{list_under, rows_under, value_under}
use Rattle.stark_fri_proof.specs.Parts.{FriProofView, InputOpening, LayerOpening, Phase, QueryProof}
use Rattle.stark_fri_proof.specs.PathJson.{path_at, path_reads_back, path_written}
use Rattle.stark_fri_proof.specs.declared.fault.FriProofFault.{FriProofFault}
use Rattle.stark_fri_proof.specs.declared.fault.FriProofFault.TheVariants.{Refused, OutOfMemory}
use Rattle.stark_fri_proof.specs.declared.fault.FriProofField.{FriProofField}
use Rattle.stark_fri_proof.specs.declared.fault.FriProofField.TheVariants.{Phases, FinalPolynomial, QueryWitness, Queries}

-- ---- parts: the keys of each object stand in ascending order

abbrev pub phase_object : Data → Data → Data
phase_object commitment witness = object (member (codes "commitment") commitment (member (codes "witness") witness no_members))

abbrev pub layer_object : Data → Data → Data
layer_object sibling path = object (member (codes "path") path (member (codes "sibling") sibling no_members))

abbrev pub input_object : Data → Data → Data
input_object rows path = object (member (codes "path") path (member (codes "rows") rows no_members))

abbrev pub query_object : Data → Data → Data
query_object inputs layers = object (member (codes "inputs") inputs (member (codes "layers") layers no_members))

module _ {F : Type 0} (element_at : Data → Option F) where
  unfoldable pub phase_at : Data → Option (Phase F)
  phase_at d = do
    root ← value_under root_at (codes "commitment") d
    witness ← value_under element_at (codes "witness") d
    Some (record { root = root; witness = witness })

  unfoldable pub input_at : Data → Option (InputOpening F)
  input_at d = do
    rows ← rows_under element_at (codes "rows") d
    path ← value_under path_at (codes "path") d
    Some (record { rows = rows; path = path })

module _ {E : Type 0} (value_at : Data → Option E) where
  unfoldable pub layer_at : Data → Option (LayerOpening E)
  layer_at d = do
    sibling ← value_under value_at (codes "sibling") d
    path ← value_under path_at (codes "path") d
    Some (record { sibling = sibling; path = path })

module _ {F E : Type 0} (element_at : Data → Option F) (value_at : Data → Option E) where
  unfoldable pub query_at : Data → Option (QueryProof F E)
  query_at d = do
    inputs ← list_under (input_at element_at) (codes "inputs") d
    layers ← list_under (layer_at value_at) (codes "layers") d
    Some (record { inputs = inputs; layers = layers })

abbrev pub phase_written : {F : Type 0} → (F → Data) → Phase F → Data
phase_written element p = phase_object (root_written p.root) (element p.witness)

abbrev pub layer_written : {E : Type 0} → (E → Data) → LayerOpening E → Data
layer_written value l = layer_object (value l.sibling) (path_written l.path)

abbrev pub input_written : {F : Type 0} → (F → Data) → InputOpening F → Data
input_written element i = input_object (list_written (list_written element) i.rows) (path_written i.path)

abbrev pub query_written : {F E : Type 0} → (F → Data) → (E → Data) → QueryProof F E → Data
query_written element value q = query_object (list_written (input_written element) q.inputs) (list_written (layer_written value) q.layers)

-- ---- proofs

abbrev pub field_name : FriProofField → List ℕ
field_name Phases = codes "phases"
field_name FinalPolynomial = codes "final_polynomial"
field_name QueryWitness = codes "query_witness"
field_name Queries = codes "queries"

-- A field's value, or the field.
abbrev pub value_field : {A : Type 0} → (Data → Option A) → FriProofField → Data → Result A FriProofField
value_field reading field d = ok_or (value_under reading (field_name field) d) field

abbrev pub list_field : {A : Type 0} → (Data → Option A) → FriProofField → Data → Result (List A) FriProofField
list_field reading field d = value_field (array_at reading) field d

-- What was returned, seen by view, is what reading gives: the value, or the first field at fault, unless memory ran out.
abbrev pub Finds : {X Y : Type 0} → (X → Y) → Result X FriProofFault → Result Y FriProofField → Type 0
Finds view (Ok x) reading = reading ≡ Ok (view x)
Finds view (Err (Refused field)) reading = reading ≡ Err field
Finds view (Err OutOfMemory) reading = ⊤

abbrev then_read : {A B : Type 0} → Result A FriProofField → (A → Result B FriProofField) → Result B FriProofField
then_read (Ok a) f = f a
then_read (Err field) f = Err field

abbrev pub proof_object : Data → Data → Data → Data → Data
proof_object phases final_polynomial query_witness queries =
    object (member (codes "final_polynomial") final_polynomial
    (member (codes "phases") phases
    (member (codes "queries") queries
    (member (codes "query_witness") query_witness no_members))))

module _ {F E : Type 0} (element_at : Data → Option F) (value_at : Data → Option E) where
  -- The proof that a JSON value spells, or the first field at fault.
  unfoldable pub proof_reading : Data → Result (FriProofView F E) FriProofField
  proof_reading d =
      then_read (list_field (phase_at element_at) Phases d) (λ phases.
      then_read (list_field value_at FinalPolynomial d) (λ final_polynomial.
      then_read (value_field element_at QueryWitness d) (λ query_witness.
      then_read (list_field (query_at element_at value_at) Queries d) (λ queries.
      Ok (record { phases = phases; final_polynomial = final_polynomial; query_witness = query_witness; queries = queries })))))

  abbrev pub proof_at : Data → Option (FriProofView F E)
  proof_at d = result_ok (proof_reading d)

abbrev pub proof_written : {F E : Type 0} → (F → Data) → (E → Data) → FriProofView F E → Data
proof_written element value p =
    proof_object (list_written (phase_written element) p.phases) (list_written value p.final_polynomial) (element p.query_witness) (list_written (query_written element value) p.queries)

-- ---- what is written is read back

module _ {F : Type 0} (element_at : Data → Option F) (element : F → Data) (back : (x : F) → element_at (element x) ≡ Some x) where
  pub phase_back : (p : Phase F) → phase_at element_at (phase_written element p) ≡ Some p
  unfolding phase_at
  phase_back p = rw (root_reads_back p.root, back p.witness) refl

  pub input_back : (i : InputOpening F) → input_at element_at (input_written element i) ≡ Some i
  unfolding input_at
  input_back i = rw (list_back (array_at element_at) (list_written element) (list_back element_at element back) i.rows, path_reads_back i.path) refl

module _ {E : Type 0} (value_at : Data → Option E) (value : E → Data) (back : (x : E) → value_at (value x) ≡ Some x) where
  pub layer_back : (l : LayerOpening E) → layer_at value_at (layer_written value l) ≡ Some l
  unfolding layer_at
  layer_back l = rw (back l.sibling, path_reads_back l.path) refl

module _ {F E : Type 0} (element_at : Data → Option F) (element : F → Data) (element_back : (x : F) → element_at (element x) ≡ Some x)
    (value_at : Data → Option E) (value : E → Data) (value_back : (x : E) → value_at (value x) ≡ Some x) where
  pub query_back : (q : QueryProof F E) → query_at element_at value_at (query_written element value q) ≡ Some q
  unfolding query_at
  query_back q =
      rw (
        list_back (input_at element_at) (input_written element) (input_back element_at element element_back) q.inputs,
        list_back (layer_at value_at) (layer_written value) (layer_back value_at value value_back) q.layers,
      ) refl

  pub proof_back : (p : FriProofView F E) → proof_at element_at value_at (proof_written element value p) ≡ Some p
  unfolding proof_reading
  proof_back p =
      rw (
        list_back (phase_at element_at) (phase_written element) (phase_back element_at element element_back) p.phases,
        list_back value_at value value_back p.final_polynomial,
        element_back p.query_witness,
        list_back (query_at element_at value_at) (query_written element value) query_back p.queries,
      ) refl
