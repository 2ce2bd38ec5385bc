-- The JSON of a proof and its parts: what a JSON value is read as, or its first fault, and what is written.
use Rattle.std.specs.Prelude.{◌≡◌, ◌==◌, ◌^◌, ℕ, List, [], ◌∷◌, length, Bool, if◌then◌else◌, nat_lt, Option, None, Some, IfSome, is_some, ok_or, option_map, option_and_then, unwrap_or, Result, Ok, Err, codes}
use Rattle.serde_json.specs.Data.{Data, null, number, object, unsigned, Items, no_items, item, Members, member, no_members, put as with_member}
use Rattle.serde_json.specs.Find.{get, as_null, as_array, as_object}
use Rattle.stark_support.specs.Json.{array_at, whole_at}
use Rattle.stark_proof.specs.declared.values.Commitments.{Commitments}
use Rattle.stark_proof.specs.declared.error.OpeningsDecodeError.{OpeningsDecodeError}
use Rattle.stark_proof.specs.declared.error.ProofDecodeError.{ProofDecodeError}
use Rattle.stark_proof.specs.ProofView.{PreprocessedView, OpeningsView, ProofView, proof_view}
use Rattle.stark_support.specs.JsonFacts.{list_written}
use Rattle.std.specs.declared.vec.Vec.{Vec}
use Rattle.stark_proof.specs.declared.values.Proof.{Proof}

-- Why a JSON value is not read: a field, by its name, or a fault of another kind.
pub data DecodeFault (X : Type 0) : Type 0 where
  missing_field : List ℕ → DecodeFault X
  wrong_kind : List ℕ → DecodeFault X
  element_refused : List ℕ → DecodeFault X
  other : X → DecodeFault X

-- How opened preprocessed rows break their rule.
pub data RuleFault : Type 0 where
  next_without_current : RuleFault
  empty_current : RuleFault
  width_mismatch : ℕ → ℕ → RuleFault

-- Why opened values are not read.
abbrev pub OpeningsFault : Type 0
OpeningsFault = DecodeFault RuleFault

-- Why a proof is not read; the other fault is one of its opened values, where None never stands.
abbrev pub ProofFault : Type 0
ProofFault = DecodeFault (Option OpeningsFault)

-- The fault that an error names; want of memory names none.
abbrev pub openings_fault : OpeningsDecodeError → Option OpeningsFault
openings_fault (OpeningsDecodeError.MissingField field) = Some (missing_field field.now)
openings_fault (OpeningsDecodeError.WrongKind field) = Some (wrong_kind field.now)
openings_fault (OpeningsDecodeError.Element field) = Some (element_refused field.now)
openings_fault OpeningsDecodeError.NextWithoutCurrent = Some (other next_without_current)
openings_fault OpeningsDecodeError.EmptyCurrent = Some (other empty_current)
openings_fault (OpeningsDecodeError.WidthMismatch local next) = Some (other (width_mismatch local next))
openings_fault OpeningsDecodeError.OutOfMemory = None

abbrev pub proof_fault : ProofDecodeError → Option ProofFault
proof_fault (ProofDecodeError.MissingField field) = Some (missing_field field.now)
proof_fault (ProofDecodeError.WrongKind field) = Some (wrong_kind field.now)
proof_fault (ProofDecodeError.Element field) = Some (element_refused field.now)
proof_fault (ProofDecodeError.Openings error) = Some (other (openings_fault error))
proof_fault ProofDecodeError.OutOfMemory = None

-- What a decoder returned, seen by view, is what reading gives: the value, or the fault, unless memory ran out.
abbrev pub Decodes : {A : Type 0} {B : Type 0} {Error : Type 0} {Fault : Type 0} → (A → B) → (Error → Option Fault) → Result A Error → Result B Fault → Type 0
Decodes view fault (Ok a) reading = reading ≡ Ok (view a)
Decodes view fault (Err error) reading = IfSome (fault error) (λ f. reading ≡ Err f)

infixl 10 ◌>>=◌
abbrev pub ◌>>=◌ : {A : Type 0} {B : Type 0} {F : Type 0} → Result A F → (A → Result B F) → Result B F
(Ok a) >>= f = f a
(Err e) >>= f = Err e

-- ---- fields

abbrev pub object_at : {X : Type 0} → List ℕ → Data → Result Data (DecodeFault X)
object_at field d = if is_some (as_object d) then Ok d else Err (wrong_kind field)

abbrev pub required : {A : Type 0} {X : Type 0} → List ℕ → (Data → Result A (DecodeFault X)) → Data → Result A (DecodeFault X)
required field reading d = ok_or (get field d) (missing_field field) >>= reading

abbrev pub unless_null : {A : Type 0} {X : Type 0} → (Data → Result A (DecodeFault X)) → Data → Result (Option A) (DecodeFault X)
unless_null reading d = if is_some (as_null d) then Ok None else reading d >>= λ a. Ok (Some a)

-- a field that may be missing or null
abbrev pub optional_at : {A : Type 0} {X : Type 0} → (Data → Result A (DecodeFault X)) → Option Data → Result (Option A) (DecodeFault X)
optional_at reading None = Ok None
optional_at reading (Some d) = unless_null reading d

abbrev pub optional : {A : Type 0} {X : Type 0} → List ℕ → (Data → Result A (DecodeFault X)) → Data → Result (Option A) (DecodeFault X)
optional field reading d = optional_at reading (get field d)

-- a field in whose place a value stands where it is missing or null
abbrev pub optional_or : {A : Type 0} {X : Type 0} → A → List ℕ → (Data → Result A (DecodeFault X)) → Data → Result A (DecodeFault X)
optional_or value field reading d = optional field reading d >>= λ given. Ok (unwrap_or given value)

-- what a codec reads
abbrev pub value_at : {A : Type 0} {X : Type 0} → (Data → Option A) → List ℕ → Data → Result A (DecodeFault X)
value_at reading field d = ok_or (reading d) (element_refused field)

abbrev pub value_or_null : {A : Type 0} → (A → Data) → Option A → Data
value_or_null writing None = null
value_or_null writing (Some a) = writing a

-- a value under a name, where there is one, beside other members
abbrev pub with_value : List ℕ → Option Data → Members → Members
with_value name None ms = ms
with_value name (Some d) ms = with_member name d ms

-- ---- opened values, over elements

-- what each item is read as, or the fault of the first that has one
abbrev pub each_of : {A : Type 0} {X : Type 0} → (Data → Result A (DecodeFault X)) → Items → Result (List A) (DecodeFault X)
each_of reading no_items = Ok []
each_of reading (item d ds) = reading d >>= λ a. each_of reading ds >>= λ as'. Ok (a ∷ as')

module _ {E : Type 0} (element : Data → Option E) where
  -- an array of elements
  abbrev pub row_at : List ℕ → Data → Result (List E) OpeningsFault
  row_at field d = if is_some (as_array d) then ok_or (array_at element d) (element_refused field) else Err (wrong_kind field)

  -- an array of rows
  abbrev pub rows_at : List ℕ → Data → Result (List (List E)) OpeningsFault
  rows_at field d = ok_or (as_array d) (wrong_kind field) >>= each_of (row_at field)

-- The rule of the preprocessed rows: a next row stands beside a current one and is as wide, and a current row isn't empty.
abbrev pub width_fault : {E : Type 0} → List E → Option (List E) → Option OpeningsFault
width_fault local None = None
width_fault local (Some next) = if length next == length local then None else Some (other (width_mismatch (length local) (length next)))

abbrev pub rule_fault : {E : Type 0} → Option (List E) → Option (List E) → Option OpeningsFault
rule_fault None None = None
rule_fault None (Some next) = Some (other next_without_current)
rule_fault (Some local) next = if length local == 0 then Some (other empty_current) else width_fault local next

abbrev pub preprocessed_of : {E : Type 0} → Option (List E) → Option (List E) → Option (PreprocessedView E)
preprocessed_of None next = None
preprocessed_of (Some local) next = Some (record { local = local; next = next })

-- a value, unless there is a fault
abbrev pub unless_fault : {A : Type 0} {Fault : Type 0} → Option Fault → A → Result A Fault
unless_fault None a = Ok a
unless_fault (Some fault) a = Err fault

abbrev pub preprocessed_rows : {E : Type 0} → Option (List E) → Option (List E) → Result (Option (PreprocessedView E)) OpeningsFault
preprocessed_rows local next = unless_fault (rule_fault local next) (preprocessed_of local next)

-- the opened preprocessed rows, each by itself
abbrev pub preprocessed_local : {E : Type 0} → OpeningsView E → Option (List E)
preprocessed_local o = option_map (λ rows. rows.local) o.preprocessed

abbrev pub preprocessed_next : {E : Type 0} → OpeningsView E → Option (List E)
preprocessed_next o = option_and_then (λ rows. rows.next) o.preprocessed

-- the opened values that a JSON value spells, or its first fault
unfoldable pub openings_reading : {E : Type 0} → (Data → Option E) → Data → Result (OpeningsView E) OpeningsFault
openings_reading element d = do
  o ← object_at (codes "") d
  trace_local ← required (codes "trace_local") (row_at element (codes "trace_local")) o
  trace_next ← optional (codes "trace_next") (row_at element (codes "trace_next")) o
  local ← optional (codes "preprocessed_local") (row_at element (codes "preprocessed_local")) o
  next ← optional (codes "preprocessed_next") (row_at element (codes "preprocessed_next")) o
  quotient_chunks ← required (codes "quotient_chunks") (rows_at element (codes "quotient_chunks")) o
  random ← optional (codes "random") (row_at element (codes "random")) o
  preprocessed ← preprocessed_rows local next
  Ok (record { trace_local = trace_local; trace_next = trace_next; preprocessed = preprocessed; quotient_chunks = quotient_chunks; random = random })

-- an object of all six keys, which stand in ascending order
abbrev pub openings_object : Data → Data → Data → Data → Data → Data → Data
openings_object trace_local trace_next local next quotient_chunks random =
    object (member (codes "preprocessed_local") local
    (member (codes "preprocessed_next") next
    (member (codes "quotient_chunks") quotient_chunks
    (member (codes "random") random
    (member (codes "trace_local") trace_local
    (member (codes "trace_next") trace_next no_members))))))

-- all six keys; an absent row is null
unfoldable pub openings_writing : {E : Type 0} → (E → Data) → OpeningsView E → Data
openings_writing element o =
    openings_object (list_written element o.trace_local) (value_or_null (list_written element) o.trace_next)
    (value_or_null (list_written element) (preprocessed_local o)) (value_or_null (list_written element) (preprocessed_next o))
    (list_written (list_written element) o.quotient_chunks) (value_or_null (list_written element) o.random)

-- the fault of opened values that break the rule of the preprocessed rows
abbrev pub openings_rule_fault : {E : Type 0} → OpeningsView E → Option OpeningsFault
openings_rule_fault o = rule_fault (preprocessed_local o) (preprocessed_next o)

-- what was written of opened values under that rule is read back, and of any other the fault is found
abbrev pub openings_read_back : {E : Type 0} → OpeningsView E → Result (OpeningsView E) OpeningsFault
openings_read_back o = unless_fault (openings_rule_fault o) o

-- ---- commitments

-- the commitments that a JSON value spells, or its first fault
unfoldable pub commitments_reading : {K : Type 0} → (Data → Option K) → Data → Result (Commitments K) ProofFault
commitments_reading commitment d = do
  o ← object_at (codes "commitments") d
  trace ← required (codes "trace") (value_at commitment (codes "trace")) o
  quotient_chunks ← required (codes "quotient_chunks") (value_at commitment (codes "quotient_chunks")) o
  random ← optional (codes "random") (value_at commitment (codes "random")) o
  Ok (record { trace = trace; quotient_chunks = quotient_chunks; random = random })

-- an object of all three keys, which stand in ascending order
abbrev pub commitments_object : Data → Data → Data → Data
commitments_object trace quotient_chunks random =
    object (member (codes "quotient_chunks") quotient_chunks (member (codes "random") random (member (codes "trace") trace no_members)))

-- all three keys; an absent commitment is null
unfoldable pub commitments_writing : {K : Type 0} → (K → Data) → Commitments K → Data
commitments_writing commitment c = commitments_object (commitment c.trace) (commitment c.quotient_chunks) (value_or_null commitment c.random)

-- ---- proofs

-- a whole number of at most 64 bits
abbrev pub degree_bits_at : Data → Result ℕ ProofFault
degree_bits_at d = ok_or (whole_at d) (wrong_kind (codes "degree_bits")) >>= λ n. if nat_lt n (2 ^ 64) then Ok n else Err (wrong_kind (codes "degree_bits"))

abbrev pub within_openings : {A : Type 0} → Result A OpeningsFault → Result A ProofFault
within_openings (Ok a) = Ok a
within_openings (Err fault) = Err (other (Some fault))

-- five members, which stand in ascending order
abbrev pub proof_members : Data → Data → Data → Data → Data → Members
proof_members commitments opened_values opening_proof degree_bits ood_pow_witness =
    member (codes "commitments") commitments
    (member (codes "degree_bits") degree_bits
    (member (codes "ood_pow_witness") ood_pow_witness
    (member (codes "opened_values") opened_values
    (member (codes "opening_proof") opening_proof no_members))))

-- an object of these, and of the witness before alpha where there is one
abbrev pub proof_object : Option Data → Data → Data → Data → Data → Data → Data
proof_object alpha_pow_witness commitments opened_values opening_proof degree_bits ood_pow_witness =
    object (with_value (codes "alpha_pow_witness") alpha_pow_witness (proof_members commitments opened_values opening_proof degree_bits ood_pow_witness))

-- an element that isn't zero, by this equality
abbrev pub nonzero : {F : Type 0} → (F → F → Bool) → F → F → Option F
nonzero same zero element = if same element zero then None else Some element

module _ {K : Type 0} {E : Type 0} {P : Type 0} {F : Type 0} where
  -- The proof that a JSON value spells, or its first fault. The last field is read after the other five.
  unfoldable pub proof_reading : (Data → Option K) → (Data → Option E) → (Data → Option P) → (Data → Option F) → F → Data → Result (ProofView K E P F) ProofFault
  proof_reading commitment element argument witness zero d = do
    o ← object_at (codes "") d
    commitments ← required (codes "commitments") (commitments_reading commitment) o
    opened_values ← required (codes "opened_values") (λ d. within_openings (openings_reading element d)) o
    opening_proof ← required (codes "opening_proof") (value_at argument (codes "opening_proof")) o
    degree_bits ← required (codes "degree_bits") degree_bits_at o
    ood_pow_witness ← required (codes "ood_pow_witness") (value_at witness (codes "ood_pow_witness")) o
    alpha_pow_witness ← optional_or zero (codes "alpha_pow_witness") (value_at witness (codes "alpha_pow_witness")) o
    Ok (record { commitments = commitments; opened_values = opened_values; opening_proof = opening_proof; degree_bits = degree_bits; ood_pow_witness = ood_pow_witness; alpha_pow_witness = alpha_pow_witness })

  -- an object of the five keys, and of `alpha_pow_witness` where it isn't zero
  unfoldable pub proof_writing : (K → Data) → (E → Data) → (P → Data) → (F → Data) → (F → F → Bool) → F → ProofView K E P F → Data
  proof_writing commitment element argument witness same zero p =
      proof_object (option_map witness (nonzero same zero p.alpha_pow_witness)) (commitments_writing commitment p.commitments) (openings_writing element p.opened_values) (argument p.opening_proof)
      (number (unsigned p.degree_bits)) (witness p.ood_pow_witness)

  -- what was written of a proof is read back where its opened values keep their rule, and of any other their fault is found
  abbrev pub proof_read_back : ProofView K E P F → Result (ProofView K E P F) ProofFault
  proof_read_back p = unless_fault (option_map (λ fault. other (Some fault)) (openings_rule_fault p.opened_values)) p

-- ---- of values, by the data that they are

abbrev row_items : {E A : Type 0} → Option (Vec E A) → Option (List E)
row_items row = option_map (λ r. r.items) row

-- The preprocessed rows of two lists.
abbrev pub opened_rows : {E A B : Type 0} → Option (Vec E A) → Option (Vec E B) → Result (Option (PreprocessedView E)) OpeningsFault
opened_rows local next = preprocessed_rows (row_items local) (row_items next)

-- A proof was read, or its first fault told.
abbrev pub DecodesProof : {Com Challenge PcsProof Val : Type 0} → Result (Proof Com Challenge PcsProof Val) ProofDecodeError → Result (ProofView Com Challenge PcsProof Val) ProofFault → Type 0
DecodesProof result reading = Decodes proof_view proof_fault result reading

-- The object of openings, the members of a proof and the object that they make.
abbrev pub openings_of : {V : Type 0} → (V → Data) → V → V → V → V → V → V → Data
openings_of view trace_local trace_next local next quotient_chunks random =
    openings_object (view trace_local) (view trace_next) (view local) (view next) (view quotient_chunks) (view random)

abbrev pub members_of : {V : Type 0} → (V → Data) → V → V → V → V → V → Members
members_of view commitments opened_values opening_proof degree_bits ood_pow_witness =
    proof_members (view commitments) (view opened_values) (view opening_proof) (view degree_bits) (view ood_pow_witness)

abbrev pub object_of : {V : Type 0} → (V → Data) → Option V → V → V → V → V → V → Data
object_of view alpha_pow_witness commitments opened_values opening_proof degree_bits ood_pow_witness = proof_object (option_map view alpha_pow_witness)
    (view commitments) (view opened_values) (view opening_proof) (view degree_bits) (view ood_pow_witness)

-- A value is this data.
abbrev pub Writes : {V : Type 0} → (V → Data) → Data → V → Type 0
Writes view written value = view value ≡ written

-- A value is what a proof is written as, by how its parts are written.
abbrev pub WritesProof : {V K E P F : Type 0} → (V → Data) → (K → Data) → (E → Data) → (P → Data) → (F → Data) → (F → F → Bool) → F → Proof K E P F → V → Type 0
WritesProof view commitment element argument witness same zero proof value = Writes view (proof_writing commitment element argument witness same zero (proof_view proof)) value

-- It is read as the proof, or as the proof's own fault.
abbrev pub ReadBack : {V K E P F : Type 0} → (V → Data) → (Data → Result (ProofView K E P F) ProofFault) → ProofView K E P F → V → Type 0
ReadBack view reading p value = reading (view value) ≡ proof_read_back p
