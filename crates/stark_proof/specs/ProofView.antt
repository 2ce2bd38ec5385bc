-- What a proof carries, as lists.
use Rattle.std.specs.Prelude.{ℕ, List, Option, option_map, map}
use Rattle.stark_proof.specs.declared.values.Commitments.{Commitments}
use Rattle.stark_proof.specs.declared.values.PreprocessedOpenedValues.{PreprocessedOpenedValues}
use Rattle.stark_proof.specs.declared.values.OpenedValues.{OpenedValues}
use Rattle.stark_proof.specs.declared.values.Proof.{Proof}

-- The opened rows of the preprocessed trace.
pub record PreprocessedView (E : Type 0) : Type 0 where
  pub local : List E
  pub next : Option (List E)

-- The opened values.
pub record OpeningsView (E : Type 0) : Type 0 where
  pub trace_local : List E
  pub trace_next : Option (List E)
  pub preprocessed : Option (PreprocessedView E)
  pub quotient_chunks : List (List E)
  pub random : Option (List E)

-- A proof.
pub record ProofView (K : Type 0) (E : Type 0) (P : Type 0) (F : Type 0) : Type 0 where
  pub commitments : Commitments K
  pub opened_values : OpeningsView E
  pub opening_proof : P
  pub degree_bits : ℕ
  pub ood_pow_witness : F
  pub alpha_pow_witness : F

abbrev pub preprocessed_view : {E : Type 0} → PreprocessedOpenedValues E → PreprocessedView E
preprocessed_view rows = record { local = rows.local.items; next = option_map (λ row. row.items) rows.next }

abbrev pub openings_view : {E : Type 0} → OpenedValues E → OpeningsView E
openings_view o = record {
  trace_local = o.trace_local.items;
  trace_next = option_map (λ row. row.items) o.trace_next;
  preprocessed = option_map preprocessed_view o.preprocessed;
  quotient_chunks = map (λ chunk. chunk.items) o.quotient_chunks.items;
  random = option_map (λ row. row.items) o.random;
}

abbrev pub proof_view : {K : Type 0} {E : Type 0} {P : Type 0} {F : Type 0} → Proof K E P F → ProofView K E P F
proof_view p = record {
  commitments = p.commitments;
  opened_values = openings_view p.opened_values;
  opening_proof = p.opening_proof;
  degree_bits = p.degree_bits;
  ood_pow_witness = p.ood_pow_witness;
  alpha_pow_witness = p.alpha_pow_witness;
}
