-- How deep the JSON of the commitments and opening arguments of both schemes nests.
use Rattle.std.proofs.Common.{arith, ℕ, suc, ◌≤◌, List}
use Rattle.std.proofs.Math.Nat.{max-le}
use Rattle.serde_json.specs.Data.{Data, depth}
use Rattle.stark_support.specs.JsonFacts.{list_written}
use Rattle.stark_bench.specs.CommitmentJson.{commitment_written}
use Rattle.stark_merkle.specs.RootJson.{root_written}
use Rattle.stark_merkle.specs.declared.root.Root.{Root}
use Rattle.stark_fri_proof.specs.PathJson.{path_written}
use Rattle.stark_fri_proof.specs.ProofJson.{input_written, layer_written, phase_written, proof_written, query_written}
use Rattle.stark_answers.specs.ReadBack.{NestsWithin}
use Rattle.stark_answers.proofs.Depths.{below, last_within, list_within, next_within}

-- What nests no deeper than some, nests no deeper than more.
pub nests_within : {A : Type 0} (n m : ℕ) (writing : A → Data) → n ≤ m → NestsWithin n writing → NestsWithin m writing
nests_within n m writing more within = λ x. omega (arith, more, within x)

pub root_within : (n : ℕ) → NestsWithin n root_written
root_within n root = omega arith

path_within : (n : ℕ) → NestsWithin (suc n) path_written
path_within n path = list_within n root_written (root_within n) path

module _ {F : Type 0} (base : F → Data) (n : ℕ) (in_base : NestsWithin n base) where
  column_within : NestsWithin (suc n) (list_written base)
  column_within = list_within n base in_base

  -- A commitment in the clear.
  pub commitment_within : NestsWithin (suc (suc (suc n))) (commitment_written base)
  commitment_within commitment = list_within (suc (suc n)) (list_written (list_written base)) (list_within (suc n) (list_written base) column_within) commitment

  phase_within : NestsWithin (suc n) (phase_written base)
  phase_within phase = below _ n (max-le (root_within n phase.root) (last_within (depth (base phase.witness)) n (in_base phase.witness)))

  input_within : NestsWithin (suc (suc (suc n))) (input_written base)
  input_within input =
      let rows = list_within (suc n) (list_written base) column_within input.rows in
      below _ (suc (suc n)) (max-le (next_within (depth (path_written input.path)) (suc n) (path_within n input.path)) (last_within (depth (list_written (list_written base) input.rows)) (suc (suc n)) rows))

module _ {E : Type 0} (element : E → Data) (n : ℕ) (in_element : NestsWithin n element) where
  layer_within : NestsWithin (suc (suc n)) (layer_written element)
  layer_within layer = below _ (suc n) (max-le (path_within n layer.path) (last_within (depth (element layer.sibling)) (suc n) (next_within (depth (element layer.sibling)) n (in_element layer.sibling))))

module _ {F E : Type 0} (base : F → Data) (element : E → Data) (n : ℕ) (in_base : NestsWithin n base) (in_element : NestsWithin n element) where
  query_within : NestsWithin (suc (suc (suc (suc (suc n))))) (query_written base element)
  query_within query =
      let inputs = list_within (suc (suc (suc n))) (input_written base) (input_within base n in_base) query.inputs in
      let layers = list_within (suc (suc n)) (layer_written element) (layer_within element n in_element) query.layers in
      below _ (suc (suc (suc (suc n)))) (max-le inputs (last_within (depth (list_written (layer_written element) query.layers)) (suc (suc (suc (suc n)))) (next_within (depth (list_written (layer_written element) query.layers)) (suc (suc (suc n))) layers)))

  -- An opening by FRI.
  pub opening_within : (most : ℕ) → suc (suc (suc (suc (suc (suc (suc n)))))) ≤ most → NestsWithin most (proof_written base element)
  opening_within most within opening =
      let deepest = suc (suc (suc (suc (suc (suc n))))) in
      let final = nests_within (suc n) deepest (list_written element) (omega arith) (list_within n element in_element) opening.final_polynomial in
      let phases = nests_within (suc (suc n)) deepest (list_written (phase_written base)) (omega arith) (list_within (suc n) (phase_written base) (phase_within base n in_base)) opening.phases in
      let queries = list_within (suc (suc (suc (suc (suc n))))) (query_written base element) query_within opening.queries in
      let witness = nests_within n deepest base (omega arith) in_base opening.query_witness in
      let all : depth (proof_written base element opening) ≤ suc deepest = below _ deepest (max-le final (max-le phases (max-le queries (last_within (depth (base opening.query_witness)) deepest witness)))) in
      omega (arith, within, all)
