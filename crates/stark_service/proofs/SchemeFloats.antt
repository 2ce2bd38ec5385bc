-- The commitments and opening arguments of both schemes have no float in their JSON.
use Rattle.std.proofs.Common.{◌≡◌, refl, false, List}
use Rattle.serde_json.specs.Data.{Data}
use Rattle.serde_json.specs.Written.{has_float}
use Rattle.stark_support.specs.JsonFacts.{list_written}
use Rattle.stark_bench.specs.CommitmentJson.{commitment_written}
use Rattle.stark_merkle.specs.RootJson.{root_written}
use Rattle.stark_merkle.specs.declared.root.Root.{Root}
use Rattle.stark_fri_proof.specs.PathJson.{path_written}
use Rattle.stark_fri_proof.specs.ProofJson.{input_written, layer_written, phase_written, proof_written, query_written}
use Rattle.stark_answers.proofs.NoFloats.{no_float_in_list}
use Rattle.stark_service.specs.NoFloats.{WritesNoFloat}

pub no_float_in_root : WritesNoFloat root_written
no_float_in_root root = refl

no_float_in_path : (path : List Root) → has_float (path_written path) ≡ false
no_float_in_path path = no_float_in_list root_written no_float_in_root path

module _ {F : Type 0} (base : F → Data) (in_base : WritesNoFloat base) where
  no_float_in_column : (column : List F) → has_float (list_written base column) ≡ false
  no_float_in_column column = no_float_in_list base in_base column

  -- A commitment in the clear.
  pub no_float_in_commitment : WritesNoFloat (commitment_written base)
  no_float_in_commitment commitment = no_float_in_list (list_written (list_written base)) (no_float_in_list (list_written base) no_float_in_column) commitment

  no_float_in_phase : WritesNoFloat (phase_written base)
  no_float_in_phase phase = rw (in_base phase.witness) refl

  no_float_in_input : WritesNoFloat (input_written base)
  no_float_in_input input = rw (no_float_in_path input.path, no_float_in_list (list_written base) no_float_in_column input.rows) refl

module _ {E : Type 0} (element : E → Data) (in_element : WritesNoFloat element) where
  no_float_in_layer : WritesNoFloat (layer_written element)
  no_float_in_layer layer = rw (no_float_in_path layer.path, in_element layer.sibling) refl

module _ {F E : Type 0} (base : F → Data) (element : E → Data) (in_base : WritesNoFloat base) (in_element : WritesNoFloat element) where
  no_float_in_query : WritesNoFloat (query_written base element)
  no_float_in_query query =
      rw (no_float_in_list (input_written base) (no_float_in_input base in_base) query.inputs, no_float_in_list (layer_written element) (no_float_in_layer element in_element) query.layers) refl

  -- An opening by FRI.
  pub no_float_in_opening : WritesNoFloat (proof_written base element)
  no_float_in_opening opening =
      rw (
        no_float_in_list element in_element opening.final_polynomial,
        no_float_in_list (phase_written base) (no_float_in_phase base in_base) opening.phases,
        no_float_in_list (query_written base element) no_float_in_query opening.queries,
        in_base opening.query_witness,
      ) refl
