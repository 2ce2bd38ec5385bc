-- Proofs of FRI as bytes: the parts in the order of their fields.
use Rattle.std.specs.Prelude.{List, refl}
use Rattle.stark_fri_proof.specs.Parts.{FriProofView, InputOpening, QueryProof}
use Rattle.stark_fri_proof.specs.declared.proof.LayerOpening.{LayerOpening}
use Rattle.stark_fri_proof.specs.declared.proof.Phase.{Phase}
use Rattle.stark_proof_bytes.specs.Bytes.{BytesLaws, BytesOps, list_ops, pair_ops, turned_ops}
use Rattle.stark_proof_bytes.specs.BytesFacts.{list_laws, pair_laws, turned_laws}
use Rattle.stark_proof_bytes.specs.Roots.{path_laws, path_ops, root_laws, root_ops}

module _ {F : Type 0} (field : BytesOps F) where
  abbrev pub phase_ops : BytesOps (Phase F)
  phase_ops = turned_ops (λ x. (x.root, x.witness)) (λ p. record { root = p.0; witness = p.1 }) (pair_ops root_ops field)

  pub phase_laws : BytesLaws field → BytesLaws phase_ops
  phase_laws laws = turned_laws (λ (x : Phase F). (x.root, x.witness)) (λ p. record { root = p.0; witness = p.1 }) (λ x. refl) (λ p. refl)
      (pair_ops root_ops field) (pair_laws root_ops field root_laws laws)

  abbrev pub rows_ops : BytesOps (List (List F))
  rows_ops = list_ops (list_ops field)

  pub rows_laws : BytesLaws field → BytesLaws rows_ops
  rows_laws laws = list_laws (list_ops field) (list_laws field laws)

  abbrev pub input_ops : BytesOps (InputOpening F)
  input_ops = turned_ops (λ x. (x.rows, x.path)) (λ p. record { rows = p.0; path = p.1 }) (pair_ops rows_ops path_ops)

  pub input_laws : BytesLaws field → BytesLaws input_ops
  input_laws laws = turned_laws (λ (x : InputOpening F). (x.rows, x.path)) (λ p. record { rows = p.0; path = p.1 }) (λ x. refl) (λ p. refl)
      (pair_ops rows_ops path_ops) (pair_laws rows_ops path_ops (rows_laws laws) path_laws)

module _ {E : Type 0} (extension : BytesOps E) where
  abbrev pub layer_ops : BytesOps (LayerOpening E)
  layer_ops = turned_ops (λ x. (x.sibling, x.path)) (λ p. record { sibling = p.0; path = p.1 }) (pair_ops extension path_ops)

  pub layer_laws : BytesLaws extension → BytesLaws layer_ops
  layer_laws laws = turned_laws (λ (x : LayerOpening E). (x.sibling, x.path)) (λ p. record { sibling = p.0; path = p.1 }) (λ x. refl) (λ p. refl)
      (pair_ops extension path_ops) (pair_laws extension path_ops laws path_laws)

module _ {F E : Type 0} (field : BytesOps F) (extension : BytesOps E) where
  abbrev pub query_ops : BytesOps (QueryProof F E)
  query_ops = turned_ops (λ x. (x.inputs, x.layers)) (λ p. record { inputs = p.0; layers = p.1 }) (pair_ops (list_ops (input_ops field)) (list_ops (layer_ops extension)))

  pub query_laws : BytesLaws field → BytesLaws extension → BytesLaws query_ops
  query_laws laws others = turned_laws (λ (x : QueryProof F E). (x.inputs, x.layers)) (λ p. record { inputs = p.0; layers = p.1 }) (λ x. refl) (λ p. refl)
      (pair_ops (list_ops (input_ops field)) (list_ops (layer_ops extension)))
      (pair_laws _ _ (list_laws (input_ops field) (input_laws field laws)) (list_laws (layer_ops extension) (layer_laws extension others)))

  abbrev pub fri_ops : BytesOps (FriProofView F E)
  fri_ops = turned_ops (λ x. (x.phases, (x.final_polynomial, (x.query_witness, x.queries))))
      (λ p. record { phases = p.0; final_polynomial = p.1.0; query_witness = p.1.1.0; queries = p.1.1.1 })
      (pair_ops (list_ops (phase_ops field)) (pair_ops (list_ops extension) (pair_ops field (list_ops query_ops))))

  pub fri_laws : BytesLaws field → BytesLaws extension → BytesLaws fri_ops
  fri_laws laws others = turned_laws (λ (x : FriProofView F E). (x.phases, (x.final_polynomial, (x.query_witness, x.queries))))
      (λ p. record { phases = p.0; final_polynomial = p.1.0; query_witness = p.1.1.0; queries = p.1.1.1 })
      (λ x. refl) (λ p. refl)
      (pair_ops (list_ops (phase_ops field)) (pair_ops (list_ops extension) (pair_ops field (list_ops query_ops))))
      (pair_laws _ _ (list_laws (phase_ops field) (phase_laws field laws))
      (pair_laws _ _ (list_laws extension others)
      (pair_laws field _ laws (list_laws query_ops (query_laws laws others)))))
