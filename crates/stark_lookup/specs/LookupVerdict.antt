-- When a proof with lookups is accepted, and its first fault.
use Rattle.std.specs.Prelude.{◌≡◌, ◌++◌, ℕ, true, false, List, Option, option_map}
use Rattle.stark_support.specs.Sponge.{SpongeOps}
use Rattle.stark_parts.specs.declared.config.StarkConfig.{StarkConfig}
use Rattle.stark_proof.specs.ProofView.{ProofView, proof_view}
use Rattle.stark_protocol.specs.Acceptance.{Accepted}
use Rattle.stark_protocol.specs.FirstFault.{FirstFault}
use Rattle.stark_protocol.specs.Instance.{Instance, ProtocolOps}
use Rattle.stark_protocol.specs.declared.preprocessed.PreprocessedVerifierKey.{PreprocessedVerifierKey}
use Rattle.stark_transcript.specs.declared.error.VerificationError.{VerificationError}
use Rattle.stark_tree_air.specs.declared.air.TreeAir.{TreeAir}
use Rattle.stark_two_part.specs.declared.in_parts.InParts.{InParts}
use Rattle.stark_two_part.specs.declared.in_parts.InParts.TheVariants.{Whole, Parts}
use Rattle.stark_two_part.specs.declared.pcs.TwoPartPcs.{TwoPartPcs}
use Rattle.stark_lookup_air.specs.LookupConstraints.{Lookups}
use Rattle.stark_lookup_extension.specs.Interactions.{lookups_over}
use Rattle.stark_lookup_trace.specs.declared.columns.LookupDraws.{LookupDraws}
use Rattle.stark_lookup.specs.LookupDraws.{after_both, bound_to, drawn_from, drawn_values}
use Rattle.stark_lookup.specs.LookupErrors.{of_verification}
use Rattle.stark_lookup.specs.declared.air.LookupAir.{LookupAir}
use Rattle.stark_lookup.specs.declared.error.LookupError.{LookupError}
use Rattle.stark_lookup.specs.declared.error.LookupError.TheVariants.{InvalidLookupPowWitness, NonCanonicalLookupPowWitness, NotInParts}
use Rattle.stark_lookup.specs.declared.proof.LookupProof.{LookupProof}

-- All that a configuration's types compute for lookups: over its own scheme, and over that in two parts.
pub record LookupOps (S F E C K T P X Y : Type 0) : Type 1 where
  pub sponge : SpongeOps C F E K
  pub inner : ProtocolOps (TwoPartPcs S) F E C (InParts K) (InParts T) P X Y
  pub instance : StarkConfig (TwoPartPcs S) E C → TreeAir F → List F → Option (PreprocessedVerifierKey (InParts K)) → Instance (TwoPartPcs S) F C (InParts K)
  pub coordinates : E → List F

-- What is computed of a verifier's arguments: a configuration, an AIR with lookups, a proof, public values and a key.
abbrev pub OfArguments : Type 0 → Type 0 → Type 0 → Type 0 → Type 0 → Type 1 → Type 1
OfArguments SC F E K P R = SC → LookupAir F → LookupProof K E P F → List F → Option (PreprocessedVerifierKey K) → R

-- What is said of a configuration over the scheme in two parts, and of draws.
abbrev pub OfBeginning : Type 0 → Type 0 → Type 0 → Type 1
OfBeginning S E C = StarkConfig (TwoPartPcs S) E C → LookupDraws E → Type 0

-- What a verifier with lookups is given besides a proof.
pub record LookupGiven (S F E C K : Type 0) : Type 0 where
  pub config : StarkConfig S E C
  pub air : LookupAir F
  pub public_values : List F
  pub key : Option (PreprocessedVerifierKey K)

-- A key of the scheme, as one of that in two parts.
abbrev pub whole_key : {K : Type 0} → PreprocessedVerifierKey K → PreprocessedVerifierKey (InParts K)
whole_key key = record { width = key.width; degree_bits = key.degree_bits; commitment = Whole key.commitment }

-- The configuration over the scheme in two parts, the first of `first_width` columns, with a challenger in this state.
abbrev pub in_parts_from : {S E C : Type 0} → StarkConfig S E C → ℕ → C → StarkConfig (TwoPartPcs S) E C
in_parts_from config first_width state = record {
  pcs = record { inner = config.pcs; first_width = first_width };
  challenger = state;
  lookup_proof_of_work_bits = config.lookup_proof_of_work_bits;
  ood_proof_of_work_bits = config.ood_proof_of_work_bits;
  constraint_proof_of_work_bits = config.constraint_proof_of_work_bits;
  challenge = config.challenge;
}

module _ {S F E C K T P X Y : Type 0} (ops : LookupOps S F E C K T P X Y) (given : LookupGiven S F E C K) (p : LookupProof K E P F) where
  -- the lookups of the AIR
  abbrev pub lookups_given : Lookups F
  lookups_given = lookups_over ops.inner.opening.fields.base given.air.own given.air.lookups

  -- ---- what follows from a commitment to the AIR's own columns

  -- The state that has observed what the draws are bound to.
  abbrev pub bound_state : K → C
  bound_state main = bound_to ops.sponge p.inner.degree_bits main (option_map (λ key. key.commitment) given.key) given.public_values given.config.challenger

  -- the state after the check of the work
  abbrev pub worked_state : K → C
  worked_state main = ops.sponge.after_check (bound_state main) given.config.lookup_proof_of_work_bits p.lookup_pow_witness

  abbrev pub draws_after : K → LookupDraws E
  draws_after main = drawn_from ops.sponge.draw ops.sponge.after_draw (worked_state main)

  -- The AIR's public values, and the draws' coordinates.
  abbrev pub values_after : K → List F
  values_after main = given.public_values ++ drawn_values ops.inner.opening.fields.ring ops.coordinates lookups_given.width (draws_after main)

  -- What the verifier of the extended AIR is given: it begins in the state after the draws.
  abbrev pub extended_instance : K → Instance (TwoPartPcs S) F C (InParts K)
  extended_instance main =
      ops.instance (in_parts_from given.config given.air.own.declaration.columns.width (after_both ops.sponge.after_draw (worked_state main))) given.air.extended (values_after main) (option_map whole_key given.key)

  abbrev pub extended_proof : ProofView (InParts K) E P F
  extended_proof = proof_view p.inner

  -- The witness is zero where no work is required.
  abbrev pub IsCanonical : Type 0
  IsCanonical = given.config.lookup_proof_of_work_bits ≡ 0 → p.lookup_pow_witness ≡ ops.inner.opening.fields.base.zero

  -- The trace is committed to in two parts, the work before the draws passes, and the verifier of the extended AIR begins with this
  -- configuration and these draws.
  pub record IsStarted (config : StarkConfig (TwoPartPcs S) E C) (draws : LookupDraws E) : Type 0 where
    pub main : K
    pub others : K
    pub parted : p.inner.commitments.trace ≡ Parts main others
    pub canonical : IsCanonical
    pub works : ops.sponge.passes (bound_state main) given.config.lookup_proof_of_work_bits p.lookup_pow_witness ≡ true
    pub begins : config ≡ in_parts_from given.config given.air.own.declaration.columns.width (after_both ops.sponge.after_draw (worked_state main))
    pub drawn : draws ≡ draws_after main

  -- ---- acceptance

  -- The trace is committed to in two parts, the work before the draws passes, and the proof is one of the extended AIR.
  pub record LookupAccepted : Type 0 where
    pub main : K
    pub others : K
    pub parted : p.inner.commitments.trace ≡ Parts main others
    pub canonical : IsCanonical
    pub works : ops.sponge.passes (bound_state main) given.config.lookup_proof_of_work_bits p.lookup_pow_witness ≡ true
    pub extended : Accepted ops.inner (extended_instance main) extended_proof

  -- The first fault, in the order of the tests: of the commitment; of the witness; of the work; of the proof of the extended AIR.
  pub data LookupFault : LookupError X → Type 0 where
    in_trace : {whole : K} → p.inner.commitments.trace ≡ Whole whole → LookupFault NotInParts
    in_witness : {main others : K} → p.inner.commitments.trace ≡ Parts main others → (IsCanonical → ⊥) → LookupFault NonCanonicalLookupPowWitness
    in_work : {main others : K} → p.inner.commitments.trace ≡ Parts main others → IsCanonical
        → ops.sponge.passes (bound_state main) given.config.lookup_proof_of_work_bits p.lookup_pow_witness ≡ false → LookupFault InvalidLookupPowWitness
    in_extended : {main others : K} {error : VerificationError X} → p.inner.commitments.trace ≡ Parts main others → IsCanonical
        → ops.sponge.passes (bound_state main) given.config.lookup_proof_of_work_bits p.lookup_pow_witness ≡ true
        → FirstFault ops.inner (extended_instance main) extended_proof error → LookupFault (of_verification error)
