-- From a proof that is bound, its point and what is opened there, to a proof of its trace; and why there is none.
use Rattle.std.proofs.Common.{◌≡◌, ◌∙◌, ◌⊎◌, inl, inr, ap, refl, sym, subst, ℕ, ◌+◌, ◌^◌, ◌≤◌, Bool, List, length, map, Option, None, Some, option_map, Ok, arith}
use Rattle.std.specs.Prelude.{IfSome, codes}
use Rattle.stark_support.specs.Claims.{RoundPoints}
use Rattle.stark_support.specs.Periodic.{first_fault}
use Rattle.stark_support.specs.Scheme.{OpenedRound, natural_coset, true_claim, zk_bits}
use Rattle.stark_air.specs.Declaration.{Trace}
use Rattle.stark_transcript.specs.Replay.{ood_events, ood_outcome, prover_ood_outcome, succeeds}
use Rattle.stark_transcript.specs.Shape.{opens_next_row}
use Rattle.stark_transcript.specs.declared.error.ProvingError.{ProvingError}
use Rattle.stark_transcript.specs.declared.shape.GrindExhausted.{GrindExhausted}
use Rattle.stark_transcript.specs.declared.shape.StarkShape.{StarkShape}
use Rattle.stark_transcript.specs.declared.shape.TranscriptPhase.TheVariants.{Drawn}
use Rattle.stark_proof.specs.ProofView.{OpeningsView, ProofView}
use Rattle.stark_protocol.specs.Instance.{Instance, ProtocolOps, log_height}
use Rattle.stark_protocol.specs.OpenedClaims.{claims_of, next_point, preprocessed_place}
use Rattle.stark_protocol.specs.declared.preprocessed.PreprocessedProverData.{PreprocessedProverData}
use Rattle.stark_prover.specs.BoundProof.{IsBoundProof}
use Rattle.stark_prover.specs.ProofOfTrace.{IsProofOfTrace, key_of, true_openings}
use Rattle.stark_prover.specs.ProverFault.{ProverFault, described, in_opening, in_work, log_chunks_of, opening_rounds, seeded}
use Rattle.stark_prover.specs.Rounds.{StandBehind, place_of, points_of, rounds_of}
use Rattle.stark_prover.specs.SchemeFaults.{IsSchemeFault}
use Rattle.stark_prover.specs.Work.{IsExhausted}
use Rattle.stark_prover.proofs.BehindClaims.{behind_accepts}
use Rattle.stark_prover.proofs.BehindSteps.{behind_rounds}
use Rattle.stark_prover.proofs.ReplaySteps.{both_phases}
use Rattle.stark_prover.proofs.SizedSteps.{same_height}

-- The height of the trace and that of the committed one.
pub height_is : (is_zk : Bool) (degree_bits : ℕ) → zk_bits is_zk ≤ degree_bits → degree_bits ≡ log_height is_zk degree_bits + zk_bits is_zk
height_is is_zk degree_bits extended = omega (arith, extended)

-- The place of the preprocessed round, by the data or by what the scheme keeps of it.
place_again : {K T : Type 0} (is_zk : Bool) (preprocessed_data : Option (PreprocessedProverData K T)) → place_of is_zk (option_map (λ of_data. of_data.prover_data) preprocessed_data) ≡ place_of is_zk preprocessed_data
place_again is_zk None = refl
place_again is_zk (Some of_data) = refl

module _ {S F E C K T P X Y : Type 0} {ops : ProtocolOps S F E C K T P X Y} {i : Instance S F C K} {coordinates : E → List F} {preprocessed_data : Option (PreprocessedProverData K T)} {height degree_bits : ℕ} {trace : Trace F} {preprocessed : List (List F)}
    {commitment : K} {prover_data : T} {alpha : E} {alpha_witness : F} {state : C} {quotient : K} {quotient_data : T} {random : Option K} {random_data : Option T}
    (bound : IsBoundProof ops i coordinates preprocessed_data height degree_bits trace preprocessed commitment prover_data alpha alpha_witness state quotient quotient_data random random_data)
    {shape : StarkShape} (is_shape : shape ≡ described ops i degree_bits) {given : Option K} (is_given : given ≡ random) where
  -- No witness is found.
  pub work_refused : (error : GrindExhausted) → IsExhausted ops.sponge shape.ood_pow_bits (ood_events quotient given) state error → ProverFault ops i coordinates preprocessed_data height degree_bits trace (ProvingError.GrindExhausted error.bits)
  work_refused error exhausted =
      let bits_are : shape.ood_pow_bits ≡ i.ood_bits = ap (λ s. s.ood_pow_bits) is_shape in
      let at_bits = subst (λ bits. IsExhausted ops.sponge bits (ood_events quotient random) state error) bits_are (subst (λ r. IsExhausted ops.sponge shape.ood_pow_bits (ood_events quotient r) state error) is_given exhausted) in
      subst (λ bits. ProverFault ops i coordinates preprocessed_data height degree_bits trace (ProvingError.GrindExhausted bits)) (sym at_bits.bits_are) (in_work bound.made bound.randomization at_bits.none_passes)

  module _ {zeta z nz : E} {reads preprocessed_reads : Bool} {count : ℕ} {random_kept preprocessed_kept : Option T} (is_zeta : z ≡ zeta) (is_next : nz ≡ next_point ops.opening degree_bits zeta) (is_reads : reads ≡ opens_next_row i.main_next_columns)
      (is_preprocessed : preprocessed_reads ≡ opens_next_row i.preprocessed_next_columns) (is_count : count ≡ 2 ^ log_chunks_of ops i degree_bits) (is_random : random_kept ≡ random_data) (has_data : preprocessed_kept ≡ option_map (λ of_data. of_data.prover_data) preprocessed_data) where
    -- The rounds that are opened.
    rounds_are : rounds_of z (points_of z nz reads) (points_of z nz preprocessed_reads) count random_kept prover_data quotient_data preprocessed_kept ≡ opening_rounds ops i coordinates preprocessed_data height degree_bits trace zeta random_data prover_data quotient_data
    rounds_are =
        let next = next_point ops.opening degree_bits zeta in
        ap (λ x. rounds_of x (points_of x nz reads) (points_of x nz preprocessed_reads) count random_kept prover_data quotient_data preprocessed_kept) is_zeta ∙
        ap (λ x. rounds_of zeta (points_of zeta x reads) (points_of zeta x preprocessed_reads) count random_kept prover_data quotient_data preprocessed_kept) is_next ∙
        ap (λ b. rounds_of zeta (points_of zeta next b) (points_of zeta next preprocessed_reads) count random_kept prover_data quotient_data preprocessed_kept) is_reads ∙
        ap (λ b. rounds_of zeta (points_of zeta next (opens_next_row i.main_next_columns)) (points_of zeta next b) count random_kept prover_data quotient_data preprocessed_kept) is_preprocessed ∙
        ap (λ n. rounds_of zeta (points_of zeta next (opens_next_row i.main_next_columns)) (points_of zeta next (opens_next_row i.preprocessed_next_columns)) n random_kept prover_data quotient_data preprocessed_kept) is_count ∙
        ap (λ t. rounds_of zeta (points_of zeta next (opens_next_row i.main_next_columns)) (points_of zeta next (opens_next_row i.preprocessed_next_columns)) (2 ^ log_chunks_of ops i degree_bits) t prover_data quotient_data preprocessed_kept) is_random ∙
        ap (λ t. rounds_of zeta (points_of zeta next (opens_next_row i.main_next_columns)) (points_of zeta next (opens_next_row i.preprocessed_next_columns)) (2 ^ log_chunks_of ops i degree_bits) random_data prover_data quotient_data t) has_data

    -- The scheme refuses to open.
    pub opening_refused : {drawn_state : C} (witness : Option F) → (prover_ood_outcome ops.sponge shape quotient given state).answer ≡ Ok (zeta, witness) → drawn_state ≡ (prover_ood_outcome ops.sponge shape quotient given state).state → (error : ProvingError Y)
        → (error ≡ ProvingError.OutOfMemory) ⊎ IsSchemeFault (codes "opening") (ops.opening.scheme.RefusesOpening i.scheme (rounds_of z (points_of z nz reads) (points_of z nz preprocessed_reads) count random_kept prover_data quotient_data preprocessed_kept)
        drawn_state (place_of ops.opening.is_zk preprocessed_kept)) error → (error ≡ ProvingError.OutOfMemory) ⊎ ProverFault ops i coordinates preprocessed_data height degree_bits trace error
    opening_refused witness answer is_state error (inl memory) = inl memory
    opening_refused {drawn_state = drawn_state} witness answer is_state error (inr fault) =
        let refused = λ (rounds : List (RoundPoints E T)) (st : C) (place : Option ℕ). IsSchemeFault (codes "opening") (ops.opening.scheme.RefusesOpening i.scheme rounds st place) error in
        let drawn = λ (sh : StarkShape) (r : Option K). prover_ood_outcome ops.sponge sh quotient r state in
        let right : (drawn shape given) ≡ (drawn (described ops i degree_bits) random) = ap (λ sh. drawn sh given) is_shape ∙ ap (drawn (described ops i degree_bits)) is_given in
        let at_place = subst (λ place. refused (rounds_of z (points_of z nz reads) (points_of z nz preprocessed_reads) count random_kept prover_data quotient_data preprocessed_kept) drawn_state place) (ap (place_of ops.opening.is_zk) has_data ∙ place_again ops.opening.is_zk preprocessed_data) fault in
        let at_state = subst (λ st. refused (rounds_of z (points_of z nz reads) (points_of z nz preprocessed_reads) count random_kept prover_data quotient_data preprocessed_kept) st (place_of ops.opening.is_zk preprocessed_data)) (is_state ∙ ap (λ o. o.state) right) at_place in
        inr (in_opening bound.made bound.randomization (sym (ap (λ o. o.answer) right) ∙ answer)
        (subst (λ rounds. refused rounds (drawn (described ops i degree_bits) random).state (place_of ops.opening.is_zk preprocessed_data)) rounds_are at_state))

    module _ (key_is : i.key ≡ option_map key_of preprocessed_data) (extended : zk_bits ops.opening.is_zk ≤ degree_bits) (is_height : degree_bits ≡ height + zk_bits ops.opening.is_zk) (same : IfSome preprocessed_data (λ h. h.degree_bits ≡ degree_bits)) where
      abbrev next_zeta : E
      next_zeta = next_point ops.opening degree_bits zeta

      -- What stands behind the rounds, as they are opened.
      abbrev behind_list : List (OpenedRound F E K T)
      behind_list = (behind_rounds bound.made key_is zeta next_zeta bound.randomization).0

      stand_behind : StandBehind ops.opening.scheme ops.opening.fields.ring ops.opening.fields.embed i.scheme ops.opening.is_zk (rounds_of z (points_of z nz reads) (points_of z nz preprocessed_reads) count random_kept prover_data quotient_data preprocessed_kept)
          behind_list (true_openings ops i bound.columns preprocessed bound.chunks bound.random_columns zeta next_zeta)
      stand_behind =
          subst (λ r. StandBehind ops.opening.scheme ops.opening.fields.ring ops.opening.fields.embed i.scheme ops.opening.is_zk r behind_list (true_openings ops i bound.columns preprocessed bound.chunks bound.random_columns zeta next_zeta)) (sym rounds_are)
          (behind_rounds bound.made key_is zeta next_zeta bound.randomization).1

      pub behind : (made : List (OpenedRound F E K T)) × (view : OpeningsView E) × StandBehind ops.opening.scheme ops.opening.fields.ring ops.opening.fields.embed i.scheme ops.opening.is_zk
          (rounds_of z (points_of z nz reads) (points_of z nz preprocessed_reads) count random_kept prover_data quotient_data preprocessed_kept) made view
      behind = (behind_list, true_openings ops i bound.columns preprocessed bound.chunks bound.random_columns zeta next_zeta, stand_behind)

      module _ {drawn_state : C} {witness : F} (drawn : ood_outcome ops.sponge shape quotient given witness state ≡ succeeds zeta drawn_state Drawn) (no_work : shape.ood_pow_bits ≡ 0 → witness ≡ ops.opening.fields.base.zero) where
        -- what the opening answers
        abbrev AreValues : OpeningsView E → Type 0
        AreValues opened = (made : List (OpenedRound F E K T)) (view : OpeningsView E) → StandBehind ops.opening.scheme ops.opening.fields.ring ops.opening.fields.embed i.scheme ops.opening.is_zk
            (rounds_of z (points_of z nz reads) (points_of z nz preprocessed_reads) count random_kept prover_data quotient_data preprocessed_kept) made view → opened ≡ view

        abbrev IsAccepted : P → Type 0
        IsAccepted proof = (made : List (OpenedRound F E K T)) (view : OpeningsView E) → StandBehind ops.opening.scheme ops.opening.fields.ring ops.opening.fields.embed i.scheme ops.opening.is_zk
            (rounds_of z (points_of z nz reads) (points_of z nz preprocessed_reads) count random_kept prover_data quotient_data preprocessed_kept) made view → ops.opening.scheme.IsComplete i.scheme
            → ops.opening.scheme.Accepts i.scheme (map (true_claim ops.opening.fields.ring ops.opening.fields.embed) made) proof drawn_state (place_of ops.opening.is_zk preprocessed_kept)

        -- The proof.
        abbrev proof_with : OpeningsView E → P → ProofView K E P F
        proof_with opened proof = record {
          commitments = record { trace = commitment; quotient_chunks = quotient; random = random };
          opened_values = opened;
          opening_proof = proof;
          degree_bits = degree_bits;
          ood_pow_witness = witness;
          alpha_pow_witness = alpha_witness;
        }

        both : ood_outcome ops.sponge (described ops i degree_bits) quotient random witness state ≡ succeeds zeta drawn_state Drawn
        both =
            subst (λ r. ood_outcome ops.sponge (described ops i degree_bits) quotient r witness state ≡ succeeds zeta drawn_state Drawn) is_given
            (subst (λ sh. ood_outcome ops.sponge sh quotient given witness state ≡ succeeds zeta drawn_state Drawn) is_shape drawn)

        pub proof_made : (opened : OpeningsView E) (proof : P) → AreValues opened → IsAccepted proof → IsProofOfTrace ops i coordinates preprocessed_data height trace preprocessed (proof_with opened proof)
        proof_made opened proof values complete =
            let are = values behind_list (true_openings ops i bound.columns preprocessed bound.chunks bound.random_columns zeta next_zeta) stand_behind in
            let phases = both_phases ops.sponge (described ops i degree_bits) commitment (option_map (λ key. key.commitment) i.key) i.public_values alpha_witness quotient random witness (seeded ops i degree_bits) state drawn_state alpha zeta bound.made.bound.drawn both in
            record {
              columns = bound.columns;
              chunks = bound.chunks;
              random = bound.random_columns;
              trace_data = prover_data;
              quotient_data = quotient_data;
              random_data = random_data;
              alpha = alpha;
              zeta = zeta;
              degree_bits = is_height;
              fitting = ap (λ n. first_fault (2 ^ n) 0 (map (λ column. length column) i.periodic_columns)) (same_height ops.opening.is_zk height degree_bits is_height) ∙ bound.made.bound.ready.fitting;
              sized = bound.made.bound.ready.clear;
              committed = bound.made.bound.ready.committed;
              preprocessed = bound.made.bound.ready.preprocessed;
              key = key_is;
              quotient = bound.made.quotient_committed;
              randomization = bound.randomization;
              drawn = ap (λ outcome. outcome.answer) phases;
              opened = are;
              no_alpha_work = bound.made.bound.no_work;
              no_work = λ none. no_work (ap (λ s. s.ood_pow_bits) is_shape ∙ none);
              complete = λ is_complete.
                  subst (λ st. ops.opening.scheme.Accepts i.scheme (claims_of (natural_coset ops.opening.fields.base degree_bits) zeta next_zeta i.key commitment quotient random opened) proof st (preprocessed_place ops.opening.is_zk i.key)) (sym (ap (λ outcome. outcome.state) phases))
                  (behind_accepts bound.made key_is zeta next_zeta extended same bound.randomization opened are proof drawn_state
                  (subst (λ place. ops.opening.scheme.Accepts i.scheme (map (true_claim ops.opening.fields.ring ops.opening.fields.embed) behind_list) proof drawn_state place) (ap (place_of ops.opening.is_zk) has_data) (complete behind_list (true_openings ops i bound.columns preprocessed bound.chunks bound.random_columns zeta next_zeta) stand_behind is_complete)));
            }
