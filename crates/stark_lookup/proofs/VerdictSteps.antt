-- From what the verifier of the extended AIR answers to the verdict on a proof with lookups.
use Rattle.std.proofs.Common.{◌≡◌, ◌⊎◌, ◌∙◌, ◌++◌, ap, refl, sym, subst, inl, inr, ℕ, Bool, List, Option, Some, None, option_map, true, false, if◌then◌else◌}
use Rattle.stark_support.specs.Scheme.{SchemeLaws}
use Rattle.stark_parts.specs.declared.config.StarkConfig.{StarkConfig}
use Rattle.stark_proof.specs.ProofView.{proof_view}
use Rattle.stark_protocol.specs.Acceptance.{Accepted}
use Rattle.stark_protocol.specs.FirstFault.{FirstFault}
use Rattle.stark_protocol.specs.Instance.{Instance}
use Rattle.stark_protocol.specs.declared.preprocessed.PreprocessedVerifierKey.{PreprocessedVerifierKey}
use Rattle.stark_transcript.specs.declared.error.VerificationError.{VerificationError}
use Rattle.stark_transcript.specs.declared.error.VerificationError.TheVariants as inner
use Rattle.stark_two_part.specs.declared.in_parts.InParts.{InParts}
use Rattle.stark_two_part.specs.declared.in_parts.InParts.TheVariants.{Parts, Whole}
use Rattle.stark_two_part.specs.declared.pcs.TwoPartPcs.{TwoPartPcs}
use Rattle.stark_verifier.specs.SoundAcceptance.{BreakingNeedsBadChallenges}
use Rattle.stark_verifier.proofs.Excluded.{excluded}
use Rattle.stark_lookup_trace.specs.declared.columns.LookupDraws.{LookupDraws}
use Rattle.stark_lookup.specs.LookupDraws.{after_both, after_draws, bound_to, checked_draws, drawn_from, drawn_values}
use Rattle.stark_lookup.specs.LookupErrors.{of_verification}
use Rattle.stark_lookup.specs.LookupSound.{FalseNeedsBadDraws}
use Rattle.stark_lookup.specs.LookupVerdict.{IsCanonical, IsStarted, LookupAccepted, LookupFault, LookupGiven, LookupOps, bound_state, draws_after, extended_instance, extended_proof, in_extended, in_trace, in_witness, in_work, in_parts_from, lookups_given, values_after, whole_key, worked_state}
use Rattle.stark_lookup.specs.OwnLookups.{IsExtended}
use Rattle.stark_lookup.specs.declared.error.LookupError.{LookupError}
use Rattle.stark_lookup.specs.declared.error.LookupError.TheVariants.{InvalidLookupPowWitness, OutOfMemory}
use Rattle.stark_lookup.specs.declared.proof.LookupProof.{LookupProof}
use Rattle.stark_lookup.proofs.SoundSteps.{AreLawful, needs_bad_draws}

same_main : {K : Type 0} {t : InParts K} {k l m n : K} → t ≡ Parts k l → t ≡ Parts m n → k ≡ m
same_main e f = cc

not_both : {K : Type 0} {t : InParts K} {k l m : K} → t ≡ Whole k → t ≡ Parts l m → ⊥
not_both e f = absurd (cc)

not_passed : {A : Type 0} (b : Bool) (x : A) → (if b then Some x else None) ≡ None → b ≡ false
not_passed true x e = absurd (cc)
not_passed false x e = refl

has_passed : {A : Type 0} (b : Bool) (x y : A) → (if b then Some x else None) ≡ Some y → (b ≡ true) × (y ≡ x)
has_passed true x y e = (refl, (cc))
has_passed false x y e = absurd (cc)

where_true : {A : Type 0} (b : Bool) (x y : A) → b ≡ true → (if b then x else y) ≡ x
where_true b x y is = ap (λ c. if c then x else y) is

bound_is : {S F E C K T P X Y : Type 0} (ops : LookupOps S F E C K T P X Y) (given : LookupGiven S F E C K) (p : LookupProof K E P F) (main : K) (made : StarkConfig (TwoPartPcs S) E C) (keys : Option K) (width : ℕ)
    → keys ≡ option_map (λ key. key.commitment) given.key → made ≡ in_parts_from given.config width given.config.challenger
    → bound_to ops.sponge p.inner.degree_bits main keys given.public_values made.challenger ≡ bound_state ops given p main
bound_is {S = S} {E = E} {C = C} ops given p main made keys width keys_are made_is =
    ap (λ ks. bound_to ops.sponge p.inner.degree_bits main ks given.public_values made.challenger) keys_are
    ∙ ap (λ (c : StarkConfig (TwoPartPcs S) E C). bound_to ops.sponge p.inner.degree_bits main (option_map (λ key. key.commitment) given.key) given.public_values c.challenger) made_is

module _ {S F E C K T P X Y : Type 0} {ops : LookupOps S F E C K T P X Y} {given : LookupGiven S F E C K} {p : LookupProof K E P F} where
  -- ---- what is accepted has no fault

  module _ (laws : SchemeLaws ops.inner.opening.scheme) where
    pub no_fault : {error : LookupError X} → LookupAccepted ops given p → LookupFault ops given p error → ⊥
    no_fault accepted (in_trace whole) = not_both whole accepted.parted
    no_fault accepted (in_witness parted other) = other accepted.canonical
    no_fault accepted (in_work {main = main} {others = others} parted canonical fails) =
        let same : main ≡ accepted.main = same_main parted accepted.parted in
        let passes = subst (λ k. ops.sponge.passes (bound_state ops given p k) given.config.lookup_proof_of_work_bits p.lookup_pow_witness ≡ true) (sym same) accepted.works in
        absurd (cc)
    no_fault accepted (in_extended {main = main} {others = others} {error = error} parted canonical passes fault) =
        let same : accepted.main ≡ main = same_main accepted.parted parted in
        excluded ops.inner laws (extended_instance ops given p main) (extended_proof ops given p)
        (subst (λ k. Accepted ops.inner (extended_instance ops given p k) (extended_proof ops given p)) same accepted.extended) fault

    pub refused_exactly : {error : LookupError X} → (error ≡ OutOfMemory) ⊎ LookupFault ops given p error → (error ≡ OutOfMemory) ⊎ (LookupAccepted ops given p → ⊥)
    refused_exactly (inl memory) = inl memory
    refused_exactly (inr fault) = inr (λ accepted. no_fault accepted fault)

  -- ---- how it begins

  module _ (main others : K) (parted : p.inner.commitments.trace ≡ Parts main others) (canonical : IsCanonical ops given p) (made : StarkConfig (TwoPartPcs S) E C) (keys : Option K) (width : ℕ)
      (keys_are : keys ≡ option_map (λ key. key.commitment) given.key) (made_is : made ≡ in_parts_from given.config width given.config.challenger) (result : Option (LookupDraws E))
      (answer : result ≡ checked_draws ops.sponge given.config.lookup_proof_of_work_bits p.lookup_pow_witness (bound_to ops.sponge p.inner.degree_bits main keys given.public_values made.challenger)) where
    pub work_fault : result ≡ None → LookupFault ops given p InvalidLookupPowWitness
    work_fault none =
        let bits = given.config.lookup_proof_of_work_bits in
        let bound = bound_to ops.sponge p.inner.degree_bits main keys given.public_values made.challenger in
        let is = bound_is ops given p main made keys width keys_are made_is in
        in_work parted canonical (subst (λ (c : C). ops.sponge.passes c bits p.lookup_pow_witness ≡ false) is
        (not_passed (ops.sponge.passes bound bits p.lookup_pow_witness) (drawn_from ops.sponge.draw ops.sponge.after_draw (ops.sponge.after_check bound bits p.lookup_pow_witness)) (sym answer ∙ none)))

    pub started_from : (draws : LookupDraws E) (state : C) → width ≡ given.air.own.declaration.columns.width → result ≡ Some draws
        → state ≡ after_draws ops.sponge given.config.lookup_proof_of_work_bits p.lookup_pow_witness (bound_to ops.sponge p.inner.degree_bits main keys given.public_values made.challenger)
        → IsStarted ops given p (record made { challenger = state }) draws
    started_from draws state wide some state_is =
        let bits = given.config.lookup_proof_of_work_bits in
        let witness = p.lookup_pow_witness in
        let bound = bound_to ops.sponge p.inner.degree_bits main keys given.public_values made.challenger in
        let is = bound_is ops given p main made keys width keys_are made_is in
        let passed = has_passed (ops.sponge.passes bound bits witness) (drawn_from ops.sponge.draw ops.sponge.after_draw (ops.sponge.after_check bound bits witness)) draws (sym answer ∙ some) in
        let both = after_both ops.sponge.after_draw (ops.sponge.after_check bound bits witness) in
        let left : state ≡ both = state_is ∙ where_true (ops.sponge.passes bound bits witness) both (ops.sponge.after_check bound bits witness) passed.0 in
        let same : both ≡ after_both ops.sponge.after_draw (worked_state ops given p main) = ap (λ (c : C). after_both ops.sponge.after_draw (ops.sponge.after_check c bits witness)) is in
        record {
          main = main;
          others = others;
          parted = parted;
          canonical = canonical;
          works = subst (λ (c : C). ops.sponge.passes c bits witness ≡ true) is passed.0;
          begins = ap (λ (c : StarkConfig (TwoPartPcs S) E C). record c { challenger = state }) made_is ∙ ap (λ w. in_parts_from given.config w state) wide ∙ ap (in_parts_from given.config given.air.own.declaration.columns.width) (left ∙ same);
          drawn = passed.1 ∙ ap (λ (c : C). drawn_from ops.sponge.draw ops.sponge.after_draw (ops.sponge.after_check c bits witness)) is;
        }

  -- ---- the proof of the extended AIR

  module _ {config : StarkConfig (TwoPartPcs S) E C} {draws : LookupDraws E} (started : IsStarted ops given p config draws) (values : List F) (key : Option (PreprocessedVerifierKey (InParts K)))
      (is_extended : IsExtended ops.inner.opening.fields.dimension ops.inner.opening.fields.ring ops.inner.opening.fields.basis ops.coordinates ops.inner.opening.fields.base given.air)
      (values_are : values ≡ given.public_values ++ drawn_values ops.inner.opening.fields.ring ops.coordinates given.air.key_width draws) (key_is : key ≡ option_map whole_key given.key) where
    abbrev asked : Instance (TwoPartPcs S) F C (InParts K)
    asked = ops.instance config given.air.extended values key

    same_instance : asked ≡ extended_instance ops given p started.main
    same_instance =
        let ring = ops.inner.opening.fields.ring in
        let width = lookups_given ops given p in
        let begin = in_parts_from given.config given.air.own.declaration.columns.width (after_both ops.sponge.after_draw (worked_state ops given p started.main)) in
        let with_width : drawn_values ring ops.coordinates given.air.key_width draws ≡ drawn_values ring ops.coordinates width.width draws = ap (λ w. drawn_values ring ops.coordinates w draws) is_extended.key_width in
        let with_draws : drawn_values ring ops.coordinates width.width draws ≡ drawn_values ring ops.coordinates width.width (draws_after ops given p started.main) = ap (drawn_values ring ops.coordinates width.width) started.drawn in
        let values_same : values ≡ values_after ops given p started.main = values_are ∙ ap (λ vs. given.public_values ++ vs) (with_width ∙ with_draws) in
        ap (λ c. ops.instance c given.air.extended values key) started.begins ∙ ap (λ vs. ops.instance begin given.air.extended vs key) values_same
        ∙ ap (λ k. ops.instance begin given.air.extended (values_after ops given p started.main) k) key_is

    pub accepted_with : Accepted ops.inner asked (proof_view p.inner) → LookupAccepted ops given p
    accepted_with accepted = record {
      main = started.main;
      others = started.others;
      parted = started.parted;
      canonical = started.canonical;
      works = started.works;
      extended = subst (λ i. Accepted ops.inner i (proof_view p.inner)) same_instance accepted;
    }

    pub sound_with : AreLawful ops → Accepted ops.inner asked (proof_view p.inner) → BreakingNeedsBadChallenges ops.inner asked (proof_view p.inner) → FalseNeedsBadDraws ops given p
    sound_with lawful accepted breaking main others alpha zeta parted answered own more chunks take =
        let same : asked ≡ extended_instance ops given p main = same_instance ∙ ap (extended_instance ops given p) (same_main started.parted parted) in
        needs_bad_draws ops given p main lawful is_extended (subst (λ i. Accepted ops.inner i (proof_view p.inner)) same accepted) own more chunks alpha zeta take answered
        (subst (λ i. BreakingNeedsBadChallenges ops.inner i (proof_view p.inner)) same breaking)

    pub refused_with : {error : VerificationError X} → (error ≡ inner.OutOfMemory) ⊎ FirstFault ops.inner asked (proof_view p.inner) error
        → (of_verification error ≡ OutOfMemory) ⊎ LookupFault ops given p (of_verification error)
    refused_with (inl memory) = inl (ap of_verification memory)
    refused_with {error = error} (inr fault) = inr (in_extended started.parted started.canonical started.works (subst (λ i. FirstFault ops.inner i (proof_view p.inner) error) same_instance fault))
