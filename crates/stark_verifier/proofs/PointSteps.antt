-- The points of a subgroup are where its vanishing polynomial is zero.
use Rattle.std.proofs.Common.{◌≡◌, ◌∙◌, ◌^◌, sym, subst, ap, ℕ, List, map, length, Option, None, Some}
use Rattle.std.proofs.lemmas.Simd.{map-map}
use Rattle.stark_support.specs.ListFacts.{same_maps}
use Rattle.stark_support.specs.Ring.{RingOps, FieldLaws}
use Rattle.stark_support.specs.Powers.{power}
use Rattle.stark_support.specs.Embedding.{IsEmbedding, embedded_two_adic}
use Rattle.stark_support.specs.TwoAdic.{TwoAdicLaws}
use Rattle.stark_support.specs.Coset.{TwoAdicCoset, IsTwoAdicCoset, coset_point, coset_size, coset_vanishing}
use Rattle.stark_support.specs.CosetFacts.{only_on_points, zero_on_points}
use Rattle.stark_support.specs.Subgroup.{embedded_coset}
use Rattle.stark_support.specs.Periodic.{first_fault}
use Rattle.stark_support.specs.declared.periodic.PeriodicColumnShapeError.{PeriodicColumnShapeError}
use Rattle.stark_support.specs.SubgroupFacts.{embedded_valid}
use Rattle.stark_transcript.specs.declared.error.VerificationError.{VerificationError}
use Rattle.stark_proof.specs.ProofView.{ProofView}
use Rattle.stark_protocol.specs.Acceptance.{IsPointOfH, periodic_values}
use Rattle.stark_protocol.specs.FirstFault.{PointFault, in_columns, in_domain}
use Rattle.stark_protocol.specs.Instance.{Instance, ProtocolOps, log_height, trace_coset}
use Rattle.stark_verifier.specs.Checks.{IsSampled}
use Rattle.stark_verifier.specs.Constraints.{LiesOutside}
use Rattle.stark_verifier.specs.declared.shape.ProofDomains.{ProofDomains}

module _ {F E : Type 0} {base : RingOps F} {ring : RingOps E} {inverse : E → E} {embed : F → E} (laws : FieldLaws ring inverse) (embeds : IsEmbedding base ring embed)
    (adicity : ℕ) (root : ℕ → F) (generator : F) (two_adic : TwoAdicLaws base adicity root generator)
    (coset : TwoAdicCoset F) (valid : IsTwoAdicCoset base adicity coset) (unshifted : coset.shift ≡ base.one) (x : E) where
  point_is_power : (i : ℕ) → coset_point ring (λ k. embed (root k)) (embedded_coset embed coset) i ≡ power ring (embed (root coset.log_size)) i
  point_is_power i =
      let y = power ring (embed (root coset.log_size)) i in
      ap (λ t. ring.mul t y) (ap embed unshifted ∙ embeds.keeps.one) ∙ laws.of_ring.mul_comm ring.one y ∙ laws.of_ring.mul_one y

  pub zero_at_point : (i : ℕ) × (x ≡ power ring (embed (root coset.log_size)) i) → coset_vanishing ring (λ c. c) inverse (coset_size coset) (embed coset.shift) x ≡ ring.zero
  zero_at_point point =
      ap (coset_vanishing ring (λ c. c) inverse (coset_size coset) (embed coset.shift)) (point.1 ∙ sym (point_is_power point.0)) ∙
      zero_on_points laws adicity (λ k. embed (root k)) (embed generator) (embedded_two_adic embeds adicity root generator two_adic) (embedded_coset embed coset)
      (embedded_valid laws embeds adicity root generator two_adic coset valid) point.0

  pub point_where_zero : coset_vanishing ring (λ c. c) inverse (coset_size coset) (embed coset.shift) x ≡ ring.zero → (i : ℕ) × (x ≡ power ring (embed (root coset.log_size)) i)
  point_where_zero zero =
      let obtained = only_on_points laws adicity (λ k. embed (root k)) (embed generator) (embedded_two_adic embeds adicity root generator two_adic) (embedded_coset embed coset)
      (embedded_valid laws embeds adicity root generator two_adic coset valid) x zero in
      (obtained.0, obtained.2 ∙ point_is_power obtained.0)

-- The lengths of columns, as they lie in memory.
module _ {V A : Type 0} (items : V → List A) (count : V → ℕ) (counted : (v : V) → count v ≡ length (items v)) (columns : List V) (lists : List (List A)) (listed : map items columns ≡ lists) where
  same_lengths : map count columns ≡ map (λ column. length column) lists
  same_lengths = same_maps count (λ v. length (items v)) counted columns ∙ sym (map-map (λ column. length column) items columns) ∙ ap (map (λ column. length column)) listed

  pub same_fault : (n m : ℕ) (fault : Option PeriodicColumnShapeError) → n ≡ m → first_fault n 0 (map count columns) ≡ fault → first_fault m 0 (map (λ column. length column) lists) ≡ fault
  same_fault n m fault same obtained = sym (ap (first_fault n 0) same_lengths ∙ ap (λ (k : ℕ). first_fault k 0 (map (λ column. length column) lists)) same) ∙ obtained

  -- What is computed of each column is computed of the lists.
  pub same_values : {B : Type 0} (f : List A → B) (others : List V) (values : List B) → others ≡ columns → values ≡ map (λ v. f (items v)) others → values ≡ map f lists
  same_values f others values same computed = computed ∙ ap (map (λ v. f (items v))) same ∙ sym (map-map f items columns) ∙ ap (map f) listed

-- The first fault of a point, by another name of either test.
pub point_fault : {X Stated Inside : Type 0} {obtained fault : Option PeriodicColumnShapeError} {error : VerificationError X} → (Stated → Inside) → (Inside → Stated) → ((e : PeriodicColumnShapeError) → obtained ≡ Some e → fault ≡ Some e)
    → PointFault Stated obtained error → PointFault Inside fault error
point_fault into out same (in_domain stated) = in_domain (into stated)
point_fault into out same (in_columns outside is) = in_columns (λ inside. outside (out inside)) (same _ is)

-- What is found of a point beside a domain is said of H, which that domain is.
module _ {S F E C K T P X Y D : Type 0} {ops : ProtocolOps S F E C K T P X Y} {coset_of : D → TwoAdicCoset F} {i : Instance S F C K} {p : ProofView K E P F} {domains : ProofDomains D}
    (is_trace : coset_of domains.trace ≡ trace_coset ops.opening.fields.base ops.opening.is_zk p.degree_bits) (zeta : E) where
  pub sampled_of : (IsPointOfH ops.opening.fields (coset_of domains.trace).log_size zeta → ⊥)
      → LiesOutside ops.opening.fields.ring ops.opening.fields.inverse ops.opening.fields.embed (coset_of domains.trace) zeta
      → first_fault (coset_size (coset_of domains.trace)) 0 (map (λ column. length column) i.periodic_columns) ≡ None
      → (values : List E) → values ≡ periodic_values ops.opening.fields i.periodic_columns (coset_of domains.trace).log_size zeta → IsSampled ops coset_of i p domains zeta values
  sampled_of outside nonzero fitting values are =
      let height_is : (coset_of domains.trace).log_size ≡ log_height ops.opening.is_zk p.degree_bits = ap (λ (coset : TwoAdicCoset F). coset.log_size) is_trace in record {
        outside = subst (λ (k : ℕ). IsPointOfH ops.opening.fields k zeta → ⊥) height_is outside;
        nonzero = nonzero;
        fitting = subst (λ (k : ℕ). first_fault (2 ^ k) 0 (map (λ column. length column) i.periodic_columns) ≡ None) height_is fitting;
        are_values = are ∙ ap (λ (k : ℕ). periodic_values ops.opening.fields i.periodic_columns k zeta) height_is;
      }
