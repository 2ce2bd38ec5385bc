-- The witness that a prover finds before it draws.
use Rattle.std.proofs.Common.{◌≡◌, ◌≢◌, ◌∙◌, ℕ, Option, Some, ap, sym}
use Rattle.stark_support.specs.Sponge.{GrindingLaws, SpongeOps}
use Rattle.stark_lookup_trace.specs.declared.columns.LookupDraws.{LookupDraws}
use Rattle.stark_lookup.specs.LookupDraws.{IsGroundWith, after_both, bound_by, drawn_from}
use Rattle.stark_lookup.specs.declared.draws.LookupBinding.{LookupBinding}

module _ {C F E K : Type 0} (ops : SpongeOps C F E K) {ground : C → ℕ → Option F} (laws : GrindingLaws ops.passes ops.after_check ground) (no_work : F) (b : LookupBinding K F) (bits : ℕ) (start bound end : C) (draws : LookupDraws E) (witness : F) (is_bound : bound ≡ bound_by ops b start) where
  -- What a search finds passes.
  pub with_work : bits ≢ 0 → ground bound bits ≡ Some witness → (after : C) → after ≡ ops.after_check bound bits witness → draws ≡ drawn_from ops.draw ops.after_draw after → end ≡ after_both ops.after_draw after
      → IsGroundWith ops no_work b bits start draws witness end
  with_work some found after is_after drawn left =
      let kept : after ≡ ops.after_check (bound_by ops b start) bits witness = is_after ∙ ap (λ s. ops.after_check s bits witness) is_bound in
      record {
        canonical = λ none. absurd (some none);
        works = ap (λ s. ops.passes s bits witness) (sym is_bound) ∙ laws.ground_passes bound bits witness found;
        drawn = drawn ∙ ap (drawn_from ops.draw ops.after_draw) kept;
        left = left ∙ ap (after_both ops.after_draw) kept;
      }
