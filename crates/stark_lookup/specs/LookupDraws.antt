-- The draws of lookups: what is observed before them, and the public values that they become.
use Rattle.std.specs.Prelude.{◌≡◌, ℕ, zero, suc, ◌-◌, true, false, List, [], ◌∷◌, flat_map, if◌then◌else◌, Option, Some, None}
use Rattle.std.specs.Option.{option_copied}
use Rattle.stark_support.specs.Ring.{RingOps}
use Rattle.stark_support.specs.Seed.{number}
use Rattle.stark_support.specs.Sponge.{SpongeOps, observed_bytes, replay}
use Rattle.stark_transcript.specs.Replay.{constraint_events}
use Rattle.stark_lookup_trace.specs.declared.columns.LookupDraws.{LookupDraws}
use Rattle.stark_lookup.specs.declared.draws.LookupBinding.{LookupBinding}

-- Gamma is drawn, and then beta.
abbrev pub drawn_from : {C E : Type 0} → (C → E) → (C → C) → C → LookupDraws E
drawn_from draw after state = record { gamma = draw state; beta = draw (after state) }

abbrev pub after_both : {C : Type 0} → (C → C) → C → C
after_both after state = after (after state)

module _ {C F E K : Type 0} (ops : SpongeOps C F E K) where
  -- The number of rows by its logarithm, as 8 bytes; the commitment to the AIR's own columns; that to the preprocessed ones, where there
  -- are some; the public values.
  abbrev pub bound_to : ℕ → K → Option K → List F → C → C
  bound_to degree_bits main key public_values start = replay ops (constraint_events main key public_values) (observed_bytes ops.observe_element ops.from_byte (number degree_bits) start)

  abbrev pub bound_by : LookupBinding K F → C → C
  bound_by b start = bound_to b.degree_bits b.main.now (option_copied b.key) b.public_values.now start

  -- Both are drawn after a check of the work that passes.
  abbrev pub checked_draws : ℕ → F → C → Option (LookupDraws E)
  checked_draws bits witness state = (if ops.passes state bits witness then Some (drawn_from ops.draw ops.after_draw (ops.after_check state bits witness)) else None)

  -- The state after that.
  abbrev pub after_draws : ℕ → F → C → C
  after_draws bits witness state = (if ops.passes state bits witness then after_both ops.after_draw (ops.after_check state bits witness) else ops.after_check state bits witness)

  -- What is drawn of a state that has observed what the draws are bound to, and what is left.
  abbrev pub bound_draws : LookupBinding K F → ℕ → F → C → Option (LookupDraws E)
  bound_draws b bits witness start = checked_draws bits witness (bound_by b start)

  abbrev pub after_bound_draws : LookupBinding K F → ℕ → F → C → C
  after_bound_draws b bits witness start = after_draws bits witness (bound_by b start)

-- A witness is found, which is zero where no work is required; with it a check draws the same, and leaves the same state.
pub record IsGroundWith {C F E K : Type 0} (ops : SpongeOps C F E K) (no_work : F) (b : LookupBinding K F) (bits : ℕ) (start : C) (draws : LookupDraws E) (witness : F) (end : C) : Type 0 where
  pub canonical : bits ≡ 0 → witness ≡ no_work
  pub works : ops.passes (bound_by ops b start) bits witness ≡ true
  pub drawn : draws ≡ drawn_from ops.draw ops.after_draw (ops.after_check (bound_by ops b start) bits witness)
  pub left : end ≡ after_both ops.after_draw (ops.after_check (bound_by ops b start) bits witness)

-- Or no element is one.
abbrev pub IsGround : {C F E K : Type 0} → SpongeOps C F E K → F → LookupBinding K F → ℕ → C → Option (LookupDraws E × F) → C → Type 0
IsGround ops no_work b bits start (Some found) end = IsGroundWith ops no_work b bits start found.0 found.1 end
IsGround {F = F} ops no_work b bits start None end = (witness : F) → ops.passes (bound_by ops b start) bits witness ≡ false

-- x, x beta, x beta^2, .., a number of them
abbrev pub powers_from : {E : Type 0} → RingOps E → E → E → ℕ → List E
powers_from ring beta x zero = []
powers_from ring beta x (suc n) = x ∷ powers_from ring beta (ring.mul x beta) n

-- The coordinates of gamma, and of beta, beta^2, .. up to the width less one.
abbrev pub drawn_values : {F E : Type 0} → RingOps E → (E → List F) → ℕ → LookupDraws E → List F
drawn_values ring coordinates width draws = flat_map coordinates (draws.gamma ∷ powers_from ring draws.beta draws.beta (width - 1))
