-- The quotient's domain, how many chunks it is cut into, and where these stand.
use Rattle.std.specs.Prelude.{ℕ, zero, suc, ◌+◌, ◌^◌, nat_le, if◌then◌else◌, List, map, Option}
use Rattle.std.specs.List.{range_with_len}
use Rattle.stark_support.specs.Ring.{RingOps}
use Rattle.stark_support.specs.Coset.{TwoAdicCoset, coset_point}
use Rattle.stark_air.specs.Tree.{Constraint}
use Rattle.stark_parts.specs.Sizing.{constraint_degree, quotient_multiple}

-- The least k from some number on, within so many more, with n at most 2 ^ k.
unfoldable pub log_ceiling_from : ℕ → ℕ → ℕ → ℕ
log_ceiling_from zero k n = k
log_ceiling_from (suc more) k n = if nat_le n (2 ^ k) then k else log_ceiling_from more (suc k) n

-- The least k with n at most 2 ^ k.
unfoldable pub log_ceiling : ℕ → ℕ
log_ceiling n = log_ceiling_from n 0 n

-- The logarithm of the number of parts of an AIR's quotient, of its constraints and its author's bound on degrees.
unfoldable pub log_parts_of : {F : Type 0} → List (Constraint F) → Option ℕ → ℕ → ℕ
log_parts_of constraints hint is_zk = log_ceiling (quotient_multiple (constraint_degree 0 constraints hint) is_zk)

-- The domain of a quotient of 2 ^ log_parts parts: as many times larger than the coset, and shifted by the field's generator.
abbrev pub quotient_coset : {F : Type 0} → RingOps F → F → TwoAdicCoset F → ℕ → TwoAdicCoset F
quotient_coset base generator coset log_parts = record { shift = base.mul coset.shift generator; log_size = coset.log_size + log_parts }

-- The shifts of the domains of 2 ^ log_chunks chunks, which are the parts of a coset: its first points.
abbrev pub chunk_shifts : {F E : Type 0} → RingOps F → (ℕ → F) → (F → E) → TwoAdicCoset F → ℕ → List E
chunk_shifts base root embed coset log_chunks = map (λ i. embed (coset_point base root coset i)) (range_with_len 0 (2 ^ log_chunks))
