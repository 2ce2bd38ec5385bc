-- How many columns and public values an AIR with lookups has.
use Rattle.std.specs.Prelude.{ℕ, ◌+◌, ◌*◌, ◌^◌, ◌&&◌, nat_lt, Bool, true, false, max}
use Rattle.stark_lookup_extension.specs.declared.sizes.OwnCounts.{OwnCounts}

-- A tuple's elements, and its lookup's number where there are several.
abbrev pub key_width : Bool → ℕ → ℕ
key_width true width = width + 1
key_width false width = width

-- The AIR's own columns, and the coordinates of a helper for each group and of the running sum.
abbrev pub columns_with : ℕ → ℕ → ℕ → ℕ
columns_with dimension main groups = main + (groups * dimension + dimension)

-- The AIR's own public values, and the coordinates of gamma and of beta, beta^2, ..
abbrev pub values_with : ℕ → ℕ → ℕ → ℕ
values_with dimension public_values width = public_values + max width 1 * dimension

-- both can be counted
abbrev pub sizes_fit : ℕ → OwnCounts → ℕ → Bool
sizes_fit dimension own groups = nat_lt (columns_with dimension own.main groups) (2 ^ 64) && nat_lt (values_with dimension own.public_values own.key_width) (2 ^ 64)
