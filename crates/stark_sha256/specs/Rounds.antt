-- Rounds of several texts side by side.
use Rattle.std.specs.Prelude.{◌≡◌, ◌<◌, ℕ, List}
use Rattle.sha2.specs.Sha256.{IsRoundsAt, IsWindow, rounds, schedule}
use Rattle.stark_sha256.specs.Lanes.{lane}

-- In each of n lanes, of whatever block and hash values: where window and working variables stand at round `from`, these stand at round `to`.
abbrev pub AdvanceRounds : ℕ → List (List ℕ) → List (List ℕ) → ℕ → List (List ℕ) → List (List ℕ) → ℕ → Type 0
AdvanceRounds n window v from next_window result to = (j : ℕ) → j < n → (b h : List ℕ) → IsRoundsAt b h (lane j window) (lane j v) from
    → IsRoundsAt b h (lane j next_window) (lane j result) to

-- Rounds that advance over a window that has a block's own words.
abbrev pub AdvanceFirstRounds : ℕ → List (List ℕ) → List (List ℕ) → ℕ → List (List ℕ) → ℕ → Type 0
AdvanceFirstRounds n window v from result to = (j : ℕ) → j < n → (b h : List ℕ) → IsWindow (lane j window) (schedule b 48) 16
    → lane j v ≡ rounds h (schedule b 48) from → lane j result ≡ rounds h (schedule b 48) to
