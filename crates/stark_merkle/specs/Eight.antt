-- Eight rows at places of one tree, and their paths.
use Rattle.std.specs.Prelude.{◌≡◌, ℕ, ◌+◌, ◌*◌, ◌%◌, ◌^◌, ◌<◌, List, [], cond, eqb, length, map, slice_index, slice_index_or}
use Rattle.std.specs.Borrow.{Bor}
use Rattle.stark_merkle.specs.Tree.{LeadsTo, TreeDigests, led}

-- Path i.
abbrev pub path_at : List (Bor (List (List ℕ))) → ℕ → List (List ℕ)
path_at paths i = slice_index_or (map (λ path. path.now) paths) i []

abbrev pub HaveDepth : ℕ → List (Bor (List (List ℕ))) → Type 0
HaveDepth depth paths = (i : ℕ) → i < 8 → length (path_at paths i) ≡ depth

abbrev pub HavePlaces : ℕ → List ℕ → Type 0
HavePlaces depth indices = (i : ℕ) → i < 8 → slice_index indices i < 2 ^ depth

-- Each row's path leads from its place to the root.
abbrev pub EightLead : TreeDigests → List ℕ → ℕ → List ℕ → List (List ℕ) → List (Bor (List (List ℕ))) → Type 0
EightLead hash root depth indices rows paths =
    (i : ℕ) → i < 8 → LeadsTo hash root depth (slice_index indices i) (slice_index_or rows i []) (path_at paths i)

-- Of a digest at a place and the one beside it, the one that comes first: that of the even place.
abbrev pub first_of : {H : Type 0} → ℕ → H → H → H
first_of place digest beside = cond (eqb (place % 2) 0) digest beside

-- Each of the first n digests with the one beside it on its path at a level, in the order of their places.
abbrev pub ArePairs : ℕ → List ℕ → List (List ℕ) → List (Bor (List (List ℕ))) → ℕ → List (List ℕ) → Type 0
ArePairs n places digests paths level pairs =
    (i : ℕ) → i < n
    → (slice_index_or pairs (2 * i) [] ≡ first_of (slice_index places i) (slice_index_or digests i []) (slice_index_or (path_at paths i) level []))
    × (slice_index_or pairs (2 * i + 1) [] ≡ first_of (slice_index places i) (slice_index_or (path_at paths i) level []) (slice_index_or digests i []))

-- Where each path leads from its start.
abbrev pub AreLed : TreeDigests → List ℕ → List (List ℕ) → List (Bor (List (List ℕ))) → List (List ℕ) → Type 0
AreLed hash places starts paths roots =
    (i : ℕ) → i < 8 → slice_index_or roots i [] ≡ led hash.node (slice_index places i) (slice_index_or starts i []) (path_at paths i)
