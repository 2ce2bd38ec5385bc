-- Digests in a proof, as the roots that they are of the trees below them.
use Rattle.std.specs.Prelude.{◌≡◌, ℕ, zero, suc, ◌<◌, List, [], ◌∷◌, map, length, slice_index, Some, refl}
use Rattle.std.specs.List.{slice_get}
use Rattle.std.proofs.Common.{ap}
use Rattle.stark_merkle.specs.declared.root.Root.{Root}

-- 32 bytes.
abbrev pub IsDigest : List ℕ → Type 0
IsDigest x = (length x ≡ 32) × ((place : ℕ) → slice_index x place < 256)

abbrev pub AreDigests : List (List ℕ) → Type 0
AreDigests xs = (place : ℕ) (x : List ℕ) → slice_get xs place ≡ Some x → IsDigest x

abbrev pub bytes_of : Root → List ℕ
bytes_of root = root.bytes

-- The bytes of each.
abbrev pub digests_of : List Root → List (List ℕ)
digests_of roots = map bytes_of roots

-- The roots of these bytes.
abbrev pub roots_of : (xs : List (List ℕ)) → AreDigests xs → List Root
roots_of [] are = []
roots_of (x ∷ xs) are = record { bytes = x; sized = (are zero x refl).0; in_range = (are zero x refl).1 } ∷ roots_of xs (λ place y is. are (suc place) y is)

pub digests_of_roots : (xs : List (List ℕ)) (are : AreDigests xs) → digests_of (roots_of xs are) ≡ xs
digests_of_roots [] are = refl
digests_of_roots (x ∷ xs) are = ap (λ t. x ∷ t) (digests_of_roots xs (λ place y is. are (suc place) y is))
