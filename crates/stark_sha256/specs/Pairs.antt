-- The digest of two digests: SHA-256's compression function from a starting value of the trees' own.
use Rattle.std.specs.Prelude.{◌+◌, ◌*◌, ℕ, List, [], ◌∷◌, ◌++◌, slice_index_or}
use Rattle.sha2.specs.Sha256.{compress, digest_bytes}

-- The words of the digest by SHA-256 of the text "Voskligan: a node of a tree".
abbrev pub pair_start : List ℕ
pair_start =
    0xDC2227CC ∷ 0x1BDE2FE4 ∷ 0xACE08707 ∷ 0x6153B1DB ∷
    0xE865567D ∷ 0xE49A000B ∷ 0x6D03969B ∷ 0xC3605B12 ∷ []

-- The state after the block that two digests of 32 bytes are, in bytes, the high one of each word first.
unfoldable pub pair_digest : List ℕ → List ℕ → List ℕ
pair_digest left right = digest_bytes (compress pair_start (left ++ right)) 8

-- The block of the pair in lane j: digests 2 * j and 2 * j + 1.
abbrev pub pair_block : List (List ℕ) → ℕ → List ℕ
pair_block digests j = slice_index_or digests (2 * j) [] ++ slice_index_or digests (2 * j + 1) []
