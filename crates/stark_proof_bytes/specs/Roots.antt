-- Roots as bytes.
use Rattle.std.specs.Prelude.{◌≡◌, ℕ, zero, suc, ◌<◌, ◌%◌, true, List, [], ◌∷◌, ◌++◌, ◌^◌, ◌&&◌, length, nat_lt, slice_index, drop, flat_map, Result, Ok, refl}
use Rattle.std.specs.List.{list_all}
use Rattle.stark_support.specs.Seed.{number}
use Rattle.std.proofs.Common.{◌∙◌, sym, ap, subst, arith}
use Rattle.std.proofs.lemmas.Nat.{mod_below}
use Rattle.std.proofs.Math.Nat.{mod-eq_of_lt}
use Rattle.stark_merkle.specs.declared.root.Root.{Root}
use Rattle.stark_merkle.specs.RootJson.{same_root}
use Rattle.stark_fri_proof.specs.Paths.{digests_of}
use Rattle.stark_proof_bytes.specs.declared.fault.BytesFault.{BytesFault}
use Rattle.stark_proof_bytes.specs.Bytes.{AreBytes, BytesLaws, BytesOps, bytes_reading, list_ops, ◌>>=◌}
use Rattle.stark_proof_bytes.specs.BytesFacts.{bytes_before, front_is, front_read, list_laws, same_ok, step_of}

-- the first n numbers, each modulo 256: themselves where they are n bytes
abbrev pub clamped : ℕ → List ℕ → List ℕ
clamped zero bytes = []
clamped (suc n) bytes = (slice_index bytes 0 % 256) ∷ clamped n (drop 1 bytes)

pub length-clamped : (n : ℕ) (bytes : List ℕ) → length (clamped n bytes) ≡ n
length-clamped zero bytes = refl
length-clamped (suc n) bytes = ap suc (length-clamped n (drop 1 bytes))

pub clamped_in_range : (n : ℕ) (bytes : List ℕ) → AreBytes (clamped n bytes)
clamped_in_range zero bytes = λ place. omega arith
clamped_in_range (suc n) bytes = elim [ zero ↦ mod_below (slice_index bytes 0) 256 (omega arith) | suc place ↦ clamped_in_range n (drop 1 bytes) place ]

pub clamped_bytes : (n : ℕ) (bytes : List ℕ) → AreBytes bytes → length bytes ≡ n → clamped n bytes ≡ bytes
clamped_bytes zero [] are e = refl
clamped_bytes zero (x ∷ bytes) are e = absurd (omega (arith, e))
clamped_bytes (suc n) [] are e = absurd (omega (arith, e))
clamped_bytes (suc n) (x ∷ bytes) are e =
    let low : x < 256 = are 0 in
    let first : x % 256 ≡ x = mod-eq_of_lt low in
    let k : length bytes ≡ n = omega (arith, e) in
    let rest = clamped_bytes n bytes (λ place. are (suc place)) k in
    λ i. first i ∷ rest i

-- the root of 32 bytes
unfoldable pub root_of : List ℕ → Root
root_of bytes = record { bytes = clamped 32 bytes; sized = length-clamped 32 bytes; in_range = clamped_in_range 32 bytes }

pub root_of_bytes : (bytes : List ℕ) (x : Root) → x.bytes ≡ bytes → root_of bytes ≡ x
unfolding root_of
root_of_bytes bytes x e = same_root (root_of bytes) x (ap (λ l. clamped 32 l) (sym e) ∙ clamped_bytes 32 x.bytes x.in_range x.sized)

pub bytes_of_root : (bytes : List ℕ) → AreBytes bytes → length bytes ≡ 32 → (root_of bytes).bytes ≡ bytes
unfolding root_of
bytes_of_root bytes are e = clamped_bytes 32 bytes are e

abbrev pub root_reading : List ℕ → Result (Root × List ℕ) BytesFault
root_reading bytes = bytes_reading 32 bytes >>= λ front rest. Ok (root_of front, rest)

-- its 32 bytes
abbrev pub root_ops : BytesOps Root
root_ops = record { writing = λ x. x.bytes; reading = root_reading; fits = λ x. true }

-- what a reader of the bytes makes of them
pub root_read : (bytes front rest : List ℕ) (x : Root) → bytes_reading 32 bytes ≡ Ok (front, rest) → x.bytes ≡ front → root_reading bytes ≡ Ok (x, rest)
root_read bytes front rest x e is =
    ap (λ r. r >>= λ front' end. Ok (root_of front', end)) e ∙ (λ i. Ok (root_of_bytes front x is i, rest))

root_back : (x : Root) (rest : List ℕ) → true ≡ true → root_reading (x.bytes ++ rest) ≡ Ok (x, rest)
root_back x rest fits =
    ap (λ r. r >>= λ front end. Ok (root_of front, end)) (front_read 32 x.bytes rest x.sized) ∙ (λ i. Ok (root_of_bytes x.bytes x refl i, rest))

root_canonical : (bytes : List ℕ) (x : Root) (rest : List ℕ) → AreBytes bytes → root_reading bytes ≡ Ok (x, rest) → bytes ≡ x.bytes ++ rest
root_canonical bytes x rest are e =
    let s = step_of (bytes_reading 32 bytes) (λ front end. Ok (root_of front, end)) (x, rest) e in
    let f = front_is 32 bytes s.value s.rest s.read in
    let h = same_ok (root_of s.value) x s.rest rest s.after in
    let back = bytes_of_root s.value (bytes_before s.value s.rest (subst AreBytes f.joined are)) f.sized in
    f.joined ∙ (λ i. sym back i ++ s.rest) ∙ (λ i. (h.0 i).bytes ++ h.1 i)

pub root_laws : BytesLaws root_ops
root_laws = record { read_back = root_back; canonical = root_canonical; some = λ x. omega (arith, x.sized) }

pub same_roots : (xs ys : List Root) → digests_of xs ≡ digests_of ys → xs ≡ ys
same_roots [] [] e = refl
same_roots [] (y ∷ ys) e = absurd (cc)
same_roots (x ∷ xs) [] e = absurd (cc)
same_roots (x ∷ xs) (y ∷ ys) e =
    let first : x.bytes ≡ y.bytes = cc in
    let rest : digests_of xs ≡ digests_of ys = cc in
    let a = same_root x y first in
    let b = same_roots xs ys rest in
    λ i. a i ∷ b i

abbrev pub path_ops : BytesOps (List Root)
path_ops = list_ops root_ops

pub path_laws : BytesLaws path_ops
path_laws = list_laws root_ops root_laws

-- what a reader of the roots makes of them
pub path_read : (bytes : List ℕ) (roots path : List Root) (rest : List ℕ) → path_ops.reading bytes ≡ Ok (roots, rest) → digests_of path ≡ digests_of roots → path_ops.reading bytes ≡ Ok (path, rest)
path_read bytes roots path rest e is = let same = same_roots roots path (sym is) in e ∙ (λ i. Ok (same i, rest))

abbrev pub bytes_joined : List (List ℕ) → List ℕ
bytes_joined digests = flat_map (λ digest. digest) digests

-- the digests of a path as bytes
abbrev pub digests_writing : List (List ℕ) → List ℕ
digests_writing digests = number (length digests) ++ bytes_joined digests

as_many : (path : List Root) → length (digests_of path) ≡ length path
as_many [] = refl
as_many (x ∷ path) = ap suc (as_many path)

one_by_one : (path : List Root) → bytes_joined (digests_of path) ≡ flat_map root_ops.writing path
one_by_one [] = refl
one_by_one (x ∷ path) = ap (λ l. x.bytes ++ l) (one_by_one path)

pub path_written : (path : List Root) → digests_writing (digests_of path) ≡ path_ops.writing path
path_written path = λ i. number (as_many path i) ++ one_by_one path i

all_roots_fit : (path : List Root) → list_all root_ops.fits path ≡ true
all_roots_fit [] = refl
all_roots_fit (x ∷ path) = all_roots_fit path

pub path_fits : (path : List Root) → nat_lt (length (digests_of path)) (2 ^ 64) ≡ true → path_ops.fits path ≡ true
path_fits path small =
    ap (λ n. nat_lt n (2 ^ 64) && list_all root_ops.fits path) (sym (as_many path))
    ∙ ap (λ b. b && list_all root_ops.fits path) small ∙ all_roots_fit path
