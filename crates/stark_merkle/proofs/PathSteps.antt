-- The steps of eight paths side by side.
use Rattle.std.proofs.Common.{◌≡◌, ◌∙◌, ◌+◌, ◌*◌, ◌%◌, ◌<◌, ℕ, List, [], Bool, true, false, ap, arith, cond, eqb, length, length-set, refl, slice_index_or, slice_set, subst, sym}
use Rattle.std.specs.Borrow.{Bor}
use Rattle.std.proofs.Math.ListN.{get_or-map}
use Rattle.std.proofs.lemmas.List.{get_or-set_other, get_or-set_same}
use Rattle.stark_sha256.proofs.LaneFacts.{one_further}
use Rattle.stark_merkle.specs.Eight.{first_of, path_at}
use Rattle.stark_merkle.specs.Tree.{joined}

-- No path, which is read past the last.
abbrev pub no_path : Bor (List (List ℕ))
no_path = record { ref_ptr = (0, 0); now = [] }

-- A path in memory is one of the lists.
pub path_is : (paths : List (Bor (List (List ℕ)))) (i : ℕ) → path_at paths i ≡ (slice_index_or paths i no_path).now
path_is paths i = get_or-map (λ path. path.now) paths i no_path

pub path_length_is : (paths : List (Bor (List (List ℕ)))) (i : ℕ) → length (path_at paths i) ≡ length (slice_index_or paths i no_path).now
path_length_is paths i = ap length (path_is paths i)

-- What holds of the pairs of entries before one, and of that one, whose entries are set, holds of all up to it.
pub pair_more : (P Q : ℕ → List ℕ → Type 0) (pairs : List (List ℕ)) (at : ℕ) (x y : List ℕ) → 2 * at + 1 < length pairs
    → ((i : ℕ) → i < at → P i (slice_index_or pairs (2 * i) []) × Q i (slice_index_or pairs (2 * i + 1) [])) → P at x → Q at y
    → (i : ℕ) → i < at + 1
    → P i (slice_index_or (slice_set (slice_set pairs (2 * at) x) (2 * at + 1) y) (2 * i) [])
    × Q i (slice_index_or (slice_set (slice_set pairs (2 * at) x) (2 * at + 1) y) (2 * i + 1) [])
pair_more P Q pairs at x y within before first second =
    let one = slice_set pairs (2 * at) x in
    let both = slice_set one (2 * at + 1) y in
    one_further (λ i. P i (slice_index_or both (2 * i) []) × Q i (slice_index_or both (2 * i + 1) [])) at
    (λ i low. (
      subst (P i) (sym (get_or-set_other one (2 * at + 1) (2 * i) y [] (omega arith) ∙ get_or-set_other pairs (2 * at) (2 * i) x [] (omega arith))) (before i low).0,
      subst (Q i) (sym (get_or-set_other one (2 * at + 1) (2 * i + 1) y [] (omega arith) ∙ get_or-set_other pairs (2 * at) (2 * i + 1) x [] (omega arith))) (before i low).1,
    )) (
      subst (P at) (sym (get_or-set_other one (2 * at + 1) (2 * at) y [] (omega arith) ∙ get_or-set_same pairs (2 * at) x [] (omega arith))) first,
      subst (Q at) (sym (get_or-set_same one (2 * at + 1) y [] (omega (arith, length-set pairs (2 * at) x)))) second,
    )

-- The node over two digests in the order of their places.
chosen : (node : List ℕ → List ℕ → List ℕ) (x s : List ℕ) (b : Bool) → node (cond b x s) (cond b s x) ≡ cond b (node x s) (node s x)
chosen node x s true = refl
chosen node x s false = refl

pub node_in_order : (node : List ℕ → List ℕ → List ℕ) (place : ℕ) (x s : List ℕ) → node (first_of place x s) (first_of place s x) ≡ joined node place x s
node_in_order node place x s = chosen node x s (eqb (place % 2) 0)
