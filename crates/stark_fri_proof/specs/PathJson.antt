-- What JSON values spell of paths: arrays of texts of 64 hexadecimal digits.
use Rattle.std.specs.Prelude.{◌≡◌, ℕ, List, [], ◌∷◌, map, Option, None, Some, option_map, unwrap_or, refl}
use Rattle.std.proofs.Common.{◌∙◌, ap, drop, sym}
use Rattle.hex.specs.Hex.{encode_lower}
use Rattle.serde_json.specs.Data.{Data, Items, no_items, item, string, array}
use Rattle.serde_json.specs.View.{items_of}
use Rattle.stark_merkle.specs.declared.root.Root.{Root}
use Rattle.stark_merkle.specs.RootJson.{root_at, root_reads_back, root_written, same_root}
use Rattle.stark_support.specs.Json.{◌>>=◌, array_at, each_at}
use Rattle.stark_support.specs.JsonFacts.{list_back, list_written}
use Rattle.stark_fri_proof.specs.Paths.{bytes_of, digests_of}

abbrev pub path_at : Data → Option (List Root)
path_at d = array_at root_at d

abbrev pub path_written : List Root → Data
path_written path = list_written root_written path

pub path_reads_back : (path : List Root) → path_at (path_written path) ≡ Some path
path_reads_back path = list_back root_at root_written root_reads_back path

-- ---- by the digests

-- The digest that a text spells.
abbrev pub digest_at : Data → Option (List ℕ)
digest_at d = option_map bytes_of (root_at d)

-- The text of a digest.
abbrev pub digest_written : List ℕ → Data
digest_written digest = string (encode_lower digest)

each_step : (decoded : Option Root) (rest : Option (List Root)) →
    (option_map bytes_of decoded >>= λ x. option_map (λ xs. x ∷ xs) (option_map digests_of rest)) ≡ option_map digests_of (decoded >>= λ r. option_map (λ rs. r ∷ rs) rest)
each_step None rest = refl
each_step (Some r) None = refl
each_step (Some r) (Some rs) = refl

-- The digests of the roots that items spell.
pub each_digest : (ds : Items) → each_at digest_at ds ≡ option_map digests_of (each_at root_at ds)
each_digest no_items = refl
each_digest (item d ds) =
    ap (λ rest. option_map bytes_of (root_at d) >>= λ x. option_map (λ xs. x ∷ xs) rest) (each_digest ds) ∙ each_step (root_at d) (each_at root_at ds)

abbrev first_or : List ℕ → List (List ℕ) → List ℕ
first_or x [] = x
first_or x (y ∷ ys) = y

-- Roots with the same digests are the same.
pub same_roots : (xs ys : List Root) → digests_of xs ≡ digests_of ys → xs ≡ ys
same_roots [] [] e = refl
same_roots [] (y ∷ ys) e = absurd (cc)
same_roots (x ∷ xs) [] e = absurd (cc)
same_roots (x ∷ xs) (y ∷ ys) e =
    ap (λ r. r ∷ xs) (same_root x y (ap (first_or []) e)) ∙ ap (λ rs. y ∷ rs) (same_roots xs ys (ap (drop 1) e))

some_digests : (decoded : Option (List Root)) (path : List Root) → option_map digests_of decoded ≡ Some (digests_of path) → decoded ≡ Some path
some_digests None path e = absurd (cc)
some_digests (Some roots) path e = ap Some (same_roots roots path (ap (λ o. unwrap_or o []) e))

-- The path of the digests that items spell.
pub each_root : (ds : Items) (path : List Root) → each_at digest_at ds ≡ Some (digests_of path) → each_at root_at ds ≡ Some path
each_root ds path e = some_digests (each_at root_at ds) path (sym (each_digest ds) ∙ e)

no_digests : (decoded : Option (List Root)) → option_map digests_of decoded ≡ None → decoded ≡ None
no_digests None e = refl
no_digests (Some roots) e = absurd (cc)

pub no_roots : (ds : Items) → each_at digest_at ds ≡ None → each_at root_at ds ≡ None
no_roots ds e = no_digests (each_at root_at ds) (sym (each_digest ds) ∙ e)

texts_of : (path : List Root) → map digest_written (digests_of path) ≡ map root_written path
texts_of [] = refl
texts_of (r ∷ rs) = ap (λ t. root_written r ∷ t) (texts_of rs)

pub written_digests : (path : List Root) → list_written digest_written (digests_of path) ≡ path_written path
written_digests path = ap (λ texts. array (items_of texts)) (texts_of path)
