-- What JSON values spell of roots: texts of 64 hexadecimal digits.
use Rattle.std.specs.Prelude.{◌≡◌, ◌≢◌, ℕ, ◌<◌, ◌*◌, Bool, true, false, List, length, slice_index, Option, None, Some, Result, Ok, Err, refl}
use Rattle.std.specs.Result.{result_unwrap_or}
use Rattle.std.proofs.Common.{◌∙◌, [], ap, arith, sym}
use Rattle.std.specs.Coded.{le_prop}
use mathlib.Core.HLevel.{is_prop→PathP, Π_prop}
use native.Mathlib.Nat.{ℕ_set}
use Rattle.hex.specs.Hex.{IsBytes, decode_sized, encode_lower}
use Rattle.hex.specs.declared.error.FromHexError.{FromHexError}
use Rattle.hex.proofs.HexLemmas.{decode_of-ok, decode_sized-encode_lower, decode_sized-ok, decode_sized-twice}
use Rattle.serde_json.specs.Data.{Data, null, boolean, number, string, array, object}
use Rattle.serde_json.specs.Find.{as_str}
use Rattle.stark_support.specs.Json.{◌>>=◌}
use Rattle.stark_merkle.specs.declared.root.Root.{Root}

-- Roots with the same bytes are one.
pub same_root : (x y : Root) → x.bytes ≡ y.bytes → x ≡ y
same_root x y e = λ i. record {
  bytes = e i;
  sized = is_prop→PathP (λ j. length (e j) ≡ 32) (λ j. ℕ_set _ _) x.sized y.sized i;
  in_range = is_prop→PathP (λ j. (k : ℕ) → slice_index (e j) k < 256) (λ j. Π_prop (λ k. le_prop)) x.in_range y.in_range i;
}

-- ---- reading

pub decoded_sized : (text bytes : List ℕ) → decode_sized text 32 ≡ Ok bytes → length bytes ≡ 32
decoded_sized text bytes e =
    let digits : length text ≡ 64 = decode_sized-ok text 32 bytes e in
    let both : length text ≡ 2 * length bytes = (decode_of-ok text bytes (sym (decode_sized-twice text 32 digits) ∙ e)).2 in omega (arith, digits, both)

pub decoded_in_range : (text bytes : List ℕ) → decode_sized text 32 ≡ Ok bytes → IsBytes bytes
decoded_in_range text bytes e =
    let digits : length text ≡ 64 = decode_sized-ok text 32 bytes e in (decode_of-ok text bytes (sym (decode_sized-twice text 32 digits) ∙ e)).3

-- The root of the bytes that were found in a text.
abbrev pub root_decoded : (text : List ℕ) (decoded : Result (List ℕ) FromHexError) → decode_sized text 32 ≡ decoded → Option Root
root_decoded text (Ok bytes) e = Some (record { bytes = bytes; sized = decoded_sized text bytes e; in_range = decoded_in_range text bytes e })
root_decoded text (Err fault) e = None

-- The root that a text spells: of 64 hexadecimal digits the 32 bytes, and of any other text none.
abbrev pub root_in_text : List ℕ → Option Root
root_in_text text = root_decoded text (decode_sized text 32) refl

-- A text that spells a root.
unfoldable pub root_at : Data → Option Root
root_at d = as_str d >>= root_in_text

-- The text of the digits, the letters in lower case.
abbrev pub root_written : Root → Data
root_written x = string (encode_lower x.bytes)

-- ---- what is read

decoded_is : (text : List ℕ) (x : Root) (decoded : Result (List ℕ) FromHexError) (e : decode_sized text 32 ≡ decoded) → decoded ≡ Ok x.bytes → root_decoded text decoded e ≡ Some x
decoded_is text x (Ok bytes) e is = let same : bytes ≡ x.bytes = ap (λ (r : Result (List ℕ) FromHexError). result_unwrap_or r []) is in ap Some (same_root _ x same)
decoded_is text x (Err fault) e is = cc is

text_is_root : (text : List ℕ) (x : Root) → decode_sized text 32 ≡ Ok x.bytes → root_in_text text ≡ Some x
text_is_root text x is = decoded_is text x (decode_sized text 32) refl is

pub value_is_root : (d : Data) (text : List ℕ) (x : Root) → as_str d ≡ Some text → decode_sized text 32 ≡ Ok x.bytes → root_at d ≡ Some x
unfolding root_at
value_is_root d text x seen is = ap (λ t. t >>= root_in_text) seen ∙ text_is_root text x is

pub root_reads_back : (x : Root) → root_at (root_written x) ≡ Some x
unfolding root_at
root_reads_back x = text_is_root (encode_lower x.bytes) x (decode_sized-encode_lower x.bytes 32 x.sized x.in_range)

is_null : Data → Bool
is_null null = true
is_null (boolean b) = false
is_null (number n) = false
is_null (string s) = false
is_null (array ds) = false
is_null (object ms) = false

pub root_never_null : (x : Root) → root_written x ≢ null
root_never_null x e = let stated = ap is_null e in absurd (cc)
