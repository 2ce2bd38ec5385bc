-- Which bytes and words a padded text has.
use Rattle.std.proofs.Common.{◌≡◌, ℕ, zero, suc, ◌+◌, ◌-◌, ◌*◌, ◌/◌, ◌%◌, ◌^◌, ◌<◌, ◌≤◌, List, [], ◌++◌, length, take, drop, replicate, slice_index, slice_index_or, arith, refl, ap, ◌∙◌, add-one, add-zero, length-append}
use Rattle.std.proofs.lemmas.List.{get_or_append_left, get_or-append_right, get_or-take, get_or-drop, length-replicate}
use Rattle.std.proofs.Math.ListN.{get_or-map}
use Rattle.std.specs.Borrow.{Bor}
use Rattle.std.specs.Int.{w64, to_be_bytes}
use Rattle.sha2.specs.Sha256.{padded_message, padding, word_at}
use Rattle.stark_sha256.specs.Pieces.{padded_len, piece, text_of, zeros_behind}
use Rattle.stark_sha256.specs.Texts.{len_of, padded_in, text_in}
use Rattle.stark_sha256.specs.declared.texts.Texts.{Texts}

-- ---- the padding

pub padding_length : (n i k : ℕ) → i ≡ k + 1 + zeros_behind n
    → slice_index (padding n) i ≡ slice_index (to_be_bytes w64 (n * 8 % 2 ^ 64)) k
padding_length n zero k e = absurd (omega arith)
padding_length n (suc i) k e =
    let z : ℕ = zeros_behind n in
    let bits : List ℕ = to_be_bytes w64 (n * 8 % 2 ^ 64) in
    let rest : i - z ≡ k = omega arith in
    get_or-append_right (replicate z 0) bits z i 0 (length-replicate z 0) (omega arith)
    ∙ ap (λ (at : ℕ). slice_index bits at) rest

-- ---- a byte

abbrev padded : ℕ → List ℕ → List ℕ → List ℕ
padded tag first second = padded_message (text_of tag first second)

module _ (tag : ℕ) (first second : List ℕ) where
  pub length_of_text : length (text_of tag first second) ≡ 1 + (length first + length second)
  length_of_text = omega (arith, length-append first second)

  byte_of_first : (k i : ℕ) → k ≡ i + 1 → i < length first
      → slice_index (padded tag first second) k ≡ slice_index first i
  byte_of_first k i e below =
      let end : List ℕ = padding (length (text_of tag first second)) in
      let within : i < length (first ++ second) = omega (arith, length-append first second) in
      rw (e, add-one) (get_or_append_left (first ++ second) end 0 i within
      ∙ get_or_append_left first second 0 i below)

  byte_of_second : (k i : ℕ) → k ≡ length first + i + 1 → i < length second
      → slice_index (padded tag first second) k ≡ slice_index second i
  byte_of_second k i e below =
      let end : List ℕ = padding (length (text_of tag first second)) in
      let n : ℕ = length first in
      let within : n + i < length (first ++ second) = omega (arith, length-append first second) in
      let rest : n + i - n ≡ i = omega arith in
      rw (e, add-one) (get_or_append_left (first ++ second) end 0 (n + i) within
      ∙ get_or-append_right first second n (n + i) 0 refl (omega arith)
      ∙ ap (λ (at : ℕ). slice_index second at) rest)

  byte_of_padding : (k i : ℕ) → k ≡ length first + length second + i + 1
      → slice_index (padded tag first second) k
      ≡ slice_index (padding (1 + (length first + length second))) i
  byte_of_padding k i e =
      let text : List ℕ = text_of tag first second in
      let rest : k - length text ≡ i = omega (arith, length_of_text) in
      let behind : length text ≤ k = omega (arith, length_of_text) in
      get_or-append_right text (padding (length text)) (length text) k 0 refl behind
      ∙ ap (λ (at : ℕ). slice_index (padding (length text)) at) rest
      ∙ ap (λ (n : ℕ). slice_index (padding n) i) length_of_text

-- ---- a word

-- one byte after the other
pub same_words : (x y : List ℕ) (i k : ℕ)
    → ((d : ℕ) → d < 4 → slice_index x (i + d) ≡ slice_index y (k + d)) → word_at x i ≡ word_at y k
same_words x y i k same =
    let at0 = simp add-zero at (same 0 (omega arith)) in
    rw (at0, same 1 (omega arith), same 2 (omega arith), same 3 (omega arith)) refl

pub word_of_block : (p : List ℕ) (k i : ℕ) → i < 16
    → word_at (take 64 (drop (k * 64) p)) (4 * i) ≡ word_at p (64 * k + 4 * i)
word_of_block p k i below =
    same_words (take 64 (drop (k * 64) p)) p (4 * i) (64 * k + 4 * i) (λ d small.
    let at : k * 64 + (4 * i + d) ≡ 64 * k + 4 * i + d = omega arith in
    get_or-take 64 (drop (k * 64) p) (4 * i + d) 0 (omega arith)
    ∙ get_or-drop (k * 64) p (4 * i + d) 0 ∙ ap (λ (at : ℕ). slice_index p at) at)

-- ---- the texts in lanes

-- what an array is read as past its end
abbrev pub nothing : Bor (List ℕ)
nothing = record { ref_ptr = (0, 0); now = [] }

pub piece_at : (slices : List (Bor (List ℕ))) (j : ℕ)
    → piece slices j ≡ (slice_index_or slices j nothing).now
piece_at slices j = get_or-map (λ slice. slice.now) slices j nothing

pub length_in_lane : {n : ℕ} (texts : Texts n) (j : ℕ) → j < n → length (text_in texts j) ≡ len_of texts
length_in_lane texts j low =
    omega (
      arith,
      texts.first_alike j low,
      texts.second_alike j low,
      length_of_text (slice_index texts.tags.now j) (piece texts.first.now j) (piece texts.second.now j),
    )

pub length_of_padded : (text : List ℕ) → length (padded_message text) ≡ padded_len (length text)
length_of_padded text =
    let n : ℕ = length text in
    let end : List ℕ = to_be_bytes w64 (n * 8 % 2 ^ 64) in
    let eight : length end ≡ 8 = refl in
    let zeros : List ℕ = replicate (zeros_behind n) 0 in
    let behind : length (padding n) ≡ zeros_behind n + 9 =
    omega (arith, length-append zeros end, length-replicate {A = ℕ} (zeros_behind n) 0) in
    omega (arith, length-append text (padding n))

pub block_count : (n : ℕ) → padded_len n ≡ 64 * ((n + 8) / 64 + 1)
block_count n = omega arith

-- ---- a byte in a lane

pub first_byte : {n : ℕ} (texts : Texts n) (j : ℕ) → slice_index (padded_in texts j) 0 ≡ slice_index texts.tags.now j
unfolding padded_in
first_byte texts j = refl

pub byte_in_first : {n : ℕ} (texts : Texts n) (j at : ℕ) → j < n → 1 ≤ at → at < 1 + texts.first_len
    → slice_index (padded_in texts j) at ≡ slice_index (piece texts.first.now j) (at - 1)
unfolding padded_in
byte_in_first texts j at low from to =
    let first : List ℕ = piece texts.first.now j in
    let el : length first ≡ texts.first_len = texts.first_alike j low in
    byte_of_first (slice_index texts.tags.now j) first (piece texts.second.now j) at (at - 1) (omega arith) (omega arith)

pub byte_in_second : {n : ℕ} (texts : Texts n) (j at : ℕ) → j < n → 1 + texts.first_len ≤ at
    → at < len_of texts
    → slice_index (padded_in texts j) at
    ≡ slice_index (piece texts.second.now j) (at - (1 + texts.first_len))
unfolding padded_in
byte_in_second texts j at low from to =
    let first : List ℕ = piece texts.first.now j in
    let second : List ℕ = piece texts.second.now j in
    let el : length first ≡ texts.first_len = texts.first_alike j low in
    let es : length second ≡ texts.second_len = texts.second_alike j low in
    let place : ℕ = at - (1 + texts.first_len) in
    byte_of_second (slice_index texts.tags.now j) first second at place (omega arith) (omega arith)

pub byte_in_padding : {n : ℕ} (texts : Texts n) (j at : ℕ) → j < n → len_of texts ≤ at
    → slice_index (padded_in texts j) at ≡ slice_index (padding (len_of texts)) (at - len_of texts)
unfolding padded_in
byte_in_padding texts j at low from =
    let first : List ℕ = piece texts.first.now j in
    let second : List ℕ = piece texts.second.now j in
    let el : length first ≡ texts.first_len = texts.first_alike j low in
    let es : length second ≡ texts.second_len = texts.second_alike j low in
    let len : 1 + (length first + length second) ≡ len_of texts = omega arith in
    byte_of_padding (slice_index texts.tags.now j) first second at (at - len_of texts) (omega arith)
    ∙ ap (λ (n : ℕ). slice_index (padding n) (at - len_of texts)) len

-- ---- a word in a lane

pub word_in_second : {n : ℕ} (texts : Texts n) (j at : ℕ) → j < n → 1 + texts.first_len ≤ at
    → at + 4 ≤ len_of texts
    → word_at (padded_in texts j) at ≡ word_at (piece texts.second.now j) (at - (1 + texts.first_len))
word_in_second texts j at low from to =
    let second : List ℕ = piece texts.second.now j in
    let start : ℕ = 1 + texts.first_len in
    same_words (padded_in texts j) second at (at - start) (λ d small.
    let place : at + d - start ≡ at - start + d = omega arith in
    byte_in_second texts j (at + d) low (omega arith) (omega arith)
    ∙ ap (λ (k : ℕ). slice_index second k) place)

pub word_in_first : {n : ℕ} (texts : Texts n) (j at : ℕ) → j < n → 1 ≤ at → at + 4 ≤ 1 + texts.first_len
    → word_at (padded_in texts j) at ≡ word_at (piece texts.first.now j) (at - 1)
word_in_first texts j at low from to =
    same_words (padded_in texts j) (piece texts.first.now j) at (at - 1) (λ d small.
    let place : at + d - 1 ≡ at - 1 + d = omega arith in
    byte_in_first texts j (at + d) low (omega arith) (omega arith)
    ∙ ap (λ (k : ℕ). slice_index (piece texts.first.now j) k) place)

pub word_in_padding : {n : ℕ} (texts : Texts n) (j at : ℕ) → j < n → len_of texts ≤ at
    → word_at (padded_in texts j) at ≡ word_at (padding (len_of texts)) (at - len_of texts)
word_in_padding texts j at low from =
    same_words (padded_in texts j) (padding (len_of texts)) at (at - len_of texts) (λ d small.
    let place : at + d - len_of texts ≡ at - len_of texts + d = omega arith in
    byte_in_padding texts j (at + d) low (omega arith)
    ∙ ap (λ (k : ℕ). slice_index (padding (len_of texts)) k) place)
