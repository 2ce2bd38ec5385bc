-- Masks that are read from a list round and round, and the masked columns of matrices and chunks.
use Rattle.std.specs.Prelude.{◌≡◌, ℕ, zero, suc, ◌+◌, ◌*◌, ◌%◌, ◌^◌, ◌<◌, List, [], ◌∷◌, ◌++◌, map, length, get_or, replicate}
use Rattle.std.specs.List.{AllByRecursion}
use Rattle.std.specs.Simd.Lanes.{zip2}
use Rattle.stark_support.specs.Ring.{RingOps, difference}
use Rattle.stark_support.specs.Powers.{power}
use Rattle.stark_support.specs.Polynomial.{polynomial_ring, scaled}
use Rattle.stark_support.specs.Coset.{TwoAdicCoset, coset_part, coset_size}
use Rattle.stark_support.specs.Scheme.{MaskedColumn, QuotientChunk}
use Rattle.stark_columns.specs.PlainChunks.{ArePlainChunks}

-- `count` elements of a sequence from the `first` on
abbrev pub range : {A : Type 0} → (ℕ → A) → ℕ → ℕ → List A
range f first zero = []
range f first (suc count) = f first ∷ range f (suc first) count

-- the same in steps
abbrev pub strided : {A : Type 0} → (ℕ → A) → ℕ → ℕ → ℕ → List A
strided f first step zero = []
strided f first step (suc count) = f first ∷ strided f (first + step) step count

-- ---- the list, read round and round

abbrev pub mask_number : {F : Type 0} → RingOps F → List F → ℕ → F
mask_number field masks i = get_or masks (i % length masks) field.zero

-- `size` numbers from the `first` on
abbrev pub mask_list : {F : Type 0} → RingOps F → List F → ℕ → ℕ → List F
mask_list field masks first size = range (mask_number field masks) first size

-- `count` lists of `size` numbers, one after the other
abbrev pub mask_lists : {F : Type 0} → RingOps F → List F → ℕ → ℕ → ℕ → List (List F)
mask_lists field masks first count size = strided (λ a. mask_list field masks a size) first size count

-- for each of `count` chunks `width` such lists
abbrev pub chunk_masks : {F : Type 0} → RingOps F → List F → ℕ → ℕ → ℕ → ℕ → List (List (List F))
chunk_masks field masks first count width size = strided (λ a. mask_lists field masks a width size) first (width * size) count

-- `width` masks of `size` coefficients
abbrev pub HasMasks : {F : Type 0} → ℕ → ℕ → List (List F) → Type 0
HasMasks width size masks = (length masks ≡ width) × AllByRecursion (λ mask. length mask ≡ size) masks

-- column c has a mask, of `size` coefficients
abbrev pub HasMaskAt : {F : Type 0} → ℕ → ℕ → List (List F) → Type 0
HasMaskAt c size masks = (c < length masks) × (length (get_or masks c []) ≡ size)

-- ---- the masks of a quotient, whose sum over the chunks is zero in each column: since the parts of one coset have equal
-- weights in a recomposition, the weighted sum is zero too

-- a polynomial less all of these
abbrev pub less_all : {F : Type 0} → RingOps F → List F → List (List F) → List F
less_all field p [] = p
less_all field p (q ∷ qs) = less_all field (difference (polynomial_ring field) p q) qs

-- column c's mask of the last chunk, by those of the others
abbrev pub balancing_mask : {F : Type 0} → RingOps F → List (List (List F)) → ℕ → ℕ → List F
balancing_mask field chosen size c = less_all field (replicate size field.zero) (map (λ masks. get_or masks c []) chosen)

-- those of the first `width` columns
abbrev pub balancing_masks : {F : Type 0} → RingOps F → List (List (List F)) → ℕ → ℕ → List (List F)
balancing_masks field chosen size width = range (balancing_mask field chosen size) 0 width

-- `count` chunks' masks from the list, and the last chunk's
abbrev pub quotient_masks : {F : Type 0} → RingOps F → List F → ℕ → ℕ → ℕ → List (List (List F))
quotient_masks field masks count width size =
    chunk_masks field masks 0 count width size ++ balancing_masks field (chunk_masks field masks 0 count width size) size width ∷ []

-- ---- masked polynomials

-- plain + mask * (scale * X ^ n - 1), where n is the number of coefficients of `plain`
abbrev pub masked_polynomial : {F : Type 0} → RingOps F → F → List F → List F → List F
masked_polynomial field scale plain mask = difference (polynomial_ring field) (plain ++ scaled field scale mask) mask

-- what makes scale * X ^ n - 1 the coset's vanishing polynomial
abbrev pub vanishing_scale : {F : Type 0} → RingOps F → (F → F) → TwoAdicCoset F → F
vanishing_scale field inverse coset = power field (inverse coset.shift) (coset_size coset)

abbrev pub masked_column : {F : Type 0} → RingOps F → F → List F → List F → MaskedColumn F
masked_column field scale plain mask = record { plain = plain; mask = mask; column = masked_polynomial field scale plain mask }

abbrev pub masked_chunk : {F : Type 0} → RingOps F → (F → F) → TwoAdicCoset F → List (List F) → List (List F) → QuotientChunk F
masked_chunk field inverse part plain masks = record { part = part; columns = zip2 (masked_column field (vanishing_scale field inverse part)) plain masks }

abbrev pub masked_chunks : {F : Type 0} → RingOps F → (F → F) → List (TwoAdicCoset F) → List (List (List F)) → List (List (List F)) → List (QuotientChunk F)
masked_chunks field inverse [] plain masks = []
masked_chunks field inverse (part ∷ parts) [] masks = []
masked_chunks field inverse (part ∷ parts) (p ∷ plain) [] = []
masked_chunks field inverse (part ∷ parts) (p ∷ plain) (m ∷ masks) = masked_chunk field inverse part p m ∷ masked_chunks field inverse parts plain masks

-- The columns of a matrix of this height, each a polynomial of as many coefficients plus its mask times X ^ height - 1.
pub record AreMaskedBy {F : Type 0} (field : RingOps F) (height : ℕ) (masks columns : List (List F)) : Type 0 where
  pub plain : List (List F)
  pub bounded : AllByRecursion (λ column. length column ≡ height) plain
  pub sum : columns ≡ zip2 (masked_polynomial field field.one) plain masks

-- what is committed of chunks
abbrev pub chunk_columns : {F : Type 0} → List (QuotientChunk F) → List (List (List F))
chunk_columns chunks = map (λ q. map (λ m. m.column) q.columns) chunks

-- Columns on each part that take their rows, each with its mask times the part's vanishing polynomial added.
pub record AreMaskedChunks {F : Type 0} (field : RingOps F) (inverse : F → F) (root : ℕ → F) (coset : TwoAdicCoset F) (log_parts width : ℕ) (row : ℕ → List F) (masks plain matrices : List (List (List F))) : Type 0 where
  pub takes : ArePlainChunks field root coset log_parts width (2 ^ log_parts) row plain
  pub sum : matrices ≡ chunk_columns (masked_chunks field inverse (range (coset_part field root coset log_parts) 0 (2 ^ log_parts)) plain masks)
