-- The bench's two sponges.
use Rattle.std.specs.Prelude.{◌≡◌, ℕ, suc, zero, ◌+◌, ◌<◌, ◌%◌, ◌^◌, Bool, true, false, cond, eqb, ltb, ◌&&◌, List, [], ◌∷◌, ◌++◌, length, get_or, take, map, flat_map, Option, None, Some, option_map}
use Rattle.std.specs.Int.{w64, from_be_bytes}
use Rattle.std.specs.Option.{option_or}
use Rattle.sha2.specs.Sha256.{sha256}
use Rattle.stark_support.specs.Seed.{number}
use Rattle.stark_fields.specs.declared.modulus.Modulus.{Ghosts}
use Rattle.stark_fields.specs.declared.residue.Residue.{Residue}
use Rattle.stark_fields.specs.declared.ext4.Ext4.{Ext4}
use Rattle.stark_fields.specs.Residues.{residue}
use Rattle.stark_fields.specs.Ext4Field.{ext4}

-- ---- searches for a witness

-- The least number below n at which the test holds.
unfoldable pub least : (ℕ → Bool) → ℕ → Option ℕ
least p zero = None
least p (suc n) = option_or (least p n) (cond (p n) (Some n) None)

-- The first of eight numbers, from this one on, that passes; None where none does.
abbrev pub IsFirstOfEight : (ℕ → Bool) → ℕ → Option ℕ → Type 0
IsFirstOfEight p first None = (j : ℕ) → j < 8 → p (first + j) ≡ false
IsFirstOfEight p first (Some n) = (j : ℕ) × (j < 8) × (n ≡ first + j) × (p n ≡ true) × ((k : ℕ) → k < j → p (first + k) ≡ false)

-- The element of the least number that passes.
abbrev pub found_by : {C M K : Type 0} {G : Ghosts M} → (C → ℕ → Residue M K G → Bool) → C → ℕ → Option (Residue M K G)
found_by {C} {M} {K} {G} passes state bits = option_map residue (least (λ n. passes state bits (residue n)) G.MODULUS)

-- ---- elements of the extension, by their coordinates

abbrev pub four_drawn : {C K : Type 0} → (C → K) → (C → C) → C → Ext4 K
four_drawn draw after s = ext4 (draw s) (draw (after s)) (draw (after (after s))) (draw (after (after (after s))))

abbrev pub after_four : {C : Type 0} → (C → C) → C → C
after_four after s = after (after (after (after s)))

-- ---- a list handed out round and round

-- The list, and the place of the next element.
abbrev pub script_element : {M K : Type 0} {G : Ghosts M} → List (Residue M K G) × ℕ → Residue M K G
script_element s = get_or s.0 s.1 (residue 0)

abbrev pub script_next : {K : Type 0} → List K × ℕ → List K × ℕ
script_next s = (s.0, (s.1 + 1) % length s.0)

abbrev pub script_bits : {M K : Type 0} {G : Ghosts M} → List (Residue M K G) × ℕ → ℕ → ℕ
script_bits s bits = (script_element s).value % 2 ^ bits

-- A witness passes where 2 ^ bits divides its number and one.
abbrev pub script_passes : {C M K : Type 0} {G : Ghosts M} → C → ℕ → Residue M K G → Bool
script_passes s bits w = cond (eqb bits 0) true (ltb bits 64 && eqb ((w.value + 1) % 2 ^ bits) 0)

-- ---- SHA-256

-- The state after a byte that says what is done, and bytes.
abbrev pub absorbed : List ℕ → ℕ → List ℕ → List ℕ
absorbed s tag bytes = sha256 (s ++ tag ∷ bytes)

-- The number that a state hands out: its first 8 bytes, the high one first.
abbrev pub leading : List ℕ → ℕ
leading s = from_be_bytes w64 (take 8 s)

abbrev pub after_element : {M K : Type 0} {G : Ghosts M} → List ℕ → Residue M K G → List ℕ
after_element s x = absorbed s 0 (number x.value)

abbrev pub after_draw : List ℕ → List ℕ
after_draw s = absorbed s 1 []

abbrev pub after_bits : List ℕ → List ℕ
after_bits s = absorbed s 2 []

abbrev pub drawn_element : {M K : Type 0} {G : Ghosts M} → List ℕ → Residue M K G
drawn_element s = residue (leading (after_draw s))

abbrev pub drawn_bits : List ℕ → ℕ → ℕ
drawn_bits s bits = leading (after_bits s) % 2 ^ bits

-- The state after the element of a number and a draw of bits.
abbrev pub after_trial : List ℕ → ℕ → List ℕ
after_trial s n = after_bits (absorbed s 0 (number n))

-- The number that a state hands out is a multiple of 2 ^ bits, which a word holds.
abbrev pub passes_after : List ℕ → ℕ → Bool
passes_after s bits = ltb bits 64 && eqb (leading s % 2 ^ bits) 0

abbrev pub sha_passes : {M K : Type 0} {G : Ghosts M} → List ℕ → ℕ → Residue M K G → Bool
sha_passes s bits w = cond (eqb bits 0) true (ltb bits 64 && eqb (drawn_bits (after_element s w) bits) 0)

abbrev pub sha_after_check : {M K : Type 0} {G : Ghosts M} → List ℕ → ℕ → Residue M K G → List ℕ
sha_after_check s bits w = cond (eqb bits 0) s (after_bits (after_element s w))

-- ---- a commitment in the clear

-- A count is its 8 bytes, each as an element.
abbrev pub count_elements : {F : Type 0} → (ℕ → F) → ℕ → List F
count_elements of_number n = map of_number (number n)

abbrev pub column_elements : {F : Type 0} → (ℕ → F) → List F → List F
column_elements of_number column = count_elements of_number (length column) ++ column

abbrev pub matrix_elements : {F : Type 0} → (ℕ → F) → List (List F) → List F
matrix_elements of_number columns = count_elements of_number (length columns) ++ flat_map (column_elements of_number) columns

-- The number of matrices, then each: its number of columns, then each: its length and its coefficients.
abbrev pub commitment_elements : {F : Type 0} → (ℕ → F) → List (List (List F)) → List F
commitment_elements of_number matrices = count_elements of_number (length matrices) ++ flat_map (matrix_elements of_number) matrices
