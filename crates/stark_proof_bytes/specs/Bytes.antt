-- Values as bytes.
use Rattle.std.specs.Prelude.{◌≡◌, ◌==◌, ◌&&◌, ℕ, zero, suc, ◌<◌, ◌≤◌, ◌^◌, Bool, true, false, nat_lt, if◌then◌else◌, List, [], ◌∷◌, ◌++◌, length, slice_index, take, drop, flat_map, Option, None, Some, IfSome, Result, Ok, Err, ⊤, nat_eq}
use Rattle.std.specs.List.{list_all, starts_with}
use Rattle.std.specs.Int.{w64, from_be_bytes}
use Rattle.stark_support.specs.Seed.{number}
use Rattle.stark_proof_bytes.specs.declared.fault.BytesFault.{BytesFault}
use Rattle.stark_proof_bytes.specs.declared.fault.BytesFault.TheVariants.{Truncated, TooLong, OutOfRange, Magic, TrailingBytes, OutOfMemory}

-- The fault that an error names; want of memory names none.
abbrev pub named : BytesFault → Option BytesFault
named Truncated = Some Truncated
named TooLong = Some TooLong
named OutOfRange = Some OutOfRange
named Magic = Some Magic
named TrailingBytes = Some TrailingBytes
named OutOfMemory = None

-- What a reader returned, seen by view, and left is what reading gives: the value and the rest, or the fault, unless memory ran out.
abbrev pub Takes : {A B : Type 0} → (A → B) → Result A BytesFault → List ℕ → Result (B × List ℕ) BytesFault → Type 0
Takes view (Ok a) rest reading = reading ≡ Ok (view a, rest)
Takes view (Err error) rest reading = IfSome (named error) (λ fault. reading ≡ Err fault)

infixl 10 ◌>>=◌
abbrev pub ◌>>=◌ : {A B : Type 0} → Result (A × List ℕ) BytesFault → (A → List ℕ → Result (B × List ℕ) BytesFault) → Result (B × List ℕ) BytesFault
(Ok p) >>= f = f p.0 p.1
(Err fault) >>= f = Err fault

-- How values are written, what is read from the front of bytes, and whether the lists of a value are short enough for their lengths to be written.
pub record BytesOps (A : Type 0) : Type 0 where
  pub writing : A → List ℕ
  pub reading : List ℕ → Result (A × List ℕ) BytesFault
  pub fits : A → Bool

-- Each is a number of 8 bits.
abbrev pub AreBytes : List ℕ → Type 0
AreBytes bytes = (place : ℕ) → slice_index bytes place < 256

pub record BytesLaws {A : Type 0} (ops : BytesOps A) : Type 0 where
  -- What is written is read back, whatever follows.
  pub read_back : (x : A) (rest : List ℕ) → ops.fits x ≡ true → ops.reading (ops.writing x ++ rest) ≡ Ok (x, rest)
  -- What is read is what would be written: a value has one name.
  pub canonical : (bytes : List ℕ) (x : A) (rest : List ℕ) → AreBytes bytes → ops.reading bytes ≡ Ok (x, rest) → bytes ≡ ops.writing x ++ rest
  -- Nothing is named by no bytes.
  pub some : (x : A) → 1 ≤ length (ops.writing x)

-- ---- numbers

-- so many bytes, and the rest
abbrev pub bytes_reading : ℕ → List ℕ → Result (List ℕ × List ℕ) BytesFault
bytes_reading n bytes = if nat_lt (length bytes) n then Err Truncated else Ok (take n bytes, drop n bytes)

abbrev pub number_reading : List ℕ → Result (ℕ × List ℕ) BytesFault
number_reading bytes = bytes_reading 8 bytes >>= λ front rest. Ok (from_be_bytes w64 front, rest)

abbrev pub unless_longer : ℕ → List ℕ → Result (ℕ × List ℕ) BytesFault
unless_longer n rest = if nat_lt (length rest) n then Err TooLong else Ok (n, rest)

-- a list's length, which is at most that of what follows
abbrev pub count_reading : List ℕ → Result (ℕ × List ℕ) BytesFault
count_reading bytes = number_reading bytes >>= unless_longer

abbrev pub number_ops : BytesOps ℕ
number_ops = record { writing = number; reading = number_reading; fits = λ n. nat_lt n (2 ^ 64) }

-- ---- single bytes

abbrev pub byte_reading : List ℕ → Result (ℕ × List ℕ) BytesFault
byte_reading [] = Err Truncated
byte_reading (byte ∷ rest) = Ok (byte, rest)

-- ---- a prefix

-- bytes that have to come first
abbrev pub prefix_reading : List ℕ → List ℕ → Result (⊤ × List ℕ) BytesFault
prefix_reading prefix bytes = if starts_with nat_eq bytes prefix then Ok (tt, drop (length prefix) bytes) else Err Magic

-- ---- flags

abbrev pub flag_if : Bool → List ℕ → Result (Bool × List ℕ) BytesFault
flag_if b rest = if b then Ok (true, rest) else Err OutOfRange

abbrev pub flag_by : Bool → ℕ → List ℕ → Result (Bool × List ℕ) BytesFault
flag_by b tag rest = if b then Ok (false, rest) else flag_if (tag == 1) rest

-- a byte, 0 or 1
abbrev pub flag_reading : List ℕ → Result (Bool × List ℕ) BytesFault
flag_reading [] = Err Truncated
flag_reading (tag ∷ rest) = flag_by (tag == 0) tag rest

-- ---- of parts

-- one after the other
abbrev pub pair_ops : {A B : Type 0} → BytesOps A → BytesOps B → BytesOps (A × B)
pair_ops a b = record {
  writing = λ p. a.writing p.0 ++ b.writing p.1;
  reading = λ bytes. a.reading bytes >>= λ x rest. b.reading rest >>= λ y end. Ok ((x, y), end);
  fits = λ p. a.fits p.0 && b.fits p.1;
}

-- by what a value is made of
abbrev pub turned_ops : {A B : Type 0} → (B → A) → (A → B) → BytesOps A → BytesOps B
turned_ops turn back a = record {
  writing = λ y. a.writing (turn y);
  reading = λ bytes. a.reading bytes >>= λ x rest. Ok (back x, rest);
  fits = λ y. a.fits (turn y);
}

module _ {A : Type 0} (ops : BytesOps A) where
  abbrev pub option_writing : Option A → List ℕ
  option_writing None = 0 ∷ []
  option_writing (Some x) = 1 ∷ ops.writing x

  abbrev pub option_by : Bool → List ℕ → Result (Option A × List ℕ) BytesFault
  option_by false rest = Ok (None, rest)
  option_by true rest = ops.reading rest >>= λ x end. Ok (Some x, end)

  abbrev pub option_reading : List ℕ → Result (Option A × List ℕ) BytesFault
  option_reading bytes = flag_reading bytes >>= option_by

  abbrev pub option_fits : Option A → Bool
  option_fits None = true
  option_fits (Some x) = ops.fits x

  -- 0, or 1 and the value
  abbrev pub option_ops : BytesOps (Option A)
  option_ops = record { writing = option_writing; reading = option_reading; fits = option_fits }

  -- so many, one after the other
  abbrev pub each_reading : ℕ → List ℕ → Result (List A × List ℕ) BytesFault
  each_reading zero bytes = Ok ([], bytes)
  each_reading (suc n) bytes = ops.reading bytes >>= λ x rest. each_reading n rest >>= λ xs end. Ok (x ∷ xs, end)

  abbrev pub list_reading : List ℕ → Result (List A × List ℕ) BytesFault
  list_reading bytes = count_reading bytes >>= each_reading

  -- how many, and each in turn
  abbrev pub list_ops : BytesOps (List A)
  list_ops = record {
    writing = λ xs. number (length xs) ++ flat_map ops.writing xs;
    reading = list_reading;
    fits = λ xs. nat_lt (length xs) (2 ^ 64) && list_all ops.fits xs;
  }

-- what is read after a list's first members
abbrev pub behind : {A : Type 0} → List A → Result (List A × List ℕ) BytesFault → Result (List A × List ℕ) BytesFault
behind front reading = reading >>= λ xs end. Ok (front ++ xs, end)
