-- The laws of codecs, from those of their parts.
use Rattle.std.specs.Prelude.{IfSome, ◌≡◌, ◌==◌, ◌&&◌, ℕ, zero, suc, ◌+◌, ◌<◌, ◌≤◌, ◌^◌, Bool, true, false, nat_lt, if◌then◌else◌, List, [], ◌∷◌, ◌++◌, length, take, drop, flat_map, Option, None, Some, Result, Ok, Err, refl}
use Rattle.std.specs.List.{list_all}
use Rattle.std.specs.Int.{w64, from_be_bytes}
use Rattle.std.proofs.Common.{◌∙◌, sym, ap, subst, arith, append_assoc, length-append}
use Rattle.std.proofs.lemmas.Nat.{be_bytes_8, from_be_bytes-to_be_bytes_8}
use Rattle.std.proofs.lemmas.List.{append-nil, get_or-append-add, length-take-le, take-append-drop}
use Rattle.std.proofs.lemmas.Bool.Decides.{nat_tests}
use Rattle.std.proofs.Math.Seq.{drop-append_seam, take-append_seam}
use Rattle.stark_support.specs.Seed.{number}
use Rattle.stark_support.specs.SeedFacts.{length-number}
use Rattle.stark_proof_bytes.specs.declared.fault.BytesFault.{BytesFault}
use Rattle.stark_proof_bytes.specs.declared.fault.BytesFault.TheVariants.{Truncated, TooLong, OutOfRange, Magic, TrailingBytes, OutOfMemory}
use Rattle.stark_proof_bytes.specs.Bytes.{AreBytes, BytesLaws, BytesOps, behind, named, bytes_reading, count_reading, each_reading, flag_by, flag_if, flag_reading, list_ops, list_reading, number_ops, number_reading, option_by, option_ops, option_reading, pair_ops, turned_ops, unless_longer, ◌>>=◌}

-- ---- steps of a reading

pub record IsStep {A B : Type 0} (r : Result (A × List ℕ) BytesFault) (f : A → List ℕ → Result (B × List ℕ) BytesFault) (out : B × List ℕ) : Type 0 where
  pub value : A
  pub rest : List ℕ
  pub read : r ≡ Ok (value, rest)
  pub after : f value rest ≡ Ok out

pub step_of : {A B : Type 0} (r : Result (A × List ℕ) BytesFault) (f : A → List ℕ → Result (B × List ℕ) BytesFault) (out : B × List ℕ) → r >>= f ≡ Ok out → IsStep r f out
step_of (Ok p) f out e = record { value = p.0; rest = p.1; read = refl; after = e }
step_of (Err fault) f out e = absurd (cc)

abbrev pub TakenAs : {A : Type 0} → A → List ℕ → A → List ℕ → Type 0
TakenAs {A} x r y s = let front : Result (A × List ℕ) BytesFault = Ok (x, r) in front ≡ Ok (y, s)

pub same_ok : {A : Type 0} (x y : A) (r s : List ℕ) → TakenAs x r y s → (x ≡ y) × (r ≡ s)
same_ok {A} x y r s e =
    let p : A × List ℕ = (x, r) in
    let q : A × List ℕ = (y, s) in
    let same : p ≡ q = cc in
    ((λ i. (same i).0), (λ i. (same i).1))

pub both_true : (p q : Bool) → (p && q) ≡ true → (p ≡ true) × (q ≡ true)
both_true true q e = (refl, e)
both_true false q e = absurd (cc)

pub bytes_behind : (front rest : List ℕ) → AreBytes (front ++ rest) → AreBytes rest
bytes_behind front rest are = λ place. subst (λ n. n < 256) (get_or-append-add front rest place 0) (are (length front + place))

pub bytes_left : (bytes front rest : List ℕ) → bytes ≡ front ++ rest → AreBytes bytes → AreBytes rest
bytes_left bytes front rest e are = bytes_behind front rest (subst AreBytes e are)

-- What is found is put before what is read in two steps or in one.
regrouped : {A : Type 0} (front : List A) (x : A) (r : Result (List A × List ℕ) BytesFault) → behind front (r >>= λ ys end. Ok (x ∷ ys, end)) ≡ behind (front ++ x ∷ []) r
regrouped front x (Ok p) = λ i. Ok (sym (append_assoc front (x ∷ []) p.0) i, p.1)
regrouped front x (Err fault) = refl

-- ---- numbers

enough_there : (n : ℕ) (front rest : List ℕ) → length front ≡ n → nat_lt (length (front ++ rest)) n ≡ false
enough_there n front rest e = grind (arith, nat_tests, length-append front rest)

taken_apart : (n : ℕ) (front rest : List ℕ) → length front ≡ n → TakenAs (take n (front ++ rest)) (drop n (front ++ rest)) front rest
taken_apart n front rest e =
    let P : ℕ → Type 0 = λ k. TakenAs (take k (front ++ rest)) (drop k (front ++ rest)) front rest in
    subst P e (λ i. Ok (take-append_seam front rest i, drop-append_seam front rest i))

pub front_read : (n : ℕ) (front rest : List ℕ) → length front ≡ n → bytes_reading n (front ++ rest) ≡ Ok (front, rest)
front_read n front rest e =
    ap (λ b. if b then Err Truncated else Ok (take n (front ++ rest), drop n (front ++ rest))) (enough_there n front rest e)
    ∙ taken_apart n front rest e

pub record IsFront (n : ℕ) (bytes front rest : List ℕ) : Type 0 where
  pub sized : length front ≡ n
  pub joined : bytes ≡ front ++ rest

abbrev pub front_if : Bool → ℕ → List ℕ → Result (List ℕ × List ℕ) BytesFault
front_if b n bytes = if b then Err Truncated else Ok (take n bytes, drop n bytes)

front_by : (n : ℕ) (bytes front rest : List ℕ) (b : Bool) → nat_lt (length bytes) n ≡ b → front_if b n bytes ≡ Ok (front, rest) → IsFront n bytes front rest
front_by n bytes front rest true is e = absurd (cc)
front_by n bytes front rest false is e =
    let h = same_ok (take n bytes) front (drop n bytes) rest e in
    let enough : n ≤ length bytes = grind (arith, nat_tests, is) in
    record {
      sized = sym (ap length h.0) ∙ length-take-le n bytes enough;
      joined = sym (take-append-drop n bytes) ∙ (λ i. h.0 i ++ h.1 i);
    }

pub front_is : (n : ℕ) (bytes front rest : List ℕ) → bytes_reading n bytes ≡ Ok (front, rest) → IsFront n bytes front rest
front_is n bytes front rest e = front_by n bytes front rest (nat_lt (length bytes) n) refl e

pub number_back : (n : ℕ) (rest : List ℕ) → n < 2 ^ 64 → number_reading (number n ++ rest) ≡ Ok (n, rest)
unfolding number
number_back n rest small =
    ap (λ r. r >>= λ front rest'. Ok (from_be_bytes w64 front, rest')) (front_read 8 (number n) rest (length-number n))
    ∙ ap (λ k. Ok (k, rest)) (from_be_bytes-to_be_bytes_8 n small)

pub bytes_before : (front rest : List ℕ) → AreBytes (front ++ rest) → AreBytes front
bytes_before [] rest are = λ place. omega (arith)
bytes_before (x ∷ front) rest are = elim [ zero ↦ are zero | suc place ↦ bytes_before front rest (λ k. are (suc k)) place ]

pub number_canonical : (bytes : List ℕ) (n : ℕ) (rest : List ℕ) → AreBytes bytes → number_reading bytes ≡ Ok (n, rest) → bytes ≡ number n ++ rest
unfolding number
number_canonical bytes n rest are e =
    let s = step_of (bytes_reading 8 bytes) (λ front rest'. Ok (from_be_bytes w64 front, rest')) (n, rest) e in
    let f = front_is 8 bytes s.value s.rest s.read in
    let h = same_ok (from_be_bytes w64 s.value) n s.rest rest s.after in
    let back = be_bytes_8 s.value n f.sized (bytes_before s.value s.rest (subst AreBytes f.joined are)) (sym h.0) in
    f.joined ∙ (λ i. sym back i ++ h.1 i)

abbrev pub longer_if : Bool → ℕ → List ℕ → Result (ℕ × List ℕ) BytesFault
longer_if b n mid = if b then Err TooLong else Ok (n, mid)

count_by : (n k : ℕ) (mid rest : List ℕ) (b : Bool) → longer_if b n mid ≡ Ok (k, rest) → (n ≡ k) × (mid ≡ rest)
count_by n k mid rest true e = absurd (cc)
count_by n k mid rest false e = same_ok n k mid rest e

pub number_laws : BytesLaws number_ops
number_laws = record {
  read_back = λ n rest fits. number_back n rest (grind (arith, nat_tests, fits));
  canonical = number_canonical;
  some = λ n. omega (arith, length-number n);
}

-- ---- flags

abbrev pub flag_number : Bool → ℕ
flag_number false = 0
flag_number true = 1

flag_one : (tag : ℕ) (mid : List ℕ) (b : Bool) (rest : List ℕ) (t : Bool) → (tag == 1) ≡ t → flag_if t mid ≡ Ok (b, rest) → tag ∷ mid ≡ flag_number b ∷ rest
flag_one tag mid b rest true is e =
    let h = same_ok true b mid rest e in
    let one : tag ≡ 1 = grind (arith, nat_tests, is) in
    (λ i. one i ∷ mid) ∙ (λ i. flag_number (h.0 i) ∷ h.1 i)
flag_one tag mid b rest false is e = absurd (cc)

flag_tag : (tag : ℕ) (mid : List ℕ) (b : Bool) (rest : List ℕ) (t : Bool) → (tag == 0) ≡ t → flag_by t tag mid ≡ Ok (b, rest) → tag ∷ mid ≡ flag_number b ∷ rest
flag_tag tag mid b rest true is e =
    let h = same_ok false b mid rest e in
    let none : tag ≡ 0 = grind (arith, nat_tests, is) in
    (λ i. none i ∷ mid) ∙ (λ i. flag_number (h.0 i) ∷ h.1 i)
flag_tag tag mid b rest false is e = flag_one tag mid b rest (tag == 1) refl e

pub flag_is : (bytes : List ℕ) (b : Bool) (rest : List ℕ) → flag_reading bytes ≡ Ok (b, rest) → bytes ≡ flag_number b ∷ rest
flag_is [] b rest e = absurd (cc)
flag_is (tag ∷ mid) b rest e = flag_tag tag mid b rest (tag == 0) refl e

-- ---- of parts

module _ {A B : Type 0} (a : BytesOps A) (b : BytesOps B) (la : BytesLaws a) (lb : BytesLaws b) where
  pair_back : (p : A × B) (rest : List ℕ) → (a.fits p.0 && b.fits p.1) ≡ true → (pair_ops a b).reading ((pair_ops a b).writing p ++ rest) ≡ Ok (p, rest)
  pair_back p rest fits =
      let h = both_true (a.fits p.0) (b.fits p.1) fits in
      ap (λ bytes. a.reading bytes >>= λ x mid. b.reading mid >>= λ y end. Ok ((x, y), end)) (append_assoc (a.writing p.0) (b.writing p.1) rest)
      ∙ ap (λ r. r >>= λ x mid. b.reading mid >>= λ y end. Ok ((x, y), end)) (la.read_back p.0 (b.writing p.1 ++ rest) h.0)
      ∙ ap (λ r. r >>= λ y end. Ok ((p.0, y), end)) (lb.read_back p.1 rest h.1)

  pair_canonical : (bytes : List ℕ) (p : A × B) (rest : List ℕ) → AreBytes bytes → (pair_ops a b).reading bytes ≡ Ok (p, rest) → bytes ≡ (pair_ops a b).writing p ++ rest
  pair_canonical bytes p rest are e =
      let s = step_of (a.reading bytes) (λ x mid. b.reading mid >>= λ y end. Ok ((x, y), end)) (p, rest) e in
      let t = step_of (b.reading s.rest) (λ y end. Ok ((s.value, y), end)) (p, rest) s.after in
      let front = la.canonical bytes s.value s.rest are s.read in
      let back = lb.canonical s.rest t.value t.rest (bytes_left bytes (a.writing s.value) s.rest front are) t.read in
      let h = same_ok (s.value, t.value) p t.rest rest t.after in
      front ∙ ap (λ l. a.writing s.value ++ l) back ∙ sym (append_assoc (a.writing s.value) (b.writing t.value) t.rest)
      ∙ (λ i. (a.writing (h.0 i).0 ++ b.writing (h.0 i).1) ++ h.1 i)

  pub pair_laws : BytesLaws (pair_ops a b)
  pair_laws = record {
    read_back = pair_back;
    canonical = pair_canonical;
    some = λ p. omega (arith, la.some p.0, length-append (a.writing p.0) (b.writing p.1));
  }

module _ {A B : Type 0} (turn : B → A) (back : A → B) (is : (y : B) → back (turn y) ≡ y) (same : (x : A) → turn (back x) ≡ x) (a : BytesOps A) (la : BytesLaws a) where
  turned_back : (y : B) (rest : List ℕ) → a.fits (turn y) ≡ true → (turned_ops turn back a).reading (a.writing (turn y) ++ rest) ≡ Ok (y, rest)
  turned_back y rest fits =
      ap (λ r. r >>= λ x end. Ok (back x, end)) (la.read_back (turn y) rest fits) ∙ (λ i. Ok (is y i, rest))

  turned_canonical : (bytes : List ℕ) (y : B) (rest : List ℕ) → AreBytes bytes → (turned_ops turn back a).reading bytes ≡ Ok (y, rest) → bytes ≡ a.writing (turn y) ++ rest
  turned_canonical bytes y rest are e =
      let s = step_of (a.reading bytes) (λ x end. Ok (back x, end)) (y, rest) e in
      let h = same_ok (back s.value) y s.rest rest s.after in
      la.canonical bytes s.value s.rest are s.read ∙ (λ i. a.writing (sym (same s.value) i) ++ s.rest) ∙ (λ i. a.writing (turn (h.0 i)) ++ h.1 i)

  pub turned_laws : BytesLaws (turned_ops turn back a)
  turned_laws = record { read_back = turned_back; canonical = turned_canonical; some = λ y. la.some (turn y) }

module _ {A : Type 0} (ops : BytesOps A) (laws : BytesLaws ops) where
  -- ---- values that may be missing

  option_back : (x : Option A) (rest : List ℕ) → (option_ops ops).fits x ≡ true → option_reading ops ((option_ops ops).writing x ++ rest) ≡ Ok (x, rest)
  option_back None rest fits = refl
  option_back (Some x) rest fits = ap (λ r. r >>= λ y end. Ok (Some y, end)) (laws.read_back x rest fits)

  option_found : (b : Bool) (bytes mid : List ℕ) (x : Option A) (rest : List ℕ) → AreBytes bytes → bytes ≡ flag_number b ∷ mid → option_by ops b mid ≡ Ok (x, rest)
      → bytes ≡ (option_ops ops).writing x ++ rest
  option_found false bytes mid x rest are is e =
      let none : Option A = None in
      let h = same_ok none x mid rest e in
      is ∙ (λ i. (option_ops ops).writing (h.0 i) ++ h.1 i)
  option_found true bytes mid x rest are is e =
      let s = step_of (ops.reading mid) (λ y end. Ok (Some y, end)) (x, rest) e in
      let h = same_ok (Some s.value) x s.rest rest s.after in
      let behind_it : AreBytes mid = bytes_left bytes (1 ∷ []) mid is are in
      is ∙ (λ i. 1 ∷ laws.canonical mid s.value s.rest behind_it s.read i) ∙ (λ i. (option_ops ops).writing (h.0 i) ++ h.1 i)

  option_canonical : (bytes : List ℕ) (x : Option A) (rest : List ℕ) → AreBytes bytes → option_reading ops bytes ≡ Ok (x, rest) → bytes ≡ (option_ops ops).writing x ++ rest
  option_canonical bytes x rest are e =
      let s = step_of (flag_reading bytes) (option_by ops) (x, rest) e in
      option_found s.value bytes s.rest x rest are (flag_is bytes s.value s.rest s.read) s.after

  option_some : (x : Option A) → 1 ≤ length ((option_ops ops).writing x)
  option_some None = omega arith
  option_some (Some x) = omega arith

  pub option_laws : BytesLaws (option_ops ops)
  option_laws = record { read_back = option_back; canonical = option_canonical; some = option_some }

  -- ---- lists

  each_back : (xs : List A) (rest : List ℕ) → list_all ops.fits xs ≡ true → each_reading ops (length xs) (flat_map ops.writing xs ++ rest) ≡ Ok (xs, rest)
  each_back [] rest fits = refl
  each_back (x ∷ xs) rest fits =
      let h = both_true (ops.fits x) (list_all ops.fits xs) fits in
      ap (λ bytes. ops.reading bytes >>= λ y mid. each_reading ops (length xs) mid >>= λ ys end. Ok (y ∷ ys, end)) (append_assoc (ops.writing x) (flat_map ops.writing xs) rest)
      ∙ ap (λ r. r >>= λ y mid. each_reading ops (length xs) mid >>= λ ys end. Ok (y ∷ ys, end)) (laws.read_back x (flat_map ops.writing xs ++ rest) h.0)
      ∙ ap (λ r. r >>= λ ys end. Ok (x ∷ ys, end)) (each_back xs rest h.1)

  one_each : (xs : List A) → length xs ≤ length (flat_map ops.writing xs)
  one_each [] = omega arith
  one_each (x ∷ xs) = omega (arith, one_each xs, laws.some x, length-append (ops.writing x) (flat_map ops.writing xs))

  not_longer : (xs : List A) (rest : List ℕ) → nat_lt (length (flat_map ops.writing xs ++ rest)) (length xs) ≡ false
  not_longer xs rest = let h = one_each xs in let l = length-append (flat_map ops.writing xs) rest in grind (arith, nat_tests)

  list_back : (xs : List A) (rest : List ℕ) → (list_ops ops).fits xs ≡ true → list_reading ops ((number (length xs) ++ flat_map ops.writing xs) ++ rest) ≡ Ok (xs, rest)
  list_back xs rest fits =
      let h = both_true (nat_lt (length xs) (2 ^ 64)) (list_all ops.fits xs) fits in
      let small : length xs < 2 ^ 64 = grind (arith, nat_tests, h.0) in
      let body = flat_map ops.writing xs in
      ap (λ bytes. list_reading ops bytes) (append_assoc (number (length xs)) body rest)
      ∙ ap (λ r. (r >>= unless_longer) >>= each_reading ops) (number_back (length xs) (body ++ rest) small)
      ∙ ap (λ b. (if b then Err TooLong else Ok (length xs, body ++ rest)) >>= each_reading ops) (not_longer xs rest)
      ∙ each_back xs rest h.1

  pub record IsRead (n : ℕ) (bytes : List ℕ) (xs : List A) (rest : List ℕ) : Type 0 where
    pub joined : bytes ≡ flat_map ops.writing xs ++ rest
    pub counted : length xs ≡ n

  each_canonical : (n : ℕ) (bytes : List ℕ) (xs : List A) (rest : List ℕ) → AreBytes bytes → each_reading ops n bytes ≡ Ok (xs, rest) → IsRead n bytes xs rest
  each_canonical zero bytes xs rest are e =
      let none : List A = [] in
      let h = same_ok none xs bytes rest e in
      record { joined = (λ i. flat_map ops.writing (h.0 i) ++ h.1 i); counted = sym (ap length h.0) }
  each_canonical (suc n) bytes xs rest are e =
      let s = step_of (ops.reading bytes) (λ x mid. each_reading ops n mid >>= λ ys end. Ok (x ∷ ys, end)) (xs, rest) e in
      let t = step_of (each_reading ops n s.rest) (λ ys end. Ok (s.value ∷ ys, end)) (xs, rest) s.after in
      let front = laws.canonical bytes s.value s.rest are s.read in
      let back = each_canonical n s.rest t.value t.rest (bytes_left bytes (ops.writing s.value) s.rest front are) t.read in
      let h = same_ok (s.value ∷ t.value) xs t.rest rest t.after in
      record {
        joined = front ∙ ap (λ l. ops.writing s.value ++ l) back.joined ∙ sym (append_assoc (ops.writing s.value) (flat_map ops.writing t.value) t.rest) ∙ (λ i. flat_map ops.writing (h.0 i) ++ h.1 i);
        counted = sym (ap length h.0) ∙ ap suc back.counted;
      }

  list_canonical : (bytes : List ℕ) (xs : List A) (rest : List ℕ) → AreBytes bytes → list_reading ops bytes ≡ Ok (xs, rest) → bytes ≡ (number (length xs) ++ flat_map ops.writing xs) ++ rest
  list_canonical bytes xs rest are e =
      let s = step_of (count_reading bytes) (each_reading ops) (xs, rest) e in
      let t = step_of (number_reading bytes) unless_longer (s.value, s.rest) s.read in
      let k = count_by t.value s.value t.rest s.rest (nat_lt (length t.rest) t.value) t.after in
      let front = number_canonical bytes t.value t.rest are t.read ∙ (λ i. number (k.0 i) ++ k.1 i) in
      let back = each_canonical s.value s.rest xs rest (bytes_left bytes (number s.value) s.rest front are) s.after in
      front ∙ ap (λ l. number s.value ++ l) back.joined ∙ sym (append_assoc (number s.value) (flat_map ops.writing xs) rest)
      ∙ (λ i. (number (sym back.counted i) ++ flat_map ops.writing xs) ++ rest)

  pub list_laws : BytesLaws (list_ops ops)
  list_laws = record {
    read_back = list_back;
    canonical = list_canonical;
    some = λ xs. omega (arith, length-number (length xs), length-append (number (length xs)) (flat_map ops.writing xs));
  }

  -- ---- a loop's step

  pub one_more : (n m : ℕ) (bytes : List ℕ) (x : A) (rest : List ℕ) (front : List A) → n ≡ suc m → ops.reading bytes ≡ Ok (x, rest)
      → behind front (each_reading ops n bytes) ≡ behind (front ++ x ∷ []) (each_reading ops m rest)
  one_more n m bytes x rest front is read =
      ap (λ k. behind front (each_reading ops k bytes)) is
      ∙ ap (λ r. behind front (r >>= λ y mid. each_reading ops m mid >>= λ ys end. Ok (y ∷ ys, end))) read
      ∙ regrouped front x (each_reading ops m rest)

  pub no_more : (n m : ℕ) (bytes : List ℕ) (fault : BytesFault) (front : List A) → n ≡ suc m → ops.reading bytes ≡ Err fault → behind front (each_reading ops n bytes) ≡ Err fault
  no_more n m bytes fault front is read =
      ap (λ k. behind front (each_reading ops k bytes)) is
      ∙ ap (λ r. behind front (r >>= λ y mid. each_reading ops m mid >>= λ ys end. Ok (y ∷ ys, end))) read

  pub all_read : (n : ℕ) (bytes : List ℕ) (front : List A) → n ≡ 0 → behind front (each_reading ops n bytes) ≡ Ok (front, bytes)
  all_read n bytes front is =
      ap (λ k. behind front (each_reading ops k bytes)) is ∙ (λ i. Ok (append-nil front i, bytes))

-- A fault of a part is one of the whole.
pub stated_more : {A B : Type 0} (e : BytesFault) (inner : Result A BytesFault) (outer : Result B BytesFault) → ((fault : BytesFault) → inner ≡ Err fault → outer ≡ Err fault)
    → IfSome (named e) (λ fault. inner ≡ Err fault) → IfSome (named e) (λ fault. outer ≡ Err fault)
stated_more Truncated inner outer more is = more Truncated is
stated_more TooLong inner outer more is = more TooLong is
stated_more OutOfRange inner outer more is = more OutOfRange is
stated_more Magic inner outer more is = more Magic is
stated_more TrailingBytes inner outer more is = more TrailingBytes is
stated_more OutOfMemory inner outer more is = is
