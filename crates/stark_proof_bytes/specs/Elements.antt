-- Elements of the fields as bytes.
use Rattle.std.specs.Prelude.{◌≡◌, ℕ, ◌<◌, ◌^◌, Bool, true, false, nat_lt, if◌then◌else◌, List, ◌++◌, length, Result, Ok, Err, refl}
use Rattle.std.specs.Int.{w32, from_be_bytes, to_be_bytes}
use Rattle.std.proofs.Common.{◌∙◌, sym, ap, subst, arith}
use Rattle.std.proofs.lemmas.Nat.{be_bytes_4, from_be_bytes-to_be_bytes_4}
use Rattle.std.proofs.lemmas.Bool.{lt-ltb}
use Rattle.std.proofs.lemmas.Bool.Decides.{nat_tests}
use Rattle.std.proofs.Math.Nat.{mod-eq_of_lt}
use Rattle.stark_fields.specs.declared.modulus.Modulus.{Ghosts}
use Rattle.stark_fields.specs.declared.residue.Residue.{Residue}
use Rattle.stark_fields.specs.declared.ext4.Ext4.{Ext4}
use Rattle.stark_fields.specs.Residues.{residue, residue_of_value}
use Rattle.stark_fields.specs.Ext4Field.{ext4}
use Rattle.stark_proof_bytes.specs.declared.fault.BytesFault.{BytesFault}
use Rattle.stark_proof_bytes.specs.declared.fault.BytesFault.TheVariants.{OutOfRange}
use Rattle.stark_proof_bytes.specs.Bytes.{AreBytes, BytesLaws, BytesOps, bytes_reading, pair_ops, turned_ops, ◌>>=◌}
use Rattle.stark_proof_bytes.specs.BytesFacts.{bytes_before, front_is, front_read, pair_laws, same_ok, step_of, turned_laws}

-- 4 bytes, the high one first
unfoldable pub small_number : ℕ → List ℕ
small_number n = to_be_bytes w32 n

pub length-small_number : (n : ℕ) → length (small_number n) ≡ 4
unfolding small_number
length-small_number n = refl

abbrev pub base_if : {M K : Type 0} {G : Ghosts M} → Bool → ℕ → List ℕ → Result (Residue M K G × List ℕ) BytesFault
base_if b n rest = if b then Ok (residue n, rest) else Err OutOfRange

-- a number below the modulus
abbrev pub base_of : {M K : Type 0} {G : Ghosts M} → ℕ → List ℕ → Result (Residue M K G × List ℕ) BytesFault
base_of {M} {K} {G} n rest = base_if (nat_lt n G.MODULUS) n rest

abbrev pub base_reading : {M K : Type 0} {G : Ghosts M} → List ℕ → Result (Residue M K G × List ℕ) BytesFault
base_reading bytes = bytes_reading 4 bytes >>= λ front rest. base_of (from_be_bytes w32 front) rest

abbrev pub base_ops : {M K : Type 0} {G : Ghosts M} → BytesOps (Residue M K G)
base_ops = record { writing = λ x. small_number x.value; reading = base_reading; fits = λ x. true }

module _ {M K : Type 0} {G : Ghosts M} where
  base_back : (x : Residue M K G) (rest : List ℕ) → true ≡ true → base_reading {M = M} {K = K} {G = G} (small_number x.value ++ rest) ≡ Ok (x, rest)
  unfolding small_number
  base_back x rest fits =
      let small : x.value < 2 ^ 32 = omega (arith, x.in_range, G.prime.below) in
      ap (λ r. r >>= λ front end. base_of {M = M} {K = K} {G = G} (from_be_bytes w32 front) end) (front_read 4 (small_number x.value) rest (length-small_number x.value))
      ∙ ap (λ n. base_of {M = M} {K = K} {G = G} n rest) (from_be_bytes-to_be_bytes_4 x.value small)
      ∙ ap (λ b. base_if {M = M} {K = K} {G = G} b x.value rest) (lt-ltb x.value G.MODULUS x.in_range)
      ∙ (λ i. Ok (residue_of_value x i, rest))

  pub record IsElement (n : ℕ) (mid : List ℕ) (x : Residue M K G) (rest : List ℕ) : Type 0 where
    pub value : x.value ≡ n
    pub rest_same : mid ≡ rest

  element_by : (n : ℕ) (mid : List ℕ) (x : Residue M K G) (rest : List ℕ) (b : Bool) → nat_lt n G.MODULUS ≡ b → base_if {M = M} {K = K} {G = G} b n mid ≡ Ok (x, rest) → IsElement n mid x rest
  element_by n mid x rest true is e =
      let obtained : Residue M K G = residue n in
      let h = same_ok obtained x mid rest e in
      let small : n < G.MODULUS = grind (arith, nat_tests, is) in
      record { value = sym (ap (λ (y : Residue M K G). y.value) h.0) ∙ mod-eq_of_lt small; rest_same = h.1 }
  element_by n mid x rest false is e = absurd (cc)

  base_canonical : (bytes : List ℕ) (x : Residue M K G) (rest : List ℕ) → AreBytes bytes → base_reading {M = M} {K = K} {G = G} bytes ≡ Ok (x, rest) → bytes ≡ small_number x.value ++ rest
  unfolding small_number
  base_canonical bytes x rest are e =
      let s = step_of (bytes_reading 4 bytes) (λ front end. base_of {M = M} {K = K} {G = G} (from_be_bytes w32 front) end) (x, rest) e in
      let f = front_is 4 bytes s.value s.rest s.read in
      let h = element_by (from_be_bytes w32 s.value) s.rest x rest (nat_lt (from_be_bytes w32 s.value) G.MODULUS) refl s.after in
      let back = be_bytes_4 s.value x.value f.sized (bytes_before s.value s.rest (subst AreBytes f.joined are)) h.value in
      f.joined ∙ (λ i. sym back i ++ h.rest_same i)

  pub base_laws : BytesLaws (base_ops {M = M} {K = K} {G = G})
  base_laws = record { read_back = base_back; canonical = base_canonical; some = λ x. omega (arith, length-small_number x.value) }

module _ {K : Type 0} (ops : BytesOps K) where
  -- the four coordinates in order
  abbrev pub ext4_ops : BytesOps (Ext4 K)
  ext4_ops = turned_ops (λ x. (x.c0, (x.c1, (x.c2, x.c3)))) (λ p. ext4 p.0 p.1.0 p.1.1.0 p.1.1.1) (pair_ops ops (pair_ops ops (pair_ops ops ops)))

  pub ext4_laws : BytesLaws ops → BytesLaws ext4_ops
  ext4_laws laws = turned_laws (λ (x : Ext4 K). (x.c0, (x.c1, (x.c2, x.c3)))) (λ p. ext4 p.0 p.1.0 p.1.1.0 p.1.1.1) (λ x. refl) (λ p. refl)
      (pair_ops ops (pair_ops ops (pair_ops ops ops))) (pair_laws ops _ laws (pair_laws ops _ laws (pair_laws ops ops laws laws)))
