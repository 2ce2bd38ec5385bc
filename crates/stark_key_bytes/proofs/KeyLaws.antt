-- What is written of a key is read back, and what is read is what would be written.
use Rattle.std.specs.Prelude.{◌≡◌, ◌==◌, ◌&&◌, ℕ, Bool, true, false, List, [], ◌∷◌, ◌++◌, length, drop, Option, Result, Ok, Err, refl, ⊤, nat_eq, if◌then◌else◌}
use Rattle.std.specs.List.{starts_with}
use Rattle.std.proofs.Common.{◌∙◌, ap, append_assoc, arith, sym}
use Rattle.std.proofs.lemmas.Bool.Decides.{Decides-eqb, nat_tests}
use Rattle.std.proofs.lemmas.List.{append-nil}
use Rattle.std.proofs.lemmas.Slice.Eq.{starts_is}
use Rattle.stark_protocol.specs.declared.preprocessed.PreprocessedVerifierKey.{PreprocessedVerifierKey}
use Rattle.stark_proof_bytes.specs.declared.fault.BytesFault.{BytesFault}
use Rattle.stark_proof_bytes.specs.declared.fault.BytesFault.TheVariants.{Magic}
use Rattle.stark_proof_bytes.specs.Bytes.{AreBytes, BytesLaws, BytesOps, bytes_reading, number_ops, option_ops, pair_ops, prefix_reading, ◌>>=◌}
use Rattle.stark_proof_bytes.specs.BytesFacts.{TakenAs, both_true, bytes_left, front_is, front_read, number_laws, option_laws, pair_laws, same_ok, step_of, turned_laws}
use Rattle.stark_proof_bytes.specs.ProofBytes.{alone, ended}
use Rattle.stark_key_bytes.specs.KeyBytes.{key_after, key_front, key_magic, key_ops, key_reading, key_writing, statement_key, verifier_key_ops}
use Rattle.stark_key_bytes.specs.declared.key.StatementKey.{StatementKey}

alone_is : {A : Type 0} (y : A) (rest : List ℕ) (x : A) → alone y rest ≡ Ok x → TakenAs y rest x []
alone_is y [] x e = let same : y ≡ x = cc in λ i. Ok (same i, [])
alone_is y (byte ∷ rest) x e = absurd (cc)

ended_is : {A : Type 0} (r : Result (A × List ℕ) BytesFault) (x : A) → ended r ≡ Ok x → r ≡ Ok (x, [])
ended_is (Ok p) x e = alone_is p.0 p.1 x e
ended_is (Err fault) x e = absurd (cc)

abbrev begun_if : Bool → List ℕ → Result (⊤ × List ℕ) BytesFault
begun_if b rest = if b then Ok (tt, rest) else Err Magic

begun_by : (bytes : List ℕ) (x : ⊤) (rest : List ℕ) (b : Bool) → starts_with nat_eq bytes key_magic ≡ b → begun_if b (drop (length key_magic) bytes) ≡ Ok (x, rest) → bytes ≡ key_magic ++ rest
begun_by bytes x rest true is e =
    let h = same_ok tt x (drop (length key_magic) bytes) rest e in
    (starts_is Decides-eqb bytes key_magic (starts_with nat_eq bytes key_magic) refl).0 is ∙ ap (λ l. key_magic ++ l) h.1
begun_by bytes x rest false is e = absurd (cc)

module _ {K : Type 0} (ops : BytesOps K) (laws : BytesLaws ops) where
  verifier_key_laws : BytesLaws (verifier_key_ops ops)
  verifier_key_laws = turned_laws (λ (x : PreprocessedVerifierKey K). (x.width, (x.degree_bits, x.commitment))) (λ p. record { width = p.0; degree_bits = p.1.0; commitment = p.1.1 })
      (λ x. refl) (λ p. refl) (pair_ops number_ops (pair_ops number_ops ops)) (pair_laws _ _ number_laws (pair_laws _ _ number_laws laws))

  key_laws : BytesLaws (option_ops (verifier_key_ops ops))
  key_laws = option_laws (verifier_key_ops ops) verifier_key_laws

  parts_back : (x : StatementKey K) (rest : List ℕ) → (key_ops ops).fits x ≡ true → (key_ops ops).reading ((key_ops ops).writing x ++ rest) ≡ Ok (x, rest)
  parts_back x rest fits =
      let h = both_true (length x.digest == 32) ((option_ops (verifier_key_ops ops)).fits x.key) fits in
      let body = (option_ops (verifier_key_ops ops)).writing x.key in
      let sized : length x.digest ≡ 32 = grind (arith, nat_tests, h.0) in
      ap (λ bytes. bytes_reading 32 bytes >>= key_after ops) (append_assoc x.digest body rest)
      ∙ ap (λ r. r >>= key_after ops) (front_read 32 x.digest (body ++ rest) sized)
      ∙ ap (λ r. r >>= λ key end. Ok (statement_key x.digest key, end)) (key_laws.read_back x.key rest h.1)

  parts_canonical : (bytes : List ℕ) (x : StatementKey K) (rest : List ℕ) → AreBytes bytes → (key_ops ops).reading bytes ≡ Ok (x, rest) → bytes ≡ (key_ops ops).writing x ++ rest
  parts_canonical bytes x rest are e =
      let s = step_of (bytes_reading 32 bytes) (key_after ops) (x, rest) e in
      let f = front_is 32 bytes s.value s.rest s.read in
      let t = step_of ((option_ops (verifier_key_ops ops)).reading s.rest) (λ key end. Ok (statement_key s.value key, end)) (x, rest) s.after in
      let back = key_laws.canonical s.rest t.value t.rest (bytes_left bytes s.value s.rest f.joined are) t.read in
      let h = same_ok (statement_key s.value t.value) x t.rest rest t.after in
      f.joined ∙ ap (λ l. s.value ++ l) back ∙ sym (append_assoc s.value ((option_ops (verifier_key_ops ops)).writing t.value) t.rest)
      ∙ (λ i. (key_ops ops).writing (h.0 i) ++ h.1 i)

  pub written_is_read : (x : StatementKey K) → (key_ops ops).fits x ≡ true → key_reading ops (key_writing ops x) ≡ Ok x
  unfolding key_reading
  written_is_read x fits =
      let body = (key_ops ops).writing x in
      ap (λ bytes. ended ((key_ops ops).reading bytes)) (sym (append-nil body))
      ∙ ap (λ r. ended r) (parts_back x [] fits)

  pub read_is_written : (bytes : List ℕ) (x : StatementKey K) → AreBytes bytes → key_reading ops bytes ≡ Ok x → bytes ≡ key_writing ops x
  unfolding key_reading
  read_is_written bytes x are e =
      let s = step_of (prefix_reading key_magic bytes) (λ begun rest. (key_ops ops).reading rest) (x, []) (ended_is (key_front ops bytes) x e) in
      let front = begun_by bytes s.value s.rest (starts_with nat_eq bytes key_magic) refl s.read in
      let back = parts_canonical s.rest x [] (bytes_left bytes key_magic s.rest front are) s.after in
      front ∙ ap (λ l. key_magic ++ l) (back ∙ append-nil ((key_ops ops).writing x))
