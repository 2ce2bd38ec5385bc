-- Whole proofs as bytes: the text that tells kind and version, and the parts in the order of their fields.
use Rattle.std.specs.Prelude.{◌≡◌, Bool, true, false, if◌then◌else◌, ℕ, List, [], ◌∷◌, ◌++◌, length, drop, codes, IfSome, Option, Result, Ok, Err, refl, ⊤, nat_eq}
use Rattle.std.specs.List.{starts_with}
use Rattle.std.proofs.Common.{◌∙◌, ap, arith, sym}
use Rattle.std.proofs.lemmas.Bool.Decides.{Decides-eqb}
use Rattle.std.proofs.lemmas.List.{append-nil}
use Rattle.std.proofs.lemmas.Slice.Eq.{starts_is}
use Rattle.stark_proof.specs.ProofView.{OpeningsView, PreprocessedView, ProofView}
use Rattle.stark_proof.specs.declared.values.Commitments.{Commitments}
use Rattle.stark_proof_bytes.specs.declared.fault.BytesFault.{BytesFault}
use Rattle.stark_proof_bytes.specs.declared.fault.BytesFault.TheVariants.{Magic, TrailingBytes}
use Rattle.stark_proof_bytes.specs.Bytes.{AreBytes, BytesLaws, BytesOps, list_ops, named, number_ops, option_ops, pair_ops, prefix_reading, turned_ops, ◌>>=◌}
use Rattle.stark_proof_bytes.specs.BytesFacts.{TakenAs, bytes_left, list_laws, number_laws, option_laws, pair_laws, same_ok, step_of, turned_laws}

-- ---- commitments

module _ {K : Type 0} (ops : BytesOps K) where
  abbrev pub commitments_ops : BytesOps (Commitments K)
  commitments_ops = turned_ops (λ x. (x.trace, (x.quotient_chunks, x.random))) (λ p. record { trace = p.0; quotient_chunks = p.1.0; random = p.1.1 })
      (pair_ops ops (pair_ops ops (option_ops ops)))

  pub commitments_laws : BytesLaws ops → BytesLaws commitments_ops
  commitments_laws laws = turned_laws (λ (x : Commitments K). (x.trace, (x.quotient_chunks, x.random))) (λ p. record { trace = p.0; quotient_chunks = p.1.0; random = p.1.1 })
      (λ x. refl) (λ p. refl) (pair_ops ops (pair_ops ops (option_ops ops))) (pair_laws ops _ laws (pair_laws ops (option_ops ops) laws (option_laws ops laws)))

-- ---- opened values

module _ {E : Type 0} (ops : BytesOps E) where
  abbrev pub preprocessed_ops : BytesOps (PreprocessedView E)
  preprocessed_ops = turned_ops (λ x. (x.local, x.next)) (λ p. record { local = p.0; next = p.1 }) (pair_ops (list_ops ops) (option_ops (list_ops ops)))

  pub preprocessed_laws : BytesLaws ops → BytesLaws preprocessed_ops
  preprocessed_laws laws = turned_laws (λ (x : PreprocessedView E). (x.local, x.next)) (λ p. record { local = p.0; next = p.1 }) (λ x. refl) (λ p. refl)
      (pair_ops (list_ops ops) (option_ops (list_ops ops))) (pair_laws _ _ (list_laws ops laws) (option_laws (list_ops ops) (list_laws ops laws)))

  abbrev pub opened_parts : BytesOps (List E × (Option (List E) × (Option (PreprocessedView E) × (List (List E) × Option (List E)))))
  opened_parts = pair_ops (list_ops ops) (pair_ops (option_ops (list_ops ops)) (pair_ops (option_ops preprocessed_ops) (pair_ops (list_ops (list_ops ops)) (option_ops (list_ops ops)))))

  abbrev pub openings_ops : BytesOps (OpeningsView E)
  openings_ops = turned_ops (λ x. (x.trace_local, (x.trace_next, (x.preprocessed, (x.quotient_chunks, x.random)))))
      (λ p. record { trace_local = p.0; trace_next = p.1.0; preprocessed = p.1.1.0; quotient_chunks = p.1.1.1.0; random = p.1.1.1.1 }) opened_parts

  pub openings_laws : BytesLaws ops → BytesLaws openings_ops
  openings_laws laws =
      let rows = list_laws ops laws in
      let row_if = option_laws (list_ops ops) rows in
      turned_laws (λ (x : OpeningsView E). (x.trace_local, (x.trace_next, (x.preprocessed, (x.quotient_chunks, x.random)))))
      (λ p. record { trace_local = p.0; trace_next = p.1.0; preprocessed = p.1.1.0; quotient_chunks = p.1.1.1.0; random = p.1.1.1.1 })
      (λ x. refl) (λ p. refl) opened_parts
      (pair_laws _ _ rows (pair_laws _ _ row_if (pair_laws _ _ (option_laws preprocessed_ops (preprocessed_laws laws)) (pair_laws _ _ (list_laws (list_ops ops) rows) row_if))))

-- ---- the whole

-- a codec of each part of a proof
pub record ProofCodecs (K E P F : Type 0) : Type 0 where
  pub commitment : BytesOps K
  pub challenge : BytesOps E
  pub opening : BytesOps P
  pub value : BytesOps F

pub record ProofCodecsLaws {K E P F : Type 0} (ops : ProofCodecs K E P F) : Type 0 where
  pub commitment : BytesLaws ops.commitment
  pub challenge : BytesLaws ops.challenge
  pub opening : BytesLaws ops.opening
  pub value : BytesLaws ops.value

-- the bytes that each file begins with
abbrev pub magic : List ℕ
magic = codes "voskligan proof 2"

abbrev pub magic_if : Bool → List ℕ → Result (⊤ × List ℕ) BytesFault
magic_if b rest = if b then Ok (tt, rest) else Err Magic

abbrev pub magic_reading : List ℕ → Result (⊤ × List ℕ) BytesFault
magic_reading bytes = prefix_reading magic bytes

abbrev pub magic_ops : BytesOps ⊤
magic_ops = record { writing = λ x. magic; reading = magic_reading; fits = λ x. true }

magic_by : (bytes : List ℕ) (x : ⊤) (rest : List ℕ) (b : Bool) → starts_with nat_eq bytes magic ≡ b → magic_if b (drop (length magic) bytes) ≡ Ok (x, rest) → bytes ≡ magic ++ rest
magic_by bytes x rest true is e =
    let h = same_ok tt x (drop (length magic) bytes) rest e in
    (starts_is Decides-eqb bytes magic (starts_with nat_eq bytes magic) refl).0 is ∙ ap (λ l. magic ++ l) h.1
magic_by bytes x rest false is e = absurd (cc)

pub magic_laws : BytesLaws magic_ops
magic_laws = record {
  read_back = λ x rest fits. refl;
  canonical = λ bytes x rest are e. magic_by bytes x rest (starts_with nat_eq bytes magic) refl e;
  some = λ x. omega arith;
}

-- the value, where nothing is left
abbrev pub alone : {A : Type 0} → A → List ℕ → Result A BytesFault
alone x [] = Ok x
alone x (byte ∷ rest) = Err TrailingBytes

abbrev pub ended : {A : Type 0} → Result (A × List ℕ) BytesFault → Result A BytesFault
ended (Ok p) = alone p.0 p.1
ended (Err fault) = Err fault

module _ {K E P F : Type 0} (ops : ProofCodecs K E P F) where
  abbrev pub proof_parts : BytesOps (Commitments K × (OpeningsView E × (P × (ℕ × (F × F)))))
  proof_parts = pair_ops (commitments_ops ops.commitment) (pair_ops (openings_ops ops.challenge) (pair_ops ops.opening (pair_ops number_ops (pair_ops ops.value ops.value))))

  abbrev pub proof_ops : BytesOps (ProofView K E P F)
  proof_ops = turned_ops (λ x. (x.commitments, (x.opened_values, (x.opening_proof, (x.degree_bits, (x.ood_pow_witness, x.alpha_pow_witness))))))
      (λ p. record { commitments = p.0; opened_values = p.1.0; opening_proof = p.1.1.0; degree_bits = p.1.1.1.0; ood_pow_witness = p.1.1.1.1.0; alpha_pow_witness = p.1.1.1.1.1 }) proof_parts

  abbrev pub proof_body : ProofView K E P F → List ℕ
  proof_body proof = proof_ops.writing proof

  abbrev pub proof_fits : ProofView K E P F → Bool
  proof_fits proof = proof_ops.fits proof

  -- the bytes of a file
  abbrev pub proof_writing : ProofView K E P F → List ℕ
  proof_writing proof = magic ++ proof_body proof

  abbrev pub proof_front : List ℕ → Result (ProofView K E P F × List ℕ) BytesFault
  proof_front bytes = magic_reading bytes >>= λ begun rest. proof_ops.reading rest

  -- the proof that the bytes of a file name, or their first fault
  unfoldable pub proof_reading : List ℕ → Result (ProofView K E P F) BytesFault
  proof_reading bytes = ended (proof_front bytes)

abbrev pub codecs : {K E P F : Type 0} → BytesOps K → BytesOps E → BytesOps P → BytesOps F → ProofCodecs K E P F
codecs commitment challenge opening value = record { commitment = commitment; challenge = challenge; opening = opening; value = value }

-- What a reader returned, seen by view, is what reading gives: the value, or the fault, unless memory ran out.
abbrev pub Decodes : {A B : Type 0} → (A → B) → Result A BytesFault → Result B BytesFault → Type 0
Decodes view (Ok a) reading = reading ≡ Ok (view a)
Decodes view (Err error) reading = IfSome (named error) (λ fault. reading ≡ Err fault)

-- ---- what is written is read back, and what is read is what would be written

alone_is : {A : Type 0} (y : A) (rest : List ℕ) (x : A) → alone y rest ≡ Ok x → TakenAs y rest x []
alone_is y [] x e = let same : y ≡ x = cc in λ i. Ok (same i, [])
alone_is y (byte ∷ rest) x e = absurd (cc)

ended_is : {A : Type 0} (r : Result (A × List ℕ) BytesFault) (x : A) → ended r ≡ Ok x → r ≡ Ok (x, [])
ended_is (Ok p) x e = alone_is p.0 p.1 x e
ended_is (Err fault) x e = absurd (cc)

module _ {K E P F : Type 0} (ops : ProofCodecs K E P F) (laws : ProofCodecsLaws ops) where
  parts_laws : BytesLaws (proof_parts ops)
  parts_laws =
      pair_laws _ _ (commitments_laws ops.commitment laws.commitment)
      (pair_laws _ _ (openings_laws ops.challenge laws.challenge)
      (pair_laws _ _ laws.opening (pair_laws _ _ number_laws (pair_laws _ _ laws.value laws.value))))

  pub proof_laws : BytesLaws (proof_ops ops)
  proof_laws = turned_laws (λ (x : ProofView K E P F). (x.commitments, (x.opened_values, (x.opening_proof, (x.degree_bits, (x.ood_pow_witness, x.alpha_pow_witness))))))
      (λ p. record { commitments = p.0; opened_values = p.1.0; opening_proof = p.1.1.0; degree_bits = p.1.1.1.0; ood_pow_witness = p.1.1.1.1.0; alpha_pow_witness = p.1.1.1.1.1 })
      (λ x. refl) (λ p. refl) (proof_parts ops) parts_laws

  pub written_is_read : (proof : ProofView K E P F) → (proof_ops ops).fits proof ≡ true → proof_reading ops (proof_writing ops proof) ≡ Ok proof
  unfolding proof_reading
  written_is_read proof fits =
      let body = (proof_ops ops).writing proof in
      ap (λ r. ended (r >>= λ begun rest. (proof_ops ops).reading rest)) (magic_laws.read_back tt body refl)
      ∙ ap (λ bytes. ended ((proof_ops ops).reading bytes)) (sym (append-nil body))
      ∙ ap (λ r. ended r) (proof_laws.read_back proof [] fits)

  pub read_is_written : (bytes : List ℕ) (proof : ProofView K E P F) → AreBytes bytes → proof_reading ops bytes ≡ Ok proof → bytes ≡ proof_writing ops proof
  unfolding proof_reading
  read_is_written bytes proof are e =
      let s = step_of (magic_reading bytes) (λ begun rest. (proof_ops ops).reading rest) (proof, []) (ended_is (proof_front ops bytes) proof e) in
      let front = magic_laws.canonical bytes s.value s.rest are s.read in
      let back = proof_laws.canonical s.rest proof [] (bytes_left bytes magic s.rest front are) s.after in
      front ∙ ap (λ l. magic ++ l) (back ∙ append-nil ((proof_ops ops).writing proof))
