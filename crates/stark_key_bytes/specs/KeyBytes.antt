-- Keys of statements as bytes: the text that tells kind and version, and the parts in the order of their fields.
use Rattle.std.specs.Prelude.{◌==◌, ◌&&◌, ℕ, List, ◌++◌, length, codes, Option, Result, Ok}
use Rattle.stark_protocol.specs.declared.preprocessed.PreprocessedVerifierKey.{PreprocessedVerifierKey}
use Rattle.stark_proof_bytes.specs.declared.fault.BytesFault.{BytesFault}
use Rattle.stark_proof_bytes.specs.Bytes.{BytesOps, bytes_reading, number_ops, option_ops, pair_ops, prefix_reading, turned_ops, ◌>>=◌}
use Rattle.stark_proof_bytes.specs.ProofBytes.{ended}
use Rattle.stark_key_bytes.specs.declared.key.StatementKey.{StatementKey}

abbrev pub statement_key : {K : Type 0} → List ℕ → Option (PreprocessedVerifierKey K) → StatementKey K
statement_key digest key = record { digest = digest; key = key }

-- the bytes that each file begins with
abbrev pub key_magic : List ℕ
key_magic = codes "voskligan key 2"

module _ {K : Type 0} (ops : BytesOps K) where
  -- how many columns, the logarithm of the committed height, and the commitment
  abbrev pub verifier_key_ops : BytesOps (PreprocessedVerifierKey K)
  verifier_key_ops = turned_ops (λ x. (x.width, (x.degree_bits, x.commitment))) (λ p. record { width = p.0; degree_bits = p.1.0; commitment = p.1.1 })
      (pair_ops number_ops (pair_ops number_ops ops))

  abbrev pub key_after : List ℕ → List ℕ → Result (StatementKey K × List ℕ) BytesFault
  key_after digest rest = (option_ops verifier_key_ops).reading rest >>= λ key end. Ok (statement_key digest key, end)

  -- the digest's 32 bytes, and the key, as a value that may be missing
  abbrev pub key_ops : BytesOps (StatementKey K)
  key_ops = record {
    writing = λ x. x.digest ++ (option_ops verifier_key_ops).writing x.key;
    reading = λ bytes. bytes_reading 32 bytes >>= key_after;
    fits = λ x. (length x.digest == 32) && (option_ops verifier_key_ops).fits x.key;
  }

  -- the bytes of a file
  abbrev pub key_writing : StatementKey K → List ℕ
  key_writing x = key_magic ++ key_ops.writing x

  abbrev pub key_front : List ℕ → Result (StatementKey K × List ℕ) BytesFault
  key_front bytes = prefix_reading key_magic bytes >>= λ begun rest. key_ops.reading rest

  -- the key that the bytes of a file name, or their first fault
  unfoldable pub key_reading : List ℕ → Result (StatementKey K) BytesFault
  key_reading bytes = ended (key_front bytes)
