-- What the scheme in the clear commits to and proves by, as bytes.
use Rattle.std.specs.Prelude.{◌≡◌, ◌==◌, Bool, true, false, if◌then◌else◌, ℕ, List, [], ◌∷◌, ◌++◌, Result, Ok, Err, refl}
use Rattle.std.proofs.Common.{arith}
use Rattle.std.proofs.lemmas.Bool.Decides.{nat_tests}
use Rattle.stark_clear.specs.declared.clear.pcs.ClearProof.{ClearProof}
use Rattle.stark_proof_bytes.specs.declared.fault.BytesFault.{BytesFault}
use Rattle.stark_proof_bytes.specs.declared.fault.BytesFault.TheVariants.{Truncated, OutOfRange}
use Rattle.stark_proof_bytes.specs.Bytes.{AreBytes, BytesLaws, BytesOps, list_ops}
use Rattle.stark_proof_bytes.specs.BytesFacts.{list_laws, same_ok}

-- matrices, of columns, of coefficients
abbrev pub commitment_ops : {F : Type 0} → BytesOps F → BytesOps (List (List (List F)))
commitment_ops field = list_ops (list_ops (list_ops field))

pub commitment_laws : {F : Type 0} (field : BytesOps F) → BytesLaws field → BytesLaws (commitment_ops field)
commitment_laws field laws = list_laws (list_ops (list_ops field)) (list_laws (list_ops field) (list_laws field laws))

abbrev pub nothing : ClearProof
nothing = record {}

abbrev pub nothing_if : Bool → List ℕ → Result (ClearProof × List ℕ) BytesFault
nothing_if b rest = if b then Ok (nothing, rest) else Err OutOfRange

abbrev pub nothing_reading : List ℕ → Result (ClearProof × List ℕ) BytesFault
nothing_reading [] = Err Truncated
nothing_reading (tag ∷ rest) = nothing_if (tag == 0) rest

-- the byte 0
abbrev pub nothing_ops : BytesOps ClearProof
nothing_ops = record { writing = λ x. 0 ∷ []; reading = nothing_reading; fits = λ x. true }

nothing_by : (tag : ℕ) (mid : List ℕ) (x : ClearProof) (rest : List ℕ) (b : Bool) → (tag == 0) ≡ b → nothing_if b mid ≡ Ok (x, rest) → tag ∷ mid ≡ (0 ∷ []) ++ rest
nothing_by tag mid x rest true is e =
    let h = same_ok nothing x mid rest e in
    let none : tag ≡ 0 = grind (arith, nat_tests, is) in
    λ i. none i ∷ h.1 i
nothing_by tag mid x rest false is e = absurd (cc)

nothing_canonical : (bytes : List ℕ) (x : ClearProof) (rest : List ℕ) → AreBytes bytes → nothing_reading bytes ≡ Ok (x, rest) → bytes ≡ (0 ∷ []) ++ rest
nothing_canonical [] x rest are e = absurd (cc)
nothing_canonical (tag ∷ mid) x rest are e = nothing_by tag mid x rest (tag == 0) refl e

pub nothing_laws : BytesLaws nothing_ops
nothing_laws = record { read_back = λ x rest fits. refl; canonical = nothing_canonical; some = λ x. omega arith }
