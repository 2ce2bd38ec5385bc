-- What the bytes of an input of `verify` are.
use Rattle.std.specs.Prelude.{ℕ, ◌^◌, ◌<◌, List, [], ◌∷◌, length, if◌then◌else◌, nat_lt, is_some, Option, None, Some, Result, Ok, Err, codes}
use Rattle.std.specs.Option.{option_or}
use Rattle.std.specs.Str.{bytes_eq}
use Rattle.serde_json.specs.Data.{Data}
use Rattle.serde_json.specs.Find.{get, as_null, as_str}
use Rattle.stark_support.specs.Json.{◌>>=◌, json_of, whole_at, array_at}
use Rattle.stark_fields.specs.ElementJson.{base_at, element_at}
use Rattle.stark_fields.specs.Residues.{residue_ring}
use Rattle.stark_proof.specs.ProofView.{ProofView, proof_view}
use Rattle.stark_proof.specs.ProofJson.{proof_reading}
use Rattle.stark_commands.specs.Input.{Base, Extension}
use Rattle.stark_commands.specs.declared.proof_input.ChosenChallenger.{ChosenChallenger}
use Rattle.stark_commands.specs.declared.proof_input.ChosenChallenger.TheVariants.{Sha256, Script}
use Rattle.stark_commands.specs.declared.proof_input.ProofInput.{ProofInput}

-- The challenger that is named: the one that hashes, or the one that hands out these numbers, of which there are some.
pub data NamedChallenger : Type 0 where
  hashing : NamedChallenger
  scripted : List Base → NamedChallenger

-- What is read: a proof, public values, a challenger, how many bits of work are asked for before the point out of the domain, and how many
-- before alpha.
pub record ProofNumbers (K : Type 0) (P : Type 0) : Type 0 where
  pub proof : ProofView K Extension P Base
  pub public_values : List Base
  pub challenger : NamedChallenger
  pub ood_bits : ℕ
  pub alpha_bits : ℕ

abbrev pub some_script : List Base → Option NamedChallenger
some_script [] = None
some_script (first ∷ rest) = Some (scripted (first ∷ rest))

-- the text of the one that hashes
abbrev pub is_hashing : Option (List ℕ) → Option NamedChallenger
is_hashing None = None
is_hashing (Some name) = if bytes_eq name (codes "sha256") then Some hashing else None

-- a name, or an array of numbers that isn't empty
unfoldable pub challenger_at : Data → Option NamedChallenger
challenger_at d = option_or (is_hashing (as_str d)) (array_at base_at d >>= some_script)

abbrev pub bits_in : Data → Option ℕ
bits_in d = if is_some (as_null d) then Some 0 else (whole_at d >>= λ n. if nat_lt n (2 ^ 64) then Some n else None)

-- a number of bits, 0 where it is missing or null
unfoldable pub bits_at : Option Data → Option ℕ
bits_at None = Some 0
bits_at (Some d) = bits_in d

-- what is read, without the fault where nothing is
abbrev pub ok_of : {A : Type 0} {Fault : Type 0} → Result A Fault → Option A
ok_of (Ok a) = Some a
ok_of (Err fault) = None

module _ {K : Type 0} {P : Type 0} (commitment : Data → Option K) (argument : Data → Option P) where
  -- what a JSON value has under the five names
  unfoldable pub proof_numbers_at : Data → Option (ProofNumbers K P)
  proof_numbers_at d = do
    proof ← get (codes "proof") d >>= λ p. ok_of (proof_reading commitment (element_at base_at) argument base_at residue_ring.zero p)
    public_values ← get (codes "publics") d >>= array_at base_at
    challenger ← get (codes "challenger") d >>= challenger_at
    ood_bits ← bits_at (get (codes "ood_bits") d)
    alpha_bits ← bits_at (get (codes "alpha_bits") d)
    Some (record { proof = proof; public_values = public_values; challenger = challenger; ood_bits = ood_bits; alpha_bits = alpha_bits })

  -- what the bytes spell
  unfoldable pub proof_numbers_in : List ℕ → Option (ProofNumbers K P)
  proof_numbers_in bytes = json_of bytes >>= proof_numbers_at

-- The challenger that is named, without where it lies in memory.
abbrev pub named_challenger : ChosenChallenger → NamedChallenger
named_challenger Sha256 = hashing
named_challenger (Script numbers) = scripted numbers.items

abbrev pub proof_numbers : {K : Type 0} {P : Type 0} → ProofInput K P → ProofNumbers K P
proof_numbers input = record { proof = proof_view input.proof; public_values = input.public_values.items; challenger = named_challenger input.challenger; ood_bits = input.ood_bits; alpha_bits = input.alpha_bits }

-- A script has some number.
abbrev pub HasSomeNumber : ChosenChallenger → Type 0
HasSomeNumber Sha256 = Unit {0}
HasSomeNumber (Script numbers) = 0 < length numbers.items
