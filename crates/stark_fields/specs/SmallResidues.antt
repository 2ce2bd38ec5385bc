-- The residues modulo 12289.
use Rattle.std.specs.Prelude.{ℕ, false}
use Rattle.stark_fields.specs.Small.{is_prime_modulus, is_written, eleven_is_non_square, is_two_adic}
use Rattle.stark_support.specs.Ring.{FieldLaws, IsQuarticConstant}
use Rattle.stark_support.specs.TwoAdic.{TwoAdicLaws}
use Rattle.stark_fields.specs.Residues.{residue, residue_ring, residue_inverse}
use Rattle.stark_fields.specs.PrimeField.{residue_laws, quartic_constant, root, two_adic_laws}
use Rattle.stark_fields.specs.declared.modulus.Modulus.{Ghosts}
use Rattle.stark_fields.specs.declared.small.M12289.{M12289}
use Rattle.stark_fields.specs.declared.residue.Residue.{Residue}

-- what the modulus brings
abbrev pub small_ghosts : Ghosts M12289
small_ghosts = record {
  MODULUS = 12289;
  BYTES = 2;
  GENERATOR = 11;
  QUARTIC_CONSTANT = 11;
  TWO_ADICITY = 12;
  ROOT = 1331;
  BENEFITS_FROM_LOCKSTEP = false;
  prime = is_prime_modulus;
  bytes = is_written;
  non_square = eleven_is_non_square;
  two_adic = is_two_adic;
}

abbrev pub Residue12289 : Type 0 → Type 0
Residue12289 K = Residue M12289 K small_ghosts

abbrev pub residue12289 : {K : Type 0} → ℕ → Residue12289 K
residue12289 n = residue n

-- the laws at this modulus, for the crates above
module _ {K : Type 0} where
  pub small_laws : FieldLaws (residue_ring {M = M12289} {K = K} {G = small_ghosts}) residue_inverse
  small_laws = residue_laws K small_ghosts

  pub eleven : IsQuarticConstant (residue_ring {M = M12289} {K = K} {G = small_ghosts}) (residue 11)
  eleven = quartic_constant K small_ghosts

  pub small_two_adic : TwoAdicLaws (residue_ring {M = M12289} {K = K} {G = small_ghosts}) 12 root (residue 11)
  small_two_adic = two_adic_laws K small_ghosts
