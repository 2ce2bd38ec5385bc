-- Why numbers are no parameters of FRI.
use Rattle.std.specs.Prelude.{◌≡◌, ℕ, ◌<◌, ◌≤◌}
use Rattle.stark_fri_proof.specs.declared.parameters.FriParametersError.{FriParametersError}
use Rattle.stark_fri_proof.specs.declared.parameters.FriParametersError.TheVariants.{NoBlowup, BlowupTooLarge, FinalPolynomialTooLong, NoQueries, CommitWorkTooLarge, QueryWorkTooLarge}

module _ (log_blowup log_final_poly_len num_queries commit_bits query_bits : ℕ) where
  abbrev pub BlowsUp : Type 0
  BlowsUp = (1 ≤ log_blowup) × (log_blowup ≤ 63)

  -- The numbers before the bits of work have no fault.
  abbrev pub SizesFit : Type 0
  SizesFit = BlowsUp × (log_final_poly_len ≤ 63) × (1 ≤ num_queries)

  -- The first fault.
  abbrev pub IsFirstFault : FriParametersError → Type 0
  IsFirstFault NoBlowup = log_blowup ≡ 0
  IsFirstFault BlowupTooLarge = 63 < log_blowup
  IsFirstFault FinalPolynomialTooLong = BlowsUp × (63 < log_final_poly_len)
  IsFirstFault NoQueries = BlowsUp × (log_final_poly_len ≤ 63) × (num_queries ≡ 0)
  IsFirstFault CommitWorkTooLarge = SizesFit × (63 < commit_bits)
  IsFirstFault QueryWorkTooLarge = SizesFit × (commit_bits ≤ 63) × (63 < query_bits)
