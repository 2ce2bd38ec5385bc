-- Conjectured bits of security: ethSTARK's conjecture (ePrint 2021/582, section 5.10), with counts of bad challenges.
use Rattle.std.specs.Prelude.{◌≡◌, ℕ, ◌+◌, ◌-◌, ◌*◌, max, min}
use Rattle.stark_security.specs.declared.params.StarkSecurityParams.{StarkSecurityParams}
use Rattle.stark_support.specs.Logarithm.{IsCeilingOfLog}

-- What the queries are worth, each the rate's bits, with the work before they are drawn.
abbrev pub query_bits : StarkSecurityParams → ℕ
query_bits p = p.fri_log_blowup * p.fri_num_queries + p.fri_query_proof_of_work_bits

-- So many bits, for traces of 2 ^ k rows.
pub record IsConjectured (p : StarkSecurityParams) (k bits : ℕ) : Type 0 where
  pub log_batch : ℕ
  pub log_degree : ℕ
  pub log_constraints : ℕ
  pub batch : IsCeilingOfLog log_batch (max p.num_batched_functions 1)
  pub degree : IsCeilingOfLog log_degree (max (max p.air_max_constraint_degree p.num_quotient_chunks) 1)
  pub constraints : IsCeilingOfLog log_constraints (max p.num_constraints 1)
  pub least : bits ≡ min (min (min (min (query_bits p) (p.num_modulus_bits - k - p.fri_log_blowup - log_batch)) (p.num_modulus_bits - k - log_degree - 1)) (p.num_modulus_bits - log_constraints))
      p.collision_resistance - 1
