-- Proved bits: what the counts of bad draws leave, the better of what is counted within half of the code's distance and within a third.
use Rattle.std.specs.Prelude.{◌≡◌, ◌⊎◌, ℕ, zero, suc, ◌+◌, ◌-◌, ◌*◌, ◌/◌, ◌^◌, ◌<◌, ◌≤◌, max, min}
use Rattle.stark_security.specs.declared.params.StarkSecurityParams.{StarkSecurityParams}
use Rattle.stark_support.specs.Logarithm.{IsCeilingOfLog}

-- ---- within a radius

-- The greatest e with 2 e + 2^k below 2^(k + b): half of the distance, with 2^k rows and a blow-up of 2^b,
abbrev pub half_radius : (k b : ℕ) → ℕ
half_radius k b = (2 ^ (k + b) - 2 ^ k - 1) / 2

-- and with 3 e + 2^k at most 2^(k + b): a third.
abbrev pub third_radius : (k b : ℕ) → ℕ
third_radius k b = (2 ^ (k + b) - 2 ^ k) / 3

-- How many of FRI's own draws are bad within half of the distance, with c claims: alpha (c - 1) (n + e) at most, all betas together n + e,
abbrev pub draws_in_half : (c k b : ℕ) → ℕ
draws_in_half c k b = c * (2 ^ (k + b) + half_radius k b)

-- and within a third: a beta is bad for one value more than its fold's radius at most, and there are k folds at most.
abbrev pub draws_in_third : (c k b : ℕ) → ℕ
draws_in_third c k b = (c - 1) * (2 ^ (k + b) + third_radius k b) + (third_radius k b + k)

-- ---- parts

abbrev pub rounded_up : (parts unit : ℕ) → ℕ
rounded_up parts unit = (parts + (unit - 1)) / unit

-- Of `whole` parts of all lists of places, those that have passing places alone, where these are `some` of `all` places: rounded up place by place.
unfoldable pub passing_parts : (whole some all : ℕ) → ℕ → ℕ
passing_parts whole some all zero = whole
passing_parts whole some all (suc number) = rounded_up (passing_parts whole some all number * some) all

module _ (p : StarkSecurityParams) where
  -- A field of more than 2^127 elements counts as one of 2^127,
  abbrev pub field_bits_of : ℕ
  field_bits_of = min p.num_modulus_bits 127

  -- and all is counted in 2^110 parts, or in as many as the field has elements.
  abbrev pub whole_bits : ℕ
  whole_bits = min p.num_modulus_bits 110

  -- The parts of bad draws, by how many elements are bad.
  abbrev pub draw_parts : ℕ → ℕ
  draw_parts bad = rounded_up (min bad (2 ^ field_bits_of)) (2 ^ (field_bits_of - whole_bits))

  -- The parts of lists of places that pass by chance, by the work before them. More than 4096 queries count as 4096.
  abbrev pub query_parts : (some all : ℕ) → ℕ
  query_parts some all = rounded_up (passing_parts (2 ^ whole_bits) some all (min p.fri_num_queries 4096)) (2 ^ min p.fri_query_proof_of_work_bits 127)

  -- The bits, by how many elements are bad for alphas, zeta and betas, where `some` of `all` places pass.
  pub record AreBitsWithin (bad some all bits : ℕ) : Type 0 where
    pub log : ℕ
    pub parts : IsCeilingOfLog log (draw_parts bad + query_parts some all)
    pub left : bits ≡ whole_bits - log

  -- A blow-up above 2^14 counts as 2^14 where it is asked how many places pass.
  abbrev pub counted_blowup : ℕ
  counted_blowup = 2 ^ min p.fri_log_blowup 14

  -- The bits of proofs over traces of 2^k rows, where `alphas` alphas and `zetas` zetas of the STARK can be bad: the better of both radii.
  pub record AreBetterBits (alphas zetas k bits : ℕ) : Type 0 where
    pub half : ℕ
    pub third : ℕ
    pub in_half : AreBitsWithin (alphas + zetas + draws_in_half p.num_batched_functions k p.fri_log_blowup) (counted_blowup + 1) (2 * counted_blowup) half
    pub in_third : AreBitsWithin (alphas + zetas + draws_in_third p.num_batched_functions k p.fri_log_blowup) (2 * counted_blowup + 1) (3 * counted_blowup) third
    pub better : bits ≡ max half third

  -- None where there are 2^127 places or more.
  pub record AreProvedBits (alphas zetas k bits : ℕ) : Type 0 where
    pub counted : k + p.fri_log_blowup ≤ 126 → AreBetterBits alphas zetas k bits
    pub uncounted : 126 < k + p.fri_log_blowup → bits ≡ 0

-- ---- what they are worth

-- Within half of the distance or a third at most these of FRI's own draws are bad.
abbrev pub AreDrawsWithin : (c k b e draws : ℕ) → Type 0
AreDrawsWithin c k b e draws = ((2 * e + 2 ^ k < 2 ^ (k + b)) × (draws ≡ c * (2 ^ (k + b) + e))) ⊎ ((3 * e + 2 ^ k ≤ 2 ^ (k + b)) × (draws ≡ (c - 1) * (2 ^ (k + b) + e) + (e + k)))

-- 2^bits times the number of bad lists of draws is at most the number of all. A list is bad where an alpha, zeta or a beta is one of the bad elements
-- of the extension, or where all q places are among n - e - 1 of n; and by the work before the queries all lists count 2^work times.
abbrev pub BitsAreProved : Type 0
BitsAreProved = (p : StarkSecurityParams) (alphas zetas k bits elements : ℕ) → AreProvedBits p alphas zetas k bits → 1 ≤ bits → 1 ≤ p.fri_log_blowup → 2 ^ p.num_modulus_bits ≤ elements
    → let n = 2 ^ (k + p.fri_log_blowup) in let lists = n ^ p.fri_num_queries * 2 ^ p.fri_query_proof_of_work_bits in
    (e : ℕ) × (draws : ℕ) × AreDrawsWithin p.num_batched_functions k p.fri_log_blowup e draws
    × (2 ^ bits * ((alphas + zetas + draws) * lists + elements * (n - suc e) ^ p.fri_num_queries) ≤ elements * lists)
