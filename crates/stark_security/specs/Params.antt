-- The numbers of a report, from those that are given and those that are read off an AIR.
use Rattle.std.specs.Prelude.{◌≡◌, ◌<◌, ◌^◌, ℕ, List, Option, length}
use Rattle.stark_support.specs.declared.security.FriRegime.{FriRegime}
use Rattle.stark_support.specs.declared.security.GrindingSites.{GrindingSites}
use Rattle.stark_air.specs.Tree.{Constraint}
use Rattle.stark_air.specs.declared.layout.AirLayout.{AirLayout}
use Rattle.stark_symbolic.specs.Degree.{greatest_degree}
use Rattle.stark_security.specs.ErrorBound.{IsChunkCountFor}
use Rattle.stark_security.specs.Openings.{batched_of}
use Rattle.stark_security.specs.declared.openings.OpeningShape.{OpeningShape}
use Rattle.stark_security.specs.declared.params.StarkSecurityParams.{StarkSecurityParams}

-- No work anywhere.
abbrev pub no_grinding : GrindingSites
no_grinding = record { lookup_challenge = 0; out_of_domain = 0; batch_combination = 0 }

-- The parameters have the numbers of the low-degree test, of the field and of the hash, the points and the work that are given.
pub record HasGiven (fri : FriRegime) (num_modulus_bits collision_resistance max_combo : ℕ) (grinding : GrindingSites) (params : StarkSecurityParams) : Type 0 where
  pub log_blowup : params.fri_log_blowup ≡ fri.log_blowup
  pub log_final_poly_len : params.fri_log_final_poly_len ≡ fri.log_final_poly_len
  pub max_log_arity : params.fri_max_log_arity ≡ fri.max_log_arity
  pub num_queries : params.fri_num_queries ≡ fri.num_queries
  pub commit_pow_bits : params.fri_commit_proof_of_work_bits ≡ fri.commit_pow_bits
  pub query_pow_bits : params.fri_query_proof_of_work_bits ≡ fri.query_pow_bits
  pub modulus_bits : params.num_modulus_bits ≡ num_modulus_bits
  pub resistance : params.collision_resistance ≡ collision_resistance
  pub combo : params.max_combo ≡ max_combo
  pub sites : params.grinding ≡ grinding

-- They count so many constraints of such a degree, functions and chunks.
pub record HasCounts (num_constraints air_max_constraint_degree num_batched_functions num_quotient_chunks : ℕ) (params : StarkSecurityParams) : Type 0 where
  pub constraints : params.num_constraints ≡ num_constraints
  pub degree : params.air_max_constraint_degree ≡ air_max_constraint_degree
  pub batched : params.num_batched_functions ≡ num_batched_functions
  pub chunks : params.num_quotient_chunks ≡ num_quotient_chunks

-- ---- of an AIR

-- What an AIR declares that its proofs' numbers are read off.
pub record AirSizes (F : Type 0) : Type 0 where
  pub constraints : List (Constraint F)
  pub degree_hint : Option ℕ
  pub main_next_columns : List ℕ
  pub preprocessed_next_columns : List ℕ

module _ {F : Type 0} (air : AirSizes F) where
  -- How many functions are batched of its columns and so many chunks.
  abbrev pub functions_of : AirLayout → ℕ → OpeningShape → ℕ → ℕ
  functions_of layout dimension openings chunks = batched_of layout air.main_next_columns air.preprocessed_next_columns chunks dimension openings

  module _ (transition_multiple : ℕ) where
    -- Of as many chunks as its quotient is cut into, few enough to be counted.
    abbrev pub AreFewFunctions : AirLayout → ℕ → OpeningShape → Type 0
    AreFewFunctions layout dimension openings = (chunks : ℕ) → IsChunkCountFor transition_multiple air.constraints air.degree_hint openings chunks
        → functions_of layout dimension openings chunks < 2 ^ 64

    -- The parameters have as many chunks as its quotient is cut into,
    abbrev pub HasItsChunks : OpeningShape → StarkSecurityParams → Type 0
    HasItsChunks openings params = IsChunkCountFor transition_multiple air.constraints air.degree_hint openings params.num_quotient_chunks

    -- and count its constraints, their greatest degree and the functions of these chunks.
    abbrev pub HasItsCounts : AirLayout → ℕ → OpeningShape → StarkSecurityParams → Type 0
    HasItsCounts layout dimension openings params = HasCounts (length air.constraints) (greatest_degree transition_multiple air.constraints)
        (functions_of layout dimension openings params.num_quotient_chunks) params.num_quotient_chunks params

-- What is given and what is counted are all parameters.
pub params_are : {fri : FriRegime} {num_modulus_bits collision_resistance max_combo : ℕ} {grinding : GrindingSites} {num_constraints air_max_constraint_degree num_batched_functions num_quotient_chunks : ℕ} {params : StarkSecurityParams}
    → HasGiven fri num_modulus_bits collision_resistance max_combo grinding params → HasCounts num_constraints air_max_constraint_degree num_batched_functions num_quotient_chunks params
    → params ≡ record {
      fri_log_blowup = fri.log_blowup;
      fri_log_final_poly_len = fri.log_final_poly_len;
      fri_max_log_arity = fri.max_log_arity;
      fri_num_queries = fri.num_queries;
      fri_commit_proof_of_work_bits = fri.commit_pow_bits;
      fri_query_proof_of_work_bits = fri.query_pow_bits;
      num_modulus_bits = num_modulus_bits;
      collision_resistance = collision_resistance;
      num_constraints = num_constraints;
      air_max_constraint_degree = air_max_constraint_degree;
      num_quotient_chunks = num_quotient_chunks;
      max_combo = max_combo;
      num_batched_functions = num_batched_functions;
      grinding = grinding;
    }
params_are given counted = λ i. record {
  fri_log_blowup = given.log_blowup i;
  fri_log_final_poly_len = given.log_final_poly_len i;
  fri_max_log_arity = given.max_log_arity i;
  fri_num_queries = given.num_queries i;
  fri_commit_proof_of_work_bits = given.commit_pow_bits i;
  fri_query_proof_of_work_bits = given.query_pow_bits i;
  num_modulus_bits = given.modulus_bits i;
  collision_resistance = given.resistance i;
  num_constraints = counted.constraints i;
  air_max_constraint_degree = counted.degree i;
  num_quotient_chunks = counted.chunks i;
  max_combo = given.combo i;
  num_batched_functions = counted.batched i;
  grinding = given.sites i;
}
