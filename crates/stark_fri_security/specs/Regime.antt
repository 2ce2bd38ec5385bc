-- FRI's parameters, as reports on security take them.
use Rattle.stark_support.specs.declared.security.FriRegime.{FriRegime}
use Rattle.stark_fri_proof.specs.declared.parameters.FriParameters.{FriParameters}

-- Those of a scheme that folds by two: a fold's arity is 2 ^ 1.
abbrev pub regime_of : FriParameters → FriRegime
regime_of parameters = record {
  log_blowup = parameters.log_blowup;
  num_queries = parameters.num_queries;
  log_final_poly_len = parameters.log_final_poly_len;
  max_log_arity = 1;
  commit_pow_bits = parameters.commit_proof_of_work_bits;
  query_pow_bits = parameters.query_proof_of_work_bits;
}
