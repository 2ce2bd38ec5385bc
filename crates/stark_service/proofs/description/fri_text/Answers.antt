use Rattle.std.proofs.Common.{◌≡◌, string_bytes}
use Rattle.stark_statement.specs.Configuration.{fri_numbers}
use Rattle.stark_service.specs.Description.{fri_text}
use Rattle.stark_service.proofs.DescriptionSteps.{fri_text_is}
use Rattle.stark_service.proofs.SecuritySteps.{if_ok}
use Rattle.stark_service.proofs.description.fri_text.Goals as goal

pub returns : goal.returns
returns c = if_ok _ (λ text. string_bytes text ≡ fri_text (fri_numbers c.args.parameters.now)) c.format.result
    (λ text is. fri_text_is (fri_numbers c.args.parameters.now) c.log_blowup-blowup.result c.log_final_poly_len-final_len.result c.num_queries-queries.result c.commit_proof_of_work_bits-commit.result c.query_proof_of_work_bits-query.result
    (string_bytes text) c.log_blowup-blowup.ensures c.log_final_poly_len-final_len.ensures c.num_queries-queries.ensures c.commit_proof_of_work_bits-commit.ensures c.query_proof_of_work_bits-query.ensures is) c.format.ensures.ok
