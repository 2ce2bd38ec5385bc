use Rattle.std.proofs.Common.{rules}
use Rattle.stark_proof.specs.ProofJson.{proof_reading}
use Rattle.stark_proof.proofs.values.Proof.from_json.Goals as goal

pub returns : goal.returns
unfolding proof_reading
returns g c = search rules

pub returns-in_err-required : goal.returns-in_err-required
unfolding proof_reading
returns-in_err-required g c = search rules

pub returns-in_err-commitments : goal.returns-in_err-commitments
unfolding proof_reading
returns-in_err-commitments g c = search rules

pub returns-in_err-required-2 : goal.returns-in_err-required-2
unfolding proof_reading
returns-in_err-required-2 g c = search rules

pub returns-in_err-opened_values : goal.returns-in_err-opened_values
unfolding proof_reading
returns-in_err-opened_values g c = search rules

pub returns-in_err-opening_proof : goal.returns-in_err-opening_proof
unfolding proof_reading
returns-in_err-opening_proof g c = search rules

pub returns-in_err-required-3 : goal.returns-in_err-required-3
unfolding proof_reading
returns-in_err-required-3 g c = search rules

pub returns-in_err-degree_bits : goal.returns-in_err-degree_bits
unfolding proof_reading
returns-in_err-degree_bits g c = search rules

pub returns-in_err-ood_pow_witness : goal.returns-in_err-ood_pow_witness
unfolding proof_reading
returns-in_err-ood_pow_witness g c = search rules

pub returns-in_err-alpha_pow_witness : goal.returns-in_err-alpha_pow_witness
unfolding proof_reading
returns-in_err-alpha_pow_witness g c = search rules
