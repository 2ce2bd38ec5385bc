use Rattle.std.proofs.Common.{rules}
use Rattle.stark_proof.specs.ProofJson.{openings_reading}
use Rattle.stark_proof.proofs.values.OpenedValues.from_json.Goals as goal

pub returns : goal.returns
unfolding openings_reading
returns g c = search rules

pub returns-in_err-trace_local : goal.returns-in_err-trace_local
unfolding openings_reading
returns-in_err-trace_local g c = search rules

pub returns-in_err-trace_next : goal.returns-in_err-trace_next
unfolding openings_reading
returns-in_err-trace_next g c = search rules

pub returns-in_err-random : goal.returns-in_err-random
unfolding openings_reading
returns-in_err-random g c = search rules

pub returns-in_err-quotient_chunks : goal.returns-in_err-quotient_chunks
unfolding openings_reading
returns-in_err-quotient_chunks g c = search rules

pub returns-in_err-preprocessed : goal.returns-in_err-preprocessed
unfolding openings_reading
returns-in_err-preprocessed g c = search rules

pub returns-in_err-local : goal.returns-in_err-local
unfolding openings_reading
returns-in_err-local g c = search rules

pub returns-in_err-next : goal.returns-in_err-next
unfolding openings_reading
returns-in_err-next g c = search rules
