-- How many chunks the quotients of AIRs are cut into.
use Rattle.std.proofs.Common.{◌≡◌, ◌⊎◌, List, arith, subst, ℕ}
use Rattle.stark_support.specs.Logarithm.{IsCeilingOfLog}
use Rattle.stark_support.specs.LogarithmFacts.{ceiling_of_one, ceiling_between}
use Rattle.stark_protocol.specs.QuotientFacts.{is_log_ceiling}
use Rattle.stark_protocol.specs.Sizes.{log_parts_of}
use Rattle.stark_answers.specs.CheckedAir.{CheckedAir, shape_of}
use Rattle.stark_commands.specs.Airs.{IsCutInto, log_chunks_of, sample}
use Rattle.stark_commands.specs.Input.{Base, numbers_in}
use Rattle.stark_commands.specs.Check.{check_verdict}
use Rattle.stark_answers.specs.declared.verdict.Verdict.{Verdict}
use Rattle.stark_answers.specs.declared.verdict.Verdict.TheVariants.{Refused}
use Rattle.stark_answers.specs.declared.verdict.Refusal.TheVariants.{OutOfMemory}
use Rattle.stark_commands.specs.declared.sample.SampleAir.{SampleAir}
use Rattle.stark_commands.specs.declared.sample.SampleAir.TheVariants.{Counter, Cubic, Fibonacci, Periodic, Preprocessed, Pair}

-- The quotient of each AIR is cut into some number of chunks, which the verifier asks of a proof too.
pub cut_of : (air : CheckedAir Base) → IsCutInto air (log_parts_of air.constraints air.degree_hint 0)
unfolding log_parts_of
cut_of air = is_log_ceiling _

one_chunk : IsCeilingOfLog 0 1
one_chunk = ceiling_of_one 1 (omega arith)

two_chunks : IsCeilingOfLog 1 2
two_chunks = ceiling_between 0 2 (omega arith) (omega arith)

pub cut_of_sample : (air : SampleAir) → IsCutInto (sample air) (log_chunks_of air)
cut_of_sample Counter = one_chunk
cut_of_sample Cubic = two_chunks
cut_of_sample Fibonacci = one_chunk
cut_of_sample Periodic = one_chunk
cut_of_sample Preprocessed = one_chunk
cut_of_sample Pair = one_chunk

-- What the check finds of an AIR that declares what a sample AIR does, it finds of the sample's name.
pub found_for_sample : (air : CheckedAir Base) (name : SampleAir) (bytes : List ℕ) (v : Verdict) → air ≡ sample name
    → ((log_chunks : ℕ) → IsCutInto air log_chunks → (v ≡ check_verdict air log_chunks (numbers_in (shape_of air) bytes)) ⊎ (v ≡ Refused OutOfMemory))
    → (v ≡ check_verdict (sample name) (log_chunks_of name) (numbers_in (shape_of (sample name)) bytes)) ⊎ (v ≡ Refused OutOfMemory)
found_for_sample air name bytes v is obtained =
    subst (λ a. (log_chunks : ℕ) → IsCutInto a log_chunks → (v ≡ check_verdict a log_chunks (numbers_in (shape_of a) bytes)) ⊎ (v ≡ Refused OutOfMemory)) is obtained (log_chunks_of name) (cut_of_sample name)
