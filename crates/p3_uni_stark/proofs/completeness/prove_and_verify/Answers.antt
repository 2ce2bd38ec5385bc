use Rattle.std.proofs.Common.{arith}
use Rattle.std.proofs.lemmas.Grind.{common_steps}
use Rattle.p3_uni_stark.proofs.CompletenessVerdict.{satisfying_is_accepted, memory_alone}
use Rattle.p3_uni_stark.proofs.completeness.prove_and_verify.Goals as goal

pub prove_with_preprocessed-requires-clause-fits : goal.prove_with_preprocessed-requires-clause-fits
prove_with_preprocessed-requires-clause-fits g c = c.requires.fits

pub returns-clause-complete : goal.returns-clause-complete
returns-clause-complete g c = λ height provable satisfying.
    memory_alone _ c.verify_with_preprocessed-verdict.ensures.exact (satisfying_is_accepted (c.in_ok-proof.ensures.complete height provable.rows provable.least provable.complete _) satisfying)

pub returns-in_err-proof : goal.returns-in_err-proof
returns-in_err-proof c = grind (arith, common_steps)
