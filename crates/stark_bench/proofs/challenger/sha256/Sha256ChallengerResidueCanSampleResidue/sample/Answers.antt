use Rattle.std.proofs.Common.{◌%◌, ◌∙◌, ap}
use Rattle.stark_fields.specs.Residues.{residue, residue_reduced}
use Rattle.stark_bench.specs.Challenges.{leading}
use Rattle.stark_bench.proofs.challenger.sha256.Sha256ChallengerResidueCanSampleResidue.sample.Goals as goal

pub returns-clause-answer : goal.returns-clause-answer
returns-clause-answer g c =
    c.new.ensures ∙ ap (λ p. residue (c.leading.result % p)) (c.from.ensures ∙ c.MODULUS.ensures) ∙ residue_reduced c.leading.result
    ∙ ap (λ n. residue n) (c.leading.ensures ∙ ap leading c.absorb.ensures)
