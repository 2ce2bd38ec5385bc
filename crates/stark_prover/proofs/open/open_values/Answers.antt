use Rattle.std.proofs.Common.{◌∙◌, sym}
use Rattle.stark_proof.specs.ProofView.{openings_view}
use Rattle.stark_prover.proofs.SameOpenings.{same_openings}
use Rattle.stark_prover.proofs.open.open_values.Goals as goal

pub returns-clause-values : goal.returns-clause-values
returns-clause-values g c = λ made view behind.
    same_openings (openings_view c.in_ok-values.values) view (c.in_ok-values.ensures.random ∙ c.ZK.ensures ∙ sym behind.random)
    (sym c.in_ok-values.ensures.lists ∙ c.in_ok-opened.ensures.answered.true_values made behind.stand behind.are_handed ∙ behind.values)
