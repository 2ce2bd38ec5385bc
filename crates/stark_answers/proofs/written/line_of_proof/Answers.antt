use Rattle.std.proofs.Common.{◌∙◌, ◌++◌, ap, arith, string_bytes}
use Rattle.stark_proof.specs.ProofView.{proof_view}
use Rattle.stark_answers.proofs.ReadBackSteps.{line_spells}
use Rattle.stark_answers.proofs.written.line_of_proof.Goals as goal

pub returns-clause-read_back : goal.returns-clause-read_back
returns-clause-read_back g c =
    let text = string_bytes c.in_ok-line.line in
    line_spells _ _ (proof_view c.args.proof.now) _ text c.push.new.self c.in_ok-value.ensures.written c.in_ok-value.ensures.read_back c.in_ok-line.ensures.reads_back
    (c.in_ok-push.ensures.bytes ∙ ap (λ feed. text ++ feed) (c.in_ok-push.ensures.ascii (omega arith)))
