use Rattle.std.proofs.Common.{◌∙◌, ap, sym}
use Rattle.std.proofs.lemmas.List.{drop_more}
use Rattle.json.specs.Lex.{between, lex}
use Rattle.stark_trace_json.proofs.Lexed.{space_passed}
use Rattle.stark_trace_json.proofs.scanner.skip_spaces.Goals as goal

pub loop-at-preserved : goal.loop-at-preserved
loop-at-preserved c =
    sym (ap (lex between) (drop_more c.args.text.now c.loop-at.at 0 c.loop-at-test.true) ∙ space_passed _ _ (sym c.is_space.ensures ∙ c.if-not-is_space.false)) ∙ c.loop-at.invariant
