use Rattle.std.proofs.Common.{◌≡◌, ◌<◌, List, [], ◌∷◌, length, map, ◌∙◌, ap, refl, sym, arith}
use Rattle.std.proofs.lemmas.Bool.Decides.{nat_tests}
use Rattle.stark_language.specs.Cursor.{first_of}
use Rattle.stark_language.specs.Faults.{◌>>=◌, fault_at}
use Rattle.stark_language.specs.Lines.{Line, line_view, lines_in, whole_of_lines}
use Rattle.stark_language.specs.Tokens.{lexeme_view}
use Rattle.stark_language.specs.declared.fault.FaultKind.TheVariants.{EndExpected}
use Rattle.stark_language.specs.declared.token.Lexeme.{Lexeme as CodeLexeme}
use Rattle.stark_language.proofs.line.lines_of.Goals as goal

-- what is left is no line
left_over : (lines : List Line) (rest : List CodeLexeme) → 0 < length rest → whole_of_lines lines (map lexeme_view rest) ≡ fault_at EndExpected (first_of (map lexeme_view rest)).at
unfolding first_of
left_over lines [] h = absurd (omega arith)
left_over lines (l ∷ ls) h = refl

pub returns : goal.returns
unfolding lines_in
returns c =
    let some : 0 < length c.in_ok-lines.rest.now = grind (arith, nat_tests) in
    let e = left_over (map line_view c.in_ok-lines.lines.items) c.in_ok-lines.rest.now some in
    rw c.fault.ensures (ap (λ r. r >>= λ read. whole_of_lines read.0 read.1) c.in_ok-lines.ensures ∙ e ∙ ap (λ l. fault_at {A = List Line} EndExpected l.at) (sym c.first_of.ensures))
