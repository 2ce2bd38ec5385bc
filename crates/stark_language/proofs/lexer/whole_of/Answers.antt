use Rattle.std.proofs.Common.{◌≡◌, ◌+◌, ◌-◌, ◌*◌, ◌≤◌, ◌^◌, drop, get_or, sym, ◌∙◌, arith}
use Rattle.std.proofs.lemmas.List.{at_drop_more}
use Rattle.std.proofs.lemmas.Bool.Decides.{nat_tests}
use Rattle.stark_language.specs.Tokens.{whole_after}
use Rattle.stark_language.proofs.Scanning.{whole_after-ge}
use Rattle.stark_language.proofs.lexer.whole_of.Goals as goal

pub returns-in_default : goal.returns-in_default
returns-in_default c =
    let digits = c.args.digits.now in
    let rest = drop (c.loop-digit.digit-index + 1) digits in
    let wide = 10 * c.loop-digit.value + (get_or digits c.loop-digit.digit-index 0 - 48) in
    let on : whole_after wide rest ≡ whole_after 0 digits =
    sym (at_drop_more (whole_after c.loop-digit.value) digits c.loop-digit.digit-index 0 c.loop-digit-test.true) ∙ c.loop-digit.invariant.whole in
    let more : wide ≤ whole_after wide rest = whole_after-ge wide rest in
    let large : 2 ^ 64 ≤ wide = omega (arith, c.in_default.ensures) in
    let all : 2 ^ 64 ≤ whole_after 0 digits = omega arith in
    grind (arith, nat_tests)
