use Rattle.std.proofs.Common.{◌≡◌, ◌+◌, ◌<◌, ◌^◌, get_or, refl, arith}
use Rattle.std.proofs.lemmas.Int.Digits.{digits_more, digits_value_more}
use Rattle.std.proofs.lemmas.Str.{digit_value_digit}
use Rattle.std.proofs.lemmas.Str.Parse.{digit_from_value}
use Rattle.std.specs.Char.{digit_value}
use Rattle.stark_trace_json.proofs.Lexed.{number_lexed}
use Rattle.stark_trace_json.proofs.scanner.split_number.Goals as goal

pub loop-at-preserved : goal.loop-at-preserved
loop-at-preserved c =
    let x = get_or c.args.text.now c.loop-at.at 0 in
    let small : digit_value x < 10 = c.if-is_ascii_digit.ensures.bound in
    let worth : digit_value x + 48 ≡ x = digit_value_digit x (digit_from_value x small) in
    let within = c.loop-at-test.true in
    record {
      within = omega arith;
      digits = digits_more 10 c.args.text.now c.loop-at.at within c.loop-at.invariant.digits small;
      value = omega (arith, digits_value_more 10 c.args.text.now c.loop-at.at within);
    }

pub returns-clause-passed : goal.returns-clause-passed
returns-clause-passed c =
    let inv = c.loop-at.invariant in
    let small : c.loop-at.value < 2 ^ 64 = omega arith in
    let ok = c.if-not-has_no_leading_zero.ensures in
    number_lexed c.loop-at.value c.loop-at.at c.args.text.now c.split_at.result.0.now c.split_at.result.1.now c.split_at.ensures.front c.split_at.ensures.back inv.digits inv.value small
    (ok.some refl) (ok.leading refl) (c.if-not-ends_number.ensures refl)
