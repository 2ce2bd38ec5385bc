use Rattle.std.proofs.Common.{◌≡◌, ◌∙◌, ◌^◌, ◌≤◌, ap, arith}
use Rattle.stark_fri_security.proofs.CountSteps.{height_within, in_half_of, in_third_of, not_large, power_few, power_less, size_is}
use Rattle.stark_fri_security.proofs.proved.proved_security_bits.Goals as goal

pub draws_in_half-requires-clause-within : goal.draws_in_half-requires-clause-within
draws_in_half-requires-clause-within c =
    power_less c.args.log_height c.saturating_add-log_size.result _ _ c.two_power-rows.ensures.power c.two_power-places.ensures.power (height_within _ c.args.log_height c.args.params.now.fri_log_blowup _ c.saturating_add-log_size.ensures c.if-log_size-gt126.false (omega arith))

pub draws_in_half-requires-clause-few : goal.draws_in_half-requires-clause-few
draws_in_half-requires-clause-few c = power_few c.saturating_add-log_size.result 126 _ c.two_power-places.ensures.power c.if-log_size-gt126.false

pub draws_in_third-requires-clause-within : goal.draws_in_third-requires-clause-within
draws_in_third-requires-clause-within c =
    power_less c.args.log_height c.saturating_add-log_size.result _ _ c.two_power-rows.ensures.power c.two_power-places.ensures.power (height_within _ c.args.log_height c.args.params.now.fri_log_blowup _ c.saturating_add-log_size.ensures c.if-log_size-gt126.false (omega arith))

pub draws_in_third-requires-clause-few : goal.draws_in_third-requires-clause-few
draws_in_third-requires-clause-few c = power_few c.saturating_add-log_size.result 126 _ c.two_power-places.ensures.power c.if-log_size-gt126.false

pub bits_within-third-requires-clause-few : goal.bits_within-third-requires-clause-few
bits_within-third-requires-clause-few c = let small : c.two_power-blowup.result ≤ 2 ^ 14 = power_few c.min.result 14 _ c.two_power-blowup.ensures.power (omega arith) in omega arith

pub returns : goal.returns
returns c =
    let size = size_is _ c.args.log_height c.args.params.now.fri_log_blowup _ c.saturating_add-log_size.ensures c.if-log_size-gt126.false (omega arith) in
    let blowup = c.two_power-blowup.ensures.power ∙ ap (λ t. 2 ^ t) c.min.ensures in
    record {
      counted = λ small. record {
        half = c.bits_within-half.result;
        third = c.bits_within-third.result;
        in_half = in_half_of c.args.params.now c.args.bad_alphas c.args.bad_zetas c.args.log_height c.saturating_add-log_size.result _ _ _ c.draws_in_half.result c.saturating_add-in_half.result _ size c.two_power-rows.ensures.power c.two_power-places.ensures.power blowup c.saturating_add-in_half.ensures c.draws_in_half.ensures c.bits_within-half.ensures;
        in_third = in_third_of c.args.params.now c.args.bad_alphas c.args.bad_zetas c.args.log_height c.saturating_add-log_size.result _ _ _ c.draws_in_third.result c.saturating_add-in_third.result _ size c.two_power-rows.ensures.power c.two_power-places.ensures.power blowup c.saturating_add-in_third.ensures c.draws_in_third.ensures c.bits_within-third.ensures;
        better = c.max.ensures;
      };
      uncounted = λ large. absurd (not_large _ c.args.log_height c.args.params.now.fri_log_blowup _ c.saturating_add-log_size.ensures c.if-log_size-gt126.false (omega arith) large);
    }
