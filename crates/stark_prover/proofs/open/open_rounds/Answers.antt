use Rattle.std.proofs.Common.{◌∙◌, ap, map, option_map, subst, rules}
use Rattle.stark_support.specs.Claims.{IfRefused, round_view}
use Rattle.stark_prover.specs.Rounds.{place_of}
use Rattle.stark_prover.proofs.Faults.{scheme_fault_at}
use Rattle.stark_prover.proofs.open.open_rounds.Goals as goal

pub returns-in-Err : goal.returns-in-Err
returns-in-Err g c =
    let may_refuse = g.SC.Pcs.Pcs.scheme.RefusesOpening in
    record {
      true_values = tt;
      complete = tt;
      fault = scheme_fault_at _ (λ s rounds. may_refuse s rounds c.args.challenger.now (place_of g.SC.Pcs.Pcs.ZK (option_map (λ preprocessed_data. preprocessed_data.now) c.args.of.now.preprocessed))) _ _ _ _ c.in-Err.fault _ c.pcs.ensures c.in_ok-rounds.ensures
          (subst (λ place. IfRefused c.in-Err.fault (may_refuse c.pcs.result.now (map round_view c.in_ok-rounds.rounds.items) c.args.challenger.now place))
          (c.place_of-place.ensures ∙ ap (λ z. place_of z (option_map (λ preprocessed_data. preprocessed_data.now) c.args.of.now.preprocessed)) c.ZK.ensures) c.in-Err.ensures.refused) c.in_phase.ensures;
    }

pub returns-in-Ok : goal.returns-in-Ok
returns-in-Ok c = search rules

pub returns-in_err-rounds : goal.returns-in_err-rounds
returns-in_err-rounds c = search rules
