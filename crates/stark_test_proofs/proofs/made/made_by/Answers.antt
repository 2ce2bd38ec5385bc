use Rattle.std.proofs.Common.{◌≡◌, [], ap, is_some, refl, sym, ◌∙◌, IfSome, Option, None, Some, subst}
use Rattle.stark_protocol.proofs.Carried.{on_ok}
use Rattle.stark_prover.specs.SetUpFacts.{data_of_set_up, no_columns, same_columns, width_of}
use Rattle.stark_test_proofs.proofs.Judged.{judged}
use Rattle.stark_test_proofs.proofs.made.made_by.Goals as goal

at_some : {A : Type 0} (P : A → Type 0) (o : Option A) (a : A) → o ≡ Some a → IfSome o P → P a
at_some P (Some b) a is holds = subst P (let same : b ≡ a = cc in same) holds
at_some P None a is holds = absurd (cc)

pub prove_and_verify-requires-clause-fits : goal.prove_and_verify-requires-clause-fits
prove_and_verify-requires-clause-fits g c =
    let made = at_some _ _ _ c.in-Some.is c.in_ok-keys.ensures.set_up in
    let preprocessed_data = data_of_set_up made.2 in
    let declared = (g.met.A.BaseAir.as_declared c.args.air.now).preprocessed_width in
    record {
      columns = c.requires.columns;
      width = c.requires.width;
      public_values = c.requires.public_values;
      there = sym (ap is_some c.in-Some.is) ∙ c.in_ok-keys.ensures.there ∙ same_columns (g.A.BaseAir.preprocessed_trace c.args.air.now) _ declared;
      stands = (preprocessed_data.0, preprocessed_data.1, preprocessed_data.2 ∙ sym (width_of (g.A.BaseAir.preprocessed_trace c.args.air.now) made.0 _ declared made.1));
    }

pub prove_and_verify-requires-in-None-clause-fits : goal.prove_and_verify-requires-in-None-clause-fits
prove_and_verify-requires-in-None-clause-fits g c =
    let trace = g.A.BaseAir.preprocessed_trace c.args.air.now in
    let declared = (g.met.A.BaseAir.as_declared c.args.air.now).preprocessed_width in
    let none = sym c.in_ok-keys.ensures.there ∙ ap is_some c.in-None.is in
    record {
      columns = c.requires.columns;
      width = c.requires.width;
      public_values = c.requires.public_values;
      there = sym none ∙ same_columns trace _ declared;
      stands = ([], refl, sym (no_columns trace _ declared none));
    }

pub returns-in-Some : goal.returns-in-Some
returns-in-Some g c =
    let set_up = at_some _ _ _ c.in-Some.is c.in_ok-keys.ensures.set_up in
    on_ok _ _ c.prove_and_verify.result (λ made complete. judged _ _ _ c.args.log_height _ _ _ (Some c.in-Some.data) (Some c.in-Some.key) set_up set_up c.requires.height complete) c.prove_and_verify.ensures.complete

pub returns-in-None : goal.returns-in-None
returns-in-None g c =
    let none = sym c.in_ok-keys.ensures.there ∙ ap is_some c.in-None.is in
    on_ok _ _ c.prove_and_verify-in-None.result (λ made complete. judged _ _ _ c.args.log_height _ _ _ None None none none c.requires.height complete) c.prove_and_verify-in-None.ensures.complete
