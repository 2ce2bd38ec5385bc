use Rattle.std.proofs.Common.{◌∙◌, [], ◌∷◌, ◌++◌, ap, refl, sym, append-nil}
use Rattle.stark_prover_folder.proofs.prover_folder.ProverConstraintFolderBaseAirBuilder.assert_zero.Goals as goal

pub returns-clause-asserted : goal.returns-clause-asserted
returns-clause-asserted g c = λ t h. record {
  same_environment = refl;
  same_layout = refl;
  appended = c.in_ok-push.ensures.items ∙ ap (λ z. c.args.self.now.base_constraints.items ++ (z ∷ [])) (g.met.SC.Pcs.Domain.Val.Packing.PackedValue.exact_lanes _ _ h);
  appended_above = sym (append-nil _);
}
