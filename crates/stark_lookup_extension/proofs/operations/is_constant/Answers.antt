use Rattle.std.proofs.Common.{◌≡◌, ◌∙◌, Some, None, MatchOption, subst, sym}
use Rattle.stark_air.specs.Tree.{constant}
use Rattle.stark_lookup_extension.proofs.Constants.{compared}
use Rattle.stark_lookup_extension.proofs.operations.is_constant.Goals as goal

pub returns-in-Some : goal.returns-in-Some
returns-in-Some g c l ts t h at =
    compared g.F.PartialEq.eq g.met.F.Field.eq_same g.met.F.Eq.laws.refl c.in-Some.known c.args.constant c.eq.result t c.eq.ensures
    (subst (λ o. MatchOption o ((k : g.row.F.Denot) → t ≡ constant k → ⊥) (λ k. t ≡ constant k)) c.in-Some.is (c.constant_at.ensures l ts t h at))

pub returns-in-None : goal.returns-in-None
returns-in-None g c l ts t h at = (subst (λ o. MatchOption o ((k : g.row.F.Denot) → t ≡ constant k → ⊥) (λ k. t ≡ constant k)) c.in-None.is (c.constant_at.ensures l ts t h at)) c.args.constant
