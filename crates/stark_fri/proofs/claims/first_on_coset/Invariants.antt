use Rattle.std.proofs.Common.{◌≡◌, ◌^◌, ℕ}
use Rattle.std.specs.List.{AllByRecursion}
use Rattle.stark_support.specs.Coset.{coset_vanishing}
use Rattle.stark_support.proofs.Loops.{Left, Passed}
use Rattle.stark_fri.specs.Claims.{MatrixRead, RoundRead, round_seen}
use Rattle.stark_fri.proofs.claims.first_on_coset.Given as goal

-- All of a matrix's points lie off the coset.
abbrev pub off : (g : goal.Over) → ℕ → MatrixRead g.row.EF.Denot → Type 0
off g bits m =
    AllByRecursion (λ p. coset_vanishing g.EF.Field.ring g.EF.ExtensionField.embed g.D.Val.Field.inverse_of (2 ^ bits) g.D.Val.Field.GENERATOR p.0 ≡ g.EF.Field.ring.zero → ⊥) m.1

-- All of a round's do.
abbrev pub all_off : (g : goal.Over) → ℕ → RoundRead g.row.EF.Denot → Type 0
all_off g bits round = AllByRecursion (off g bits) round.1

abbrev pub invariant-loop-i : goal.invariant-loop-i
invariant-loop-i g l = Left (round_seen g.D.PolynomialSpace.coset_of) (all_off g l.bits) l.claims l.i × Passed (round_seen g.D.PolynomialSpace.coset_of) (all_off g l.bits) l.claims l.i
