use Rattle.std.proofs.Common.{◌∙◌, ◌*◌, ◌^◌, [], ap, arith, length, ltb, refl, sym}
use Rattle.guide_tests.proofs.tests.proof_of.Goals as goal

-- four rows of one column
pub prove-requires-clause-height : goal.prove-requires-clause-height
prove-requires-clause-height g c =
    (2, ap (λ v. length v.items) c.new-trace.ensures.values ∙ c.requires.rows ∙ ap (λ w. 2 ^ 2 * w) (sym c.new-trace.ensures.width), omega arith)

pub prove-requires-clause-fits : goal.prove-requires-clause-fits
prove-requires-clause-fits g c =
    let one = c.new-trace.ensures.width in
    let none = sym c.requires.none in
    record {
      columns = omega (arith, one);
      width = one ∙ sym c.requires.columns;
      public_values = sym c.requires.public_values;
      there = ap (ltb 0) none;
      stands = ([], refl, none);
    }
