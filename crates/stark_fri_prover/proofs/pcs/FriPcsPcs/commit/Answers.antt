use Rattle.std.proofs.Common.{◌-◌, arith, subst, sym}
use Rattle.stark_support.specs.LogarithmFacts.{exponent_at_most}
use Rattle.stark_columns.specs.Columns.{columns_list}
use Rattle.stark_columns.specs.ColumnPoints.{height_of}
use Rattle.stark_fri.specs.Scheme.{ArePlain}
use Rattle.stark_fri_prover.proofs.CommitSteps.{plain_columns}
use Rattle.stark_fri_prover.proofs.pcs.FriPcsPcs.commit.Goals as goal

pub commit_alone-requires : goal.commit_alone-requires
commit_alone-requires g c =
    let below = exponent_at_most c.args.domain.log_size (g.F.TwoAdicField.TWO_ADICITY - c.args.self.now.parameters.log_blowup) (omega (arith, c.requires.within)) in
    omega (arith, c.log_blowup-log_blowup.ensures, c.args.self.now.within)

pub returns-clause-made : goal.returns-clause-made
returns-clause-made g c =
    subst (ArePlain g.F.Field.ring (height_of c.args.matrix)) (sym c.in_ok-made.ensures.columns)
    (plain_columns g.F.Field.ring (height_of c.args.matrix) (columns_list c.in_ok-columns.columns) c.in_ok-columns.ensures.plain, tt)
