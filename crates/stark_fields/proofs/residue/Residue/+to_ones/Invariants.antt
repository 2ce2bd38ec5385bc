use Rattle.stark_fields.proofs.residue.Residue.+to_ones.Given as goal

abbrev pub decreases-to_ones : goal.decreases-to_ones
decreases-to_ones g l = l.bits
