use Rattle.stark_completeness.proofs.HeightSteps.{height_of, rows_power}
use Rattle.stark_completeness.proofs.height.log_height_of.Goals as goal

pub log2_strict_usize-requires : goal.log2_strict_usize-requires
log2_strict_usize-requires g c = rows_power _ _ _ c.height-rows.ensures c.requires.columns c.requires.height

pub returns : goal.returns
returns g c = λ height is. height_of _ _ _ _ height c.log2_strict_usize.ensures c.height-rows.ensures c.requires.columns is
