use Rattle.stark_show.proofs.Sizes.{no_bound}
use Rattle.stark_show.proofs.text.bound_at.Goals as goal

pub returns-then-log_height-gt63 : goal.returns-then-log_height-gt63
returns-then-log_height-gt63 g c = no_bound _ _ c.args.log_height c.args.log c.if-log_height-gt63.true c.requires
