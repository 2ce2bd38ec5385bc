use Rattle.std.proofs.Common.{◌∙◌, sym}
use Rattle.stark_quotient.proofs.packed_rows.packed_table_value.Goals as goal

pub returns : goal.returns
returns g c i below room = let obtained = c.packed_from_fn.ensures i below in obtained.2 ∙ sym (obtained.1 room)
