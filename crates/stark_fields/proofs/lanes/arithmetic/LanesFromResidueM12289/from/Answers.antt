use Rattle.std.proofs.Common.{[], ◌∷◌, ap}
use Rattle.stark_fields.proofs.LaneFacts.{same_in_each}
use Rattle.stark_fields.proofs.lanes.arithmetic.LanesFromResidueM12289.from.Goals as goal

pub returns : goal.returns
returns g c = same_in_each c.args.x _ (ap (λ n. n ∷ n ∷ n ∷ n ∷ []) c.value.ensures)
