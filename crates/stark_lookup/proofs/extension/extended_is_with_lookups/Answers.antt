use Rattle.stark_lookup.proofs.extension.extended_is_with_lookups.Goals as goal

pub returns : goal.returns
returns g c same generator log_size = let constraints = c.requires.constraints same in let periodic = c.requires.room.periodic in (cc)
