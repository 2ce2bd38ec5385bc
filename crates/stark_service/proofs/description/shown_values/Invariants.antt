use Rattle.std.proofs.Common.{◌≡◌, ◌++◌, drop, string_bytes}
use Rattle.std.specs.Prelude.{flat_map}
use Rattle.stark_service.specs.Description.{value_text}
use Rattle.stark_service.proofs.description.shown_values.Given as goal

-- What is written, with what is left to write, is all.
abbrev pub invariant-loop-value : goal.invariant-loop-value
invariant-loop-value g l = string_bytes l.text ++ flat_map (value_text g.F.PrimeField64.number_of) (drop l.value-index l.values) ≡ flat_map (value_text g.F.PrimeField64.number_of) l.fn.values
