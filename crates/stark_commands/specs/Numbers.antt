-- The numbers of a check, without where they lie in memory.
use Rattle.std.specs.Prelude.{map}
use Rattle.stark_commands.specs.declared.input.CheckInput.{CheckInput}
use Rattle.stark_commands.specs.Input.{CheckNumbers}

abbrev pub numbers : CheckInput → CheckNumbers
numbers c = record {
  log_height = c.log_height;
  public_values = c.public_values.items;
  local = c.local.items;
  next = c.next.items;
  preprocessed_local = c.preprocessed_local.items;
  alpha = c.alpha;
  zeta = c.zeta;
  chunks = map (λ chunk. chunk.items) c.chunks.items;
}
