-- What the bytes of an input of `prove` are.
use Rattle.std.specs.Prelude.{ℕ, List, map, Option, Some, codes}
use Rattle.serde_json.specs.Data.{Data}
use Rattle.serde_json.specs.Find.{get}
use Rattle.stark_support.specs.Json.{◌>>=◌, json_of, array_at}
use Rattle.stark_fields.specs.ElementJson.{base_at}
use Rattle.stark_commands.specs.Input.{Base}
use Rattle.stark_commands.specs.ProofInput.{NamedChallenger, bits_at, challenger_at, named_challenger}
use Rattle.stark_answers.specs.declared.shape.CheckShape.{CheckShape}
use Rattle.stark_answers.specs.TraceShape.{FitsShape}
use Rattle.stark_commands.specs.declared.trace_input.TraceInput.{TraceInput}

-- What is read: the rows of a trace, public values, a challenger, how many bits of work are asked for before the point out of the domain,
-- and how many before alpha.
pub record TraceNumbers : Type 0 where
  pub rows : List (List Base)
  pub public_values : List Base
  pub challenger : NamedChallenger
  pub ood_bits : ℕ
  pub alpha_bits : ℕ

-- what a JSON value has under the five names
unfoldable pub trace_numbers_at : Data → Option TraceNumbers
trace_numbers_at d = do
  rows ← get (codes "trace") d >>= array_at (array_at base_at)
  public_values ← get (codes "publics") d >>= array_at base_at
  challenger ← get (codes "challenger") d >>= challenger_at
  ood_bits ← bits_at (get (codes "ood_bits") d)
  alpha_bits ← bits_at (get (codes "alpha_bits") d)
  Some (record { rows = rows; public_values = public_values; challenger = challenger; ood_bits = ood_bits; alpha_bits = alpha_bits })

-- what the bytes spell
unfoldable pub trace_numbers_in : List ℕ → Option TraceNumbers
trace_numbers_in bytes = json_of bytes >>= trace_numbers_at

-- The numbers of the input, without where they lie in memory.
abbrev pub trace_numbers : TraceInput → TraceNumbers
trace_numbers input = record { rows = map (λ row. row.items) input.rows.items; public_values = input.public_values.items; challenger = named_challenger input.challenger; ood_bits = input.ood_bits; alpha_bits = input.alpha_bits }

-- What was read has this shape, with 1 to 4096 rows.
abbrev pub HasTraceShape : CheckShape → ℕ → TraceNumbers → ℕ → Type 0
HasTraceShape shape log_rows m log_height = FitsShape shape log_rows 12 m.rows m.public_values log_height
