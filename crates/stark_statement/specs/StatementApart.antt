-- The JSON of a statement whose preprocessed rows may be apart: what it is read as, field by field.
use Rattle.std.specs.Prelude.{ℕ, List, ◌∷◌, Option, Result, codes}
use Rattle.serde_json.specs.Data.{Data}
use Rattle.stark_json.specs.Apart.{document_data, joined}
use Rattle.stark_json.specs.declared.document.Document.{Document}
use Rattle.stark_tree_air.specs.TreeApart.{trace_path}
use Rattle.stark_tree_air.specs.TreeJson.{AirView}
use Rattle.stark_statement.specs.StatementJson.{StatementFault, air_at, bits_at, configuration_reading, height_at, public_values_at, required, with_count, ◌>>=◌}
use Rattle.stark_statement.specs.StatementView.{StatementView}

-- where the rows stand in a statement
abbrev pub statement_path : List (List ℕ)
statement_path = codes "air" ∷ trace_path

-- the JSON of a statement, whose rows may be apart
abbrev pub data_of : Document → Data
data_of obtained = document_data statement_path obtained

module _ {F : Type 0} (element : Data → Option F) (rows : Option (List (List ℕ))) where
  -- the AIR of an object with the rows, if they are apart
  abbrev pub air_joined : Data → Result (AirView F) StatementFault
  air_joined d = air_at element (joined trace_path rows d)

  -- the statement that an object spells whose rows may be apart, or its first fault
  unfoldable pub statement_apart : Data → Result (StatementView F) StatementFault
  statement_apart d = do
    config ← configuration_reading d
    air ← required (codes "air") air_joined d
    public_values ← required (codes "public_values") (public_values_at element) d
    alpha_bits ← bits_at (codes "alpha_bits") d
    ood_bits ← bits_at (codes "ood_bits") d
    log_height ← height_at d
    with_count element config air public_values alpha_bits ood_bits log_height
