-- A statement whose preprocessed rows are apart is read as that with the rows in their place.
use Rattle.std.proofs.Common.{◌≡◌, ℕ, List, Option, Some, None, option_map, false, ok_or, refl, sym, codes}
use Rattle.std.specs.Str.{bytes_eq}
use Rattle.serde_json.specs.Data.{Data, null, boolean, number, string, array, object}
use Rattle.serde_json.specs.Find.{get}
use Rattle.stark_json.specs.Apart.{joined, placed, rows_data}
use Rattle.stark_json.proofs.Kept.{first_unknown-changed, get_other, get_same}
use Rattle.stark_tree_air.specs.TreeApart.{trace_path}
use Rattle.stark_statement.specs.StatementApart.{air_joined, statement_apart, statement_path}
use Rattle.stark_statement.specs.StatementJson.{StatementFault, missing_field, air_at, configuration_reading, statement_names, statement_reading, ◌>>=◌}

module _ (rows : List (List ℕ)) where
  abbrev inner : Data → Data
  inner d = placed trace_path (rows_data rows) d

  abbrev outer : Data → Data
  outer d = placed statement_path (rows_data rows) d

  kept : (q : List ℕ) (d : Data) → bytes_eq q (codes "air") ≡ false → get q (outer d) ≡ get q d
  kept q d other = get_other (codes "air") inner q d other

  configurations_are : (d : Data) → configuration_reading (outer d) ≡ configuration_reading d
  unfolding configuration_reading
  configurations_are null = refl
  configurations_are (boolean b) = refl
  configurations_are (number n) = refl
  configurations_are (string s) = refl
  configurations_are (array ds) = refl
  configurations_are (object ms) = let config = kept (codes "config") (object ms) refl in rw (first_unknown-changed (codes "air") inner statement_names ms, config) refl

  module _ {F : Type 0} (element : Data → Option F) where
    airs_are : (fault : StatementFault) (obtained : Option Data) → (ok_or obtained fault >>= air_joined element (Some rows)) ≡ (ok_or (option_map inner obtained) fault >>= air_at element)
    airs_are fault None = refl
    airs_are fault (Some d) = refl

    statements_are : (d : Data) → statement_apart element (Some rows) d ≡ statement_reading element (outer d)
    unfolding statement_apart statement_reading
    statements_are d =
        let public_values = kept (codes "public_values") d refl in
        let alpha = kept (codes "alpha_bits") d refl in
        let ood = kept (codes "ood_bits") d refl in
        let height = kept (codes "log_height") d refl in
        let air = get_same (codes "air") inner d refl in
        rw (configurations_are d, public_values, alpha, ood, height, air, airs_are (missing_field (codes "air")) (get (codes "air") d)) refl

pub configuration_is : (rows : Option (List (List ℕ))) (d : Data) → configuration_reading d ≡ configuration_reading (joined statement_path rows d)
configuration_is None d = refl
configuration_is (Some rows) d = sym (configurations_are rows d)

pub statement_is : {F : Type 0} (element : Data → Option F) (rows : Option (List (List ℕ))) (d : Data) → statement_apart element rows d ≡ statement_reading element (joined statement_path rows d)
unfolding statement_apart statement_reading
statement_is element None d = refl
statement_is element (Some rows) d = statements_are rows element d
