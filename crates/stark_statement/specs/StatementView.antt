-- What a statement fixes.
use Rattle.std.specs.Prelude.{ℕ, List, Option}
use Rattle.stark_tree_air.specs.TreeJson.{AirView, air_view}
use Rattle.stark_statement.specs.Configuration.{ConfigurationView, configuration_view}
use Rattle.stark_statement.specs.declared.statement.Statement.{Statement}

pub record StatementView (F : Type 0) : Type 0 where
  pub config : ConfigurationView
  pub air : AirView F
  pub public_values : List F
  pub alpha_bits : ℕ
  pub ood_bits : ℕ
  pub log_height : Option ℕ

abbrev pub statement_view : {F : Type 0} → Statement F → StatementView F
statement_view statement = record {
  config = configuration_view statement.config;
  air = air_view statement.air.declaration statement.air.list;
  public_values = statement.public_values.items;
  alpha_bits = statement.alpha_bits;
  ood_bits = statement.ood_bits;
  log_height = statement.log_height;
}
