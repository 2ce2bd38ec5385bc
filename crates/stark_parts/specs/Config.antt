-- What a configuration answers.
use Rattle.std.specs.Prelude.{ℕ}

-- S is the configuration, P its scheme, C its challenger.
pub record ConfigOps (S P C : Type 0) : Type 0 where
  pub scheme : S → P
  -- the state that each new challenger has
  pub first_state : S → C
  pub lookup_bits : S → ℕ
  pub ood_bits : S → ℕ
  pub constraint_bits : S → ℕ
