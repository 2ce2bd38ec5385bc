-- What the selectors in a trace's rows are computed from.
use Rattle.std.specs.Prelude.{◌≡◌, ℕ, ◌^◌}
use Rattle.stark_support.specs.Ring.{RingOps}
use Rattle.stark_support.specs.Powers.{power, power_sum}
use Rattle.stark_support.specs.Selectors.{first_row_selector, last_row_selector, transition_selector}
use Rattle.stark_support.specs.Subgroup.{group_of}
use Rattle.stark_completeness.specs.declared.row_selectors.DomainSelectors.{DomainSelectors}
use Rattle.stark_completeness.specs.declared.row_selectors.RowSelectors.{RowSelectors}

module _ {F : Type 0} (ring : RingOps F) (inverse : F → F) (generator : F) (log_size : ℕ) where
  -- The sums that the selectors are, where they aren't zero.
  pub record AreDomainSelectors (s : DomainSelectors F) : Type 0 where
    pub generator_is : s.generator ≡ generator
    pub inverse_is : s.generator_inverse ≡ inverse generator
    pub first_is : s.first ≡ power_sum ring ring.one (2 ^ log_size)
    pub last_is : s.last ≡ ring.mul generator (power_sum ring ring.one (2 ^ log_size))
    pub size : s.height ≡ 2 ^ log_size

  -- The selectors at the point of a row.
  pub record AreSelectorsIn (row : ℕ) (s : RowSelectors F) : Type 0 where
    pub first_is : s.is_first_row ≡ first_row_selector ring (λ c. c) (group_of inverse generator log_size) (power ring generator row)
    pub last_is : s.is_last_row ≡ last_row_selector ring (λ c. c) (group_of inverse generator log_size) (power ring generator row)
    pub transition_is : s.is_transition ≡ transition_selector ring (λ c. c) (group_of inverse generator log_size) (power ring generator row)
