-- The numbers of a shape.
use Rattle.std.specs.Prelude.{List, [], ◌∷◌, ℕ, Bool, true, false, ◌≡◌}
use Rattle.stark_air.specs.Layout.{Layout}
use Rattle.stark_support.specs.Seed.{ShapeNumbers, IsBounded, shape_seed}
use Rattle.stark_transcript.specs.declared.shape.StarkShape.{StarkShape}
use Rattle.stark_support.specs.Sponge.{observed_bytes}

abbrev pub shape_numbers : StarkShape → ShapeNumbers
shape_numbers s = record {
  log_ext_degree = s.log_ext_degree;
  log_degree = s.log_degree;
  main_width = s.main_width;
  preprocessed_width = s.preprocessed_width;
  num_public_values = s.num_public_values;
  num_periodic_columns = s.num_periodic_columns;
  num_quotient_chunks = s.num_quotient_chunks;
  opens_main_next_row = s.opens_main_next_row;
  opens_preprocessed_next_row = s.opens_preprocessed_next_row;
  has_randomization = s.has_randomization;
  ood_pow_bits = s.ood_pow_bits;
  constraint_pow_bits = s.constraint_pow_bits;
}

-- Whether a next row is opened: whether any column of it is declared.
abbrev pub opens_next_row : List ℕ → Bool
opens_next_row [] = false
opens_next_row (column ∷ columns) = true

-- The shape of a proof of an AIR that declares this layout and these columns of next rows.
abbrev pub shape_of : Layout → List ℕ → List ℕ → ℕ → ℕ → ℕ → ℕ → Bool → ℕ → ℕ → StarkShape
shape_of layout main_next preprocessed_next preprocessed_width log_ext_degree log_degree num_quotient_chunks has_randomization ood_pow_bits constraint_pow_bits = record {
  log_ext_degree = log_ext_degree;
  log_degree = log_degree;
  main_width = layout.main;
  preprocessed_width = preprocessed_width;
  num_public_values = layout.public_values;
  num_periodic_columns = layout.periodics;
  num_quotient_chunks = num_quotient_chunks;
  opens_main_next_row = opens_next_row main_next;
  opens_preprocessed_next_row = opens_next_row preprocessed_next;
  has_randomization = has_randomization;
  ood_pow_bits = ood_pow_bits;
  constraint_pow_bits = constraint_pow_bits;
}

-- A shape counts what an AIR of this layout and these columns of next rows declares,
pub record HasDeclaredCounts (layout : Layout) (main_next preprocessed_next : List ℕ) (shape : StarkShape) : Type 0 where
  pub main_width : shape.main_width ≡ layout.main
  pub num_public_values : shape.num_public_values ≡ layout.public_values
  pub num_periodic_columns : shape.num_periodic_columns ≡ layout.periodics
  pub opens_main_next_row : shape.opens_main_next_row ≡ opens_next_row main_next
  pub opens_preprocessed_next_row : shape.opens_preprocessed_next_row ≡ opens_next_row preprocessed_next

-- and has these numbers, which no AIR declares.
pub record HasNumbers (preprocessed_width log_ext_degree log_degree num_quotient_chunks : ℕ) (has_randomization : Bool) (ood_pow_bits constraint_pow_bits : ℕ) (shape : StarkShape) : Type 0 where
  pub preprocessed_width_is : shape.preprocessed_width ≡ preprocessed_width
  pub log_ext_degree_is : shape.log_ext_degree ≡ log_ext_degree
  pub log_degree_is : shape.log_degree ≡ log_degree
  pub num_quotient_chunks_is : shape.num_quotient_chunks ≡ num_quotient_chunks
  pub has_randomization_is : shape.has_randomization ≡ has_randomization
  pub ood_pow_bits_is : shape.ood_pow_bits ≡ ood_pow_bits
  pub constraint_pow_bits_is : shape.constraint_pow_bits ≡ constraint_pow_bits

-- Both together say which shape it is.
pub shape_is : {layout : Layout} {main_next preprocessed_next : List ℕ} {preprocessed_width log_ext_degree log_degree num_quotient_chunks : ℕ} {has_randomization : Bool} {ood_pow_bits constraint_pow_bits : ℕ} {shape : StarkShape}
    → HasDeclaredCounts layout main_next preprocessed_next shape → HasNumbers preprocessed_width log_ext_degree log_degree num_quotient_chunks has_randomization ood_pow_bits constraint_pow_bits shape
    → shape ≡ shape_of layout main_next preprocessed_next preprocessed_width log_ext_degree log_degree num_quotient_chunks has_randomization ood_pow_bits constraint_pow_bits
shape_is declared given = λ i. record {
  log_ext_degree = given.log_ext_degree_is i;
  log_degree = given.log_degree_is i;
  main_width = declared.main_width i;
  preprocessed_width = given.preprocessed_width_is i;
  num_public_values = declared.num_public_values i;
  num_periodic_columns = declared.num_periodic_columns i;
  num_quotient_chunks = given.num_quotient_chunks_is i;
  opens_main_next_row = declared.opens_main_next_row i;
  opens_preprocessed_next_row = declared.opens_preprocessed_next_row i;
  has_randomization = given.has_randomization_is i;
  ood_pow_bits = given.ood_pow_bits_is i;
  constraint_pow_bits = given.constraint_pow_bits_is i;
}

-- The state after a shape's seed.
abbrev pub after_seed : {C F : Type 0} → (C → F → C) → (ℕ → F) → ℕ → StarkShape → C → C
after_seed observe of_number dimension shape start = observed_bytes observe of_number (shape_seed 1 dimension (shape_numbers shape)) start

-- No bounded shape has this separator but the one with these numbers.
abbrev pub TellsShape : ℕ → ShapeNumbers → List ℕ → Type 0
TellsShape dimension numbers separator = (other : ShapeNumbers) → IsBounded other → separator ≡ shape_seed 1 dimension other → other ≡ numbers
