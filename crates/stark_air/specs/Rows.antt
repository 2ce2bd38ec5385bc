-- The environment and the layout of rows in slices.
use Rattle.std.specs.Prelude.{List, length, slice_index_or}
use Rattle.stark_support.specs.Operations.{Operations}
use Rattle.stark_air.specs.Layout.{Layout}
use Rattle.stark_air.specs.Value.{Environment}

-- The rows' values; past the ends stand the fillers, which no constraint of an AIR within the layout reads.
abbrev pub environment_of : {F : Type 0} {E : Type 0} → Operations F E → F → E → List E → List E → List E → List E → List F → List E → E → E → E → Environment E
environment_of o blank filler current next preprocessed_current preprocessed_next public_values periodic first last change = record {
  main_current = λ c. slice_index_or current c filler;
  main_next = λ c. slice_index_or next c filler;
  preprocessed_current = λ c. slice_index_or preprocessed_current c filler;
  preprocessed_next = λ c. slice_index_or preprocessed_next c filler;
  public_value = λ i. o.embed (slice_index_or public_values i blank);
  periodic_value = λ c. slice_index_or periodic c filler;
  first_row = first;
  last_row = last;
  transition = change;
}

abbrev pub layout_of : {F : Type 0} {E : Type 0} → List E → List E → List E → List E → List F → List E → Layout
layout_of current next preprocessed_current preprocessed_next public_values periodic = record {
  main = length current;
  main_next = length next;
  preprocessed = length preprocessed_current;
  preprocessed_next = length preprocessed_next;
  public_values = length public_values;
  periodics = length periodic;
}
