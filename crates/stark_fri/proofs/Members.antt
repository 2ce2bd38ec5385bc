-- What functions compute with, in one record, by the ghost members of their bounds.
use Rattle.std.proofs.Common.{ℕ}
use Rattle.stark_merkle.specs.Bytes.{element_bytes, pair_bytes_of, row_bytes_of}
use Rattle.stark_merkle.specs.declared.root.Root.{Root}
use Rattle.stark_support.specs.declared.challenger.CanObserve.{Ghosts as Observed}
use Rattle.stark_support.specs.declared.challenger.CanSample.{Ghosts as Sampled}
use Rattle.stark_support.specs.declared.challenger.CanSampleBits.{Ghosts as SampledBits}
use Rattle.stark_support.specs.declared.challenger.GrindingChallenger.{Ghosts as Ground}
use Rattle.stark_support.specs.declared.field.ExtensionField.{Ghosts as Extension}
use Rattle.stark_support.specs.declared.field.Field.{Ghosts as Members}
use Rattle.stark_support.specs.declared.field.PrimeField64.{Ghosts as Prime}
use Rattle.stark_support.specs.declared.field.TwoAdicField.{Ghosts as TwoAdic}
use Rattle.stark_fri.specs.Parts.{FriFields, ObservingCalls, SpongeCalls}

-- A base field and its extension.
abbrev pub fields_by : {F E : Type 0} → TwoAdic F → Members F → Prime F → Members E → Extension E F → FriFields F E
fields_by two_adic base prime field extension = record {
  adicity = two_adic.TWO_ADICITY;
  root = two_adic.root;
  generator = base.GENERATOR;
  base = base.ring;
  base_inverse = base.inverse_of;
  ring = field.ring;
  inverse = field.inverse_of;
  embed = extension.embed;
  row_bytes = row_bytes_of (element_bytes prime.BYTES prime.number_of);
  pair_bytes = pair_bytes_of (element_bytes prime.BYTES prime.number_of) extension.coordinates;
}

-- A challenger that elements and roots are observed into.
abbrev pub observing_by : {C F E : Type 0} → Prime F → Extension E F → Observed C F → Observed C Root → ObservingCalls C F E
observing_by prime extension elements roots = record {
  from_byte = prime.of_number;
  coordinates = extension.coordinates;
  observe_element = elements.after_observe;
  observe_root = roots.after_observe;
}

-- One that is drawn from, too.
abbrev pub sponge_by : {C F E : Type 0} → Members F → Prime F → Extension E F → Observed C F → Observed C Root → Sampled C E → SampledBits C ℕ → Ground C F → SpongeCalls C F E
sponge_by base prime extension elements roots sample bits ground = record {
  zero = base.ring.zero;
  observing = observing_by prime extension elements roots;
  draw = sample.sample_of;
  after_draw = sample.after_sample;
  bits_of = bits.bits_of;
  after_bits = bits.after_bits;
  passes = ground.passes;
  after_check = ground.after_check;
}
