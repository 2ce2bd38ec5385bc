use Rattle.std.proofs.Common.{◌∙◌, ap, get_or, slice_set, length-set}
use Rattle.stark_fields.specs.Residues.{residue}
use Rattle.stark_fields.specs.ResidueLanes.{in_fours}
use Rattle.stark_fields.proofs.LaneFacts.{replaced_below, replaced_lanes}
use Rattle.stark_fields.proofs.lanes.arithmetic.LanesPackedValue.with_lane.Goals as goal

pub invariant_of-result : goal.invariant_of-result
invariant_of-result g c = record {
  four = length-set c.args.self.numbers c.args.lane c.value.result ∙ c.args.self.four;
  in_range = replaced_below c.args.self.numbers c.args.lane c.value.result (rw c.value.ensures c.args.value.in_range) c.args.self.in_range;
}

pub returns : goal.returns
returns g c =
    ap (λ n. in_fours (λ j. residue (get_or (slice_set c.args.self.numbers c.args.lane n) j 0))) c.value.ensures
    ∙ replaced_lanes c.args.self c.args.lane c.args.value c.requires
