use Rattle.std.proofs.Common.{◌≡◌}
use Rattle.stark_support.specs.Pairs.{is_made, pair_parts, side_by_side}
use Rattle.stark_support.specs.declared.vectorized.OfBase.{OfBase}
use Rattle.stark_support.specs.declared.vectorized.PackedPair.{PackedPair}
use Rattle.stark_air.proofs.Steps.{slice_shows}
use Rattle.stark_prover_folder.proofs.vectorized_folder.VectorizedConstraintFolder2BaseAirBuilder.public_values.Goals as goal

pub returns : goal.returns
returns g c =
    let packed = g.SC.Pcs.Domain.Val.Packing in
    let laws = g.met.SC.Pcs.Domain.Val.Packing in
    let embed = packed.Algebra.operations.embed in
    let gives = packed.From.from_gives in
    slice_shows (λ k (x : PackedPair g.row.SC-Pcs-Domain-Val.Denot g.row.SC-Pcs-Domain-Val-Packing.Denot OfBase 2). gives k x.first × gives k x.second) (λ v x. x ≡ v) (λ k. side_by_side (embed k) (embed k)) c.args.self.now.public_values.now g.SC.Pcs.Domain.Val.Field.ring.zero
    λ k x h. is_made pair_parts x (embed k) (embed k) (laws.PackedValue.exact_lanes _ _ (laws.Algebra.embed_stands k x.first h.0)) (laws.PackedValue.exact_lanes _ _ (laws.Algebra.embed_stands k x.second h.1))
