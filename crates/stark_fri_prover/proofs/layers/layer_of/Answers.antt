use Rattle.std.proofs.Common.{◌≡◌, ◌∙◌, ◌-◌, ◌/◌, ◌^◌, ap, length, subst, sym}
use Rattle.std.specs.Option.{IsSome}
use Rattle.std.proofs.lemmas.List.FromFn.{length-map-range_with_len}
use Rattle.stark_merkle.specs.Bytes.{element_bytes}
use Rattle.stark_merkle.specs.Tree.{digests_in, top_of}
use Rattle.stark_merkle.specs.TreeFacts.{full_has_root}
use Rattle.stark_fri_prover.specs.Layers.{pair_leaf}
use Rattle.stark_fri_prover.proofs.WorkSteps.{half_of_power}
use Rattle.stark_fri_prover.proofs.layers.layer_of.Goals as goal

pub unwrap-top-requires : goal.unwrap-top-requires
unwrap-top-requires g c =
    let hash = g.H.TreeHash.digests in
    let values = c.args.values.items in
    let half = length values / 2 in
    let leaf = pair_leaf (element_bytes g.F.PrimeField64.BYTES g.F.PrimeField64.number_of) g.EF.ExtensionField.coordinates g.EF.Field.ring.zero hash values half in
    let count : length c.in_ok-leaves.leaves.items ≡ 2 ^ (c.args.log_size - 1) =
    ap length (rw c.deref.ensures.value at c.in_ok-leaves.ensures) ∙ length-map-range_with_len leaf 0 half ∙ half_of_power c.args.log_size (length values) c.requires.pairs c.requires.number in
    subst IsSome (sym (c.root_in.ensures ∙ ap (λ t. top_of (digests_in t)) c.deref-2.ensures.value ∙ ap top_of c.in_ok-tree.ensures))
    (full_has_root hash.node (c.args.log_size - 1) c.in_ok-leaves.leaves.items count)
