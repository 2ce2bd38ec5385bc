use Rattle.std.proofs.Common.{◌≡◌, ◌∙◌, ◌∷◌, ◌^◌, ◌+◌, List, [], ap, arith, length, map, subst, sym}
use Rattle.std.specs.List.{AllByRecursion}
use Rattle.std.specs.Option.{IsSome}
use Rattle.std.proofs.lemmas.List.FromFn.{length-map-range_with_len}
use Rattle.stark_columns.specs.Columns.{columns_list}
use Rattle.stark_merkle.specs.Tree.{digests_in, layer_above, layers_from, top_of}
use Rattle.stark_support.specs.Coset.{TwoAdicCoset, coset_from}
use Rattle.stark_merkle.specs.Bytes.{element_bytes}
use Rattle.stark_merkle.specs.TreeFacts.{full_has_root, top_is_root}
use Rattle.stark_fri_prover.specs.Commit.{AreExtended, HasRow, extension_of, leaf_at, leaves_of}
use Rattle.stark_fri_prover.specs.CommitFacts.{have_rows, same_leaves}
use Rattle.stark_fri_prover.proofs.commit.commit_columns.Goals as goal

pub leaves-requires : goal.leaves-requires
leaves-requires g c = λ i below.
    subst (AllByRecursion (HasRow i)) (sym c.deref-2.ensures.value)
    (have_rows g.F.Field.ring g.F.TwoAdicField.root (coset_from c.new-domain.result.shift c.new-domain.result.log_size) _ c.in_ok-extended.extended.items c.in_ok-extended.ensures i (omega (arith, c.size.ensures, below)))

pub unwrap-top-requires : goal.unwrap-top-requires
unwrap-top-requires g c =
    let hash = g.H.TreeHash.digests in
    let count : length c.in_ok-leaves.leaves.items ≡ 2 ^ (c.args.log_height + c.args.log_blowup) =
    ap length c.in_ok-leaves.ensures ∙ length-map-range_with_len (leaf_at hash (element_bytes g.F.PrimeField64.BYTES g.F.PrimeField64.number_of) c.deref-2.result.now) 0 c.size.result ∙ c.size.ensures ∙ ap (λ n. 2 ^ n) c.new-domain.ensures.size in
    subst IsSome (sym (c.root_in.ensures ∙ ap (λ t. top_of (digests_in t)) c.deref-3.ensures.value ∙ ap top_of c.in_ok-layers.ensures))
    (full_has_root hash.node (c.args.log_height + c.args.log_blowup) c.in_ok-leaves.leaves.items count)

pub returns-clause-rows : goal.returns-clause-rows
returns-clause-rows g c =
    let ring = g.F.Field.ring in
    let root = g.F.TwoAdicField.root in
    let bits = c.args.log_height + c.args.log_blowup in
    let shift : c.new-domain.result.shift ≡ g.F.Field.GENERATOR = c.new-domain.ensures.shift ∙ c.GENERATOR.ensures in
    subst (λ t. AreExtended ring root (extension_of g.F.Field.GENERATOR bits) (map columns_list t) c.in_ok-extended.extended.items) c.deref.ensures.value
    (subst (λ s. AreExtended ring root (coset_from s bits) (map columns_list c.deref.result.now) c.in_ok-extended.extended.items) shift
    (subst (λ n. AreExtended ring root (coset_from c.new-domain.result.shift n) (map columns_list c.deref.result.now) c.in_ok-extended.extended.items) c.new-domain.ensures.size c.in_ok-extended.ensures))

pub returns-clause-root : goal.returns-clause-root
returns-clause-root g c =
    let ring = g.F.Field.ring in
    let root = g.F.TwoAdicField.root in
    let hash = g.H.TreeHash.digests in
    let bytes_of = element_bytes g.F.PrimeField64.BYTES g.F.PrimeField64.number_of in
    let bits = c.args.log_height + c.args.log_blowup in
    let size : c.new-domain.result.log_size ≡ bits = c.new-domain.ensures.size in
    let coset : TwoAdicCoset g.row.F.Denot = extension_of g.F.Field.GENERATOR bits in
    let columns : List (List (List g.row.F.Denot)) = map columns_list c.args.matrices.items in
    let extended : AreExtended ring root coset columns c.in_ok-extended.extended.items = returns-clause-rows g c in
    let leaves = c.in_ok-leaves.ensures ∙ ap (λ t. leaves_of hash bytes_of t c.size.result) c.deref-2.ensures.value
    ∙ ap (leaves_of hash bytes_of c.in_ok-extended.extended.items) (c.size.ensures ∙ ap (λ n. 2 ^ n) size)
    ∙ same_leaves ring root coset hash bytes_of columns c.in_ok-extended.extended.items extended (2 ^ bits) (omega arith) in
    let top = sym (c.root_in.ensures ∙ ap (λ t. top_of (digests_in t)) c.deref-3.ensures.value ∙ ap top_of c.in_ok-layers.ensures) ∙ c.unwrap-top.ensures in
    sym (ap (layer_above hash.node bits) leaves)
    ∙ top_is_root hash.node bits c.in_ok-leaves.leaves.items c.unwrap-top.result top ∙ ap (λ t. t ∷ []) (sym c.new-root.ensures)

pub returns-clause-tree : goal.returns-clause-tree
returns-clause-tree g c =
    let hash = g.H.TreeHash.digests in
    let bytes_of = element_bytes g.F.PrimeField64.BYTES g.F.PrimeField64.number_of in
    let bits = c.args.log_height + c.args.log_blowup in
    let leaves = c.in_ok-leaves.ensures ∙ ap (λ t. leaves_of hash bytes_of t c.size.result) c.deref-2.ensures.value
    ∙ ap (leaves_of hash bytes_of c.in_ok-extended.extended.items) (c.size.ensures ∙ ap (λ n. 2 ^ n) c.new-domain.ensures.size) in
    c.in_ok-layers.ensures ∙ ap (layers_from hash.node bits) leaves
