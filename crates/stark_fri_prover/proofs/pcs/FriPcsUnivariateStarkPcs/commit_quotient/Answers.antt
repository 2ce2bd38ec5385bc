use Rattle.std.proofs.Common.{◌≡◌, ◌∙◌, ◌+◌, ◌-◌, List, ap, arith, false, map, subst, sym}
use Rattle.std.specs.List.{AllByRecursion}
use Rattle.stark_support.specs.Coset.{TwoAdicCoset}
use Rattle.stark_support.specs.LogarithmFacts.{same_exponent}
use Rattle.stark_support.specs.Scheme.{AreQuotientChunks, committed_chunk, matrix_row}
use Rattle.stark_merkle.specs.Bytes.{element_bytes}
use Rattle.stark_columns.specs.Columns.{columns_list}
use Rattle.stark_merkle.specs.Tree.{digests_in}
use Rattle.stark_columns.specs.PlainChunks.{ArePlainChunks, plain_chunks}
use Rattle.stark_columns.specs.PlainChunkFacts.{are_quotient_chunks, committed_columns, full_chunks}
use Rattle.stark_fri_prover.specs.Commit.{AreExtended, AreLayersOver, IsRootOver, extension_of}
use Rattle.stark_fri_prover.proofs.CommitSteps.{at_most_log, chunk_heights, part_fits}
use Rattle.stark_fri_prover.proofs.pcs.FriPcsUnivariateStarkPcs.commit_quotient.Goals as goal

pub overflow_sub-log_height : goal.overflow_sub-log_height
overflow_sub-log_height g c = at_most_log c.log2_strict_usize.result c.args.domain.log_size c.args.num_chunks c.log2_strict_usize.ensures c.requires.parts

pub commit_columns-requires : goal.commit_columns-requires
commit_columns-requires g c =
    let fits = part_fits c.log2_strict_usize.result c.args.domain.log_size c.args.num_chunks g.F.TwoAdicField.TWO_ADICITY c.args.self.now.parameters.log_blowup
    c.log2_strict_usize.ensures c.args.self.now.within c.requires.within in
    omega (arith, fits, c.log_blowup-log_blowup.ensures)

pub returns-clause-stands : goal.returns-clause-stands
returns-clause-stands g c =
    let field = g.F.Field.ring in
    let laws = g.met.EF.Field.field_laws.of_ring in
    let inverse = g.EF.Field.inverse_of in
    let embed = g.EF.ExtensionField.embed in
    let root = g.F.TwoAdicField.root in
    let coset : TwoAdicCoset g.row.F.Denot = record { shift = c.args.domain.shift; log_size = c.args.domain.log_size } in
    let r = c.log2_strict_usize.result in
    let power = c.log2_strict_usize.ensures in
    let num = c.args.num_chunks in
    let width = c.args.flat.width in
    let row = matrix_row c.args.flat.values.items width in
    let matrices : List (List (List g.row.F.Denot)) = map columns_list c.in_ok-chunks.chunks.items in
    let plain = c.in_ok-chunks.ensures r power in
    let chunks = plain_chunks field root coset r 0 matrices in
    let made = c.in_ok-made.ensures in
    let bits : coset.log_size - r + c.log_blowup-log_blowup.result ≡ c.in_ok-made.made.1.domain.log_size + c.args.self.now.parameters.log_blowup
    = omega (arith, made.height, c.log_blowup-log_blowup.ensures) in
    let hash = g.H.TreeHash.digests in
    let bytes_of = element_bytes g.F.PrimeField64.BYTES g.F.PrimeField64.number_of in
    let generator = g.F.Field.GENERATOR in (
      chunks,
      (
        record {
          commitment = made.commitment;
          columns = ap (map columns_list) made.columns ∙ sym (committed_columns field laws inverse embed root coset r 0 matrices);
          full = full_chunks field laws inverse embed root coset r width num row matrices plain;
          heights = subst (λ n. AllByRecursion (λ m. m.domain.log_size ≡ n) (map (committed_chunk field false) chunks)) (sym made.height) (chunk_heights field root coset r 0 matrices);
          rows = subst (λ n. AreExtended field root (extension_of generator n) (map columns_list c.in_ok-made.made.1.matrices.items) c.in_ok-made.made.1.extended.items) bits
              (subst (λ t. AreExtended field root (extension_of generator (coset.log_size - r + c.log_blowup-log_blowup.result)) (map columns_list t) c.in_ok-made.made.1.extended.items) (sym made.columns) made.rows);
          extended = subst (λ n. IsRootOver field root hash bytes_of (extension_of generator n) (map columns_list c.in_ok-made.made.1.matrices.items) c.in_ok-made.made.0.bytes) bits
              (subst (λ t. IsRootOver field root hash bytes_of (extension_of generator (coset.log_size - r + c.log_blowup-log_blowup.result)) (map columns_list t) c.in_ok-made.made.0.bytes) (sym made.columns) made.root);
        },
        subst (λ n. AreLayersOver hash bytes_of n c.in_ok-made.made.1.extended.items (digests_in c.in_ok-made.made.1.layers.items)) bits made.tree,
      ),
      λ k same.
          let e : r ≡ k = same_exponent r k (power ∙ sym same) in
          subst (λ j. AreQuotientChunks field root g.EF.Field.ring inverse embed false coset j width row chunks) e
          (are_quotient_chunks field laws inverse embed root coset r width row matrices
          (subst (λ n. ArePlainChunks field root coset r width n row matrices) (sym power) plain)),
    )

pub returns-clause-made : goal.returns-clause-made
returns-clause-made g c = λ k power.
    let plain = subst (λ t. ArePlainChunks g.F.Field.ring g.F.TwoAdicField.root (record { shift = c.args.domain.shift; log_size = c.args.domain.log_size }) k c.args.flat.width c.args.num_chunks
    (matrix_row c.args.flat.values.items c.args.flat.width) (map columns_list t)) (sym c.in_ok-made.ensures.columns) (c.in_ok-chunks.ensures k power) in
    (plain.number, plain.takes)
