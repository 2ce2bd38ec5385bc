use Rattle.std.proofs.Common.{arith, subst}
use Rattle.std.specs.Option.{IfSome}
use Rattle.stark_support.specs.Coset.{coset_from}
use Rattle.stark_merkle.specs.Bytes.{element_bytes}
use Rattle.stark_fri.specs.Transcript.{betas_of, worked}
use Rattle.stark_fri_prover.specs.Folds.{AreFolds, CommitsLayer, FoldsWord, IsFold}
use Rattle.stark_fri_prover.specs.Words.{IsWordIn}
use Rattle.stark_fri_prover.specs.Work.{StopsAtRoot}
use Rattle.stark_fri_prover.proofs.FoldSteps.{layer_more, no_betas, no_folds, no_layers, no_words, one_more_beta, one_more_fold, squares_embedded, words_all, words_more}
use Rattle.stark_fri_prover.proofs.WorkSteps.{stops_here, where_none}
use Rattle.stark_fri_prover.proofs.phases.fold_all.Invariants.{ops_of, root_in, sponge_of}
use Rattle.stark_fri_prover.proofs.phases.fold_all.Goals as goal

pub loop-fold-init : goal.loop-fold-init
loop-fold-init g c =
    let start = coset_from (g.EF.ExtensionField.embed c.args.domain.shift) c.args.domain.log_size in
    record {
      folds = no_folds (sponge_of g) c.args.bits g.EF.Field.ring c.args.challenger.now c.args.polynomial.items c.new-phases.result.items c.new-phases.ensures.items;
      layers = no_layers (element_bytes g.F.PrimeField64.BYTES g.F.PrimeField64.number_of) g.EF.ExtensionField.coordinates g.EF.Field.ring.zero g.H.TreeHash.digests c.args.domain.log_size
          c.new-phases.result.items c.new-layers.result.items c.new-phases.ensures.items c.new-layers.ensures.items;
      words = no_words g.EF.Field.ring (root_in g) start c.args.polynomial.items (betas_of (sponge_of g) c.args.bits c.args.challenger.now c.new-phases.result.items) c.new-layers.result.items c.in_ok-word.word.items
          (no_betas (sponge_of g) c.args.bits g.EF.Field.ring c.args.challenger.now c.args.polynomial.items c.new-phases.result.items c.new-phases.ensures.items) c.new-layers.ensures.items
          (subst (λ t. IsWordIn g.EF.Field.ring g.EF.ExtensionField.embed g.F.TwoAdicField.root c.args.domain.shift c.args.domain.log_size t c.in_ok-word.word.items) c.deref.ensures.value c.in_ok-word.ensures);
      left = omega arith;
    }

pub loop-fold-preserved : goal.loop-fold-preserved
loop-fold-preserved g c =
    let sponge = sponge_of g in
    let ring = g.EF.Field.ring in
    let bytes_of = element_bytes g.F.PrimeField64.BYTES g.F.PrimeField64.number_of in
    let coordinates = g.EF.ExtensionField.coordinates in
    let embed = g.EF.ExtensionField.embed in
    let root = g.F.TwoAdicField.root in
    let hash = g.H.TreeHash.digests in
    let bits = c.args.bits in
    let state = c.loop-fold.challenger in
    let coset = c.loop-fold.coset in
    let last = c.loop-fold.last.items in
    let made = c.in-Some.halved in
    let phases = c.loop-fold.phases.items in
    let layers = c.loop-fold.layers.items in
    let folds = c.loop-fold.invariant.folds in
    let given : IsFold sponge ring bits state c.fold.new.challenger c.deref-in-loop-fold.result.now made.phase made.polynomial.items
    = subst (λ r. IfSome r (λ m. IsFold sponge ring bits state c.fold.new.challenger c.deref-in-loop-fold.result.now m.phase m.polynomial.items)) c.in-Some.is c.in_ok-folded.ensures.folded in
    let one = subst (λ t. IsFold sponge ring bits state c.fold.new.challenger t made.phase made.polynomial.items) c.deref-in-loop-fold.ensures.value given in
    let layer = subst (λ r. IfSome r (CommitsLayer bytes_of coordinates ring.zero hash coset.log_size)) c.in-Some.is c.in_ok-folded.ensures.layer in
    let word = subst (λ t. FoldsWord ring embed root coset.shift coset.log_size t made) c.deref-in-loop-fold.ensures.value
    (subst (λ r. IfSome r (FoldsWord ring embed root coset.shift coset.log_size c.deref-in-loop-fold.result.now)) c.in-Some.is c.in_ok-folded.ensures.words) in
    let later = c.push-in-loop-fold.new.self.items in
    let more = c.push.new.self.items in
    let next = c.squares-coset.result in
    record {
      folds = one_more_fold sponge bits ring c.args.challenger.now c.args.polynomial.items c.loop-fold._fold state c.fold.new.challenger phases later
          last made.polynomial.items made.phase c.in_ok-push-2.ensures.items one folds;
      layers = layer_more bytes_of coordinates ring.zero hash c.args.domain.log_size coset.log_size _ phases later
          layers more made.phase made.layer c.in_ok-push-2.ensures.items c.in_ok-push.ensures.items layer c.squares-coset.ensures.size c.loop-fold.invariant.layers;
      words = words_more ring (root_in g) (coset_from (embed c.args.domain.shift) c.args.domain.log_size) c.args.polynomial.items
          (betas_of sponge bits c.args.challenger.now phases) (betas_of sponge bits c.args.challenger.now later) layers more
          (coset_from (embed coset.shift) coset.log_size) (coset_from (embed next.shift) next.log_size) last made.polynomial.items c.loop-fold.word.items made.word.items
          (sponge.draw (worked sponge bits state made.phase)) made.layer
          (one_more_beta sponge bits ring c.args.challenger.now c.args.polynomial.items c.loop-fold._fold state phases later last made.phase c.in_ok-push-2.ensures.items folds)
          c.in_ok-push.ensures.items
          (squares_embedded g.met.EF.ExtensionField.embeds.keeps coset.shift next.shift coset.log_size next.log_size c.squares-coset.ensures.shift c.squares-coset.ensures.size)
          one.by_beta word c.loop-fold.invariant.words;
      left = omega (arith, c.squares-coset.ensures.size, c.loop-fold.invariant.left, c.requires, c.loop-fold-test.true);
    }

pub returns-clause-folded : goal.returns-clause-folded
returns-clause-folded g c =
    subst (λ n. AreFolds (sponge_of g) g.EF.Field.ring c.args.bits n c.args.challenger.now c.loop-fold.challenger c.args.polynomial.items c.loop-fold.phases.items c.loop-fold.last.items)
    (omega arith) c.loop-fold.invariant.folds

pub returns-clause-layers : goal.returns-clause-layers
returns-clause-layers g c = c.loop-fold.invariant.layers.0

pub returns-clause-word : goal.returns-clause-word
returns-clause-word g c =
    words_all g.EF.Field.ring (root_in g) (coset_from (g.EF.ExtensionField.embed c.args.domain.shift) c.args.domain.log_size) c.args.polynomial.items
    (betas_of (sponge_of g) c.args.bits c.args.challenger.now c.loop-fold.phases.items) c.loop-fold.layers.items
    (coset_from (g.EF.ExtensionField.embed c.loop-fold.coset.shift) c.loop-fold.coset.log_size) c.loop-fold.last.items c.loop-fold.word.items c.loop-fold.invariant.words

pub returns-in_default-clause-none : goal.returns-in_default-clause-none
returns-in_default-clause-none g c =
    let stop = where_none _ _ c.in_default.not-Some c.in_ok-folded.ensures.none in
    let here = subst (StopsAtRoot (ops_of g) (element_bytes g.F.PrimeField64.BYTES g.F.PrimeField64.number_of) c.args.bits c.loop-fold.coset.shift c.loop-fold.coset.log_size c.loop-fold.challenger) c.deref-in-loop-fold.ensures.value stop in
    stops_here (ops_of g) (element_bytes g.F.PrimeField64.BYTES g.F.PrimeField64.number_of) c.args.bits c.args.domain.shift c.args.domain.log_size c.args.count c.args.challenger.now c.args.polynomial.items c.loop-fold._fold c.loop-fold.challenger
    c.loop-fold.phases.items c.loop-fold.last.items c.loop-fold.layers.items c.loop-fold.coset.shift c.loop-fold.coset.log_size c.loop-fold.word.items (omega (arith, c.loop-fold-test.true))
    c.loop-fold.invariant.folds c.loop-fold.invariant.layers c.loop-fold.invariant.words here
