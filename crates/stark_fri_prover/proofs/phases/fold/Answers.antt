use Rattle.std.proofs.Common.{◌≡◌, subst, sym}
use Rattle.stark_support.specs.Coset.{coset_from}
use Rattle.stark_folding.specs.Fold.{squared_coset}
use Rattle.stark_fri_prover.specs.Batching.{IsWordOf}
use Rattle.stark_fri_prover.specs.Words.{IsWordIn}
use Rattle.stark_fri_prover.specs.Work.{NonePasses}
use Rattle.stark_fri_prover.proofs.phases.fold.Goals as goal

pub returns-clause-words : goal.returns-clause-words
returns-clause-words g c =
    let ring = g.EF.Field.ring in
    let embed = g.EF.ExtensionField.embed in
    let root = g.F.TwoAdicField.root in
    let shift = c.args.domain.now.shift in
    let log_size = c.args.domain.now.log_size in
    let polynomial = c.args.polynomial.now in
    let layer = subst (IsWordIn ring embed root shift log_size polynomial) (sym c.in_ok-root.ensures.word) c.requires.word in (
      layer,
      subst (λ p. IsWordOf ring (λ k. embed (root k)) (squared_coset ring (coset_from (embed shift) log_size)) p c.in_ok-word.word.items) (sym c.in_ok-folded.ensures)
          (c.in_ok-word.ensures polynomial (subst (IsWordIn ring embed root shift log_size polynomial) (sym c.values.ensures) layer)),
    )

pub returns-in_default-clause-none : goal.returns-in_default-clause-none
returns-in_default-clause-none g c = record {
  layer = c.in_ok-root.layer;
  root = c.in_ok-root.root;
  word = subst (IsWordIn g.EF.Field.ring g.EF.ExtensionField.embed g.F.TwoAdicField.root c.args.domain.now.shift c.args.domain.now.log_size c.args.polynomial.now)
      (sym c.in_ok-root.ensures.word) c.requires.word;
  tree = c.in_ok-root.ensures.tree;
  none = subst (NonePasses g.C.GrindingChallenger.passes c.args.bits) c.observe.ensures c.in_default.ensures.none;
}
