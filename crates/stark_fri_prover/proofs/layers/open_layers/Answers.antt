use Rattle.std.proofs.Common.{◌≡◌, ◌∙◌, ◌+◌, ◌/◌, ap, length, subst, sym}
use Rattle.std.proofs.lemmas.Bool.{false≢true}
use Rattle.std.specs.Option.{IfSome, IsSome}
use Rattle.stark_merkle.specs.Tree.{digests_in}
use Rattle.stark_fri_prover.specs.Layers.{OpensPlace, pair_place}
use Rattle.stark_fri_prover.proofs.WaySteps.{WayTo, no_more_way, way_all, way_more}
use Rattle.stark_fri_prover.proofs.layers.open_layers.Goals as goal
use Rattle.stark_fri_prover.proofs.layers.open_layers.Goals.{in-Some+in_ok-push, in_default}

pub loop-layer-preserved : goal.loop-layer-preserved
loop-layer-preserved g c =
    let layers = c.args.layers.now in
    let start = c.args.start in
    let i = c.loop-layer.layer-index in
    let place = c.loop-layer.place in
    let layer = c.layer-item.result in
    let leads : c.pair_place-place.result ≡ pair_place (length layer.values.items / 2) place
    = c.pair_place-place.ensures ∙ ap (λ n. pair_place (n / 2) place) (c.len.ensures ∙ layer.values.ok.0) in
    elim c.match-branch-2.branch [
      | in-Some+in_ok-push w ↦
          subst (λ v. WayTo layers start (i + 1) c.pair_place-place.result v.items) (sym w.opened-is)
          (way_more layers start i place layer c.loop-layer.opened.items c.loop-layer-test.true c.layer-item.is c.loop-layer.invariant
          c.pair_place-place.result w.in-Some.opening _ w.in_ok-push.ensures.items leads
          (subst (λ r. IfSome r (OpensPlace layer.values.items (digests_in layer.tree.items) place)) w.in-Some.is c.in_ok-opening.ensures.opened))
      | in_default w ↦
          subst (λ v. WayTo layers start (i + 1) c.pair_place-place.result v.items) (sym w.opened-is)
          (no_more_way layers start i place layer c.loop-layer.opened.items c.loop-layer-test.true c.layer-item.is c.loop-layer.invariant
          c.pair_place-place.result (λ within. false≢true (subst IsSome w.in_default.is (c.in_ok-opening.ensures.some within))))
    ]

pub returns : goal.returns
returns g c = way_all c.args.layers.now c.args.start c.loop-layer.layer-index c.loop-layer.place c.loop-layer.opened.items c.loop-layer-test.false c.loop-layer.invariant
