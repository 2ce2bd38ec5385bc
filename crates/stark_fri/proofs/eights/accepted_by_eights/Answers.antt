use Rattle.std.proofs.Common.{◌≡◌, ◌≤◌, ◌+◌, ◌-◌, ◌*◌, arith, subst}
use Rattle.stark_fri.specs.Query.{QueryHolds}
use Rattle.stark_fri.specs.Replayed.{FirstHold, queries_of, target_of}
use Rattle.stark_fri.proofs.EightSteps.{fewer_hold}
use Rattle.stark_fri.proofs.eights.accepted_by_eights.Invariants.{fields_of}
use Rattle.stark_fri.proofs.eights.accepted_by_eights.Goals as goal

pub returns-then-not-branch : goal.returns-then-not-branch
returns-then-not-branch g c = c.loop-group.invariant

pub returns-then-branch : goal.returns-then-branch
returns-then-branch g c =
    let fields = fields_of g in
    let hash = g.H.TreeHash.digests in
    let coset_of = g.D.PolynomialSpace.coset_of in
    let replayed = c.args.replayed.now in
    let count = c.min-count.result in
    let held = c.loop-group.invariant in
    let ended = c.loop-group-test.false in
    let many = c.if-count-lt8.false in
    let less : count - 8 ≤ 8 * c.loop-group.group = omega (arith, ended, many) in
    let whole : count - 8 + 8 ≡ count = omega (arith, many) in
    let before : FirstHold fields coset_of replayed hash (count - 8)
    = (omega (arith, less, held.0), fewer_hold (QueryHolds fields hash (target_of fields coset_of replayed)) (queries_of fields coset_of replayed) (count - 8) (8 * c.loop-group.group) less held.1) in
    subst (FirstHold fields coset_of replayed hash) whole (c.in_ok-eight_hold_from-2.ensures c.if-branch.true before)
