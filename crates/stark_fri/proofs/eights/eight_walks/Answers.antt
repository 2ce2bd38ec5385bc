use Rattle.std.proofs.Common.{◌≡◌, ◌∙◌, ◌+◌, ◌<◌, ℕ, [], ◌∷◌, ap, arith, length, length-append, slice_index_or, subst, sym}
use Rattle.stark_fri_proof.specs.Parts.{QueryProof}
use Rattle.stark_fri.specs.Replayed.{IsWalkIn}
use Rattle.stark_fri.specs.declared.folds.FoldWalk.{FoldWalk}
use Rattle.stark_fri.proofs.EightSteps.{at_itself, pushed_more, same_at}
use Rattle.stark_fri.proofs.eights.eight_walks.Invariants.{fields_of}
use Rattle.stark_fri.proofs.eights.eight_walks.Goals as goal

pub loop-i-preserved : goal.loop-i-preserved
loop-i-preserved g c =
    let places = c.args.places.now in
    let queries = c.args.queries.now in
    let i = c.loop-i.i in
    let turn = c.loop-i-test.true in
    let in_places : i < length places = omega (arith, turn, c.requires.places) in
    let in_queries : i < length queries = omega (arith, turn, c.requires.queries) in
    let walks = c.loop-i.walks.items in
    let walk = c.in_ok-query_walk.field-0 in
    let count = c.loop-i.invariant.count in
    let pushed = c.in_ok-push.ensures.items in
    let is_walk = IsWalkIn (fields_of g) g.D.PolynomialSpace.coset_of c.args.replayed.now in
    let at_place = λ (j : ℕ) (w : FoldWalk g.row.EF.Denot). (place : ℕ) (query : QueryProof g.row.D-Val.Denot g.row.EF.Denot)
    → place ≡ slice_index_or places j place → query ≡ slice_index_or queries j query → is_walk place query w in
    let here : at_place i walk = λ place query is_place is_query.
    subst (λ p. is_walk p query walk) (same_at places i (slice_index_or places i 0) place in_places (at_itself places i 0 in_places) is_place)
    (subst (λ q. is_walk (slice_index_or places i 0) q walk) (same_at queries i c.index-queries-i.result query in_queries c.index-queries-i.is is_query) c.in_ok-query_walk.ensures) in record {
      count = ap length pushed ∙ length-append walks (walk ∷ []) ∙ ap (λ n. n + 1) count;
      are = λ w j low is.
          pushed_more at_place walks walk (subst (λ n. at_place n walk) (sym count) here) (λ v k less at. c.loop-i.invariant.are v k (omega (arith, less, count)) at)
          w j (omega (arith, low, count)) (is ∙ ap (λ t. slice_index_or t j w) pushed);
    }

pub returns : goal.returns
returns g c =
    let ended = c.loop-i-test.false in
    let all : c.loop-i.i ≡ 8 = omega arith in
    (c.loop-i.invariant.count ∙ all, λ walk j low. c.loop-i.invariant.are walk j (omega (arith, low, all)))
