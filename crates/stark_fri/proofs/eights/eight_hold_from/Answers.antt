use Rattle.std.proofs.Common.{◌≡◌, ◌≤◌, ◌+◌, ◌-◌, ℕ, List, arith, drop, subst, sym, take}
use Rattle.std.specs.List.{AllByRecursion, zip}
use Rattle.std.proofs.lemmas.Result.{IfOk-weaker}
use Rattle.std.proofs.lemmas.Slice.Zip.{length-zip}
use Rattle.stark_fri_proof.specs.Parts.{QueryProof}
use Rattle.stark_fri.specs.Parts.{FriFields}
use Rattle.stark_fri.specs.Query.{QueryHolds}
use Rattle.stark_fri.specs.Replayed.{target_of}
use Rattle.stark_fri.proofs.Members.{fields_by}
use Rattle.stark_fri.proofs.EightSteps.{accepted_more}
use Rattle.stark_fri.proofs.eights.eight_hold_from.Given as given
use Rattle.stark_fri.proofs.eights.eight_hold_from.Goals as goal

abbrev fields_of : (g : given.Over) → FriFields g.row.D-Val.Denot g.row.EF.Denot
fields_of g = fields_by g.D.Val.TwoAdicField g.D.Val.Field g.D.Val.PrimeField64 g.EF.Field g.EF.ExtensionField

pub returns : goal.returns
returns g c = IfOk-weaker c.eight_hold.result _ _ (λ hold eight_if yes before.
    let target = target_of (fields_of g) g.D.PolynomialSpace.coset_of c.args.replayed.now in
    let holds = QueryHolds (fields_of g) g.H.TreeHash.digests target in
    let places = c.args.replayed.now.drawn.now.places.items in
    let queries = c.args.replayed.now.proof.now.queries in
    let at = c.args.at in
    let size : at + 8 - at ≡ 8 = omega arith in
    let of = λ (n : ℕ) (ps : List ℕ) (qs : List (QueryProof g.row.D-Val.Denot g.row.EF.Denot)). AllByRecursion holds (zip (take n (drop at ps)) (take n (drop at qs))) in
    let eight : of 8 places queries
    = subst (λ n. of n places queries) size
    (subst (of (at + 8 - at) places) c.queries.ensures (subst (λ t. of (at + 8 - at) t c.queries.result.now) c.deref.ensures.value (eight_if yes))) in (
      subst (λ k. at + 8 ≤ k) (sym (length-zip places queries)) (omega (arith, c.requires.places, c.requires.queries)),
      accepted_more holds places queries at 8 before.1 eight,
    )) c.eight_hold.ensures
