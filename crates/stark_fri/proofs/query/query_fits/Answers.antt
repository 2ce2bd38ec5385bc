use Rattle.std.proofs.Common.{rules, arith, ◌≡◌, ◌∙◌, ap, get_or, length, map, subst, sym}
use Rattle.std.proofs.lemmas.List.{map-id}
use Rattle.stark_merkle.specs.Tree.{items_of}
use Rattle.stark_support.specs.Faults.{PlaceByPlace}
use Rattle.stark_support.proofs.Loops.{shown, refuted, both_step, both_stop, both_end, same_lengths}
use Rattle.stark_fri.specs.Claims.{matrix_seen, round_seen}
use Rattle.stark_fri.specs.Query.{InputFits, RowFits}
use Rattle.stark_fri.proofs.query.query_fits.Goals as goal

pub returns-then-inputs-claims : goal.returns-then-inputs-claims
returns-then-inputs-claims g c =
    let inputs = c.args.query.now.inputs in
    refuted (λ w. c.if-inputs-claims.true (ap length c.inputs-inputs.ensures ∙ same_lengths (round_seen g.D.PolynomialSpace.coset_of) (λ v. v) InputFits c.args.claims.now inputs
    (subst (PlaceByPlace InputFits (map (round_seen g.D.PolynomialSpace.coset_of) c.args.claims.now)) (sym (map-id inputs)) w.0)))

pub returns-then-not-rows_fit : goal.returns-then-not-rows_fit
returns-then-not-rows_fit g c =
    let claims = c.args.claims.now in
    let inputs = c.args.query.now.inputs in
    let claim = c.index-claims-r.result in
    let input = c.index-inputs-r.result in
    let i = c.loop-r.r in
    let not : PlaceByPlace RowFits (map (matrix_seen g.D.PolynomialSpace.coset_of) c.deref.result.now) (map items_of c.rows.result.now) → ⊥ = search rules in
    let no : InputFits (round_seen g.D.PolynomialSpace.coset_of claim) input → ⊥ =
    λ w. not (subst (λ t. PlaceByPlace RowFits (map (matrix_seen g.D.PolynomialSpace.coset_of) t) (map items_of c.rows.result.now)) (sym c.deref.ensures.value)
    (subst (PlaceByPlace RowFits (map (matrix_seen g.D.PolynomialSpace.coset_of) claim.1.items)) (sym c.rows.ensures) w)) in
    let turn = c.loop-r-test.true in
    let n : length inputs ≡ length claims = ap length (sym c.inputs-inputs.ensures) ∙ c.if-inputs-claims.false in
    refuted (λ w. both_stop (round_seen g.D.PolynomialSpace.coset_of) (λ v. v) InputFits claims inputs i claim input turn (omega (arith, turn, n)) c.index-claims-r.is
    (c.index-inputs-r.is ∙ ap (λ t. get_or t i input) c.inputs-inputs.ensures) no c.loop-r.invariant
    (subst (PlaceByPlace InputFits (map (round_seen g.D.PolynomialSpace.coset_of) claims)) (sym (map-id inputs)) w.0))

pub loop-r-preserved : goal.loop-r-preserved
loop-r-preserved g c =
    let claims = c.args.claims.now in
    let inputs = c.args.query.now.inputs in
    let claim = c.index-claims-r.result in
    let input = c.index-inputs-r.result in
    let i = c.loop-r.r in
    let all : PlaceByPlace RowFits (map (matrix_seen g.D.PolynomialSpace.coset_of) c.deref.result.now) (map items_of c.rows.result.now) = search rules in
    let yes : InputFits (round_seen g.D.PolynomialSpace.coset_of claim) input =
    subst (PlaceByPlace RowFits (map (matrix_seen g.D.PolynomialSpace.coset_of) claim.1.items)) c.rows.ensures
    (subst (λ t. PlaceByPlace RowFits (map (matrix_seen g.D.PolynomialSpace.coset_of) t) (map items_of c.rows.result.now)) c.deref.ensures.value all) in
    let turn = c.loop-r-test.true in
    let n : length inputs ≡ length claims = ap length (sym c.inputs-inputs.ensures) ∙ c.if-inputs-claims.false in
    both_step (round_seen g.D.PolynomialSpace.coset_of) (λ v. v) InputFits claims inputs i claim input turn (omega (arith, turn, n)) c.index-claims-r.is
    (c.index-inputs-r.is ∙ ap (λ t. get_or t i input) c.inputs-inputs.ensures) yes c.loop-r.invariant

pub returns : goal.returns
returns g c =
    let claims = c.args.claims.now in
    let inputs = c.args.query.now.inputs in
    let n : length inputs ≡ length claims = ap length (sym c.inputs-inputs.ensures) ∙ c.if-inputs-claims.false in
    shown (
      subst (PlaceByPlace InputFits (map (round_seen g.D.PolynomialSpace.coset_of) claims)) (map-id inputs)
          (both_end (round_seen g.D.PolynomialSpace.coset_of) (λ v. v) InputFits claims inputs c.loop-r.r c.loop-r-test.false n c.loop-r.invariant),
      ap length (sym c.layers.ensures) ∙ c.if-layers-folds.false,
    )
