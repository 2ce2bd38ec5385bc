use Rattle.std.proofs.Common.{◌<◌, sym, subst, length, arith, All}
use Rattle.std.specs.Vec.{vec_items}
use Rattle.stark_symbolic.specs.Places.{marked_base_places, marked_extension_places, marked_total, marked_base_within, marked_extension_within}
use Rattle.stark_symbolic.proofs.PlaceSteps.{pushed_along, kept_along, one_base_place, one_extension_place, base_places_end, extension_places_end}
use Rattle.stark_symbolic.proofs.places.places_of.Goals as goal
use Rattle.stark_symbolic.proofs.places.places_of.Goals.{in-Base+in_ok-push-in-Base, in-Extension+in_ok-push-in-Extension}

pub loop-index-preserved : goal.loop-index-preserved
loop-index-preserved c =
    let invariant = c.loop-index.invariant in
    elim c.match-constraint.branch [
      | in-Base+in_ok-push-in-Base w ↦ one_base_place c.args.constraints.now c.loop-index.index _ c.loop-index-test.true w.in-Base.field-0 _ _ _ _ _ _ w.in-Base.is (pushed_along vec_items _ _ _ _ w.base_indices-is w.in_ok-push-in-Base.ensures.items) (kept_along vec_items _ _ w.ext_indices-is) invariant.0 invariant.1
      | in-Extension+in_ok-push-in-Extension w ↦ one_extension_place c.args.constraints.now c.loop-index.index _ c.loop-index-test.true w.in-Extension.field-0 _ _ _ _ _ _ w.in-Extension.is (pushed_along vec_items _ _ _ _ w.ext_indices-is w.in_ok-push-in-Extension.ensures.items) (kept_along vec_items _ _ w.base_indices-is) invariant.0 invariant.1
    ]

pub returns-clause-total : goal.returns-clause-total
returns-clause-total c =
    let xs = c.args.constraints.now in
    rw (base_places_end xs c.loop-index.index c.loop-index.base_indices.items _ c.loop-index-test.false c.loop-index.invariant.0, extension_places_end xs c.loop-index.index c.loop-index.ext_indices.items _ c.loop-index-test.false c.loop-index.invariant.1)
    (marked_total xs (omega arith))

pub returns-clause-base_within : goal.returns-clause-base_within
returns-clause-base_within c =
    let xs = c.args.constraints.now in
    subst (All (λ i. i < length xs)) (sym (base_places_end xs c.loop-index.index c.loop-index.base_indices.items (marked_base_places 0 xs) c.loop-index-test.false c.loop-index.invariant.0))
    (marked_base_within 0 (length xs) xs (omega arith))

pub returns-clause-ext_within : goal.returns-clause-ext_within
returns-clause-ext_within c =
    let xs = c.args.constraints.now in
    subst (All (λ i. i < length xs)) (sym (extension_places_end xs c.loop-index.index c.loop-index.ext_indices.items (marked_extension_places 0 xs) c.loop-index-test.false c.loop-index.invariant.1))
    (marked_extension_within 0 (length xs) xs (omega arith))
