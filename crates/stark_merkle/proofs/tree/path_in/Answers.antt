use Rattle.std.proofs.Common.{◌≡◌, ◌≤◌, ◌<◌, ◌++◌, arith, length, refl, subst, sym}
use Rattle.std.proofs.lemmas.List.{length-map}
use Rattle.stark_merkle.specs.Tree.{IsPathIn, digests_in, items_of, neighbour}
use Rattle.stark_merkle.proofs.Steps.{last_layer, layer_at, layer_more, neighbour_missing, none_without_layers, path_all, place_missing, stated_all, stated_more}
use Rattle.stark_merkle.proofs.tree.path_in.Goals as goal

pub returns-in_default-clause-is_found : goal.returns-in_default-clause-is_found
returns-in_default-clause-is_found c =
    let none : 1 ≤ length c.args.layers.now → ⊥ = c.in_default.ensures in
    (λ e. cc e, λ has. absurd (none_without_layers c.args.layers.now c.args.index none has))

pub loop-level-init : goal.loop-level-init
loop-level-init c = (λ rest way. subst (λ t. IsPathIn (digests_in c.args.layers.now) c.args.index (t ++ rest)) (sym c.new-path.ensures.items) way, (λ has. has, λ has. has))

pub returns-then-place-len-clause-is_found : goal.returns-then-place-len-clause-is_found
returns-then-place-len-clause-is_found c =
    let turn = c.loop-level-test.true in
    let past = c.if-place-len.true in
    let size = c.len.ensures in
    let last = c.in-Some.ensures in
    let layers = digests_in c.args.layers.now in
    let many : length layers ≡ length c.args.layers.now = length-map c.args.layers.now items_of in
    let layer = layer_at c.args.layers.now c.loop-level.level c.index-layers-level.result (omega arith) c.index-layers-level.is in (
      λ e. cc e,
      λ has. absurd (place_missing layers c.args.index c.loop-level.level c.loop-level.place c.index-layers-level.result.items (omega arith) layer (omega arith) c.loop-level.invariant.1 has),
    )

pub returns-then-beside-len-clause-is_found : goal.returns-then-beside-len-clause-is_found
returns-then-beside-len-clause-is_found c =
    let turn = c.loop-level-test.true in
    let past = c.if-beside-len.true in
    let size = c.len-in-loop-level.ensures in
    let beside = c.neighbour-beside.ensures in
    let last = c.in-Some.ensures in
    let layers = digests_in c.args.layers.now in
    let many : length layers ≡ length c.args.layers.now = length-map c.args.layers.now items_of in
    let layer = layer_at c.args.layers.now c.loop-level.level c.index-layers-level.result (omega arith) c.index-layers-level.is in
    let out : length c.index-layers-level.result.items ≤ neighbour c.loop-level.place = subst (λ n. length c.index-layers-level.result.items ≤ n) beside (omega arith) in (
      λ e. cc e,
      λ has. absurd (neighbour_missing layers c.args.index c.loop-level.level c.loop-level.place c.index-layers-level.result.items (omega arith) layer out c.loop-level.invariant.1 has),
    )

pub loop-level-preserved : goal.loop-level-preserved
loop-level-preserved c =
    let last = c.in-Some.ensures in
    let turn = c.loop-level-test.true in
    let here = c.if-place-len.false in
    let whole = c.len.ensures in
    let within = c.if-beside-len.false in
    let size = c.len-in-loop-level.ensures in
    let layers = digests_in c.args.layers.now in
    let many : length layers ≡ length c.args.layers.now = length-map c.args.layers.now items_of in
    let layer = layer_at c.args.layers.now c.loop-level.level c.index-layers-level.result (omega arith) c.index-layers-level.is in
    let beside : neighbour c.loop-level.place < length c.index-layers-level.result.items = subst (λ n. n < length c.index-layers-level.result.items) c.neighbour-beside.ensures (omega arith) in (
      layer_more c.args.layers.now c.args.index c.loop-level.level c.loop-level.place c.neighbour-beside.result c.index-layers-level.result c.index.result.now c.loop-level.path.items _ (omega arith)
          c.index-layers-level.is c.neighbour-beside.ensures (omega arith) c.index.ensures c.in_ok-push.ensures.items c.loop-level.invariant.0,
      stated_more layers c.args.index c.loop-level.level c.loop-level.place c.index-layers-level.result.items (omega arith) layer (omega arith) beside c.loop-level.invariant.1,
    )

pub returns-then-place-len-2-clause-is_found : goal.returns-then-place-len-2-clause-is_found
returns-then-place-len-2-clause-is_found c =
    let ended : c.in-Some.last ≤ c.loop-level.level = omega (arith, c.loop-level-test.false) in
    let within = c.loop-level.auto.level-end in
    let past = c.if-place-len-2.true in
    let size = c.len-2.ensures in
    let last = c.in-Some.ensures in
    let layers = digests_in c.args.layers.now in
    let many : length layers ≡ length c.args.layers.now = length-map c.args.layers.now items_of in
    let at = last_layer c.args.layers.now c.args.index c.loop-level.level c.in-Some.last c.loop-level.place c.index-layers-last.result (omega arith) c.index-layers-last.is (omega arith) c.loop-level.invariant.1 in (
      λ e. cc e,
      λ has. absurd (place_missing layers c.args.index c.in-Some.last c.loop-level.place c.index-layers-last.result.items (omega arith) at.0 (omega arith) at.1 has),
    )

pub returns-clause-path : goal.returns-clause-path
returns-clause-path c =
    let ended : c.in-Some.last ≤ c.loop-level.level = omega (arith, c.loop-level-test.false) in
    let last = c.in-Some.ensures in
    path_all (digests_in c.args.layers.now) c.args.index c.loop-level.level c.loop-level.place c.loop-level.path.items (omega (arith, length-map c.args.layers.now items_of)) c.loop-level.invariant.0

pub returns-clause-is_found : goal.returns-clause-is_found
returns-clause-is_found c =
    let ended : c.in-Some.last ≤ c.loop-level.level = omega (arith, c.loop-level-test.false) in
    let within = c.loop-level.auto.level-end in
    let here = c.if-place-len-2.false in
    let size = c.len-2.ensures in
    let last = c.in-Some.ensures in
    let layers = digests_in c.args.layers.now in
    let many : length layers ≡ length c.args.layers.now = length-map c.args.layers.now items_of in
    let at = last_layer c.args.layers.now c.args.index c.loop-level.level c.in-Some.last c.loop-level.place c.index-layers-last.result (omega arith) c.index-layers-last.is (omega arith) c.loop-level.invariant.1 in
    let has = stated_all layers c.args.index c.in-Some.last c.loop-level.place c.index-layers-last.result.items (omega arith) at.0 (omega arith) at.1 in
    (λ _. has, λ _. refl)
