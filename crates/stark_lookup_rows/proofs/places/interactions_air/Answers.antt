use Rattle.std.proofs.Common.{◌≡◌, ◌∙◌, ap, map, rules}
use Rattle.stark_tree_air.specs.declared.node.TreeConstraint.TheVariants.{Base}
use Rattle.stark_lookup_rows.specs.Places.{lookups_places}
use Rattle.stark_lookup_rows.proofs.PlaceSteps.{places_without_fault}
use Rattle.stark_lookup_rows.proofs.places.interactions_air.Goals as goal

pub invariant_of-result : goal.invariant_of-result
invariant_of-result g c =
    let own = c.args.own.now in
    let constants : c.extend_from_slice.new.self.items ≡ own.list.constants.items = search rules in
    let nodes : c.extend_from_slice-2.new.self.items ≡ own.list.nodes.items = search rules in
    let listed = c.in_ok-constraints.ensures ∙ ap (λ xs. map Base (lookups_places xs)) c.deref-3.ensures.value in
    record { without_fault = places_without_fault own c.args.given.now _ _ _ _ c.in_ok-declaration.ensures constants nodes listed c.requires }
