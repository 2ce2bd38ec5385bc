use Rattle.std.proofs.Common.{◌≡◌, ◌∙◌, ◌^◌, ◌<◌, ◌++◌, ap, arith, inl, false, length, map, nat_lt, refl, rules, subst, sym}
use Rattle.stark_tree_air.specs.declared.node.TreeConstraint.TheVariants.{Base}
use Rattle.stark_lookup_extension.specs.ExtendedAir.{WritesEquations}
use Rattle.stark_lookup_extension.specs.ExtendedSizes.{columns_with, key_width, sizes_fit, values_with}
use Rattle.stark_lookup_extension.specs.ExtensionFaults.{lookups_fault}
use Rattle.stark_lookup_extension.specs.Interactions.{is_numbered}
use Rattle.stark_lookup_extension.specs.declared.sizes.OwnCounts.{OwnCounts}
use Rattle.stark_lookup_extension.proofs.ExtendedSteps.{extended_steps, groups_number}
use Rattle.stark_lookup_extension.proofs.StageSteps.{Counted, has_room, no_fault_at_all, of_lookups, too_many, too_wide, without_columns}
use Rattle.stark_lookup_extension.proofs.extended.extended_air.Goals as goal

pub returns-then-columns-eq0-clause-fault : goal.returns-then-columns-eq0-clause-fault
returns-then-columns-eq0-clause-fault g c = inl (without_columns g.F.Field.ring g.EF.ExtensionField.DIMENSION c.args.air.now c.args.given.now c.if-columns-eq0.true)

pub returns-in-Some-clause-fault : goal.returns-in-Some-clause-fault
returns-in-Some-clause-fault g c =
    let lookups = c.args.given.now.lookups.items in
    let many : c.len.result ≡ length c.args.air.now.list.nodes.items = search rules in
    let tested = sym (c.lookups_fault.ensures ∙ ap (λ n. lookups_fault (record { nodes = n; width = c.args.given.now.width }) 0 c.deref.result.now) many
    ∙ ap (lookups_fault (record { nodes = length c.args.air.now.list.nodes.items; width = c.args.given.now.width }) 0) c.deref.ensures.value) in
    let some : 0 < c.args.air.now.declaration.columns.width = omega (arith, c.if-columns-eq0.false) in
    inl (of_lookups g.F.Field.ring g.EF.ExtensionField.DIMENSION c.args.air.now c.args.given.now some c.in-Some.fault (tested ∙ c.in-Some.is))

pub returns-in_default-key_width-clause-fault : goal.returns-in_default-key_width-clause-fault
returns-in_default-key_width-clause-fault g c =
    let lookups = c.args.given.now.lookups.items in
    let many : c.len.result ≡ length c.args.air.now.list.nodes.items = search rules in
    let tested = sym (c.lookups_fault.ensures ∙ ap (λ n. lookups_fault (record { nodes = n; width = c.args.given.now.width }) 0 c.deref.result.now) many
    ∙ ap (lookups_fault (record { nodes = length c.args.air.now.list.nodes.items; width = c.args.given.now.width }) 0) c.deref.ensures.value) in
    let some : 0 < c.args.air.now.declaration.columns.width = omega (arith, c.if-columns-eq0.false) in
    let none = tested ∙ c.in_default.is in
    inl (too_wide g.F.Field.ring g.EF.ExtensionField.DIMENSION c.args.air.now c.args.given.now some none (sym (ap (λ b. nat_lt (key_width b c.args.given.now.width) (2 ^ 64)) c.is_numbered.ensures) ∙ c.in_default-key_width.ensures.none))

pub returns-in_default-extended_sizes-clause-fault : goal.returns-in_default-extended_sizes-clause-fault
returns-in_default-extended_sizes-clause-fault g c =
    let lookups = c.args.given.now.lookups.items in
    let many : c.len.result ≡ length c.args.air.now.list.nodes.items = search rules in
    let tested = sym (c.lookups_fault.ensures ∙ ap (λ n. lookups_fault (record { nodes = n; width = c.args.given.now.width }) 0 c.deref.result.now) many
    ∙ ap (lookups_fault (record { nodes = length c.args.air.now.list.nodes.items; width = c.args.given.now.width }) 0) c.deref.ensures.value) in
    let some : 0 < c.args.air.now.declaration.columns.width = omega (arith, c.if-columns-eq0.false) in
    let none = tested ∙ c.in_default.is in
    let listed = c.in_ok-list.ensures in
    let groups = c.in_ok-groups.groups.items in
    let own : OwnCounts = record { main = c.args.air.now.declaration.columns.width; public_values = c.args.air.now.declaration.columns.num_public_values; key_width = c.in-Some-key_width.key_width } in
    let width : own.key_width ≡ key_width (is_numbered c.args.given.now) c.args.given.now.width = c.in-Some-key_width.ensures.some ∙ ap (λ b. key_width b c.args.given.now.width) c.is_numbered.ensures in
    let count : c.len-2.result ≡ length groups = search rules in
    let number = groups_number g.F.Field.ring c.args.air.now c.args.given.now c.in_ok-list.list c.written_groups.new.list groups listed.constants listed.nodes none c.in_ok-groups.ensures in
    let counted : Counted g.F.Field.ring c.args.air.now c.args.given.now own (length groups) = record { main = refl; values = refl; width = width; number = number } in
    let large : sizes_fit g.EF.ExtensionField.DIMENSION own (length groups) ≡ false = sym (ap (λ n. sizes_fit g.EF.ExtensionField.DIMENSION own n) count) ∙ c.in_default-extended_sizes.ensures.none in
    inl (too_many g.F.Field.ring g.EF.ExtensionField.DIMENSION c.args.air.now c.args.given.now some none own (length groups) counted large)

pub invariant_of-result : goal.invariant_of-result
invariant_of-result g c =
    let lookups = c.args.given.now.lookups.items in
    let many : c.len.result ≡ length c.args.air.now.list.nodes.items = search rules in
    let tested = sym (c.lookups_fault.ensures ∙ ap (λ n. lookups_fault (record { nodes = n; width = c.args.given.now.width }) 0 c.deref.result.now) many
    ∙ ap (lookups_fault (record { nodes = length c.args.air.now.list.nodes.items; width = c.args.given.now.width }) 0) c.deref.ensures.value) in
    let some : 0 < c.args.air.now.declaration.columns.width = omega (arith, c.if-columns-eq0.false) in
    let none = tested ∙ c.in_default.is in
    let listed = c.in_ok-list.ensures in
    let groups = c.in_ok-groups.groups.items in
    let own : OwnCounts = record { main = c.args.air.now.declaration.columns.width; public_values = c.args.air.now.declaration.columns.num_public_values; key_width = c.in-Some-key_width.key_width } in
    let width : own.key_width ≡ key_width (is_numbered c.args.given.now) c.args.given.now.width = c.in-Some-key_width.ensures.some ∙ ap (λ b. key_width b c.args.given.now.width) c.is_numbered.ensures in
    let count : c.len-2.result ≡ length groups = search rules in
    let number = groups_number g.F.Field.ring c.args.air.now c.args.given.now c.in_ok-list.list c.written_groups.new.list groups listed.constants listed.nodes none c.in_ok-groups.ensures in
    let counted : Counted g.F.Field.ring c.args.air.now c.args.given.now own (length groups) = record { main = refl; values = refl; width = width; number = number } in
    let d = c.in_ok-declaration.ensures in
    let columns = d.width ∙ c.in-Some-extended_sizes.ensures.columns ∙ ap (columns_with g.EF.ExtensionField.DIMENSION own.main) count in
    let values = d.values ∙ c.in-Some-extended_sizes.ensures.values in
    let steps = extended_steps g.EF.ExtensionField.DIMENSION g.EF.Field.ring g.EF.ExtensionField.basis g.EF.ExtensionField.coordinates g.F.Field.ring g.met.F.Field.field_laws.decides c.args.air.now c.args.given.now c.in_ok-list.list c.written_groups.new.list c.written_equations.new.list c.constrain.new.list groups own c.in_ok-equations.equations.items
    c.in_ok-declaration.declaration.columns listed.constants listed.nodes listed.constraints none c.in_ok-groups.ensures
    (subst (λ gs. WritesEquations g.EF.ExtensionField.DIMENSION g.EF.Field.ring g.EF.ExtensionField.basis g.EF.ExtensionField.coordinates g.F.Field.ring own c.written_groups.new.list gs c.in_ok-equations.equations.items c.written_equations.new.list) c.deref-2.ensures.value c.in_ok-equations.ensures)
    c.constrain.ensures.constants c.constrain.ensures.nodes
    (c.in_ok-constrain.ensures.constraints ∙ ap (λ ps. c.written_equations.new.list.constraints.items ++ map Base ps) c.deref-3.ensures.value)
    refl refl width columns values d.preprocessed d.periodic in
    record { without_fault = steps.without_fault }

pub returns-clause-constraints : goal.returns-clause-constraints
returns-clause-constraints g c =
    let lookups = c.args.given.now.lookups.items in
    let many : c.len.result ≡ length c.args.air.now.list.nodes.items = search rules in
    let tested = sym (c.lookups_fault.ensures ∙ ap (λ n. lookups_fault (record { nodes = n; width = c.args.given.now.width }) 0 c.deref.result.now) many
    ∙ ap (lookups_fault (record { nodes = length c.args.air.now.list.nodes.items; width = c.args.given.now.width }) 0) c.deref.ensures.value) in
    let some : 0 < c.args.air.now.declaration.columns.width = omega (arith, c.if-columns-eq0.false) in
    let none = tested ∙ c.in_default.is in
    let listed = c.in_ok-list.ensures in
    let groups = c.in_ok-groups.groups.items in
    let own : OwnCounts = record { main = c.args.air.now.declaration.columns.width; public_values = c.args.air.now.declaration.columns.num_public_values; key_width = c.in-Some-key_width.key_width } in
    let width : own.key_width ≡ key_width (is_numbered c.args.given.now) c.args.given.now.width = c.in-Some-key_width.ensures.some ∙ ap (λ b. key_width b c.args.given.now.width) c.is_numbered.ensures in
    let count : c.len-2.result ≡ length groups = search rules in
    let number = groups_number g.F.Field.ring c.args.air.now c.args.given.now c.in_ok-list.list c.written_groups.new.list groups listed.constants listed.nodes none c.in_ok-groups.ensures in
    let counted : Counted g.F.Field.ring c.args.air.now c.args.given.now own (length groups) = record { main = refl; values = refl; width = width; number = number } in
    let d = c.in_ok-declaration.ensures in
    let columns = d.width ∙ c.in-Some-extended_sizes.ensures.columns ∙ ap (columns_with g.EF.ExtensionField.DIMENSION own.main) count in
    let values = d.values ∙ c.in-Some-extended_sizes.ensures.values in
    let steps = extended_steps g.EF.ExtensionField.DIMENSION g.EF.Field.ring g.EF.ExtensionField.basis g.EF.ExtensionField.coordinates g.F.Field.ring g.met.F.Field.field_laws.decides c.args.air.now c.args.given.now c.in_ok-list.list c.written_groups.new.list c.written_equations.new.list c.constrain.new.list groups own c.in_ok-equations.equations.items
    c.in_ok-declaration.declaration.columns listed.constants listed.nodes listed.constraints none c.in_ok-groups.ensures
    (subst (λ gs. WritesEquations g.EF.ExtensionField.DIMENSION g.EF.Field.ring g.EF.ExtensionField.basis g.EF.ExtensionField.coordinates g.F.Field.ring own c.written_groups.new.list gs c.in_ok-equations.equations.items c.written_equations.new.list) c.deref-2.ensures.value c.in_ok-equations.ensures)
    c.constrain.ensures.constants c.constrain.ensures.nodes
    (c.in_ok-constrain.ensures.constraints ∙ ap (λ ps. c.written_equations.new.list.constraints.items ++ map Base ps) c.deref-3.ensures.value)
    refl refl width columns values d.preprocessed d.periodic in
    steps.constraints

pub returns-clause-room : goal.returns-clause-room
returns-clause-room g c =
    let lookups = c.args.given.now.lookups.items in
    let many : c.len.result ≡ length c.args.air.now.list.nodes.items = search rules in
    let tested = sym (c.lookups_fault.ensures ∙ ap (λ n. lookups_fault (record { nodes = n; width = c.args.given.now.width }) 0 c.deref.result.now) many
    ∙ ap (lookups_fault (record { nodes = length c.args.air.now.list.nodes.items; width = c.args.given.now.width }) 0) c.deref.ensures.value) in
    let some : 0 < c.args.air.now.declaration.columns.width = omega (arith, c.if-columns-eq0.false) in
    let none = tested ∙ c.in_default.is in
    let listed = c.in_ok-list.ensures in
    let groups = c.in_ok-groups.groups.items in
    let own : OwnCounts = record { main = c.args.air.now.declaration.columns.width; public_values = c.args.air.now.declaration.columns.num_public_values; key_width = c.in-Some-key_width.key_width } in
    let width : own.key_width ≡ key_width (is_numbered c.args.given.now) c.args.given.now.width = c.in-Some-key_width.ensures.some ∙ ap (λ b. key_width b c.args.given.now.width) c.is_numbered.ensures in
    let count : c.len-2.result ≡ length groups = search rules in
    let number = groups_number g.F.Field.ring c.args.air.now c.args.given.now c.in_ok-list.list c.written_groups.new.list groups listed.constants listed.nodes none c.in_ok-groups.ensures in
    let counted : Counted g.F.Field.ring c.args.air.now c.args.given.now own (length groups) = record { main = refl; values = refl; width = width; number = number } in
    let d = c.in_ok-declaration.ensures in
    let columns = d.width ∙ c.in-Some-extended_sizes.ensures.columns ∙ ap (columns_with g.EF.ExtensionField.DIMENSION own.main) count in
    let values = d.values ∙ c.in-Some-extended_sizes.ensures.values in
    has_room g.F.Field.ring g.EF.ExtensionField.DIMENSION c.args.air.now c.args.given.now some none own (length groups) counted _
    columns values d.periodic d.preprocessed d.degree d.number

pub returns-clause-fault : goal.returns-clause-fault
returns-clause-fault g c =
    let lookups = c.args.given.now.lookups.items in
    let many : c.len.result ≡ length c.args.air.now.list.nodes.items = search rules in
    let tested = sym (c.lookups_fault.ensures ∙ ap (λ n. lookups_fault (record { nodes = n; width = c.args.given.now.width }) 0 c.deref.result.now) many
    ∙ ap (lookups_fault (record { nodes = length c.args.air.now.list.nodes.items; width = c.args.given.now.width }) 0) c.deref.ensures.value) in
    let some : 0 < c.args.air.now.declaration.columns.width = omega (arith, c.if-columns-eq0.false) in
    let none = tested ∙ c.in_default.is in
    let listed = c.in_ok-list.ensures in
    let groups = c.in_ok-groups.groups.items in
    let own : OwnCounts = record { main = c.args.air.now.declaration.columns.width; public_values = c.args.air.now.declaration.columns.num_public_values; key_width = c.in-Some-key_width.key_width } in
    let width : own.key_width ≡ key_width (is_numbered c.args.given.now) c.args.given.now.width = c.in-Some-key_width.ensures.some ∙ ap (λ b. key_width b c.args.given.now.width) c.is_numbered.ensures in
    let count : c.len-2.result ≡ length groups = search rules in
    let number = groups_number g.F.Field.ring c.args.air.now c.args.given.now c.in_ok-list.list c.written_groups.new.list groups listed.constants listed.nodes none c.in_ok-groups.ensures in
    let counted : Counted g.F.Field.ring c.args.air.now c.args.given.now own (length groups) = record { main = refl; values = refl; width = width; number = number } in
    let keys : own.key_width < 2 ^ 64 = search rules in
    let wide : columns_with g.EF.ExtensionField.DIMENSION own.main (length groups) < 2 ^ 64 = search rules in
    let publics : values_with g.EF.ExtensionField.DIMENSION own.public_values own.key_width < 2 ^ 64 = search rules in
    no_fault_at_all g.F.Field.ring g.EF.ExtensionField.DIMENSION c.args.air.now c.args.given.now some none own (length groups) counted keys wide publics
