use Rattle.std.proofs.Common.{◌≡◌, None, rules}
use Rattle.stark_tree_air.specs.Named.{columns_layout, first_outside}
use Rattle.stark_tree_air.proofs.WrittenFaults.{no_fault, none_outside, spelled_all}
use Rattle.stark_tree_air.proofs.air.TreeAir.from_expressions.Goals as goal

pub invariant_of-result : goal.invariant_of-result
invariant_of-result g c =
    let l = columns_layout c.args.declaration.columns in
    let none : first_outside l c.args.constraints.now ≡ None = search rules in
    record { without_fault = no_fault c.args.declaration.columns c.in_ok-list.list _ (c.in_ok-list.ensures l (none_outside l c.args.constraints.now none)) }

pub returns-clause-constraints : goal.returns-clause-constraints
returns-clause-constraints g c =
    let l = columns_layout c.args.declaration.columns in
    let none : first_outside l c.args.constraints.now ≡ None = search rules in
    spelled_all l c.in_ok-list.list _ (c.in_ok-list.ensures l (none_outside l c.args.constraints.now none))
