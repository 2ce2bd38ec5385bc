use Rattle.std.proofs.Common.{◌≡◌, ◌∙◌, map}
use Rattle.stark_symbolic.specs.SymbolicTrees as trees
use Rattle.stark_tree_air.specs.Named.{columns_layout}
use Rattle.stark_tree_air.proofs.WrittenFaults.{copied_within, no_fault, spelled_folded}
use Rattle.stark_tree_air.proofs.air.TreeAir.from_air.Goals as goal

pub invariant_of-result : goal.invariant_of-result
invariant_of-result g c =
    let columns = c.in_ok-declaration.declaration.columns in
    let air = c.args.air.now in
    let known = c.from_air-layout.ensures in
    let d = c.in_ok-declaration.ensures in
    let within = copied_within g.F.Field.ring columns c.from_air-layout.result (g.A.BaseAir.layout air) _ _ _ _ (g.A.Air.constraints air) c.deref.result.now (g.met.A.BaseAir.as_declared air) (g.met.A.Air.leaves_within air)
    known.covers known.main_width known.preprocessed_width d.width d.num_public_values d.periodic_columns d.preprocessed_trace (c.deref.ensures.value ∙ c.in_ok-constraints.ensures) in
    record { without_fault = no_fault columns c.in_ok-list.list _ (c.in_ok-list.ensures (columns_layout columns) within) }

pub returns-clause-constraints : goal.returns-clause-constraints
returns-clause-constraints g c =
    let columns = c.in_ok-declaration.declaration.columns in
    let air = c.args.air.now in
    let known = c.from_air-layout.ensures in
    let d = c.in_ok-declaration.ensures in
    let same : c.deref.result.now ≡ map (trees.marked_tree g.F.Field.ring) (g.A.Air.constraints air) = c.deref.ensures.value ∙ c.in_ok-constraints.ensures in
    let within = copied_within g.F.Field.ring columns c.from_air-layout.result (g.A.BaseAir.layout air) _ _ _ _ (g.A.Air.constraints air) c.deref.result.now (g.met.A.BaseAir.as_declared air) (g.met.A.Air.leaves_within air)
    known.covers known.main_width known.preprocessed_width d.width d.num_public_values d.periodic_columns d.preprocessed_trace same in
    spelled_folded g.F.Field.ring (columns_layout columns) c.in_ok-list.list _ (g.A.Air.constraints air) (c.in_ok-list.ensures (columns_layout columns) within) same
