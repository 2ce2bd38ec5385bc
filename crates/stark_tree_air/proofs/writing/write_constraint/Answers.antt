use Rattle.std.proofs.Common.{◌≡◌}
use Rattle.stark_symbolic.specs.SymbolicView.{tree_of}
use Rattle.stark_symbolic.specs.declared.builder.SymbolicConstraint.TheVariants.{Base, Extension}
use Rattle.stark_tree_air.proofs.WrittenConstraints.{base_result, extension_result}
use Rattle.stark_tree_air.proofs.writing.write_constraint.Goals as goal

pub returns-in_ok-place-in-Base : goal.returns-in_ok-place-in-Base
returns-in_ok-place-in-Base g c =
    let e : c.args.constraint.now ≡ Base (tree_of c.x.inside.node) = cc in
    base_result c.base.result _ (tree_of c.x.inside.node) c.args.list.now c.write_node.new.list c.base.new.self c.in_ok-place-in-Base.place e
    c.in_ok-place-in-Base.ensures.written c.in_ok-place-in-Base.ensures.constraints c.base.ensures.constants c.base.ensures.nodes c.base.ensures.constraints

pub returns-in_ok-place-in-Extension : goal.returns-in_ok-place-in-Extension
returns-in_ok-place-in-Extension g c =
    let e : c.args.constraint.now ≡ Extension (tree_of c.x-in-Extension.inside.node) = cc in
    extension_result c.extension.result _ (tree_of c.x-in-Extension.inside.node) c.args.list.now c.write_node-in-Extension.new.list c.extension.new.self c.in_ok-place-in-Extension.place e
    c.in_ok-place-in-Extension.ensures.written c.in_ok-place-in-Extension.ensures.constraints c.extension.ensures.constants c.extension.ensures.nodes c.extension.ensures.constraints
