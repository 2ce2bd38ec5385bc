use Rattle.std.proofs.Common.{◌≡◌, ◌∙◌, ap, refl, rules, sym}
use Rattle.stark_symbolic.specs.Symbolic.{ap_two, pair_node, single_node}
use Rattle.stark_symbolic.specs.SymbolicView.{tree_of, variable_tree}
use Rattle.stark_air.specs.Tree.{first_row, last_row, transition, sum, difference, product, negation}
use Rattle.stark_tree_air.specs.Writing.{variable_leaf}
use Rattle.stark_tree_air.specs.declared.node.TreeNode.TheVariants.{FirstRow, LastRow, Transition, Sum, Difference, Product, Negation}
use Rattle.stark_tree_air.proofs.WrittenTrees.{leaf_result, constant_result, variable_is, variable_fits, pair_result, single_result}
use Rattle.stark_tree_air.proofs.writing.«+write_node».Goals as goal

pub returns-in-Constant-clause-written : goal.returns-in-Constant-clause-written
returns-in-Constant-clause-written g t c =
    constant_result c.constant.result _ c.args.list.now c.constant.new.self c.in-Constant.k (ap tree_of c.in-Constant.is) c.constant.ensures.constants c.constant.ensures.nodes c.constant.ensures.place

pub returns-in-Variable-clause-written : goal.returns-in-Variable-clause-written
returns-in-Variable-clause-written g t c =
    let v = c.in-Variable.v in
    leaf_result c.node.result _ c.args.list.now c.node.new.self (variable_tree v.entry v.index) (variable_leaf v.entry v.index) (ap tree_of c.in-Variable.is)
    (variable_is v.entry v.index c.args.list.now.constants.items) (variable_fits _ v.entry v.index) c.node.ensures.constants
    (search (rules, c.node.ensures.nodes, c.variable_node.ensures)) c.node.ensures.place

pub returns-in-IsFirstRow-clause-written : goal.returns-in-IsFirstRow-clause-written
returns-in-IsFirstRow-clause-written g t c =
    let r = c.node-in-IsFirstRow in
    leaf_result r.result _ c.args.list.now r.new.self first_row FirstRow (ap tree_of c.in-IsFirstRow.is) (λ ts. refl) (λ l m k h. tt) r.ensures.constants r.ensures.nodes r.ensures.place

pub returns-in-IsLastRow-clause-written : goal.returns-in-IsLastRow-clause-written
returns-in-IsLastRow-clause-written g t c =
    let r = c.node-in-IsLastRow in
    leaf_result r.result _ c.args.list.now r.new.self last_row LastRow (ap tree_of c.in-IsLastRow.is) (λ ts. refl) (λ l m k h. tt) r.ensures.constants r.ensures.nodes r.ensures.place

pub returns-in-IsTransition-clause-written : goal.returns-in-IsTransition-clause-written
returns-in-IsTransition-clause-written g t c =
    let r = c.node-in-IsTransition in
    leaf_result r.result _ c.args.list.now r.new.self transition Transition (ap tree_of c.in-IsTransition.is) (λ ts. refl) (λ l m k h. tt) r.ensures.constants r.ensures.nodes r.ensures.place

pub returns-in_ok-right-in-Sum-clause-written : goal.returns-in_ok-right-in-Sum-clause-written
returns-in_ok-right-in-Sum-clause-written g t c =
    let r = c.node-in-Sum in
    let e : tree_of c.args.node.now ≡ pair_node sum (tree_of c.deref.result.now) (tree_of c.deref-in-Sum.result.now) =
    ap tree_of c.in-Sum.is ∙ sym (ap_two (λ x y. pair_node sum (tree_of x) (tree_of y)) c.deref.ensures c.deref-in-Sum.ensures) in
    pair_result sum Sum (λ ks us i j. refl) (λ l m k i j p q. (p, q)) (λ l x y h. h) r.result _ _ _ c.args.list.now c.write_node.new.list c.write_node-in-Sum.new.list r.new.self
    c.in_ok-left-in-Sum.left c.in_ok-right-in-Sum.right e c.in_ok-left-in-Sum.ensures.written c.in_ok-right-in-Sum.ensures.written r.ensures.constants r.ensures.nodes r.ensures.place

pub returns-in_ok-right-in-Difference-clause-written : goal.returns-in_ok-right-in-Difference-clause-written
returns-in_ok-right-in-Difference-clause-written g t c =
    let r = c.node-in-Difference in
    let e : tree_of c.args.node.now ≡ pair_node difference (tree_of c.deref-in-Difference.result.now) (tree_of c.deref-in-Difference-2.result.now) =
    ap tree_of c.in-Difference.is ∙ sym (ap_two (λ x y. pair_node difference (tree_of x) (tree_of y)) c.deref-in-Difference.ensures c.deref-in-Difference-2.ensures) in
    pair_result difference Difference (λ ks us i j. refl) (λ l m k i j p q. (p, q)) (λ l x y h. h) r.result _ _ _ c.args.list.now c.write_node-in-Difference.new.list c.write_node-in-Difference-2.new.list r.new.self
    c.in_ok-left-in-Difference.left c.in_ok-right-in-Difference.right e c.in_ok-left-in-Difference.ensures.written c.in_ok-right-in-Difference.ensures.written r.ensures.constants r.ensures.nodes r.ensures.place

pub returns-in_ok-right-in-Product-clause-written : goal.returns-in_ok-right-in-Product-clause-written
returns-in_ok-right-in-Product-clause-written g t c =
    let r = c.node-in-Product in
    let e : tree_of c.args.node.now ≡ pair_node product (tree_of c.deref-in-Product.result.now) (tree_of c.deref-in-Product-2.result.now) =
    ap tree_of c.in-Product.is ∙ sym (ap_two (λ x y. pair_node product (tree_of x) (tree_of y)) c.deref-in-Product.ensures c.deref-in-Product-2.ensures) in
    pair_result product Product (λ ks us i j. refl) (λ l m k i j p q. (p, q)) (λ l x y h. h) r.result _ _ _ c.args.list.now c.write_node-in-Product.new.list c.write_node-in-Product-2.new.list r.new.self
    c.in_ok-left-in-Product.left c.in_ok-right-in-Product.right e c.in_ok-left-in-Product.ensures.written c.in_ok-right-in-Product.ensures.written r.ensures.constants r.ensures.nodes r.ensures.place

pub returns-in_ok-inner-in-Negation-clause-written : goal.returns-in_ok-inner-in-Negation-clause-written
returns-in_ok-inner-in-Negation-clause-written g t c =
    let r = c.node-in-Negation in
    let e : tree_of c.args.node.now ≡ single_node negation (tree_of c.deref-in-Negation.result.now) = ap tree_of c.in-Negation.is ∙ sym (ap (λ x. single_node negation (tree_of x)) c.deref-in-Negation.ensures) in
    single_result negation Negation (λ ks us i. refl) (λ l m k i p. p) (λ l x h. h) r.result _ _ c.args.list.now c.write_node-in-Negation.new.list r.new.self
    c.in_ok-inner-in-Negation.inner e c.in_ok-inner-in-Negation.ensures.written r.ensures.constants r.ensures.nodes r.ensures.place
