use Rattle.std.proofs.Common.{◌∙◌, IsSome, sym, refl}
use Rattle.std.proofs.lemmas.Bool.{false≢true}
use Rattle.stark_air.specs.Tree.{sum, difference}
use Rattle.stark_symbolic.specs.Symbolic.{pair_no_leaf}
use Rattle.stark_symbolic.specs.SymbolicView.{tree_of}
use Rattle.stark_symbolic.proofs.node.+copied.Goals as goal

pub returns-in_err-boxed-in-Sum-2-clause-leaf : goal.returns-in_err-boxed-in-Sum-2-clause-leaf
returns-in_err-boxed-in-Sum-2-clause-leaf g t c leaf =
    let k = rw c.in-Sum.is at leaf in
    absurd {A = IsSome c.from_residual-in_err-boxed-in-Sum-2.result} (false≢true (sym (pair_no_leaf (λ x y. sum x y) (λ x y. refl) (tree_of c.in-Sum.left.value) (tree_of c.in-Sum.right.value)) ∙ k))

pub returns-in_err-boxed-in-Difference-2-clause-leaf : goal.returns-in_err-boxed-in-Difference-2-clause-leaf
returns-in_err-boxed-in-Difference-2-clause-leaf g t c leaf =
    let k = rw c.in-Difference.is at leaf in
    absurd {A = IsSome c.from_residual-in_err-boxed-in-Difference-2.result} (false≢true (sym (pair_no_leaf (λ x y. difference x y) (λ x y. refl) (tree_of c.in-Difference.left.value) (tree_of c.in-Difference.right.value)) ∙ k))
