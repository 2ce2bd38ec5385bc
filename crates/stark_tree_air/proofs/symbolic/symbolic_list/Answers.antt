use Rattle.std.proofs.Common.{◌≡◌, List, [], ◌∷◌, ap, arith, map, refl, subst, sym, true}
use Rattle.stark_tree_air.specs.Writing.{SpellsAll, all_within}
use Rattle.stark_tree_air.proofs.WrittenConstraints.{begun_none, begun_one, begun_all}
use Rattle.stark_tree_air.proofs.symbolic.symbolic_list.Goals as goal

each_itself : {A : Type 0} (xs : List A) → map (λ x. x) xs ≡ xs
each_itself [] = refl
each_itself (x ∷ xs) = ap (λ ys. x ∷ ys) (each_itself xs)

pub loop-constraint-init : goal.loop-constraint-init
loop-constraint-init g c = begun_none (λ x. x) c.args.constraints.now c.new-list.result c.new-list.ensures.constants c.new-list.ensures.nodes c.new-list.ensures.constraints

pub loop-constraint-preserved : goal.loop-constraint-preserved
loop-constraint-preserved g c =
    begun_one (λ x. x) c.args.constraints.now c.loop-constraint.constraint-index c.constraint-item.result c.loop-constraint.list c.write_constraint.new.list (omega arith) c.constraint-item.is c.loop-constraint.invariant c.in_ok-write_constraint.ensures

pub returns : goal.returns
returns g c l within =
    let xs = c.args.constraints.now in
    subst (λ ys. SpellsAll l c.loop-constraint.list ys) (each_itself xs)
    (begun_all (λ x. x) xs c.loop-constraint.constraint-index c.loop-constraint.list (omega arith) c.loop-constraint.invariant l (subst (λ ys. all_within l ys ≡ true) (sym (each_itself xs)) within))
