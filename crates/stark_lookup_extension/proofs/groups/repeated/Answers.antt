use Rattle.std.proofs.Common.{◌≡◌, ◌∙◌, ◌++◌, ◌-◌, [], ap, arith, replicate, take, vec_len}
use Rattle.std.proofs.lemmas.List.{take_all}
use Rattle.stark_lookup_extension.proofs.groups.repeated.Goals as goal

pub returns : goal.returns
returns c =
    let n = c.args.count in
    let p = c.args.place in
    let old = c.new-all.result in
    let none : old.items ≡ [] = c.new-all.ensures.items in
    let empty : vec_len old ≡ 0 = c.new-all.ensures.len in
    let nothing : take n old.items ≡ [] = ap (take n) none ∙ take_all n [] (omega arith) in
    let whole : n - vec_len old ≡ n = omega (arith, empty) in
    c.in_ok-resize.ensures.items ∙ ap (λ xs. xs ++ replicate (n - vec_len old) p) nothing ∙ ap (λ k. replicate k p) whole
