use Rattle.std.proofs.Common.{◌≡◌, ℕ, ◌+◌, List, [], ◌∷◌, ◌++◌, refl, sym, ◌∙◌, ap, map, arith, rules}
use Rattle.std.specs.List.{range_with_len}
use Rattle.std.proofs.lemmas.List.FromFn.{map-range_with_len_more}
use Rattle.stark_air.proofs.air.every_column.Goals as goal

same : (xs : List ℕ) → map (λ k. k) xs ≡ xs
same [] = refl
same (x ∷ xs) = ap (λ ys. x ∷ ys) (same xs)

more : (n : ℕ) → range_with_len 0 (n + 1) ≡ range_with_len 0 n ++ n ∷ []
more n =
    sym (same (range_with_len 0 (n + 1))) ∙ map-range_with_len_more (λ k. k) 0 n n (omega arith) ∙ ap (λ xs. xs ++ n ∷ []) (same (range_with_len 0 n))

pub loop-column-preserved : goal.loop-column-preserved
loop-column-preserved c =
    let so_far : c.loop-column.columns.items ≡ range_with_len 0 c.loop-column.column = c.loop-column.invariant in
    c.in_ok-push.ensures.items ∙ ap (λ (xs : List ℕ). xs ++ c.loop-column.column ∷ []) so_far ∙ sym (more c.loop-column.column)

pub returns : goal.returns
returns c = search rules

pub returns-in_err-push : goal.returns-in_err-push
returns-in_err-push c = search rules
