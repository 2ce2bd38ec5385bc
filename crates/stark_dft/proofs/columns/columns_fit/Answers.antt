use Rattle.std.proofs.Common.{◌≡◌, ◌∙◌, ℕ, List, [], ◌+◌, ◌<◌, ◌≤◌, length, get_or, map, ap, sym, arith, inl, inr}
use Rattle.std.proofs.lemmas.Bool.{cases_lt}
use Rattle.std.proofs.lemmas.List.{get_or-map, length-map}
use Rattle.stark_dft.specs.Columns.{column_list}
use Rattle.stark_dft.proofs.columns.columns_fit.Goals as goal

one_more_fits : {A C : Type 0} (f : C → List A) (xs : List C) (i size : ℕ) (x : C) → i < length xs → x ≡ get_or xs i x → length (f x) ≤ size
    → ((k : ℕ) (d : List A) → k < i → length (get_or (map f xs) k d) ≤ size) → (k : ℕ) (d : List A) → k < i + 1 → length (get_or (map f xs) k d) ≤ size
one_more_fits f xs i size x within is here before k d below = elim (cases_lt k i) [
  | inl earlier ↦ before k d earlier
  | inr later ↦
      let e : k ≡ i = omega arith in
      let same : length (get_or (map f xs) k d) ≡ length (f x) = ap (λ n. length (get_or (map f xs) n d)) e ∙ ap length (get_or-map f xs i x d within ∙ ap f (sym is)) in
      omega arith
]

too_long : {A C : Type 0} (f : C → List A) (xs : List C) (i size : ℕ) (x : C) → i < length xs → x ≡ get_or xs i x → size < length (f x)
    → ((k : ℕ) (d : List A) → k < length (map f xs) → length (get_or (map f xs) k d) ≤ size) → ⊥
too_long f xs i size x within is long fit =
    let here = fit i [] (omega (arith, length-map xs f)) in
    let same : length (get_or (map f xs) i []) ≡ length (f x) = ap length (get_or-map f xs i x [] within ∙ ap f (sym is)) in
    omega arith

pub loop-column-preserved : goal.loop-column-preserved
loop-column-preserved g c =
    let long : c.len.result ≡ length c.column-item.result.items = c.len.ensures ∙ c.column-item.result.ok.0 in
    one_more_fits column_list c.args.columns.now c.loop-column.column-index c.args.size c.column-item.result c.loop-column-test.true c.column-item.is (omega arith) c.loop-column.invariant

pub returns-then-len-size-clause-none_longer : goal.returns-then-len-size-clause-none_longer
returns-then-len-size-clause-none_longer g c = λ fit.
    let long : c.len.result ≡ length c.column-item.result.items = c.len.ensures ∙ c.column-item.result.ok.0 in
    absurd (too_long column_list c.args.columns.now c.loop-column.column-index c.args.size c.column-item.result c.loop-column-test.true c.column-item.is (omega arith) fit)
