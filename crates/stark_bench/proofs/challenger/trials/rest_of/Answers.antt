use Rattle.std.proofs.Common.{◌≡◌, ◌∷◌, ℕ, List, [], ap, arith, drop, length, slice_index, sym, take}
use Rattle.std.proofs.lemmas.List.{take_all}
use Rattle.stark_bench.proofs.challenger.trials.rest_of.Goals as goal

-- The first of 32 bytes and the others are all.
whole : (s : List ℕ) → length s ≡ 32 → s ≡ slice_index s 0 ∷ take 31 (drop 1 s)
whole [] is = absurd (omega arith)
whole (x ∷ xs) is = ap (λ t. x ∷ t) (sym (take_all 31 xs (omega (arith, is))))

pub returns : goal.returns
returns c = whole c.args.state.now c.told-state
