-- The numbers of groups' lookups, counted in turn.
use Rattle.std.proofs.Common.{◌≡◌, ◌∙◌, ℕ, ◌+◌, ◌≤◌, List, ◌++◌, Some, append-nil, append_assoc, ap, drop, length, replicate, slice_get, sym}
use Rattle.std.proofs.lemmas.List.{drop_all}
use Rattle.stark_lookup_extension.proofs.Loops.{from_there}
use Rattle.stark_lookup_extension.specs.declared.lookup.Lookup.{Lookup}
use Rattle.stark_lookup_rows.specs.RowEntries.{lookup_numbers}

module _ (xs : List Lookup) (whole : List ℕ) where
  pub numbers_grow : (k : ℕ) (x : Lookup) (all more : List ℕ) (count : ℕ) → slice_get xs k ≡ Some x → all ++ lookup_numbers k (drop k xs) ≡ whole → more ≡ all ++ replicate count k → count ≡ length x.groups.items → more ++ lookup_numbers (k + 1) (drop (k + 1) xs) ≡ whole
  numbers_grow k x all more count at so_far is counted =
      let later = lookup_numbers (k + 1) (drop (k + 1) xs) in
      let opened : replicate (length x.groups.items) k ++ later ≡ lookup_numbers k (drop k xs) = sym (ap (lookup_numbers k) (from_there xs k x at)) in
      ap (λ ys. ys ++ later) is ∙ append_assoc all (replicate count k) later ∙ ap (λ n. all ++ (replicate n k ++ later)) counted ∙ ap (λ ys. all ++ ys) opened ∙ so_far

  pub all_numbered : (k : ℕ) (all : List ℕ) → length xs ≤ k → all ++ lookup_numbers k (drop k xs) ≡ whole → all ≡ whole
  all_numbered k all past so_far = sym (append-nil all) ∙ ap (λ ys. all ++ lookup_numbers k ys) (sym (drop_all k xs past)) ∙ so_far
