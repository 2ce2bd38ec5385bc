-- Columns as they lie in memory, and as lists.
use Rattle.std.proofs.Common.{◌≡◌, ◌∙◌, sym, ap, ℕ, List, map, length, Option}
use Rattle.std.proofs.lemmas.Simd.{map-map}
use Rattle.stark_support.specs.ListFacts.{same_maps}
use Rattle.stark_support.specs.Periodic.{first_fault}
use Rattle.stark_support.specs.declared.periodic.PeriodicColumnShapeError.{PeriodicColumnShapeError}

-- The fault of columns is that of their lists.
pub fault_of_lists : {V A : Type 0} (items : V → List A) (count : V → ℕ) → ((v : V) → count v ≡ length (items v)) → (columns : List V) (lists : List (List A)) → map items columns ≡ lists
    → (m n : ℕ) → m ≡ n → (fault : Option PeriodicColumnShapeError) → first_fault m 0 (map count columns) ≡ fault → first_fault n 0 (map (λ column. length column) lists) ≡ fault
fault_of_lists items count counted columns lists listed m n same fault obtained =
    let by_items = same_maps count (λ v. length (items v)) counted columns ∙ sym (map-map (λ column. length column) items columns) ∙ ap (map (λ column. length column)) listed in
    ap (λ k. first_fault k 0 (map (λ column. length column) lists)) (sym same) ∙ sym (ap (first_fault m 0) by_items) ∙ obtained
