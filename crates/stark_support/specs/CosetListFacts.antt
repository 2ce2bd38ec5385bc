-- What one of several disjoint cosets has to do with the others.
use Rattle.std.specs.Prelude.{◌≡◌, ℕ, ◌+◌, ◌<◌, List, [], ◌∷◌, map, length, take, drop, All}
use Rattle.std.proofs.Common.{sym, ◌∙◌, ap, arith, get_or, subst}
use Rattle.std.proofs.lemmas.List.{get_or-map, get_or-take, get_or-drop, length-map, length-take, length-drop}
use Rattle.std.proofs.lemmas.List.Elements.{All-take, All-drop}
use Rattle.stark_support.specs.Ring.{RingOps}
use Rattle.stark_support.specs.Coset.{TwoAdicCoset, AreDisjoint, AreDisjointCosets}
use Rattle.stark_support.specs.Recomposition.{common_log_size}

module _ {K : Type 0} {ring : RingOps K} {root : ℕ → K} where
  pub disjoint_sym : (c d : TwoAdicCoset K) → AreDisjoint ring root c d → AreDisjoint ring root d c
  disjoint_sym c d h = record { apart = λ i j e. h.apart j i (sym e) }

  module _ {D : Type 0} (view : D → TwoAdicCoset K) (log_size : ℕ) (cosets : List D) (h : AreDisjointCosets ring root log_size (map view cosets)) where
    pub size_at : (k : ℕ) (x : D) → k < length cosets → (view (get_or cosets k x)).log_size ≡ log_size
    size_at k x within = ap (λ c. c.log_size) (sym (get_or-map view cosets k x (view x) within)) ∙ h.one_subgroup k (view x) (omega (arith, length-map cosets view))

    pub disjoint_at : (i j : ℕ) (x y : D) → i < j → j < length cosets → AreDisjoint ring root (view (get_or cosets i x)) (view (get_or cosets j y))
    disjoint_at i j x y below within =
        subst (λ c. AreDisjoint ring root c (view (get_or cosets j y))) (get_or-map view cosets i x (view x) (omega arith))
        (subst (λ c. AreDisjoint ring root (get_or (map view cosets) i (view x)) c) (get_or-map view cosets j y (view x) within)
        (h.disjoint i j (view x) below (omega (arith, length-map cosets view))))

    module _ (i : ℕ) (d : D) (within : i < length cosets) (read : d ≡ get_or cosets i d) where
      pub size_of_one : (view d).log_size ≡ log_size
      size_of_one = ap (λ o. (view o).log_size) read ∙ size_at i d within

      all_sizes : All (λ o. (view o).log_size ≡ (view d).log_size) cosets
      all_sizes k x h' = size_at k x h' ∙ sym size_of_one

      pub sizes_before : All (λ o. (view o).log_size ≡ (view d).log_size) (take i cosets)
      sizes_before = All-take (λ o. (view o).log_size ≡ (view d).log_size) i cosets all_sizes

      pub sizes_after : (j : ℕ) → All (λ o. (view o).log_size ≡ (view d).log_size) (take j (drop (i + 1) cosets))
      sizes_after j = All-take (λ o. (view o).log_size ≡ (view d).log_size) j (drop (i + 1) cosets) (All-drop (λ o. (view o).log_size ≡ (view d).log_size) (i + 1) cosets all_sizes)

      pub disjoint_before : All (λ o. AreDisjoint ring root (view d) (view o)) (take i cosets)
      disjoint_before k x h' =
          let below : k < i = omega (arith, h', length-take i cosets) in
          subst (λ o. AreDisjoint ring root (view o) (view (get_or (take i cosets) k x))) (sym read)
          (subst (λ o. AreDisjoint ring root (view (get_or cosets i d)) (view o)) (sym (get_or-take i cosets k x below))
          (disjoint_sym _ _ (disjoint_at k i x d below within)))

      behind : All (λ o. AreDisjoint ring root (view d) (view o)) (drop (i + 1) cosets)
      behind k x h' =
          let inside : (i + 1) + k < length cosets = omega (arith, h', length-drop (i + 1) cosets) in
          subst (λ o. AreDisjoint ring root (view o) (view (get_or (drop (i + 1) cosets) k x))) (sym read)
          (subst (λ o. AreDisjoint ring root (view (get_or cosets i d)) (view o)) (sym (get_or-drop (i + 1) cosets k x))
          (disjoint_at i ((i + 1) + k) d x (omega arith) inside))

      pub disjoint_after : (j : ℕ) → All (λ o. AreDisjoint ring root (view d) (view o)) (take j (drop (i + 1) cosets))
      disjoint_after j = All-take (λ o. AreDisjoint ring root (view d) (view o)) j (drop (i + 1) cosets) behind

-- Disjoint cosets of some subgroup are cosets of the one that the first is of.
pub shared_log : {K : Type 0} {ring : RingOps K} {root : ℕ → K} (k : ℕ) (cosets : List (TwoAdicCoset K)) → AreDisjointCosets ring root k cosets → AreDisjointCosets ring root (common_log_size cosets) cosets
shared_log {ring = ring} {root = root} k [] h = record { one_subgroup = λ i d within. absurd (omega arith); disjoint = h.disjoint }
shared_log {ring = ring} {root = root} k (c ∷ cs) h = subst (λ (n : ℕ). AreDisjointCosets ring root n (c ∷ cs)) (sym (h.one_subgroup 0 c (omega arith))) h
