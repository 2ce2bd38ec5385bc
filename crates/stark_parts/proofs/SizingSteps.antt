-- The sizing's degree multiples give a quotient's domain that is large enough.
use Rattle.std.proofs.Common.{◌≡◌, ◌∙◌, refl, ap, sym, arith, subst, ℕ, zero, suc, ◌+◌, ◌-◌, ◌*◌, ◌^◌, ◌<◌, ◌≤◌, List, [], ◌∷◌, max, Option, unwrap_or}
use Rattle.std.specs.List.{AllByRecursion}
use Rattle.std.proofs.lemmas.Nat.{pow-add, pow_pos}
use Rattle.stark_symbolic.specs.Degree.{degree, greatest_degree, saturated}
use Rattle.stark_air.specs.Tree.{Tree, Constraint, base, extension, constant, main_current, main_next, preprocessed_current, preprocessed_next, public_value, periodic_value, first_row, last_row, transition, sum, difference, product, negation}
use Rattle.stark_parts.specs.Sizing.{constraint_degree, quotient_multiple}
use Rattle.stark_parts.specs.ConstraintBound.{greatest_bound, tree_bound}
use Rattle.stark_parts.specs.SizingLaw.{AreSizable, HasOneTransitionFactor, HasSmallBound, transition_factors}

-- ---- of a tree

left_below : (a b n : ℕ) → max a b < n → a < n
left_below a b n h = grind (arith, h)

right_below : (a b n : ℕ) → max a b < n → b < n
right_below a b n h = grind (arith, h)

greater_multiple : (a b d n : ℕ) → a ≤ d → a * n + b ≤ d * n + b
greater_multiple a b d n h = grind (arith, h)

through_multiple : (x a c d e n : ℕ) → x ≤ a * n + c → a * n + c ≤ d * n + c → c ≤ e → x ≤ d * n + e
through_multiple x a c d e n h k l = omega (arith, h, k, l)

both_below : (x y b : ℕ) → x ≤ b → y ≤ b → max x y ≤ b
both_below x y b h k = grind (arith, h, k)

left_max : (a b : ℕ) → a ≤ max a b
left_max a b = grind arith

right_max : (a b : ℕ) → b ≤ max a b
right_max a b = grind arith

max_bound : (x y a b c d n : ℕ) → x ≤ a * n + c → y ≤ b * n + d → max x y ≤ max a b * n + max c d
max_bound x y a b c d n h k =
    both_below x y (max a b * n + max c d)
    (through_multiple x a c (max a b) (max c d) n h (greater_multiple a c (max a b) n (left_max a b)) (left_max c d))
    (through_multiple y b d (max a b) (max c d) n k (greater_multiple b d (max a b) n (right_max a b)) (right_max c d))

product_bound : (x y a b c d n : ℕ) → x ≤ a * n + c → y ≤ b * n + d → x + y ≤ (a + b) * n + (c + d)
product_bound x y a b c d n h k = omega (arith, h, k)

-- below the greatest number of 64 bits a sum isn't saturated
not_saturated : (n : ℕ) → saturated n < 2 ^ 64 - 1 → saturated n ≡ n
not_saturated n h = omega (arith, h)

left_part : (a b n : ℕ) → a + b < n → a < n
left_part a b n h = omega (arith, h)

right_part : (a b n : ℕ) → a + b < n → b < n
right_part a b n h = omega (arith, h)

module _ {F : Type 0} (m n : ℕ) (within : n ≤ m) where
  -- The bound of a tree is its degree multiple times m - 1, and one for each transition factor.
  bound_by_degree : (t : Tree F) → degree 0 t < 2 ^ 64 - 1 → tree_bound m n t ≤ degree 0 t * (m - 1) + transition_factors t
  bound_by_degree (constant k) h = omega arith
  bound_by_degree (main_current c) h = omega arith
  bound_by_degree (main_next c) h = omega arith
  bound_by_degree (preprocessed_current c) h = omega arith
  bound_by_degree (preprocessed_next c) h = omega arith
  bound_by_degree (public_value k) h = omega arith
  bound_by_degree (periodic_value c) h = omega (arith, within)
  bound_by_degree first_row h = omega (arith, within)
  bound_by_degree last_row h = omega (arith, within)
  bound_by_degree transition h = omega arith
  bound_by_degree (sum t u) h =
      max_bound (tree_bound m n t) (tree_bound m n u) (degree 0 t) (degree 0 u) (transition_factors t) (transition_factors u) (m - 1)
      (bound_by_degree t (left_below (degree 0 t) (degree 0 u) (2 ^ 64 - 1) h)) (bound_by_degree u (right_below (degree 0 t) (degree 0 u) (2 ^ 64 - 1) h))
  bound_by_degree (difference t u) h =
      max_bound (tree_bound m n t) (tree_bound m n u) (degree 0 t) (degree 0 u) (transition_factors t) (transition_factors u) (m - 1)
      (bound_by_degree t (left_below (degree 0 t) (degree 0 u) (2 ^ 64 - 1) h)) (bound_by_degree u (right_below (degree 0 t) (degree 0 u) (2 ^ 64 - 1) h))
  bound_by_degree (product t u) h =
      let total = degree 0 t + degree 0 u in
      let whole : saturated total ≡ total = not_saturated total h in
      let small : total < 2 ^ 64 - 1 = subst (λ k. k < 2 ^ 64 - 1) whole h in
      subst (λ k. tree_bound m n t + tree_bound m n u ≤ k * (m - 1) + (transition_factors t + transition_factors u)) (sym whole)
      (product_bound (tree_bound m n t) (tree_bound m n u) (degree 0 t) (degree 0 u) (transition_factors t) (transition_factors u) (m - 1)
      (bound_by_degree t (left_part (degree 0 t) (degree 0 u) (2 ^ 64 - 1) small)) (bound_by_degree u (right_part (degree 0 t) (degree 0 u) (2 ^ 64 - 1) small)))
  bound_by_degree (negation t) h = bound_by_degree t h

  single_bound : (d : ℕ) (t : Tree F) → degree 0 t < 2 ^ 64 - 1 → degree 0 t ≤ d → transition_factors t ≤ 1 → tree_bound m n t ≤ d * (m - 1) + 1
  single_bound d t small below single =
      through_multiple (tree_bound m n t) (degree 0 t) (transition_factors t) d 1 (m - 1) (bound_by_degree t small) (greater_multiple (degree 0 t) (transition_factors t) d (m - 1) below) single

  -- Where no term has two transition factors, the greatest bound is at most the greatest degree multiple times m - 1, plus one.
  greatest_by_degree : (d : ℕ) (cs : List (Constraint F)) → greatest_degree 0 cs < 2 ^ 64 - 1 → greatest_degree 0 cs ≤ d → AllByRecursion HasOneTransitionFactor cs → greatest_bound m n cs ≤ d * (m - 1) + 1
  greatest_by_degree d [] small below single = omega arith
  greatest_by_degree d (base t ∷ cs) small below single =
      both_below (tree_bound m n t) (greatest_bound m n cs) (d * (m - 1) + 1)
      (single_bound d t (left_below (degree 0 t) (greatest_degree 0 cs) (2 ^ 64 - 1) small) (omega (arith, left_max (degree 0 t) (greatest_degree 0 cs), below)) single.0)
      (greatest_by_degree d cs (right_below (degree 0 t) (greatest_degree 0 cs) (2 ^ 64 - 1) small) (omega (arith, right_max (degree 0 t) (greatest_degree 0 cs), below)) single.1)
  greatest_by_degree d (extension t ∷ cs) small below single =
      both_below (tree_bound m n t) (greatest_bound m n cs) (d * (m - 1) + 1)
      (single_bound d t (left_below (degree 0 t) (greatest_degree 0 cs) (2 ^ 64 - 1) small) (omega (arith, left_max (degree 0 t) (greatest_degree 0 cs), below)) single.0)
      (greatest_by_degree d cs (right_below (degree 0 t) (greatest_degree 0 cs) (2 ^ 64 - 1) small) (omega (arith, right_max (degree 0 t) (greatest_degree 0 cs), below)) single.1)

-- ---- of the number of parts

-- The multiple is one less than the greatest degree at least, one more under zero knowledge.
enough_parts : (greatest hint z c : ℕ) → greatest < 2 ^ 64 - 1 → z ≤ 1 → quotient_multiple (max greatest hint) z ≤ c → (greatest + z ≤ c + 1) × (1 ≤ c)
enough_parts greatest hint z c small few h = (omega (arith, small, few, h), omega (arith, h))

through_times : (b d c n : ℕ) → b ≤ d * n + 1 → d * n + 1 ≤ c * n + 1 → b ≤ c * n + 1
through_times b d c n h k = omega (arith, h, k)

plain_step : (b n c : ℕ) → b ≤ (c + 1) * n + 1 → 1 ≤ c → b < suc n + c * suc n
plain_step b n c h some = omega (arith, h, some)

masked_step : (b n c : ℕ) → b ≤ c * (n + n + 1) + 1 → 1 ≤ c → b < suc n + c * (suc n + suc n)
masked_step b n c h some = omega (arith, h, some)

one_before : (n : ℕ) → suc n - 1 ≡ n
one_before n = omega arith

-- committed at the trace's own height
plain_fit : (d b n c : ℕ) → b ≤ d * (n - 1) + 1 → d ≤ c + 1 → 1 ≤ c → 1 ≤ n → b < n + c * n
plain_fit d b zero c h k some positive = absurd (omega (arith, positive))
plain_fit d b (suc n) c h k some positive = plain_step b n c (through_times b d (c + 1) n (subst (λ e. b ≤ d * e + 1) (one_before n) h) (greater_multiple d 1 (c + 1) n k)) some

same_predecessor : (n : ℕ) → suc n + suc n - 1 ≡ n + n + 1
same_predecessor n = omega arith

-- committed at twice the trace's height
masked_fit : (d b n c : ℕ) → b ≤ d * (n + n - 1) + 1 → d ≤ c → 1 ≤ c → 1 ≤ n → b < n + c * (n + n)
masked_fit d b zero c h k some positive = absurd (omega (arith, positive))
masked_fit d b (suc n) c h k some positive =
    masked_step b n c (through_times b d c (n + n + 1) (subst (λ e. b ≤ d * e + 1) (same_predecessor n) h) (greater_multiple d 1 c (n + n + 1) k)) some

doubled : (k : ℕ) → 2 ^ (k + 1) ≡ 2 ^ k + 2 ^ k
doubled k = let sum = pow-add 2 k 1 in omega (arith, sum)

domain_size : (k log_parts : ℕ) → 2 ^ (k + log_parts) ≡ 2 ^ log_parts * 2 ^ k
domain_size k log_parts = let turned : k + log_parts ≡ log_parts + k = omega arith in ap (λ (e : ℕ). 2 ^ e) turned ∙ pow-add 2 log_parts k

above_plain : (g c : ℕ) → g + 0 ≤ c + 1 → g ≤ c + 1
above_plain g c h = omega (arith, h)

above_masked : (g c : ℕ) → g + 1 ≤ c + 1 → g ≤ c
above_masked g c h = omega (arith, h)

-- ---- of a transition selector of a higher degree

saturated_more : (a b : ℕ) → a ≤ b → saturated a ≤ saturated b
saturated_more a b h = omega (arith, h)

greater_more : (a b c d : ℕ) → a ≤ c → b ≤ d → max a b ≤ max c d
greater_more a b c d h k = grind (arith, h, k)

sum_more : (a b c d : ℕ) → a ≤ c → b ≤ d → a + b ≤ c + d
sum_more a b c d h k = omega (arith, h, k)

degree_more : {F : Type 0} (d : ℕ) (t : Tree F) → degree 0 t ≤ degree d t
degree_more d (constant k) = omega arith
degree_more d (main_current c) = omega arith
degree_more d (main_next c) = omega arith
degree_more d (preprocessed_current c) = omega arith
degree_more d (preprocessed_next c) = omega arith
degree_more d (public_value k) = omega arith
degree_more d (periodic_value c) = omega arith
degree_more d first_row = omega arith
degree_more d last_row = omega arith
degree_more d transition = omega arith
degree_more d (sum t u) = greater_more (degree 0 t) (degree 0 u) (degree d t) (degree d u) (degree_more d t) (degree_more d u)
degree_more d (difference t u) = greater_more (degree 0 t) (degree 0 u) (degree d t) (degree d u) (degree_more d t) (degree_more d u)
degree_more d (product t u) =
    saturated_more (degree 0 t + degree 0 u) (degree d t + degree d u) (sum_more (degree 0 t) (degree 0 u) (degree d t) (degree d u) (degree_more d t) (degree_more d u))
degree_more d (negation t) = degree_more d t

greatest_more : {F : Type 0} (d : ℕ) (cs : List (Constraint F)) → greatest_degree 0 cs ≤ greatest_degree d cs
greatest_more d [] = omega arith
greatest_more d (base t ∷ cs) = greater_more (degree 0 t) (greatest_degree 0 cs) (degree d t) (greatest_degree d cs) (degree_more d t) (greatest_more d cs)
greatest_more d (extension t ∷ cs) = greater_more (degree 0 t) (greatest_degree 0 cs) (degree d t) (greatest_degree d cs) (degree_more d t) (greatest_more d cs)

multiple_more : (g k hint z c : ℕ) → g ≤ k → quotient_multiple (max k hint) z ≤ c → quotient_multiple (max g hint) z ≤ c
multiple_more g k hint z c h within = omega (arith, h, within)

module _ {F : Type 0} (constraints : List (Constraint F)) (sizable : AreSizable constraints) (hint : Option ℕ) (height log_parts : ℕ) where
  -- The domain of as many parts as sizing says is large enough for the quotient.
  parts_enough : (is_zk degree_bits : ℕ) → is_zk ≤ 1 → degree_bits ≡ height + is_zk → quotient_multiple (constraint_degree 0 constraints hint) is_zk ≤ 2 ^ log_parts
      → HasSmallBound constraints height degree_bits log_parts
  parts_enough zero degree_bits few is covers =
      let n = 2 ^ height in
      let c = 2 ^ log_parts in
      let g = greatest_degree 0 constraints in
      let enough = enough_parts g (unwrap_or hint 0) 0 c sizable.unsaturated (omega arith) covers in
      let same : degree_bits ≡ height = omega (arith, is) in
      subst (λ k. HasSmallBound constraints height k log_parts) (sym same)
      (subst (λ k. greatest_bound n n constraints < n + k) (sym (domain_size height log_parts))
      (plain_fit g (greatest_bound n n constraints) n c (greatest_by_degree n n (omega arith) g constraints sizable.unsaturated (omega arith) sizable.single) (above_plain g c enough.0) enough.1 (pow_pos height)))
  parts_enough (suc zero) degree_bits few is covers =
      let n = 2 ^ height in
      let c = 2 ^ log_parts in
      let g = greatest_degree 0 constraints in
      let enough = enough_parts g (unwrap_or hint 0) 1 c sizable.unsaturated (omega arith) covers in
      let same : degree_bits ≡ height + 1 = is in
      let double : 2 ^ (height + 1) ≡ n + n = doubled height in
      subst (λ k. HasSmallBound constraints height k log_parts) (sym same)
      (subst (λ k. greatest_bound (2 ^ (height + 1)) n constraints < n + k) (sym (domain_size (height + 1) log_parts))
      (subst (λ k. greatest_bound k n constraints < n + c * k) (sym double)
      (masked_fit g (greatest_bound (n + n) n constraints) n c (greatest_by_degree (n + n) n (omega arith) g constraints sizable.unsaturated (omega arith) sizable.single) (above_masked g c enough.0) enough.1 (pow_pos height))))
  parts_enough (suc (suc more)) degree_bits few is covers = absurd (omega (arith, few))

  -- The chunks are enough, too, where the transition's selector has another degree.
  pub sized_enough : (d is_zk : ℕ) → is_zk ≤ 1 → quotient_multiple (constraint_degree d constraints hint) is_zk ≤ 2 ^ log_parts → HasSmallBound constraints height (height + is_zk) log_parts
  sized_enough d is_zk few covers =
      parts_enough is_zk (height + is_zk) few refl
      (multiple_more (greatest_degree 0 constraints) (greatest_degree d constraints) (unwrap_or hint 0) is_zk (2 ^ log_parts) (greatest_more d constraints) covers)
