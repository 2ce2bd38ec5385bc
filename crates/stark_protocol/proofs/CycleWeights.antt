-- Of nodes in a closed geometric progression, each times its weight is the same.
use Rattle.std.proofs.Common.{◌≡◌, ◌≢◌, ◌∙◌, ℕ, zero, suc, ◌+◌, ◌-◌, ◌%◌, ◌<◌, ◌≤◌, List, [], ◌∷◌, length, map, take, drop, get_or, refl, sym, ap, arith, add-one, inl, inr, subst}
use Rattle.std.proofs.lemmas.List.{length-map, take_rest, drop_more}
use Rattle.std.proofs.lemmas.Bool.{cases_lt}
use Rattle.std.proofs.lemmas.Nat.{mod_below}
use Rattle.std.proofs.Math.Nat.{mod-eq_of_lt, mod_self}
use Rattle.stark_support.specs.Ring.{RingOps, RingLaws, FieldLaws, difference}
use Rattle.stark_support.specs.RingFacts.{one_mul}
use Rattle.stark_support.specs.RingSolver.{solve, ◌⊖◌, ◌⊗◌, v0, v1, v2, v3, v4, v5}
use Rattle.stark_support.specs.FieldFacts.{cancel_left, nonzero_product, quotient_is}
use Rattle.stark_support.specs.Coset.{TwoAdicCoset, IsTwoAdicCoset, AreDisjointCosets}
use Rattle.stark_support.specs.Embedding.{IsEmbedding}
use Rattle.stark_support.specs.TwoAdic.{TwoAdicLaws}
use Rattle.stark_support.specs.Powers.{power, squarings}
use Rattle.stark_support.specs.PowerFacts.{power-add}
use Rattle.stark_protocol.specs.ChunkFactors.{IsCycle, difference_product, node_weight}
use Rattle.stark_protocol.proofs.LagrangeFactors.{differences_append, node_is, weight_nonzero}

-- The product of x - f j over n numbers j, from one on.
abbrev run : {K : Type 0} → RingOps K → K → (ℕ → K) → ℕ → ℕ → K
run ring x f from zero = ring.one
run ring x f from (suc n) = ring.mul (difference ring x (f from)) (run ring x f (suc from) n)

module _ {K : Type 0} {ring : RingOps K} (laws : RingLaws ring) where
  run_of_list : (x : K) (nodes : List K) (n from : ℕ) → from + n ≤ length nodes → difference_product ring x (take n (drop from nodes)) ≡ run ring x (λ j. get_or nodes j ring.zero) from n
  run_of_list x nodes zero from within = refl
  run_of_list x nodes (suc n) from within =
      ap (λ t. difference_product ring x (take (suc n) t)) (drop_more nodes from ring.zero (omega arith))
      ∙ ap (λ k. ring.mul (difference ring x (get_or nodes from ring.zero)) (difference_product ring x (take n (drop k nodes)))) (add-one from)
      ∙ ap (ring.mul (difference ring x (get_or nodes from ring.zero))) (run_of_list x nodes n (suc from) (omega arith))

  run_shifted : (x y w : K) (f : ℕ → K) (n from : ℕ) → ((j : ℕ) → from ≤ j → j < from + n → difference ring y (f (suc j)) ≡ ring.mul w (difference ring x (f j)))
      → run ring y f (suc from) n ≡ ring.mul (power ring w n) (run ring x f from n)
  unfolding power
  run_shifted x y w f zero from apart = sym (laws.mul_one ring.one)
  run_shifted x y w f (suc n) from apart =
      ap (λ t. ring.mul t (run ring y f (suc (suc from)) n)) (apart from (omega arith) (omega arith))
      ∙ ap (ring.mul (ring.mul w (difference ring x (f from)))) (run_shifted x y w f n (suc from) (λ j above below. apart j (omega arith) (omega arith)))
      ∙ solve laws (w ∷ difference ring x (f from) ∷ power ring w n ∷ run ring x f (suc from) n ∷ []) (v0 ⊗ v1 ⊗ (v2 ⊗ v3)) (v0 ⊗ v2 ⊗ (v1 ⊗ v3)) refl

  run_last : (x : K) (f : ℕ → K) (n from last : ℕ) → last ≡ from + n → run ring x f from (suc n) ≡ ring.mul (run ring x f from n) (difference ring x (f last))
  run_last x f zero from last is = let same : from ≡ last = omega arith in laws.mul_one _ ∙ ap (λ k. difference ring x (f k)) same ∙ sym (one_mul laws _)
  run_last x f (suc n) from last is =
      ap (ring.mul (difference ring x (f from))) (run_last x f n (suc from) last (omega arith)) ∙ sym (laws.mul_assoc _ _ _)

  module _ (f : ℕ → K) (w : K) (m : ℕ) (step : (j : ℕ) → suc j < m → f (suc j) ≡ ring.mul w (f j)) (closes : (j : ℕ) → suc j ≡ m → f 0 ≡ ring.mul w (f j)) where
    powers_of_first : (j : ℕ) → j < m → f j ≡ ring.mul (power ring w j) (f 0)
    unfolding power
    powers_of_first zero below = sym (one_mul laws (f 0))
    powers_of_first (suc j) below = step j below ∙ ap (ring.mul w) (powers_of_first j (omega arith)) ∙ sym (laws.mul_assoc _ _ _)

    all_round : (j : ℕ) → suc j ≡ m → ring.mul (power ring w m) (f 0) ≡ f 0
    unfolding power
    all_round j is =
        ap (λ k. ring.mul (power ring w k) (f 0)) (sym is) ∙ laws.mul_assoc w (power ring w j) (f 0) ∙ ap (ring.mul w) (sym (powers_of_first j (omega arith))) ∙ sym (closes j is)

    -- the weight of node i, with n nodes behind it
    weight : ℕ → ℕ → K
    weight i n = ring.mul (run ring (f i) f 0 i) (run ring (f i) f (suc i) n)

    apart_next : (i j : ℕ) → suc i < m → suc j < m → difference ring (f (suc i)) (f (suc j)) ≡ ring.mul w (difference ring (f i) (f j))
    apart_next i j here there =
        ap (λ t. difference ring t (f (suc j))) (step i here) ∙ ap (difference ring (ring.mul w (f i))) (step j there)
        ∙ solve laws (w ∷ f i ∷ f j ∷ []) (v0 ⊗ v1 ⊖ v0 ⊗ v2) (v0 ⊗ (v1 ⊖ v2)) refl

    apart_first : (i j : ℕ) → suc i < m → suc j ≡ m → difference ring (f (suc i)) (f 0) ≡ ring.mul w (difference ring (f i) (f j))
    apart_first i j here last =
        ap (λ t. difference ring t (f 0)) (step i here) ∙ ap (difference ring (ring.mul w (f i))) (closes j last)
        ∙ solve laws (w ∷ f i ∷ f j ∷ []) (v0 ⊗ v1 ⊖ v0 ⊗ v2) (v0 ⊗ (v1 ⊖ v2)) refl

    weight_next : (i n : ℕ) → suc (i + suc n) ≡ m → ring.mul (f (suc i)) (weight (suc i) n) ≡ ring.mul (power ring w m) (ring.mul (f i) (weight i (suc n)))
    unfolding weight power
    weight_next i n is =
        let x = f i in
        let y = f (suc i) in
        let a = difference ring x (f (i + suc n)) in
        let before = run ring x f 0 i in
        let after = run ring x f (suc i) n in
        let count : suc (suc (i + n)) ≡ m = omega (arith, is) in
        ap (λ t. ring.mul y (ring.mul (ring.mul t (run ring y f 1 i)) (run ring y f (suc (suc i)) n))) (apart_first i (i + suc n) (omega (arith, is)) is)
        ∙ ap (λ t. ring.mul y (ring.mul (ring.mul (ring.mul w a) t) (run ring y f (suc (suc i)) n))) (run_shifted x y w f i 0 (λ j above below. apart_next i j (omega (arith, is)) (omega (arith, is))))
        ∙ ap (λ t. ring.mul y (ring.mul (ring.mul (ring.mul w a) (ring.mul (power ring w i) before)) t)) (run_shifted x y w f n (suc i) (λ j above below. apart_next i j (omega (arith, is)) (omega (arith, is))))
        ∙ ap (λ t. ring.mul t (ring.mul (ring.mul (ring.mul w a) (ring.mul (power ring w i) before)) (ring.mul (power ring w n) after))) (step i (omega (arith, is)))
        ∙ solve laws (w ∷ x ∷ a ∷ ring.mul (power ring w i) before ∷ power ring w n ∷ after ∷ []) (v0 ⊗ v1 ⊗ (v0 ⊗ v2 ⊗ v3 ⊗ (v4 ⊗ v5))) (v0 ⊗ (v0 ⊗ v4) ⊗ (v1 ⊗ (v3 ⊗ (v5 ⊗ v2)))) refl
        ∙ solve laws (ring.mul w (ring.mul w (power ring w n)) ∷ x ∷ power ring w i ∷ before ∷ ring.mul after a ∷ []) (v0 ⊗ (v1 ⊗ (v2 ⊗ v3 ⊗ v4))) (v2 ⊗ v0 ⊗ (v1 ⊗ (v3 ⊗ v4))) refl
        ∙ ap (λ t. ring.mul t (ring.mul x (ring.mul before (ring.mul after a)))) (sym (power-add laws w i (suc (suc n))) ∙ ap (power ring w) (let same : i + suc (suc n) ≡ m = omega (arith, is) in same))
        ∙ ap (λ t. ring.mul (power ring w m) (ring.mul x (ring.mul before t))) (sym (run_last x f n (suc i) (i + suc n) (omega arith)))

    weights_same : ring.mul (power ring w m) ring.one ≡ ring.one → (i n last : ℕ) → suc (i + n) ≡ m → suc last ≡ m → ring.mul (f i) (weight i n) ≡ ring.mul (f 0) (weight 0 last)
    weights_same whole zero n last is ends = let same : n ≡ last = omega arith in ap (λ k. ring.mul (f 0) (weight 0 k)) same
    weights_same whole (suc i) n last is ends =
        weight_next i n (omega arith)
        ∙ ap (λ t. ring.mul t (ring.mul (f i) (weight i (suc n)))) (sym (laws.mul_one _) ∙ whole) ∙ one_mul laws _
        ∙ weights_same whole i (suc n) last (omega arith) ends

  weight_of_list : (nodes : List K) (i n : ℕ) → suc (i + n) ≡ length nodes
      → node_weight ring nodes i ≡ ring.mul (run ring (get_or nodes i ring.zero) (λ j. get_or nodes j ring.zero) 0 i) (run ring (get_or nodes i ring.zero) (λ j. get_or nodes j ring.zero) (suc i) n)
  weight_of_list nodes i n is =
      let x = get_or nodes i ring.zero in
      let behind : length nodes - suc i ≡ n = omega (arith, is) in
      differences_append laws x (take i nodes) (drop (i + 1) nodes)
      ∙ ap (λ t. ring.mul t (difference_product ring x (drop (i + 1) nodes))) (run_of_list x nodes i 0 (omega arith))
      ∙ ap (λ k. ring.mul (run ring x (λ j. get_or nodes j ring.zero) 0 i) (difference_product ring x (drop k nodes))) (add-one i)
      ∙ ap (λ t. ring.mul (run ring x (λ j. get_or nodes j ring.zero) 0 i) (difference_product ring x t)) (sym (take_rest nodes (suc i)) ∙ ap (λ k. take k (drop (suc i) nodes)) behind)
      ∙ ap (ring.mul (run ring x (λ j. get_or nodes j ring.zero) 0 i)) (run_of_list x nodes n (suc i) (omega arith))

-- A cycle's ratio takes each node to the next, and the last to the first.
module _ {K : Type 0} {ring : RingOps K} {inverse : K → K} (laws : FieldLaws ring inverse) (nodes : List K) (nonzero : get_or nodes 0 ring.zero ≢ ring.zero) (cycle : IsCycle ring nodes) where
  ratio : K
  ratio = ring.mul (get_or nodes (1 % length nodes) ring.zero) (inverse (get_or nodes 0 ring.zero))

  ratio_takes : (j k : ℕ) → j < length nodes → (j + 1) % length nodes ≡ k → get_or nodes k ring.zero ≡ ring.mul ratio (get_or nodes j ring.zero)
  unfolding ratio
  ratio_takes j k below is =
      let first = get_or nodes 0 ring.zero in
      let second = get_or nodes (1 % length nodes) ring.zero in
      ap (λ i. get_or nodes i ring.zero) (sym is)
      ∙ sym (quotient_is laws (ring.mul (get_or nodes j ring.zero) second) first (get_or nodes ((j + 1) % length nodes) ring.zero) nonzero (laws.of_ring.mul_comm _ _ ∙ cycle j below))
      ∙ solve laws.of_ring (get_or nodes j ring.zero ∷ second ∷ inverse first ∷ []) (v0 ⊗ v1 ⊗ v2) (v1 ⊗ v2 ⊗ v0) refl

  takes_next : (j : ℕ) → suc j < length nodes → get_or nodes (suc j) ring.zero ≡ ring.mul ratio (get_or nodes j ring.zero)
  takes_next j below = ratio_takes j (suc j) (omega arith) (ap (λ i. i % length nodes) (add-one j) ∙ mod-eq_of_lt below)

  takes_last : (j : ℕ) → suc j ≡ length nodes → get_or nodes 0 ring.zero ≡ ring.mul ratio (get_or nodes j ring.zero)
  takes_last j last = ratio_takes j 0 (omega arith) (ap (λ i. i % length nodes) (add-one j ∙ last) ∙ mod_self (length nodes))

  length_of : (i : ℕ) → i < length nodes → (n : ℕ) × (suc (i + n) ≡ length nodes)
  length_of i below = (length nodes - suc i, omega arith)

  -- Each node times its weight is the first times the first's.
  pub cycle_weights : (i : ℕ) → i < length nodes → ring.mul (get_or nodes i ring.zero) (node_weight ring nodes i) ≡ ring.mul (get_or nodes 0 ring.zero) (node_weight ring nodes 0)
  unfolding weight
  cycle_weights i below =
      let f = λ (j : ℕ). get_or nodes j ring.zero in
      let m = length nodes in
      let here = length_of i below in
      let start = length_of 0 (omega arith) in
      let last : suc start.0 ≡ m = omega (arith, start.1) in
      let whole : ring.mul (power ring ratio m) ring.one ≡ ring.one
      = laws.of_ring.mul_one _ ∙ cancel_left laws (f 0) (power ring ratio m) ring.one nonzero
      (laws.of_ring.mul_comm _ _ ∙ all_round laws.of_ring f ratio m takes_next takes_last start.0 last ∙ sym (laws.of_ring.mul_one (f 0))) in
      ap (ring.mul (f i)) (weight_of_list laws.of_ring nodes i here.0 here.1)
      ∙ weights_same laws.of_ring f ratio m takes_next takes_last whole i here.0 start.0 here.1 last
      ∙ ap (ring.mul (f 0)) (sym (weight_of_list laws.of_ring nodes 0 start.0 start.1))

-- ---- over domains

pub squarings_nonzero : {K : Type 0} {ring : RingOps K} {inverse : K → K} (laws : FieldLaws ring inverse) (x : K) (k : ℕ) → x ≢ ring.zero → squarings ring x k ≢ ring.zero
unfolding squarings
squarings_nonzero laws x zero nonzero = nonzero
squarings_nonzero laws x (suc k) nonzero = nonzero_product laws _ _ (squarings_nonzero laws x k nonzero) (squarings_nonzero laws x k nonzero)

module _ {K D : Type 0} (ring : RingOps K) (node : D → K) (domains : List D) where
  abbrev GoesRound : ℕ → Type 0
  GoesRound i =
      let nodes = map node domains in
      ring.mul (get_or nodes ((i + 1) % length nodes) ring.zero) (get_or nodes 0 ring.zero) ≡ ring.mul (get_or nodes i ring.zero) (get_or nodes (1 % length nodes) ring.zero)

  read_round : (j : ℕ) (d : D) → 0 < length domains → d ≡ get_or domains (j % length domains) d → get_or (map node domains) (j % length (map node domains)) ring.zero ≡ node d
  read_round j d some read =
      ap (λ n. get_or (map node domains) (j % n) ring.zero) (length-map domains node) ∙ node_is node domains (j % length domains) d ring.zero (mod_below j (length domains) some) read

  pub one_more_round : (i : ℕ) (next first here second : D) (a b c e left right : K) → i < length domains
      → next ≡ get_or domains ((i + 1) % length domains) next → first ≡ get_or domains 0 first → here ≡ get_or domains i here → second ≡ get_or domains (1 % length domains) second
      → a ≡ node next → b ≡ node first → c ≡ node here → e ≡ node second → left ≡ ring.mul a b → right ≡ ring.mul c e → left ≡ right
      → ((j : ℕ) → j < i → GoesRound j) → (j : ℕ) → j < i + 1 → GoesRound j
  one_more_round i next first here second a b c e left right within read_next read_first read_here read_second is_a is_b is_c is_e is_left is_right same so_far j below =
      let nodes = map node domains in
      let some : 0 < length domains = omega (arith, within) in
      let round : GoesRound i
      = ap (λ t. ring.mul t (get_or nodes 0 ring.zero)) (read_round (i + 1) next some read_next ∙ sym is_a)
      ∙ ap (ring.mul a) (node_is node domains 0 first ring.zero some read_first ∙ sym is_b) ∙ sym is_left ∙ same ∙ is_right
      ∙ ap (λ t. ring.mul t e) (is_c ∙ sym (node_is node domains i here ring.zero within read_here))
      ∙ ap (ring.mul (get_or nodes i ring.zero)) (is_e ∙ sym (read_round 1 second some read_second)) in
      elim (cases_lt j i) [
        | inl before ↦ so_far j before
        | inr above ↦ subst GoesRound (let same : i ≡ j = omega (arith, above, below) in same) round
      ]

  pub all_round_seen : (i : ℕ) → length domains ≤ i → ((j : ℕ) → j < i → GoesRound j) → IsCycle ring (map node domains)
  all_round_seen i ended so_far = λ j below. so_far j (omega (arith, ended, below, length-map domains node))

-- Where the nodes are a cycle, the first times its weight is each times its own.
pub cycle_weight : {K D : Type 0} {ring : RingOps K} {inverse : K → K} (laws : FieldLaws ring inverse) (node : D → K) (domains : List D) (i : ℕ) (d first : D) (whole start own here : K) → i < length domains
    → d ≡ get_or domains i d → first ≡ get_or domains 0 first → node first ≢ ring.zero → IsCycle ring (map node domains)
    → start ≡ node first → own ≡ node_weight ring (map node domains) 0 → whole ≡ ring.mul start own → here ≡ node d
    → whole ≡ ring.mul here (node_weight ring (map node domains) i)
cycle_weight {ring = ring} laws node domains i d first whole start own here within read read_first nonzero cycle is_start is_own is is_here =
    let nodes = map node domains in
    let some : 0 < length domains = omega (arith, within) in
    let head : get_or nodes 0 ring.zero ≡ node first = node_is node domains 0 first ring.zero some read_first in
    is ∙ ap (λ t. ring.mul t own) (is_start ∙ sym head) ∙ ap (ring.mul (get_or nodes 0 ring.zero)) is_own
    ∙ sym (cycle_weights laws nodes (λ e. nonzero (sym head ∙ e)) cycle i (omega (arith, within, length-map domains node)))
    ∙ ap (λ t. ring.mul t (node_weight ring nodes i)) (node_is node domains i d ring.zero within read ∙ sym is_here)

-- The first node times its weight isn't zero.
pub first_nonzero : {F E D : Type 0} {base : RingOps F} {base_inverse : F → F} {ring : RingOps E} {inverse : E → E} {embed : F → E} (base_laws : FieldLaws base base_inverse) (laws : FieldLaws ring inverse)
    (embeds : IsEmbedding base ring embed) (adicity : ℕ) (root : ℕ → F) (generator : F) (two_adic : TwoAdicLaws base adicity root generator)
    (view : D → TwoAdicCoset F) (valid : (d : D) → IsTwoAdicCoset base adicity (view d)) (k : ℕ) (domains : List D) (disjoint : AreDisjointCosets base root k (map view domains))
    (first : D) (start own whole : F) → 0 < length domains → first ≡ get_or domains 0 first → start ≡ squarings base (view first).shift k → own ≡ node_weight base (map (λ d. squarings base (view d).shift k) domains) 0
    → whole ≡ base.mul start own → whole ≢ base.zero
first_nonzero base_laws laws embeds adicity root generator two_adic view valid k domains disjoint first start own whole some read is_start is_own is e =
    nonzero_product base_laws start own (λ zero. squarings_nonzero base_laws (view first).shift k (valid first).shift_nonzero (sym is_start ∙ zero))
    (λ zero. weight_nonzero base_laws laws embeds adicity root generator two_adic view valid k domains disjoint 0 first some read (sym is_own ∙ zero)) (sym is ∙ e)
