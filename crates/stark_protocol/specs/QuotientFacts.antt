-- The quotient's domain and the domains of its chunks.
use Rattle.std.proofs.Common.{◌≡◌, ◌∙◌, ap, sym, subst, arith, ℕ, zero, suc, ◌+◌, ◌-◌, ◌^◌, ◌<◌, ◌≤◌, List, [], ◌∷◌, map, length, inl, inr, Option, Some, None, Bool, true, false, if◌then◌else◌, nat_le, nat_lt, max, min}
use Rattle.std.specs.List.{range_with_len}
use Rattle.std.proofs.lemmas.List.{same_lists}
use Rattle.std.proofs.lemmas.List.FromFn.{length-map-range_with_len, get_or-map-range_with_len}
use Rattle.std.proofs.lemmas.Option.{get_or_from_slice_get}
use Rattle.std.proofs.lemmas.Bool.{cases_lt, le-leb, le-ltb, lt-leb, lt-ltb}
use Rattle.std.proofs.lemmas.Nat.{pow_below}
use Rattle.std.proofs.Math.Nat.{pow-suc}
use Rattle.std.proofs.lemmas.Simd.{map-map}
use Rattle.std.specs.Option.{option_or}
use Rattle.stark_support.specs.Ring.{RingOps}
use Rattle.stark_support.specs.Coset.{TwoAdicCoset, AreParts, AreDisjointCosets, coset_part}
use Rattle.stark_support.specs.Logarithm.{IsCeilingOfLog}
use Rattle.stark_support.specs.LogarithmFacts.{at_most_or_above, two_power_at_most, exponent_at_most, exponent_below}
use Rattle.stark_support.specs.Recomposition.{common_log_size, recomposition}
use Rattle.stark_air.specs.Tree.{Constraint}
use Rattle.stark_parts.specs.Sizing.{constraint_degree, quotient_multiple}
use Rattle.stark_transcript.specs.declared.error.InvalidProofShapeError.{InvalidProofShapeError}
use Rattle.stark_transcript.specs.declared.error.InvalidProofShapeError.TheVariants.{QuotientDomainTooLarge}
use Rattle.stark_protocol.specs.ShapeFaults.{fault_if, quotient_fault}
use Rattle.stark_protocol.specs.Sizes.{chunk_shifts, log_ceiling, log_ceiling_from, log_parts_of, quotient_coset}

-- ---- logarithms

pub ceiling_of_power : (k n : ℕ) → IsCeilingOfLog k (2 ^ n) → k ≡ n
ceiling_of_power k n log =
    let above : n ≤ k = exponent_at_most n k log.covers in
    let below : k ≤ n = log.least n (omega arith) in
    omega arith

ceiling_from : (k n more j : ℕ) → IsCeilingOfLog k n → j ≤ k → k ≤ j + more → k ≡ log_ceiling_from more j n
unfolding log_ceiling_from
ceiling_from k n zero j log above within = omega arith
ceiling_from k n (suc more) j log above within = elim (at_most_or_above n (2 ^ j)) [
  | inl covers ↦
      let least : k ≤ j = log.least j covers in
      let same : k ≡ j = omega arith in
      same ∙ sym (ap (λ b. if b then j else log_ceiling_from more (suc j) n) (le-leb n (2 ^ j) covers))
  | inr past ↦
      let beyond : j < k = exponent_below j k (omega (arith, log.covers)) in
      ceiling_from k n more (suc j) log (omega arith) (omega arith) ∙ sym (ap (λ b. if b then j else log_ceiling_from more (suc j) n) (lt-leb n (2 ^ j) past))
]

pub below_power : (n : ℕ) → n < 2 ^ n
below_power zero = omega arith
below_power (suc n) = omega (arith, below_power n, pow-suc 2 n)

ceiling_found : (more j n : ℕ) → n ≤ 2 ^ (j + more) → ((i : ℕ) → n ≤ 2 ^ i → j ≤ i) → IsCeilingOfLog (log_ceiling_from more j n) n
unfolding log_ceiling_from
ceiling_found zero j n within least = record { covers = subst (λ (k : ℕ). n ≤ 2 ^ k) (omega arith) within; least = least }
ceiling_found (suc more) j n within least = elim (at_most_or_above n (2 ^ j)) [
  | inl covers ↦ subst (λ k. IsCeilingOfLog k n) (sym (ap (λ b. if b then j else log_ceiling_from more (suc j) n) (le-leb n (2 ^ j) covers))) (record { covers = covers; least = least })
  | inr past ↦
      subst (λ k. IsCeilingOfLog k n) (sym (ap (λ b. if b then j else log_ceiling_from more (suc j) n) (lt-leb n (2 ^ j) past)))
      (ceiling_found more (suc j) n (subst (λ (k : ℕ). n ≤ 2 ^ k) (omega arith) within) (λ i covers. let beyond : j < i = exponent_below j i (omega arith) in omega arith))
]

pub is_log_ceiling : (n : ℕ) → IsCeilingOfLog (log_ceiling n) n
unfolding log_ceiling
is_log_ceiling n =
    let covers : n ≤ 2 ^ n = omega (arith, below_power n) in
    ceiling_found n 0 n (subst (λ (k : ℕ). n ≤ 2 ^ k) (omega arith) covers) (λ i h. omega arith)

pub ceiling_is : (k n : ℕ) → IsCeilingOfLog k n → k ≡ log_ceiling n
unfolding log_ceiling
ceiling_is k n log = let within : k ≤ n = log.least n (omega (arith, below_power n)) in ceiling_from k n n 0 log (omega arith) (omega arith)

-- the number of parts is enough for the degrees, and the least
pub log_parts_ceiling : {F : Type 0} (constraints : List (Constraint F)) (hint : Option ℕ) (is_zk : ℕ) → IsCeilingOfLog (log_parts_of constraints hint is_zk) (quotient_multiple (constraint_degree 0 constraints hint) is_zk)
unfolding log_parts_of
log_parts_ceiling constraints hint is_zk = is_log_ceiling _

-- the number of parts, over a domain whose transition selector adds nothing to a degree
pub log_parts_is : {F : Type 0} (constraints : List (Constraint F)) (hint : Option ℕ) (log d is_zk : ℕ) → d ≡ 0 → IsCeilingOfLog log (quotient_multiple (constraint_degree d constraints hint) is_zk) → log ≡ log_parts_of constraints hint is_zk
unfolding log_parts_of
log_parts_is constraints hint log d is_zk nothing ceiling =
    ceiling_is log (quotient_multiple (constraint_degree 0 constraints hint) is_zk)
    (subst (λ (n : ℕ). IsCeilingOfLog log (quotient_multiple (constraint_degree n constraints hint) is_zk)) nothing ceiling)

multiple_below : (m : ℕ) → max (min m (2 ^ 64 - 1)) 2 - 1 ≤ 2 ^ 64
multiple_below m = omega arith

pub log_parts_within : (log degree is_zk : ℕ) → IsCeilingOfLog log (quotient_multiple degree is_zk) → log ≤ 64
log_parts_within log degree is_zk ceiling = ceiling.least 64 (multiple_below (degree + is_zk))

-- ---- the quotient's domain

-- A coset of a known shift whose size is a known power of two.
coset_is : {F : Type 0} (c : TwoAdicCoset F) (s : F) (n size : ℕ) → c.shift ≡ s → IsCeilingOfLog c.log_size size → size ≡ 2 ^ n → c ≡ record { shift = s; log_size = n }
coset_is {F} c s n size shift log is =
    let same : c.log_size ≡ n = ceiling_of_power c.log_size n (subst (IsCeilingOfLog c.log_size) is log) in
    ap (λ (t : F). let d : TwoAdicCoset F = record { shift = t; log_size = c.log_size } in d) shift ∙ ap (λ (k : ℕ). let d : TwoAdicCoset F = record { shift = s; log_size = k } in d) same

-- The number below 64 whose power of two is the second of a pair.
pub size_of_sum : (n : ℕ) (sum whole : ℕ × ℕ) → whole.1 ≡ 2 ^ n → (n < 64 → Some sum ≡ Some whole) → (64 ≤ n → Some sum ≡ None) → (n < 64) × (sum.1 ≡ 2 ^ n)
size_of_sum n sum whole is fits other = elim (cases_lt n 64) [
  | inl below ↦ let same : Some sum ≡ Some whole = fits below in let one : sum ≡ whole = cc in (below, ap (λ (p : ℕ × ℕ). p.1) one ∙ is)
  | inr above ↦ absurd (let none : Some sum ≡ None = other above in cc)
]

pub sum_too_large : (n : ℕ) (whole : ℕ × ℕ) → (n < 64 → None ≡ Some whole) → 64 ≤ n
sum_too_large n whole fits = elim (cases_lt n 64) [
  | inl below ↦ absurd (let none : None ≡ Some whole = fits below in cc)
  | inr above ↦ omega arith
]

pub domain_of_size : {F : Type 0} (base : RingOps F) (generator : F) (coset domain : TwoAdicCoset F) (degree_bits log_parts size : ℕ)
    → degree_bits ≡ coset.log_size → size ≡ 2 ^ (degree_bits + log_parts)
    → domain.shift ≡ base.mul coset.shift generator → IsCeilingOfLog domain.log_size size → domain ≡ quotient_coset base generator coset log_parts
domain_of_size base generator coset domain degree_bits log_parts size height is shift log =
    coset_is domain (base.mul coset.shift generator) (coset.log_size + log_parts) size shift log (is ∙ ap (λ (k : ℕ). 2 ^ (k + log_parts)) height)

pub within_group : (adicity n size : ℕ) → size ≡ 2 ^ n → (2 ^ adicity < size → ⊥) → n ≤ adicity
within_group adicity n size is not_above = elim (at_most_or_above n adicity) [
  | inl below ↦ below
  | inr above ↦ absurd (not_above (omega (arith, is, pow_below adicity n above)))
]

pub beyond_group : (adicity n size : ℕ) → size ≡ 2 ^ n → 2 ^ adicity < size → adicity < n
beyond_group adicity n size is above = exponent_below adicity n (omega arith)

module _ (log_parts is_zk degree_bits adicity greatest : ℕ) (few : log_parts + is_zk < 64) (small : degree_bits + log_parts < 64) where
  last_test : (b : Bool) → nat_lt adicity (degree_bits + log_parts) ≡ b
      → quotient_fault log_parts is_zk degree_bits adicity greatest ≡ fault_if b (QuotientDomainTooLarge None greatest (degree_bits + log_parts))
  last_test b is =
      let test : Bool → Bool → Bool → Option InvalidProofShapeError = λ x y z.
      option_or (fault_if x (QuotientDomainTooLarge None 63 (log_parts + is_zk)))
      (option_or (fault_if y (QuotientDomainTooLarge None 63 (degree_bits + log_parts))) (fault_if z (QuotientDomainTooLarge None greatest (degree_bits + log_parts)))) in
      ap (λ (x : Bool). test x (nat_le 64 (degree_bits + log_parts)) (nat_lt adicity (degree_bits + log_parts))) (lt-leb 64 (log_parts + is_zk) few) ∙
      ap (λ (y : Bool). test false y (nat_lt adicity (degree_bits + log_parts))) (lt-leb 64 (degree_bits + log_parts) small) ∙
      ap (λ (z : Bool). test false false z) is

  pub quotient_clear : degree_bits + log_parts ≤ adicity → quotient_fault log_parts is_zk degree_bits adicity greatest ≡ None
  quotient_clear within = last_test false (le-ltb adicity (degree_bits + log_parts) within)

  pub quotient_beyond : adicity < degree_bits + log_parts → quotient_fault log_parts is_zk degree_bits adicity greatest ≡ Some (QuotientDomainTooLarge None greatest (degree_bits + log_parts))
  quotient_beyond above = last_test true (lt-ltb adicity (degree_bits + log_parts) above)

-- ---- the chunks' domains

common_of_disjoint : {F : Type 0} {base : RingOps F} {root : ℕ → F} (k : ℕ) (cosets : List (TwoAdicCoset F)) → 0 < length cosets → AreDisjointCosets base root k cosets → common_log_size cosets ≡ k
common_of_disjoint k [] some disjoint = absurd (omega (arith, some))
common_of_disjoint k (c ∷ cs) some disjoint = disjoint.one_subgroup 0 c (omega arith)

module _ {F : Type 0} (base : RingOps F) (root : ℕ → F) (coset : TwoAdicCoset F) (log_parts : ℕ) where
  -- The parts of a coset are listed in order.
  parts_listed : (parts : List (TwoAdicCoset F)) → AreParts base root coset log_parts parts → parts ≡ map (coset_part base root coset log_parts) (range_with_len 0 (2 ^ log_parts))
  parts_listed parts listed =
      let part = coset_part base root coset log_parts in
      same_lists parts (map part (range_with_len 0 (2 ^ log_parts))) (listed.number ∙ sym (length-map-range_with_len part 0 (2 ^ log_parts)))
      (λ i d within. let below : i < 2 ^ log_parts = omega (arith, within, listed.number) in
      get_or_from_slice_get parts i (part i) d (listed.part i below) ∙ sym (get_or-map-range_with_len part 0 (2 ^ log_parts) i i d below (omega arith)))

  common_of_parts : (parts : List (TwoAdicCoset F)) → AreParts base root coset log_parts parts → common_log_size parts ≡ coset.log_size - log_parts
  common_of_parts parts listed = common_of_disjoint {base = base} {root = root} (coset.log_size - log_parts) parts (omega (arith, listed.number, two_power_at_most 0 log_parts (omega arith))) listed.disjoint

  module _ {E D : Type 0} (embed : F → E) (view : D → TwoAdicCoset F) (domains : List D) (listed : AreParts base root coset log_parts (map view domains)) where
    shifts_of_parts : map (λ d. embed (view d).shift) domains ≡ chunk_shifts base root embed coset log_parts
    shifts_of_parts =
        let shift : TwoAdicCoset F → E = λ c. embed c.shift in
        sym (map-map shift view domains) ∙ ap (map shift) (parts_listed (map view domains) listed) ∙ map-map shift (coset_part base root coset log_parts) (range_with_len 0 (2 ^ log_parts))

    -- what the chunks on the parts recompose to
    pub recomposed_on_parts : (ring : RingOps E) (inverse : E → E) (basis : List E) (chunks : List (List E)) (zeta : E)
        → recomposition ring ring (λ c. c) inverse (2 ^ common_log_size (map view domains)) basis (map (λ d. embed (view d).shift) domains) chunks zeta
        ≡ recomposition ring ring (λ c. c) inverse (2 ^ (coset.log_size - log_parts)) basis (chunk_shifts base root embed coset log_parts) chunks zeta
    recomposed_on_parts ring inverse basis chunks zeta =
        ap (λ (k : ℕ). recomposition ring ring (λ c. c) inverse (2 ^ k) basis (map (λ d. embed (view d).shift) domains) chunks zeta) (common_of_parts (map view domains) listed) ∙
        ap (λ shifts. recomposition ring ring (λ c. c) inverse (2 ^ (coset.log_size - log_parts)) basis shifts chunks zeta) shifts_of_parts
