-- The bench's sponges keep the laws of challengers.
use Rattle.std.specs.Prelude.{◌≡◌, ◌≢◌, ◌⊎◌, ℕ, suc, zero, ◌+◌, ◌-◌, ◌<◌, List, eqb, ◌≤◌, Bool, true, false, cond, Option, None, Some, option_map, refl}
use Rattle.std.proofs.Common.{◌∙◌, sym, ap, subst, inl, inr, arith}
use Rattle.std.proofs.lemmas.Bool.Decides.{eqb_tells}
use Rattle.std.specs.Option.{option_or}
use Rattle.std.proofs.Math.Nat.{mod-one}
use Rattle.stark_support.specs.Sponge.{GrindingLaws, drawn_in_turn, after_draws}
use Rattle.stark_fields.specs.declared.modulus.Modulus.{Ghosts}
use Rattle.stark_fields.specs.declared.residue.Residue.{Residue}
use Rattle.stark_fields.specs.Residues.{residue, residue_of_value, value_of_residue}
use Rattle.stark_fields.specs.Ext4Field.{coordinate_list}
use Rattle.stark_bench.specs.Challenges.{IsFirstOfEight, after_trial, leading, passes_after, least, found_by, four_drawn, after_four, script_passes, sha_passes, sha_after_check}

-- ---- searches

pub none_yet : (p : ℕ → Bool) (n : ℕ) → least p n ≡ None → p n ≡ false → least p (suc n) ≡ None
unfolding least
none_yet p n e h = ap (λ o. option_or o (cond (p n) (Some n) None)) e ∙ ap (λ b. cond b (Some n) None) h

first_here : (p : ℕ → Bool) (n : ℕ) → least p n ≡ None → p n ≡ true → least p (suc n) ≡ Some n
unfolding least
first_here p n e h = ap (λ o. option_or o (cond (p n) (Some n) None)) e ∙ ap (λ b. cond b (Some n) None) h

stays_found : (p : ℕ → Bool) (n m k : ℕ) → least p n ≡ Some k → n ≤ m → least p m ≡ Some k
unfolding least
stays_found p n zero k e h = let z : n ≡ 0 = omega arith in subst (λ j. least p j ≡ Some k) z e
stays_found p n (suc m) k e h = elim (eqb_tells n (suc m)) [
  | inl w ↦ subst (λ j. least p j ≡ Some k) w.1 e
  | inr w ↦ let ne : n ≢ suc m = w.1 in let le : n ≤ m = omega arith in ap (λ o. option_or o (cond (p m) (Some m) None)) (stays_found p n m k e le)
]

-- The first that passes is found, whatever the end of the search.
pub found_first : (p : ℕ → Bool) (n m : ℕ) → least p n ≡ None → p n ≡ true → n < m → least p m ≡ Some n
found_first p n m e h l = let le : suc n ≤ m = omega arith in stays_found p (suc n) m n (first_here p n e h) le

some_cases : (o : Option ℕ) (b : Bool) (n k : ℕ) → option_or o (cond b (Some n) None) ≡ Some k → (o ≡ Some k) ⊎ ((b ≡ true) × (n ≡ k))
some_cases (Some x) b n k e = inl e
some_cases None true n k e = inr (refl, (cc))
some_cases None false n k e = absurd (cc)

none_cases : (o : Option ℕ) (b : Bool) (n : ℕ) → option_or o (cond b (Some n) None) ≡ None → (o ≡ None) × (b ≡ false)
none_cases (Some x) b n e = absurd (cc)
none_cases None true n e = absurd (cc)
none_cases None false n e = (refl, refl)

least_passes : (p : ℕ → Bool) (n k : ℕ) → least p n ≡ Some k → p k ≡ true
unfolding least
least_passes p zero k e = absurd (cc)
least_passes p (suc n) k e = elim (some_cases (least p n) (p n) n k e) [
  | inl f ↦ least_passes p n k f
  | inr f ↦ ap p (sym f.1) ∙ f.0
]

least_none : (p : ℕ → Bool) (n : ℕ) → least p n ≡ None → (k : ℕ) → k < n → p k ≡ false
unfolding least
least_none p zero e k h = absurd (omega arith)
least_none p (suc n) e k h =
    let s = none_cases (least p n) (p n) n e in
    elim (eqb_tells k n) [
      | inl w ↦ ap p w.1 ∙ s.1
      | inr w ↦ let ne : k ≢ n = w.1 in let lt : k < n = omega arith in least_none p n s.0 k lt
    ]

mapped : {M K : Type 0} {G : Ghosts M} (o : Option ℕ) (w : Residue M K G) → option_map residue o ≡ Some w → (k : ℕ) × ((o ≡ Some k) × (residue k ≡ w))
mapped (Some k) w e = (k, (refl, (cc)))
mapped None w e = absurd (cc)

unmapped : {M K : Type 0} {G : Ghosts M} (o : Option ℕ) → option_map (residue {M = M} {K = K} {G = G}) o ≡ None → o ≡ None
unmapped (Some k) e = absurd (cc)
unmapped None e = refl

module _ {C M K : Type 0} {G : Ghosts M} (passes : C → ℕ → Residue M K G → Bool) (after : C → ℕ → Residue M K G → C) where
  pub search_laws : ((s : C) (w : Residue M K G) → passes s 0 w ≡ true) → ((s : C) (w : Residue M K G) → after s 0 w ≡ s) → GrindingLaws passes after (found_by passes)
  search_laws no_bits keeps = record {
    no_bits_pass = no_bits;
    no_bits_keep = keeps;
    ground_passes = λ s bits w e. let f = mapped (least (λ n. passes s bits (residue n)) G.MODULUS) w e in
        ap (passes s bits) (sym f.1.1) ∙ least_passes (λ n. passes s bits (residue n)) G.MODULUS f.0 f.1.0;
    none_passes = λ s bits e w. ap (passes s bits) (sym (residue_of_value w))
        ∙ least_none (λ n. passes s bits (residue n)) G.MODULUS (unmapped (least (λ n. passes s bits (residue n)) G.MODULUS) e) w.value w.in_range;
  }

pub script_laws : {C M K : Type 0} {G : Ghosts M} → GrindingLaws (script_passes {C = C} {M = M} {K = K} {G = G}) (λ s bits w. s) (found_by script_passes)
script_laws = search_laws script_passes (λ s bits w. s) (λ s w. refl) (λ s w. refl)

pub sha_laws : {M K : Type 0} {G : Ghosts M} → GrindingLaws (sha_passes {M = M} {K = K} {G = G}) sha_after_check (found_by sha_passes)
sha_laws = search_laws sha_passes sha_after_check (λ s w. refl) (λ s w. refl)

-- Where none of the numbers from n on passes before m, none below m does.
pub none_between : (p : ℕ → Bool) (n m : ℕ) → least p n ≡ None → n ≤ m → ((k : ℕ) → n ≤ k → k < m → p k ≡ false) → least p m ≡ None
none_between p n zero e le none = let z : n ≡ 0 = omega arith in subst (λ j. least p j ≡ None) z e
none_between p n (suc m) e le none = elim (eqb_tells n (suc m)) [
  | inl w ↦ subst (λ j. least p j ≡ None) w.1 e
  | inr w ↦ let ne : n ≢ suc m = w.1 in let lt : n ≤ m = omega arith in none_yet p m (none_between p n m e lt (λ k from to. none k from (omega arith))) (none m lt (omega arith))
]

-- Whether the element of a number passes shows in the state after its trial.
trial_by_bits : {M K : Type 0} {G : Ghosts M} (s : List ℕ) (bits : ℕ) (w : Residue M K G) (n : ℕ) → w.value ≡ n → sha_passes s bits w ≡ passes_after (after_trial s n) bits
trial_by_bits s bits w n same =
    let after = passes_after (after_trial s w.value) bits in
    elim (eqb_tells bits 0) [
      | inl e ↦ ap (λ b. cond b true after) e.0 ∙ sym (ap (passes_after (after_trial s n)) e.1 ∙ ap (λ m. eqb m 0) (mod-one (leading (after_trial s n))))
      | inr e ↦ ap (λ b. cond b true after) e.0 ∙ ap (λ m. passes_after (after_trial s m) bits) same
    ]

pub trial_passes : {M : Type 0} (K : Type 0) (G : Ghosts M) (s : List ℕ) (bits n : ℕ) → n < G.MODULUS → sha_passes s bits (residue {M = M} {K = K} {G = G} n) ≡ passes_after (after_trial s n) bits
trial_passes {M} K G s bits n below = trial_by_bits s bits (residue {M = M} {K = K} {G = G} n) n (value_of_residue G.MODULUS n below)

-- ---- the turns of a search

module _ {C M K : Type 0} {G : Ghosts M} (passes : C → ℕ → Residue M K G → Bool) (s : C) (bits n : ℕ) where
  -- No number below n passes.
  abbrev pub NonePassedBelow : Type 0
  NonePassedBelow = least (λ k. passes s bits (residue k)) n ≡ None

pub search_starts : {C M K : Type 0} {G : Ghosts M} (passes : C → ℕ → Residue M K G → Bool) (s : C) (bits : ℕ) → NonePassedBelow passes s bits 0
unfolding least
search_starts passes s bits = refl

module _ {C M K : Type 0} {G : Ghosts M} (passes : C → ℕ → Residue M K G → Bool) (s : C) (bits n : ℕ) where
  pub search_goes_on : {w : Residue M K G} {b : Bool} → NonePassedBelow passes s bits n → w ≡ residue n → b ≡ passes s bits w → b ≡ false → NonePassedBelow passes s bits (n + 1)
  search_goes_on {w = w} {b = b} e h k f = let turn = none_yet (λ k. passes s bits (residue k)) n e (ap (passes s bits) (sym h) ∙ sym k ∙ f) in
      let next : suc n ≡ n + 1 = omega arith in subst (λ j. NonePassedBelow passes s bits j) next turn

  pub search_finds : {w : Residue M K G} {b : Bool} → NonePassedBelow passes s bits n → w ≡ residue n → b ≡ passes s bits w → b ≡ true → n < G.MODULUS → Some w ≡ found_by passes s bits
  search_finds {w = w} {b = b} e h k f l = sym (ap (option_map residue) (found_first (λ k. passes s bits (residue k)) n G.MODULUS e (ap (passes s bits) (sym h) ∙ sym k ∙ f) l) ∙ ap Some (sym h))

  pub search_ends : NonePassedBelow passes s bits n → n ≤ G.MODULUS → G.MODULUS ≤ n → None ≡ found_by passes s bits
  search_ends e l h = let all : n ≡ G.MODULUS = omega arith in ap (option_map residue) (sym (subst (λ j. NonePassedBelow passes s bits j) all e))

-- ---- eight trials at once

module _ {M : Type 0} (K : Type 0) (G : Ghosts M) (s state : List ℕ) (bits first : ℕ) (same : state ≡ s) (within : first + 8 ≤ G.MODULUS) where
  trial : (j : ℕ) → j < 8 → sha_passes s bits (residue {M = M} {K = K} {G = G} (first + j)) ≡ passes_after (after_trial state (first + j)) bits
  trial j low = trial_passes K G s bits (first + j) (omega arith) ∙ ap (λ t. passes_after (after_trial t (first + j)) bits) (sym same)

  -- Where no number before passed, and of eight those before the j-th don't, none before it does.
  none_to : (j : ℕ) → j ≤ 8 → NonePassedBelow (sha_passes {M = M} {K = K} {G = G}) s bits first → ((k : ℕ) → k < j → passes_after (after_trial state (first + k)) bits ≡ false)
      → NonePassedBelow (sha_passes {M = M} {K = K} {G = G}) s bits (first + j)
  none_to j most before none = none_between (λ k. sha_passes s bits (residue {M = M} {K = K} {G = G} k)) first (first + j) before (omega arith)
      (λ k from to. let place : first + (k - first) ≡ k = omega arith in
      subst (λ m. sha_passes s bits (residue {M = M} {K = K} {G = G} m) ≡ false) place (trial (k - first) (omega arith) ∙ none (k - first) (omega arith)))

  pub eight_skipped : NonePassedBelow (sha_passes {M = M} {K = K} {G = G}) s bits first → IsFirstOfEight (λ n. passes_after (after_trial state n) bits) first None
      → NonePassedBelow (sha_passes {M = M} {K = K} {G = G}) s bits (first + 8)
  eight_skipped before none = none_to 8 (omega arith) before none

  pub one_of_eight_found : (n : ℕ) → NonePassedBelow (sha_passes {M = M} {K = K} {G = G}) s bits first → IsFirstOfEight (λ n. passes_after (after_trial state n) bits) first (Some n)
      → Some (residue n) ≡ found_by (sha_passes {M = M} {K = K} {G = G}) s bits
  one_of_eight_found n before obtained =
      let j = obtained.0 in
      let passes = ap (λ m. passes_after (after_trial state m) bits) (sym obtained.2) ∙ obtained.3 in
      rw obtained.2 (search_finds (sha_passes {M = M} {K = K} {G = G}) s bits (first + j) (none_to j (omega (arith, obtained.1)) before obtained.4) refl refl
      (trial j obtained.1 ∙ passes) (omega (arith, obtained.1)))

-- ---- elements of the extension

pub four_in_turn : {C K : Type 0} (draw : C → K) (after : C → C) (s : C) → coordinate_list (four_drawn draw after s) ≡ drawn_in_turn draw after 4 s
unfolding drawn_in_turn
four_in_turn draw after s = refl

pub after_four_in_turn : {C : Type 0} (after : C → C) (s : C) → after_four after s ≡ after_draws after 4 s
unfolding after_draws
after_four_in_turn after s = refl
