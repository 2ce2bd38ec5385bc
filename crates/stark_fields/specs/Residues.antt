-- The whole numbers modulo a prime, on the struct that holds one.
use Rattle.std.specs.Prelude.{◌≡◌, ◌≢◌, ℕ, ◌+◌, ◌-◌, ◌*◌, ◌%◌, true, ◌<◌}
use Rattle.std.proofs.Common.{sym, ◌∙◌, ap, arith, eqb}
use Rattle.std.proofs.lemmas.Bool.{eqb-true}
use Rattle.std.specs.Coded.{le_prop}
use mathlib.Core.HLevel.{is_prop→PathP}
use Rattle.std.proofs.lemmas.Nat.{mul-mod_first, mul-mod_second, mod_below}
use Rattle.std.proofs.Math.Nat.{add-mod-mod, mod-add-mod, mod-eq_of_lt, mod-mod, mod_self, zero-mod}
use Rattle.stark_support.specs.Ring.{RingOps, RingLaws}
use Rattle.stark_support.specs.Powers.{power}
use Rattle.stark_fields.specs.Lucas.{IsNumbered}
use Rattle.stark_fields.specs.declared.modulus.Modulus.{Ghosts}
use Rattle.stark_fields.specs.declared.residue.Residue.{Residue}

module _ {M : Type 0} (G : Ghosts M) where
  pub above_one : 1 < G.MODULUS
  above_one = omega (arith, G.prime.above)

  pub positive : 0 < G.MODULUS
  positive = omega (arith, G.prime.above)

-- the residue of a number
abbrev pub residue : {M K : Type 0} {G : Ghosts M} → ℕ → Residue M K G
residue {M} {K} {G} n = record { value = n % G.MODULUS; modulus = record {}; kind = record {}; in_range = mod_below n G.MODULUS (positive G) }

pub same_value : {M K : Type 0} {G : Ghosts M} (x y : Residue M K G) → x.value ≡ y.value → x ≡ y
same_value {M} {K} {G} x y e = λ i. record { value = e i; modulus = x.modulus; kind = x.kind; in_range = is_prop→PathP (λ j. e j < G.MODULUS) (λ j. le_prop) x.in_range y.in_range i }

abbrev pub residue_ring : {M K : Type 0} {G : Ghosts M} → RingOps (Residue M K G)
residue_ring {M} {K} {G} = record {
  zero = residue 0;
  one = residue 1;
  add = λ x y. residue (x.value + y.value);
  mul = λ x y. residue (x.value * y.value);
  neg = λ x. residue (G.MODULUS - x.value);
}

-- x ^ (p - 2). It is no abbrev: at a known modulus a definition that unfolds powers would unfold all of them.
unfoldable pub residue_inverse : {M K : Type 0} {G : Ghosts M} → Residue M K G → Residue M K G
residue_inverse {M} {K} {G} x = power residue_ring x (G.MODULUS - 2)

module _ {M K : Type 0} {G : Ghosts M} where
  pub residue_ring_laws : RingLaws (residue_ring {M = M} {K = K} {G = G})
  residue_ring_laws = record {
    add_assoc = λ x y z. same_value _ _ (simp (mod-add-mod, add-mod-mod) (ap (λ n. n % G.MODULUS) (omega arith)));
    add_comm = λ x y. same_value _ _ (ap (λ n. n % G.MODULUS) (omega arith));
    add_zero = λ x. same_value _ _ (simp add-mod-mod (ap (λ n. n % G.MODULUS) (omega arith) ∙ mod-eq_of_lt x.in_range));
    add_neg = λ x. same_value _ _ (let e : x.value + (G.MODULUS - x.value) ≡ G.MODULUS = omega (arith, x.in_range) in add-mod-mod x.value (G.MODULUS - x.value) G.MODULUS ∙ ap (λ n. n % G.MODULUS) e ∙ mod_self G.MODULUS ∙ sym (zero-mod G.MODULUS));
    mul_assoc = λ x y z. same_value _ _ (simp (mul-mod_first, mul-mod_second) (ap (λ n. n % G.MODULUS) (omega arith)));
    mul_comm = λ x y. same_value _ _ (ap (λ n. n % G.MODULUS) (omega arith));
    mul_one = λ x. same_value _ _ (simp mul-mod_second (ap (λ n. n % G.MODULUS) (omega arith) ∙ mod-eq_of_lt x.in_range));
    mul_add = λ x y z. same_value _ _ (simp (mod-add-mod, add-mod-mod, mul-mod_second) (ap (λ n. n % G.MODULUS) (omega arith)));
  }

  pub residue_of_value : (x : Residue M K G) → residue x.value ≡ x
  residue_of_value x = same_value _ _ (mod-eq_of_lt x.in_range)

  pub eq_gives_same : (x y : Residue M K G) → eqb x.value y.value ≡ true → x ≡ y
  eq_gives_same x y h = same_value x y (eqb-true x.value y.value h)

  pub residue_is : (x : Residue M K G) (n : ℕ) → x.value ≡ n % G.MODULUS → x ≡ residue n
  residue_is x n e = same_value x (residue n) e

  -- residues of alike numbers
  pub residue_product : (m n : ℕ) → (residue_ring {M = M} {K = K} {G = G}).mul (residue m) (residue n) ≡ residue (m * n)
  residue_product m n = same_value _ _ (mul-mod_first m (n % G.MODULUS) G.MODULUS ∙ mul-mod_second m n G.MODULUS)

  pub residue_reduced : (n : ℕ) → residue {M = M} {K = K} {G = G} (n % G.MODULUS) ≡ residue n
  residue_reduced n = same_value _ _ (mod-mod n G.MODULUS)

  -- a sum of four numbers that is reduced once
  pub residue_of_four : (a b c d : ℕ) → residue {M = M} {K = K} {G = G} ((a + b) + (c + d)) ≡ residue (a % G.MODULUS + (b % G.MODULUS + (c % G.MODULUS + d % G.MODULUS) % G.MODULUS) % G.MODULUS)
  residue_of_four a b c d = same_value _ _ (simp (mod-add-mod, add-mod-mod) (ap (λ n. n % G.MODULUS) (omega arith)))

  pub one_not_zero : residue {M = M} {K = K} {G = G} 1 ≢ residue 0
  one_not_zero e =
      let values : 1 % G.MODULUS ≡ 0 % G.MODULUS = ap (λ (x : Residue M K G). x.value) e in
      let first : 1 % G.MODULUS ≡ 1 = mod-eq_of_lt (above_one G) in
      let second : 0 % G.MODULUS ≡ 0 = zero-mod G.MODULUS in
      omega (arith, values, first, second)

  pub is_numbered : IsNumbered (residue_ring {M = M} {K = K} {G = G}) (λ x. x.value) (G.MODULUS - 1)
  is_numbered = record {
    within = λ x. omega (arith, x.in_range);
    same = same_value;
    zero_is = zero-mod G.MODULUS;
    one_not_zero = one_not_zero;
  }

pub value_of_residue : (p n : ℕ) → n < p → n % p ≡ n
value_of_residue p n h = mod-eq_of_lt h
