-- A field with a fourth root of w added: polynomials below degree four modulo X^4 - w.
use Rattle.std.specs.Prelude.{◌≡◌, ◌≢◌, List, [], ◌∷◌, ◌++◌, refl}
use Rattle.std.proofs.Common.{ap, sym, ◌∙◌, inl, inr}
use Rattle.stark_support.specs.Ring.{RingOps, RingLaws, FieldLaws, difference}
use Rattle.stark_support.specs.RingSolver.{Expression, variable, product_of, nothing, expressions, evaluate, normal, solve, v0}
use Rattle.stark_fields.specs.Quadratic.{Pair, same_pair, quadratic_ring, quadratic_norm, quadratic_laws, norm_nonzero, root_has_no_root}

pub record Quartic (K : Type 0) : Type 0 where
  pub c0 : K
  pub c1 : K
  pub c2 : K
  pub c3 : K

-- Coordinate d of a product is the sum of a_i b_j where i + j is d, and w times the sum where i + j is d + 4.
abbrev pub quartic_ring : {K : Type 0} → RingOps K → K → RingOps (Quartic K)
quartic_ring ring w = record {
  zero = record { c0 = ring.zero; c1 = ring.zero; c2 = ring.zero; c3 = ring.zero };
  one = record { c0 = ring.one; c1 = ring.zero; c2 = ring.zero; c3 = ring.zero };
  add = λ a b. record { c0 = ring.add a.c0 b.c0; c1 = ring.add a.c1 b.c1; c2 = ring.add a.c2 b.c2; c3 = ring.add a.c3 b.c3 };
  mul = λ a b. record {
    c0 = ring.add (ring.mul a.c0 b.c0) (ring.mul w (ring.add (ring.mul a.c1 b.c3) (ring.add (ring.mul a.c2 b.c2) (ring.mul a.c3 b.c1))));
    c1 = ring.add (ring.add (ring.mul a.c0 b.c1) (ring.mul a.c1 b.c0)) (ring.mul w (ring.add (ring.mul a.c2 b.c3) (ring.mul a.c3 b.c2)));
    c2 = ring.add (ring.add (ring.mul a.c0 b.c2) (ring.add (ring.mul a.c1 b.c1) (ring.mul a.c2 b.c0))) (ring.mul w (ring.mul a.c3 b.c3));
    c3 = ring.add (ring.add (ring.mul a.c0 b.c3) (ring.mul a.c1 b.c2)) (ring.add (ring.mul a.c2 b.c1) (ring.mul a.c3 b.c0));
  };
  neg = λ a. record { c0 = ring.neg a.c0; c1 = ring.neg a.c1; c2 = ring.neg a.c2; c3 = ring.neg a.c3 };
}

-- even and odd coordinates, each over the square of X
abbrev pub to_tower : {K : Type 0} → Quartic K → Pair (Pair K)
to_tower a = record { low = record { low = a.c0; high = a.c2 }; high = record { low = a.c1; high = a.c3 } }

abbrev pub from_tower : {K : Type 0} → Pair (Pair K) → Quartic K
from_tower p = record { c0 = p.low.low; c1 = p.high.low; c2 = p.low.high; c3 = p.high.high }

-- the square of X
abbrev pub square_root : {K : Type 0} → RingOps K → Pair K
square_root ring = record { low = ring.zero; high = ring.one }

-- the norm over the field with the square of X
abbrev pub half_norm : {K : Type 0} → RingOps K → K → Quartic K → Pair K
half_norm ring w a = record {
  low = difference ring (ring.add (ring.mul a.c0 a.c0) (ring.mul w (ring.mul a.c2 a.c2))) (ring.mul w (ring.add (ring.mul a.c1 a.c3) (ring.mul a.c1 a.c3)));
  high = difference ring (ring.add (ring.mul a.c0 a.c2) (ring.mul a.c0 a.c2)) (ring.add (ring.mul a.c1 a.c1) (ring.mul w (ring.mul a.c3 a.c3)));
}

-- the norm
abbrev pub quartic_norm : {K : Type 0} → RingOps K → K → Quartic K → K
quartic_norm ring w a = quadratic_norm ring w (half_norm ring w a)

abbrev cofactor_of : {K : Type 0} → RingOps K → K → Quartic K → K → K → Quartic K
cofactor_of ring w a p q = record {
  c0 = ring.add (ring.mul a.c0 p) (ring.mul w (ring.mul a.c2 q));
  c1 = ring.neg (ring.add (ring.mul a.c1 p) (ring.mul w (ring.mul a.c3 q)));
  c2 = ring.add (ring.mul a.c0 q) (ring.mul a.c2 p);
  c3 = ring.neg (ring.add (ring.mul a.c1 q) (ring.mul a.c3 p));
}

-- What times a gives the norm times i.
abbrev pub quartic_cofactor : {K : Type 0} → RingOps K → K → Quartic K → K → Quartic K
quartic_cofactor ring w a i = cofactor_of ring w a (ring.mul (half_norm ring w a).low i) (ring.neg (ring.mul (half_norm ring w a).high i))

-- The inverse of a value that isn't zero.
abbrev pub quartic_inverse : {K : Type 0} → RingOps K → (K → K) → K → Quartic K → Quartic K
quartic_inverse ring inverse w a = quartic_cofactor ring w a (inverse (quartic_norm ring w a))

abbrev quote : RingOps (Quartic Expression)
quote = quartic_ring expressions v0

abbrev first : Quartic Expression
first = record { c0 = variable 1; c1 = variable 2; c2 = variable 3; c3 = variable 4 }

abbrev second : Quartic Expression
second = record { c0 = variable 5; c1 = variable 6; c2 = variable 7; c3 = variable 8 }

abbrev third : Quartic Expression
third = record { c0 = variable 9; c1 = variable 10; c2 = variable 11; c3 = variable 12 }

abbrev coordinates : {K : Type 0} → Quartic K → List K
coordinates a = a.c0 ∷ a.c1 ∷ a.c2 ∷ a.c3 ∷ []

abbrev evaluated : {K : Type 0} → RingOps K → List K → Quartic Expression → Quartic K
evaluated ring xs e = record { c0 = evaluate ring xs e.c0; c1 = evaluate ring xs e.c1; c2 = evaluate ring xs e.c2; c3 = evaluate ring xs e.c3 }

pub same_quartic : {K : Type 0} {a b : Quartic K} → a.c0 ≡ b.c0 → a.c1 ≡ b.c1 → a.c2 ≡ b.c2 → a.c3 ≡ b.c3 → a ≡ b
same_quartic p q r s = λ i. record { c0 = p i; c1 = q i; c2 = r i; c3 = s i }

module _ {K : Type 0} {ring : RingOps K} (laws : RingLaws ring) (w : K) where
  same : (xs : List K) (e f : Quartic Expression) → normal e.c0 ≡ normal f.c0 → normal e.c1 ≡ normal f.c1 → normal e.c2 ≡ normal f.c2 → normal e.c3 ≡ normal f.c3 → evaluated ring xs e ≡ evaluated ring xs f
  same xs e f p q r s = same_quartic (solve laws xs e.c0 f.c0 p) (solve laws xs e.c1 f.c1 q) (solve laws xs e.c2 f.c2 r) (solve laws xs e.c3 f.c3 s)

  pub quartic_ring_laws : RingLaws (quartic_ring ring w)
  quartic_ring_laws = record {
    add_assoc = λ a b c. same (w ∷ (coordinates a ++ coordinates b ++ coordinates c)) (quote.add (quote.add first second) third) (quote.add first (quote.add second third)) refl refl refl refl;
    add_comm = λ a b. same (w ∷ (coordinates a ++ coordinates b)) (quote.add first second) (quote.add second first) refl refl refl refl;
    add_zero = λ a. same (w ∷ coordinates a) (quote.add first quote.zero) first refl refl refl refl;
    add_neg = λ a. same (w ∷ coordinates a) (quote.add first (quote.neg first)) quote.zero refl refl refl refl;
    mul_assoc = λ a b c. same (w ∷ (coordinates a ++ coordinates b ++ coordinates c)) (quote.mul (quote.mul first second) third) (quote.mul first (quote.mul second third)) refl refl refl refl;
    mul_comm = λ a b. same (w ∷ (coordinates a ++ coordinates b)) (quote.mul first second) (quote.mul second first) refl refl refl refl;
    mul_one = λ a. same (w ∷ coordinates a) (quote.mul first quote.one) first refl refl refl refl;
    mul_add = λ a b c. same (w ∷ (coordinates a ++ coordinates b ++ coordinates c)) (quote.mul first (quote.add second third)) (quote.add (quote.mul first second) (quote.mul first third)) refl refl refl refl;
  }

  cofactor_product : (a : Quartic K) (i : K) → (quartic_ring ring w).mul a (quartic_cofactor ring w a i) ≡ record { c0 = ring.mul (quartic_norm ring w a) i; c1 = ring.zero; c2 = ring.zero; c3 = ring.zero }
  cofactor_product a i =
      same (w ∷ a.c0 ∷ a.c1 ∷ a.c2 ∷ a.c3 ∷ i ∷ [])
      (quote.mul first (quartic_cofactor expressions v0 first (variable 5)))
      (record { c0 = product_of (quartic_norm expressions v0 first) (variable 5); c1 = nothing; c2 = nothing; c3 = nothing })
      refl refl refl refl

  half_norm_by_tower : (a : Quartic K) → quadratic_norm (quadratic_ring ring w) (square_root ring) (to_tower a) ≡ half_norm ring w a
  half_norm_by_tower a =
      let e : Pair Expression = quadratic_norm (quadratic_ring expressions v0) (square_root expressions) (to_tower first) in
      let f : Pair Expression = half_norm expressions v0 first in
      same_pair (solve laws (w ∷ coordinates a) e.low f.low refl) (solve laws (w ∷ coordinates a) e.high f.high refl)

module _ {K : Type 0} {ring : RingOps K} {inverse : K → K} (laws : FieldLaws ring inverse) (w : K) (no_root : (c : K) → ring.mul c c ≢ w) (no_negative_root : (c : K) → ring.mul c c ≢ ring.neg w) where
  pub quartic_norm_nonzero : (a : Quartic K) → a ≢ (quartic_ring ring w).zero → quartic_norm ring w a ≢ ring.zero
  quartic_norm_nonzero a nonzero =
      let half = norm_nonzero (quadratic_laws laws w no_root) (square_root ring) (root_has_no_root laws w no_root no_negative_root) (to_tower a) (λ h. nonzero (ap from_tower h)) in
      norm_nonzero laws w no_root (half_norm ring w a) (λ h. half (half_norm_by_tower laws.of_ring w a ∙ h))

  pub quartic_laws : FieldLaws (quartic_ring ring w) (quartic_inverse ring inverse w)
  quartic_laws = record {
    of_ring = quartic_ring_laws laws.of_ring w;
    one_not_zero = λ h. laws.one_not_zero (ap (λ (a : Quartic K). a.c0) h);
    mul_inverse = λ a nonzero.
        cofactor_product laws.of_ring w a (inverse (quartic_norm ring w a)) ∙
        ap (λ x. record { c0 = x; c1 = ring.zero; c2 = ring.zero; c3 = ring.zero }) (laws.mul_inverse (quartic_norm ring w a) (quartic_norm_nonzero a nonzero));
    decides = λ a b.
        elim ((quadratic_laws (quadratic_laws laws w no_root) (square_root ring) (root_has_no_root laws w no_root no_negative_root)).decides (to_tower a) (to_tower b)) [
          | inl same ↦ inl (ap from_tower same)
          | inr other ↦ inr (λ h. other (ap to_tower h))
        ];
  }

-- The operations of a type whose values stand for those of another.
abbrev pub renamed_ring : {A B : Type 0} → (A → B) → (B → A) → RingOps B → RingOps A
renamed_ring to from ring = record {
  zero = from ring.zero;
  one = from ring.one;
  add = λ x y. from (ring.add (to x) (to y));
  mul = λ x y. from (ring.mul (to x) (to y));
  neg = λ x. from (ring.neg (to x));
}

abbrev pub renamed_inverse : {A B : Type 0} → (A → B) → (B → A) → (B → B) → A → A
renamed_inverse to from inverse x = from (inverse (to x))

module _ {A B : Type 0} {ring : RingOps B} {inverse : B → B} (laws : FieldLaws ring inverse) (to : A → B) (from : B → A) (back : (x : A) → from (to x) ≡ x) (forth : (y : B) → to (from y) ≡ y) where
  renamed_ring_laws : RingLaws (renamed_ring to from ring)
  renamed_ring_laws = record {
    add_assoc = λ x y z. simp (forth, laws.of_ring.add_assoc);
    add_comm = λ x y. ap from (laws.of_ring.add_comm _ _);
    add_zero = λ x. simp (forth, laws.of_ring.add_zero) (back x);
    add_neg = λ x. simp (forth, laws.of_ring.add_neg);
    mul_assoc = λ x y z. simp (forth, laws.of_ring.mul_assoc);
    mul_comm = λ x y. ap from (laws.of_ring.mul_comm _ _);
    mul_one = λ x. simp (forth, laws.of_ring.mul_one) (back x);
    mul_add = λ x y z. simp (forth, laws.of_ring.mul_add);
  }

  to_same : (x y : A) → to x ≡ to y → x ≡ y
  to_same x y h = sym (back x) ∙ ap from h ∙ back y

  pub renamed_laws : FieldLaws (renamed_ring to from ring) (renamed_inverse to from inverse)
  renamed_laws = record {
    of_ring = renamed_ring_laws;
    one_not_zero = λ h. laws.one_not_zero (sym (forth ring.one) ∙ ap to h ∙ forth ring.zero);
    mul_inverse = λ x nonzero.
        ap (λ w. from (ring.mul (to x) w)) (forth (inverse (to x))) ∙ ap from (laws.mul_inverse (to x) (λ h. nonzero (to_same x (from ring.zero) (h ∙ sym (forth ring.zero)))));
    decides = λ x y.
        elim (laws.decides (to x) (to y)) [
          | inl same ↦ inl (to_same x y same)
          | inr other ↦ inr (λ h. other (ap to h))
        ];
  }

pub embedded_product : {K : Type 0} {ring : RingOps K} (laws : RingLaws ring) (w x y : K) →
    ◌≡◌ {A = Quartic K} (record { c0 = ring.mul x y; c1 = ring.zero; c2 = ring.zero; c3 = ring.zero }) ((quartic_ring ring w).mul (record { c0 = x; c1 = ring.zero; c2 = ring.zero; c3 = ring.zero }) (record { c0 = y; c1 = ring.zero; c2 = ring.zero; c3 = ring.zero }))
embedded_product laws w x y =
    same laws w (w ∷ x ∷ y ∷ [])
    (record { c0 = product_of (variable 1) (variable 2); c1 = nothing; c2 = nothing; c3 = nothing })
    (quote.mul (record { c0 = variable 1; c1 = nothing; c2 = nothing; c3 = nothing }) (record { c0 = variable 2; c1 = nothing; c2 = nothing; c3 = nothing }))
    refl refl refl refl
