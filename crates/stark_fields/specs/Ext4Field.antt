-- The extension of degree four, on the struct of its coordinates.
use Rattle.std.specs.Prelude.{◌≡◌, ◌≢◌, Bool, true, ◌&&◌, List, [], ◌∷◌, length, map, refl}
use Rattle.std.proofs.Common.{ap, sym, arith}
use Rattle.stark_support.specs.Ring.{RingOps, RingLaws, FieldLaws, IsQuarticConstant}
use Rattle.stark_support.specs.RingFacts.{neg_zero}
use Rattle.stark_support.specs.RingSolver.{Expression, both_parts, expressions, solve, v0, v1, v2, v3, v4}
use Rattle.stark_support.specs.Embedding.{IsEmbedding}
use Rattle.stark_support.specs.Extension.{IsBasis, basis_sum}
use Rattle.stark_fields.specs.Quartic.{Quartic, quartic_ring, quartic_inverse, quartic_laws, quartic_norm, quartic_norm_nonzero, embedded_product, renamed_ring, renamed_inverse, renamed_laws}
use Rattle.stark_fields.specs.declared.ext4.Ext4.{Ext4}

abbrev pub coordinates_of : {K : Type 0} → Ext4 K → Quartic K
coordinates_of x = record { c0 = x.c0; c1 = x.c1; c2 = x.c2; c3 = x.c3 }

abbrev pub of_coordinates : {K : Type 0} → Quartic K → Ext4 K
of_coordinates x = record { c0 = x.c0; c1 = x.c1; c2 = x.c2; c3 = x.c3 }

abbrev pub ext4 : {K : Type 0} → K → K → K → K → Ext4 K
ext4 a b c d = record { c0 = a; c1 = b; c2 = c; c3 = d }

pub same_ext4 : {K : Type 0} (a b c d a' b' c' d' : K) → a ≡ a' → b ≡ b' → c ≡ c' → d ≡ d' → ext4 a b c d ≡ ext4 a' b' c' d'
same_ext4 a b c d a' b' c' d' p q r s = λ i. ext4 (p i) (q i) (r i) (s i)

-- X^4 is w
abbrev pub ext4_ring : {K : Type 0} → RingOps K → K → RingOps (Ext4 K)
ext4_ring ring w = renamed_ring coordinates_of of_coordinates (quartic_ring ring w)

abbrev pub ext4_inverse : {K : Type 0} → RingOps K → (K → K) → K → Ext4 K → Ext4 K
ext4_inverse ring inverse w = renamed_inverse coordinates_of of_coordinates (quartic_inverse ring inverse w)

-- an element of the base field, as a constant
abbrev pub embedded : {K : Type 0} → RingOps K → K → Ext4 K
embedded ring x = ext4 x ring.zero ring.zero ring.zero

-- X
abbrev pub generator_x : {K : Type 0} → RingOps K → Ext4 K
generator_x ring = ext4 ring.zero ring.one ring.zero ring.zero

-- 1, X, X^2 and X^3
abbrev pub basis_of : {K : Type 0} → RingOps K → List (Ext4 K)
basis_of ring =
    ext4 ring.one ring.zero ring.zero ring.zero ∷ ext4 ring.zero ring.one ring.zero ring.zero ∷
    ext4 ring.zero ring.zero ring.one ring.zero ∷ ext4 ring.zero ring.zero ring.zero ring.one ∷ []

abbrev pub coordinate_list : {K : Type 0} → Ext4 K → List K
coordinate_list x = x.c0 ∷ x.c1 ∷ x.c2 ∷ x.c3 ∷ []

pub ext4_laws : {K : Type 0} {ring : RingOps K} {inverse : K → K} (laws : FieldLaws ring inverse) (w : K) → IsQuarticConstant ring w → FieldLaws (ext4_ring ring w) (ext4_inverse ring inverse w)
ext4_laws laws w constant =
    renamed_laws (quartic_laws laws w constant.no_root constant.no_negative_root) coordinates_of of_coordinates (λ x. refl) (λ y. refl)

pub norm_not_zero : {K : Type 0} {ring : RingOps K} {inverse : K → K} (laws : FieldLaws ring inverse) (w : K) → IsQuarticConstant ring w → (x : Ext4 K) → x ≢ (ext4_ring ring w).zero → quartic_norm ring w (coordinates_of x) ≢ ring.zero
norm_not_zero laws w constant x nonzero =
    quartic_norm_nonzero laws w constant.no_root constant.no_negative_root (coordinates_of x) (λ h. nonzero (ap of_coordinates h))

pub eq_gives_same : {K : Type 0} (eq : K → K → Bool) → ((x y : K) → eq x y ≡ true → x ≡ y)
    → (x y : Ext4 K) → (eq x.c0 y.c0 && (eq x.c1 y.c1 && (eq x.c2 y.c2 && eq x.c3 y.c3))) ≡ true → x ≡ y
eq_gives_same eq same x y h =
    let first = both_parts _ _ h in
    let second = both_parts _ _ first.1 in
    let third = both_parts _ _ second.1 in
    same_ext4 _ _ _ _ _ _ _ _ (same x.c0 y.c0 first.0) (same x.c1 y.c1 second.0) (same x.c2 y.c2 third.0) (same x.c3 y.c3 third.1)

module _ {K : Type 0} {ring : RingOps K} (laws : RingLaws ring) (w : K) where
  pub embedded_is_embedding : IsEmbedding ring (ext4_ring ring w) (embedded ring)
  embedded_is_embedding = record {
    keeps = record {
      zero = refl;
      one = refl;
      add = λ x y. same_ext4 _ _ _ _ _ _ _ _ refl (sym (laws.add_zero _)) (sym (laws.add_zero _)) (sym (laws.add_zero _));
      mul = λ x y. ap of_coordinates (embedded_product laws w x y);
      neg = λ x. same_ext4 _ _ _ _ _ _ _ _ refl (sym (neg_zero laws)) (sym (neg_zero laws)) (sym (neg_zero laws));
    };
    injective = λ x y e. ap (λ (a : Ext4 K). a.c0) e;
  }

  abbrev quoted : Ext4 Expression
  quoted = basis_sum (ext4_ring expressions v0) (λ c. c) (basis_of expressions) (map (embedded expressions) (v1 ∷ v2 ∷ v3 ∷ v4 ∷ []))

  pub combined : (a b c d : K) → basis_sum (ext4_ring ring w) (λ c. c) (basis_of ring) (map (embedded ring) (a ∷ b ∷ c ∷ d ∷ [])) ≡ ext4 a b c d
  combined a b c d =
      same_ext4 _ _ _ _ _ _ _ _
      (solve laws (w ∷ a ∷ b ∷ c ∷ d ∷ []) quoted.c0 v1 refl)
      (solve laws (w ∷ a ∷ b ∷ c ∷ d ∷ []) quoted.c1 v2 refl)
      (solve laws (w ∷ a ∷ b ∷ c ∷ d ∷ []) quoted.c2 v3 refl)
      (solve laws (w ∷ a ∷ b ∷ c ∷ d ∷ []) quoted.c3 v4 refl)

  unique_coordinates : (cs : List K) → length cs ≡ 4 → coordinate_list (basis_sum (ext4_ring ring w) (λ c. c) (basis_of ring) (map (embedded ring) cs)) ≡ cs
  unique_coordinates [] h = absurd (omega arith)
  unique_coordinates (a ∷ []) h = absurd (omega arith)
  unique_coordinates (a ∷ (b ∷ [])) h = absurd (omega arith)
  unique_coordinates (a ∷ (b ∷ (c ∷ []))) h = absurd (omega arith)
  unique_coordinates (a ∷ (b ∷ (c ∷ (d ∷ [])))) h = ap coordinate_list (combined a b c d)
  unique_coordinates (a ∷ (b ∷ (c ∷ (d ∷ (e ∷ r))))) h = absurd (omega arith)

  pub ext4_basis : IsBasis (ext4_ring ring w) (embedded ring) 4 (basis_of ring) coordinate_list
  ext4_basis = record {
    size = refl;
    count = λ x. refl;
    sum = λ x. sym (combined x.c0 x.c1 x.c2 x.c3);
    unique = unique_coordinates;
  }
