-- Equations that hold in every commutative ring, shown by computing the normal forms of both sides.
use Rattle.std.specs.Prelude.{◌≡◌, ℕ, Bool, true, false, cond, ◌&&◌, ltb, eqb, leb, List, [], ◌∷◌, refl}
use Rattle.std.proofs.Common.{sym, ap, ◌∙◌, suc, zero}
use Rattle.std.proofs.lemmas.Bool.{eqb-true}
use Rattle.stark_support.specs.Ring.{RingOps, RingLaws}
use Rattle.stark_support.specs.RingFacts.{zero_add, neg_add, one_mul, add_mul, add_left_comm, mul_left_comm, neg_neg, neg_zero, neg_sum, mul_zero, zero_mul, mul_neg, neg_mul, neg_mul_neg}

-- An expression over numbered variables.
pub data Expression : Type 0 where
  variable : ℕ → Expression
  nothing : Expression
  unit : Expression
  sum_of : Expression → Expression → Expression
  product_of : Expression → Expression → Expression
  opposite_of : Expression → Expression

infixl 6 ◌⊕◌
infixl 6 ◌⊖◌
infixl 7 ◌⊗◌
abbrev pub ◌⊕◌ : Expression → Expression → Expression
e ⊕ f = sum_of e f

abbrev pub ◌⊖◌ : Expression → Expression → Expression
e ⊖ f = sum_of e (opposite_of f)

abbrev pub ◌⊗◌ : Expression → Expression → Expression
e ⊗ f = product_of e f

abbrev pub v0 : Expression
v0 = variable 0

abbrev pub v1 : Expression
v1 = variable 1

abbrev pub v2 : Expression
v2 = variable 2

abbrev pub v3 : Expression
v3 = variable 3

abbrev pub v4 : Expression
v4 = variable 4

abbrev pub v5 : Expression
v5 = variable 5

-- The operations that build expressions: what a definition over any ring gives here is its own quotation.
abbrev pub expressions : RingOps Expression
expressions = record { zero = nothing; one = unit; add = sum_of; mul = product_of; neg = opposite_of }

-- A product of variables in rising order, or its opposite.
pub data Term : Type 0 where
  plus : List ℕ → Term
  minus : List ℕ → Term

abbrev pub variables : Term → List ℕ
variables (plus m) = m
variables (minus m) = m

abbrev pub flip : Term → Term
flip (plus m) = minus m
flip (minus m) = plus m

abbrev pub alike : List ℕ → List ℕ → Bool
alike [] [] = true
alike (i ∷ m) (j ∷ n) = eqb i j && alike m n
alike [] (j ∷ n) = false
alike (i ∷ m) [] = false

abbrev pub earlier : List ℕ → List ℕ → Bool
earlier [] n = true
earlier (i ∷ m) [] = false
earlier (i ∷ m) (j ∷ n) = cond (eqb i j) (earlier m n) (ltb i j)

abbrev pub cancels : Term → Term → Bool
cancels (plus m) (minus n) = alike m n
cancels (minus m) (plus n) = alike m n
cancels (plus m) (plus n) = false
cancels (minus m) (minus n) = false

abbrev pub insert_variable : ℕ → List ℕ → List ℕ
insert_variable i [] = i ∷ []
insert_variable i (j ∷ m) = cond (leb i j) (i ∷ (j ∷ m)) (j ∷ insert_variable i m)

abbrev pub insert_variables : List ℕ → List ℕ → List ℕ
insert_variables [] n = n
insert_variables (i ∷ m) n = insert_variable i (insert_variables m n)

abbrev pub times : Term → Term → Term
times (plus m) (plus n) = plus (insert_variables m n)
times (plus m) (minus n) = minus (insert_variables m n)
times (minus m) (plus n) = minus (insert_variables m n)
times (minus m) (minus n) = plus (insert_variables m n)

abbrev pub insert_term : Term → List Term → List Term
insert_term t [] = t ∷ []
insert_term t (u ∷ p) = cond (cancels t u) p (cond (earlier (variables t) (variables u)) (t ∷ (u ∷ p)) (u ∷ insert_term t p))

abbrev pub insert_terms : List Term → List Term → List Term
insert_terms [] q = q
insert_terms (t ∷ p) q = insert_term t (insert_terms p q)

abbrev pub scale : Term → List Term → List Term
scale t [] = []
scale t (u ∷ p) = insert_term (times t u) (scale t p)

abbrev pub product : List Term → List Term → List Term
product [] q = []
product (t ∷ p) q = insert_terms (scale t q) (product p q)

abbrev pub flip_all : List Term → List Term
flip_all [] = []
flip_all (t ∷ p) = flip t ∷ flip_all p

-- The sorted sum of terms that an expression is equal to in every commutative ring.
abbrev pub normal : Expression → List Term
normal (variable i) = plus (i ∷ []) ∷ []
normal nothing = []
normal unit = plus [] ∷ []
normal (sum_of e f) = insert_terms (normal e) (normal f)
normal (product_of e f) = product (normal e) (normal f)
normal (opposite_of e) = flip_all (normal e)

-- The value at a place, and zero past the end.
abbrev pub value_at : {K : Type 0} → RingOps K → List K → ℕ → K
value_at ring [] i = ring.zero
value_at ring (x ∷ xs) zero = x
value_at ring (x ∷ xs) (suc i) = value_at ring xs i

-- The value of an expression where its variables are `xs`.
abbrev pub evaluate : {K : Type 0} → RingOps K → List K → Expression → K
evaluate ring xs (variable i) = value_at ring xs i
evaluate ring xs nothing = ring.zero
evaluate ring xs unit = ring.one
evaluate ring xs (sum_of e f) = ring.add (evaluate ring xs e) (evaluate ring xs f)
evaluate ring xs (product_of e f) = ring.mul (evaluate ring xs e) (evaluate ring xs f)
evaluate ring xs (opposite_of e) = ring.neg (evaluate ring xs e)

abbrev monomial_value : {K : Type 0} → RingOps K → List K → List ℕ → K
monomial_value ring xs [] = ring.one
monomial_value ring xs (i ∷ m) = ring.mul (value_at ring xs i) (monomial_value ring xs m)

abbrev term_value : {K : Type 0} → RingOps K → List K → Term → K
term_value ring xs (plus m) = monomial_value ring xs m
term_value ring xs (minus m) = ring.neg (monomial_value ring xs m)

abbrev terms_value : {K : Type 0} → RingOps K → List K → List Term → K
terms_value ring xs [] = ring.zero
terms_value ring xs (t ∷ p) = ring.add (term_value ring xs t) (terms_value ring xs p)

pub both_parts : (a b : Bool) → (a && b) ≡ true → (a ≡ true) × (b ≡ true)
both_parts true b h = (refl, h)
both_parts false b h = cc

same_if_alike : (m n : List ℕ) → alike m n ≡ true → m ≡ n
same_if_alike [] [] h = refl
same_if_alike [] (j ∷ n) h = cc
same_if_alike (i ∷ m) [] h = cc
same_if_alike (i ∷ m) (j ∷ n) h =
    let parts = both_parts (eqb i j) (alike m n) h in
    let first : i ≡ j = eqb-true i j parts.0 in
    let rest : m ≡ n = same_if_alike m n parts.1 in
    cc

module _ {K : Type 0} {ring : RingOps K} (laws : RingLaws ring) (xs : List K) where
  insert_variable_value : (i : ℕ) (m : List ℕ) → monomial_value ring xs (insert_variable i m) ≡ ring.mul (value_at ring xs i) (monomial_value ring xs m)
  insert_variable_value i [] = refl
  insert_variable_value i (j ∷ m) =
      elim (leb i j) as (λ b. monomial_value ring xs (cond b (i ∷ (j ∷ m)) (j ∷ insert_variable i m)) ≡ ring.mul (value_at ring xs i) (ring.mul (value_at ring xs j) (monomial_value ring xs m))) [
        | true ↦ refl
        | false ↦ ap (ring.mul (value_at ring xs j)) (insert_variable_value i m) ∙ mul_left_comm laws _ _ _
      ]

  insert_variables_value : (m n : List ℕ) → monomial_value ring xs (insert_variables m n) ≡ ring.mul (monomial_value ring xs m) (monomial_value ring xs n)
  insert_variables_value [] n = sym (one_mul laws _)
  insert_variables_value (i ∷ m) n =
      insert_variable_value i (insert_variables m n) ∙ ap (ring.mul (value_at ring xs i)) (insert_variables_value m n) ∙ sym (laws.mul_assoc _ _ _)

  times_value : (t u : Term) → term_value ring xs (times t u) ≡ ring.mul (term_value ring xs t) (term_value ring xs u)
  times_value (plus m) (plus n) = insert_variables_value m n
  times_value (plus m) (minus n) = ap ring.neg (insert_variables_value m n) ∙ sym (mul_neg laws _ _)
  times_value (minus m) (plus n) = ap ring.neg (insert_variables_value m n) ∙ sym (neg_mul laws _ _)
  times_value (minus m) (minus n) = insert_variables_value m n ∙ sym (neg_mul_neg laws _ _)

  cancels_value : (t u : Term) → cancels t u ≡ true → ring.add (term_value ring xs t) (term_value ring xs u) ≡ ring.zero
  cancels_value (plus m) (plus n) h = cc
  cancels_value (minus m) (minus n) h = cc
  cancels_value (plus m) (minus n) h = rw (same_if_alike m n h) (laws.add_neg _)
  cancels_value (minus m) (plus n) h = rw (same_if_alike m n h) (neg_add laws _)

  insert_term_value : (t : Term) (p : List Term) → terms_value ring xs (insert_term t p) ≡ ring.add (term_value ring xs t) (terms_value ring xs p)
  insert_term_value t [] = refl
  insert_term_value t (u ∷ p) =
      let later : (b : Bool) → terms_value ring xs (cond b (t ∷ (u ∷ p)) (u ∷ insert_term t p)) ≡ ring.add (term_value ring xs t) (ring.add (term_value ring xs u) (terms_value ring xs p)) =
      elim [ true ↦ refl | false ↦ ap (ring.add (term_value ring xs u)) (insert_term_value t p) ∙ add_left_comm laws _ _ _ ] in
      let cases : (b : Bool) → (b ≡ true → ring.add (term_value ring xs t) (term_value ring xs u) ≡ ring.zero) →
      terms_value ring xs (cond b p (cond (earlier (variables t) (variables u)) (t ∷ (u ∷ p)) (u ∷ insert_term t p))) ≡ ring.add (term_value ring xs t) (ring.add (term_value ring xs u) (terms_value ring xs p)) =
      elim [
        | true ↦ λ gone. sym (zero_add laws _) ∙ ap (λ w. ring.add w (terms_value ring xs p)) (sym (gone refl)) ∙ laws.add_assoc _ _ _
        | false ↦ λ _. later (earlier (variables t) (variables u))
      ] in
      cases (cancels t u) (cancels_value t u)

  insert_terms_value : (p q : List Term) → terms_value ring xs (insert_terms p q) ≡ ring.add (terms_value ring xs p) (terms_value ring xs q)
  insert_terms_value [] q = sym (zero_add laws _)
  insert_terms_value (t ∷ p) q =
      insert_term_value t (insert_terms p q) ∙ ap (ring.add (term_value ring xs t)) (insert_terms_value p q) ∙ sym (laws.add_assoc _ _ _)

  scale_value : (t : Term) (p : List Term) → terms_value ring xs (scale t p) ≡ ring.mul (term_value ring xs t) (terms_value ring xs p)
  scale_value t [] = sym (mul_zero laws _)
  scale_value t (u ∷ p) =
      insert_term_value (times t u) (scale t p) ∙ simp (times_value, scale_value t p) (sym (laws.mul_add _ _ _))

  product_value : (p q : List Term) → terms_value ring xs (product p q) ≡ ring.mul (terms_value ring xs p) (terms_value ring xs q)
  product_value [] q = sym (zero_mul laws _)
  product_value (t ∷ p) q =
      insert_terms_value (scale t q) (product p q) ∙ simp (scale_value, product_value p q) (sym (add_mul laws _ _ _))

  flip_value : (t : Term) → term_value ring xs (flip t) ≡ ring.neg (term_value ring xs t)
  flip_value (plus m) = refl
  flip_value (minus m) = sym (neg_neg laws _)

  flip_all_value : (p : List Term) → terms_value ring xs (flip_all p) ≡ ring.neg (terms_value ring xs p)
  flip_all_value [] = sym (neg_zero laws)
  flip_all_value (t ∷ p) = simp (flip_value t, flip_all_value p) (sym (neg_sum laws _ _))

  -- an expression is equal to its normal form
  normal_value : (e : Expression) → terms_value ring xs (normal e) ≡ evaluate ring xs e
  normal_value (variable i) = laws.add_zero _ ∙ laws.mul_one _
  normal_value nothing = refl
  normal_value unit = laws.add_zero _
  normal_value (sum_of e f) = insert_terms_value (normal e) (normal f) ∙ simp (normal_value e, normal_value f)
  normal_value (product_of e f) = product_value (normal e) (normal f) ∙ simp (normal_value e, normal_value f)
  normal_value (opposite_of e) = flip_all_value (normal e) ∙ ap ring.neg (normal_value e)

  -- Two expressions of one normal form are equal. Give `refl` for the last argument.
  pub solve : (e f : Expression) → normal e ≡ normal f → evaluate ring xs e ≡ evaluate ring xs f
  solve e f h = sym (normal_value e) ∙ ap (terms_value ring xs) h ∙ normal_value f
