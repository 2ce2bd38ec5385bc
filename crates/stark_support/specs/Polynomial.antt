-- Polynomials as lists of coefficients, the constant first.
use Rattle.std.specs.Prelude.{◌≡◌, ◌≢◌, ℕ, ◌≤◌, ⊤, List, [], ◌∷◌, map, length, suc}
use Rattle.std.specs.List.{AllByRecursion}
use Rattle.stark_support.specs.Ring.{RingOps}

-- A polynomial with coefficients in K at a point of a ring over K.
abbrev pub value_over : {K : Type 0} {E : Type 0} → RingOps E → (K → E) → List K → E → E
value_over ring constant [] x = ring.zero
value_over ring constant (c ∷ p) x = ring.add (constant c) (ring.mul (value_over ring constant p x) x)

-- The value at a point of its own ring.
abbrev pub value : {K : Type 0} → RingOps K → List K → K → K
value ring p x = value_over ring (λ c. c) p x

abbrev pub polynomial_sum : {K : Type 0} → RingOps K → List K → List K → List K
polynomial_sum ring [] q = q
polynomial_sum ring (c ∷ p) [] = c ∷ p
polynomial_sum ring (c ∷ p) (d ∷ q) = ring.add c d ∷ polynomial_sum ring p q

abbrev pub scaled : {K : Type 0} → RingOps K → K → List K → List K
scaled ring c p = map (ring.mul c) p

abbrev pub polynomial_product : {K : Type 0} → RingOps K → List K → List K → List K
polynomial_product ring [] q = []
polynomial_product ring (c ∷ p) q = polynomial_sum ring (scaled ring c q) (ring.zero ∷ polynomial_product ring p q)

abbrev pub polynomial_opposite : {K : Type 0} → RingOps K → List K → List K
polynomial_opposite ring p = map ring.neg p

-- The operations of coefficient lists. Zeros at their ends stay, so the lists obey no law of a ring; their values do.
abbrev pub polynomial_ring : {K : Type 0} → RingOps K → RingOps (List K)
polynomial_ring ring = record { zero = []; one = ring.one ∷ []; add = polynomial_sum ring; mul = polynomial_product ring; neg = polynomial_opposite ring }

-- the polynomial X
abbrev pub indeterminate : {K : Type 0} → RingOps K → List K
indeterminate ring = ring.zero ∷ (ring.one ∷ [])

abbrev pub constant_polynomial : {K : Type 0} → K → List K
constant_polynomial c = c ∷ []

-- each coefficient is zero
abbrev pub IsZeroPolynomial : {K : Type 0} → RingOps K → List K → Type 0
IsZeroPolynomial ring p = AllByRecursion (λ c. c ≡ ring.zero) p

-- The degree is below n.
abbrev pub HasDegreeBelow : {K : Type 0} → ℕ → List K → Type 0
HasDegreeBelow n p = length p ≤ n

-- The degree is at most d.
abbrev pub HasDegreeAtMost : {K : Type 0} → ℕ → List K → Type 0
HasDegreeAtMost d p = length p ≤ suc d

abbrev pub IsRoot : {K : Type 0} → RingOps K → List K → K → Type 0
IsRoot ring p x = value ring p x ≡ ring.zero

-- no two places have equal values
abbrev pub IsWithoutRepeats : {K : Type 0} → List K → Type 0
IsWithoutRepeats [] = ⊤
IsWithoutRepeats (x ∷ xs) = AllByRecursion (λ y. x ≢ y) xs × IsWithoutRepeats xs

-- No list without repeats of such values is longer than n.
abbrev pub HoldsOfAtMost : {K : Type 0} → ℕ → (K → Type 0) → Type 0
HoldsOfAtMost {K} n P = (xs : List K) → IsWithoutRepeats xs → AllByRecursion P xs → length xs ≤ n

-- What remains of a polynomial over X - r, with the remainder left out.
abbrev pub quotient_by_root : {K : Type 0} → RingOps K → K → List K → List K
quotient_by_root ring r [] = []
quotient_by_root ring r (c ∷ []) = []
quotient_by_root ring r (c ∷ (d ∷ p)) = value ring (d ∷ p) r ∷ quotient_by_root ring r (d ∷ p)

-- Polynomials of degree below `size` that agree at `size` points agree everywhere.
abbrev pub AgreementDecides : {K : Type 0} → RingOps K → ℕ → Type 0
AgreementDecides {K} ring size = (p q points : List K) → HasDegreeBelow size p → HasDegreeBelow size q → size ≤ length points → IsWithoutRepeats points
    → AllByRecursion (λ x. value ring p x ≡ value ring q x) points → (x : K) → value ring p x ≡ value ring q x
