-- A field over a base field, with a basis.
use Rattle.std.specs.Prelude.{◌≡◌, ℕ, List, [], ◌∷◌, map, length}
use Rattle.stark_support.specs.Ring.{RingOps}

-- The sum over d of e_d times value d.
abbrev pub basis_sum : {K : Type 0} {E : Type 0} → RingOps E → (K → E) → List K → List E → E
basis_sum ring constant [] vs = ring.zero
basis_sum ring constant (e ∷ es) [] = ring.zero
basis_sum ring constant (e ∷ es) (v ∷ vs) = ring.add (ring.mul (constant e) v) (basis_sum ring constant es vs)

-- Each element is the sum of the basis times its coordinates, and any coordinates are those of such a sum.
pub record IsBasis {F E : Type 0} (ring : RingOps E) (embed : F → E) (dimension : ℕ) (basis : List E) (coordinates : E → List F) : Type 0 where
  pub size : length basis ≡ dimension
  pub count : (x : E) → length (coordinates x) ≡ dimension
  pub sum : (x : E) → x ≡ basis_sum ring (λ c. c) basis (map embed (coordinates x))
  pub unique : (cs : List F) → length cs ≡ dimension → coordinates (basis_sum ring (λ c. c) basis (map embed cs)) ≡ cs
