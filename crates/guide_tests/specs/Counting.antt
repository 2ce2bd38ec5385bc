-- A column that counts.
use Rattle.std.specs.Prelude.{ℕ, zero, suc, List, [], ◌∷◌}
use Rattle.stark_support.specs.Ring.{RingOps}

-- the k-th number from `start` on
abbrev pub count_at : {K : Type 0} → RingOps K → K → ℕ → K
count_at ring start zero = start
count_at ring start (suc k) = ring.add (count_at ring start k) ring.one

-- `n` numbers from the m-th on
abbrev pub counted_from : {K : Type 0} → RingOps K → K → ℕ → ℕ → List K
counted_from ring start m zero = []
counted_from ring start m (suc n) = count_at ring start m ∷ counted_from ring start (suc m) n
