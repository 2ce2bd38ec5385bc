-- What follows of a test that finds no fault, of challenges that are drawn, and of a declared next row.
use Rattle.std.specs.Prelude.{◌≡◌, ◌≤◌, ℕ, Bool, true, false, List, [], ◌∷◌, None, Result, Ok, Err, refl}
use Rattle.std.proofs.Common.{ap, sym, ◌∙◌, arith}
use Rattle.stark_air.specs.Declaration.{next_width}
use Rattle.stark_protocol.specs.ShapeFaults.{fault_if}

pub not_found : {X : Type 0} (b : Bool) (error : X) → fault_if b error ≡ None → b ≡ false
not_found true error e = absurd (cc)
not_found false error e = refl

abbrev drawn_or : {D X : Type 0} → D → Result D X → D
drawn_or d (Ok drawn) = drawn
drawn_or d (Err error) = d

-- One answer has one pair of challenges.
pub same_drawn : {E X : Type 0} (answer : Result (E × E) X) (a z alpha zeta : E) → answer ≡ Ok (a, z) → answer ≡ Ok (alpha, zeta) → (a ≡ alpha) × (z ≡ zeta)
same_drawn {E} {X} answer a z alpha zeta h k =
    (ap (λ (r : Result (E × E) X). (drawn_or (a, z) r).0) (sym h ∙ k), ap (λ (r : Result (E × E) X). (drawn_or (a, z) r).1) (sym h ∙ k))

pub next_at_most : (columns : List ℕ) (width : ℕ) → next_width columns width ≤ width
next_at_most [] width = omega arith
next_at_most (column ∷ columns) width = omega arith
