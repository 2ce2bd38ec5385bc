-- One more product in a sum of products.
use Rattle.std.proofs.Common.{◌≡◌, List, [], ◌∷◌, sym, subst}
use Rattle.stark_support.specs.Operations.{Operations}
use Rattle.stark_support.specs.Combination.{EachStands, linear_combination}

module _ {F : Type 0} {E : Type 0} (operations : Operations F E) (stands : E → E → Type 0) (zero : F) where
  pub no_term : (xs : List E) (cs : List F) (sum : E) → xs ≡ [] → stands (operations.embed zero) sum → (vs : List E) → EachStands stands vs xs → stands (linear_combination operations zero vs cs) sum
  no_term xs cs sum e h [] each = h
  no_term xs cs sum e h (v ∷ vs) each = absurd (subst (EachStands stands (v ∷ vs)) e each)

  with_term : (rest : List E) (later : List F) (x : E) (k : F) (sum next : E) → ((vs : List E) → EachStands stands vs rest → stands (linear_combination operations zero vs later) sum)
      → ((v w : E) → stands v x → stands w sum → stands (operations.plus (operations.times v (operations.embed k)) w) next)
      → (vs : List E) → EachStands stands vs (x ∷ rest) → stands (linear_combination operations zero vs (k ∷ later)) next
  with_term rest later x k sum next so_far step [] each = absurd each
  with_term rest later x k sum next so_far step (v ∷ vs) each = step v (linear_combination operations zero vs later) each.0 (so_far vs each.1)

  pub one_more_term : (xs rest : List E) (cs later : List F) (x : E) (k : F) (sum next : E) → xs ≡ x ∷ rest → cs ≡ k ∷ later
      → ((vs : List E) → EachStands stands vs rest → stands (linear_combination operations zero vs later) sum)
      → ((v w : E) → stands v x → stands w sum → stands (operations.plus (operations.times v (operations.embed k)) w) next)
      → (vs : List E) → EachStands stands vs xs → stands (linear_combination operations zero vs cs) next
  one_more_term xs rest cs later x k sum next is_xs is_cs so_far step vs each =
      subst (λ t. stands (linear_combination operations zero vs t) next) (sym is_cs)
      (with_term rest later x k sum next so_far step vs (subst (EachStands stands vs) is_xs each))

pub each_itself : {E : Type 0} (stands : E → E → Type 0) → ((x : E) → stands x x) → (xs : List E) → EachStands stands xs xs
each_itself stands itself [] = tt
each_itself stands itself (x ∷ xs) = (itself x, each_itself stands itself xs)
