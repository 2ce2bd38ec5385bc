-- Sums of products.
use Rattle.std.specs.Prelude.{⊤, List, [], ◌∷◌}
use Rattle.stark_support.specs.Operations.{Operations}

-- The sum over i of value i times coefficient i, in an algebra over the coefficients.
abbrev pub linear_combination : {F : Type 0} {E : Type 0} → Operations F E → F → List E → List F → E
linear_combination operations zero [] cs = operations.embed zero
linear_combination operations zero (v ∷ vs) [] = operations.embed zero
linear_combination operations zero (v ∷ vs) (c ∷ cs) = operations.plus (operations.times v (operations.embed c)) (linear_combination operations zero vs cs)

-- Each of the second list stands for the value at its place in the first.
abbrev pub EachStands : {E : Type 0} → (E → E → Type 0) → List E → List E → Type 0
EachStands stands [] [] = ⊤
EachStands stands [] (x ∷ xs) = ⊥
EachStands stands (v ∷ vs) [] = ⊥
EachStands stands (v ∷ vs) (x ∷ xs) = stands v x × EachStands stands vs xs
