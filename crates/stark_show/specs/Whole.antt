-- Constraints whose equations are short enough to stand as a whole.
use Rattle.std.specs.Prelude.{ℕ, ◌+◌, ◌≤◌, List, [], ◌∷◌, ◌++◌, codes, length}
use Rattle.std.specs.Fmt.{decimal}
use Rattle.stark_symbolic.specs.Degree.{degree}
use Rattle.stark_air.specs.Tree.{Tree, Constraint, base, extension}
use Rattle.stark_show.specs.Expressions.{equation_text}

-- No equation of the constraints is longer than 4096 bytes.
abbrev pub AreShort : {F : Type 0} → (F → ℕ) → List (Constraint F) → Type 0
AreShort number [] = Unit {0}
AreShort number (base t ∷ cs) = (length (equation_text number t) ≤ 4096) × AreShort number cs
AreShort number (extension t ∷ cs) = (length (equation_text number t) ≤ 4096) × AreShort number cs

-- A constraint of a kind, by its tree alone.
abbrev pub tree_line : {F : Type 0} → (F → ℕ) → ℕ → List ℕ → Tree F → List ℕ
tree_line number k kind t =
    codes "constraint " ++ (decimal k ++ (codes " (" ++ (kind ++ (codes ", degree " ++ (decimal (degree 0 t) ++ (codes "): " ++ (equation_text number t ++ codes " = 0\n")))))))

-- The lines of constraints, numbered from k on.
abbrev pub tree_lines : {F : Type 0} → (F → ℕ) → ℕ → List (Constraint F) → List ℕ
tree_lines number k [] = []
tree_lines number k (base t ∷ cs) = tree_line number k (codes "base") t ++ tree_lines number (k + 1) cs
tree_lines number k (extension t ∷ cs) = tree_line number k (codes "extension") t ++ tree_lines number (k + 1) cs
