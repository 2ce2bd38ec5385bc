-- The lines that show an AIR.
use Rattle.std.specs.Prelude.{ℕ, ◌+◌, List, [], ◌∷◌, ◌++◌, codes, Option, Some, None}
use Rattle.std.specs.Fmt.{decimal}
use Rattle.stark_tree_air.specs.Needed.{constraint_place}
use Rattle.stark_tree_air.specs.declared.node.TreeConstraint.{TreeConstraint}
use Rattle.stark_tree_air.specs.declared.node.TreeConstraint.TheVariants.{Base, Extension}
use Rattle.stark_show.specs.Expressions.{Written}
use Rattle.stark_show.specs.NodeDegrees.{degree_at}
use Rattle.stark_show.specs.ShownNodes.{written_at}

-- How many columns and values of each kind there are.
abbrev pub columns_line : ℕ → ℕ → ℕ → ℕ → List ℕ
columns_line main public_values periodic preprocessed =
    codes "columns: " ++ (decimal main ++ (codes " main, " ++ (decimal public_values ++ (codes " public, " ++ (decimal periodic ++ (codes " periodic, " ++ (decimal preprocessed ++ codes " preprocessed\n")))))))

-- Whether a constraint is one over the base field or over the extension.
abbrev pub kind_name : TreeConstraint → List ℕ
kind_name (Base i) = codes "base"
kind_name (Extension i) = codes "extension"

-- The constraint of this number: its kind, its degree and its equation.
abbrev pub constraint_line : ℕ → TreeConstraint → ℕ → List ℕ → List ℕ
constraint_line k c degree text =
    codes "constraint " ++ (decimal k ++ (codes " (" ++ (kind_name c ++ (codes ", degree " ++ (decimal degree ++ (codes "): " ++ (text ++ codes " = 0\n")))))))

-- A constraint's line, by what is shown of the nodes and their degrees.
abbrev pub numbered_line : List Written → List ℕ → ℕ → TreeConstraint → List ℕ
numbered_line ws ds k c = constraint_line k c (degree_at ds (constraint_place c)) (written_at ws (constraint_place c)).text

-- The lines of constraints, numbered from k on, by what is shown of the nodes and their degrees.
abbrev pub constraint_lines : List Written → List ℕ → ℕ → List TreeConstraint → List ℕ
constraint_lines ws ds k [] = []
constraint_lines ws ds k (c ∷ cs) = numbered_line ws ds k c ++ constraint_lines ws ds (k + 1) cs

-- How many chunks the quotient is cut into.
abbrev pub chunks_line : ℕ → List ℕ
chunks_line chunks = codes "quotient chunks: " ++ (decimal chunks ++ codes "\n")

-- How many draws of each kind can be bad at 2 ^ log_height rows.
abbrev pub bound_line : ℕ → Option (ℕ × ℕ) → List ℕ
bound_line log_height None = codes "error bound at 2^" ++ (decimal log_height ++ codes " rows: none\n")
bound_line log_height (Some bound) =
    codes "error bound at 2^" ++ (decimal log_height ++ (codes " rows: " ++ (decimal bound.0 ++ (codes " alpha, " ++ (decimal bound.1 ++ codes " zeta\n")))))
