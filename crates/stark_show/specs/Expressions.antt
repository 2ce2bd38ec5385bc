-- Expressions as text: signs between operands, and brackets where an operand binds less tightly than its place asks.
use Rattle.std.specs.Prelude.{ℕ, nat_lt, List, ◌++◌, codes, if◌then◌else◌}
use Rattle.std.specs.Fmt.{decimal}
use Rattle.std.specs.String.{string_bytes}
use Rattle.stark_air.specs.Tree.{Tree, constant, main_current, main_next, preprocessed_current, preprocessed_next, public_value, periodic_value, first_row, last_row, transition, sum, difference, product, negation}
use Rattle.stark_show.specs.declared.binding.Binding.{Binding}
use Rattle.stark_show.specs.declared.binding.Binding.TheVariants.{Additive, Multiplicative, Prefix, Leaf}
use Rattle.stark_show.specs.declared.phrase.Phrase.{Phrase}

-- How tightly an operation binds: a sum and a difference less than a product, a product less than a negation.
abbrev pub strength : Binding → ℕ
strength Additive = 0
strength Multiplicative = 1
strength Prefix = 2
strength Leaf = 3

-- An expression's text, and how tightly its outermost operation binds.
pub record Written : Type 0 where
  pub binding : Binding
  pub text : List ℕ

abbrev pub phrase_view : Phrase → Written
phrase_view phrase = record { binding = phrase.binding; text = string_bytes phrase.text }

-- The text of an operand: in brackets where it binds less tightly than `least`.
unfoldable pub operand_text : Binding → Written → List ℕ
operand_text least w = if nat_lt (strength w.binding) (strength least) then codes "(" ++ (w.text ++ codes ")") else w.text

abbrev pub leaf_written : List ℕ → Written
leaf_written text = record { binding = Leaf; text = text }

-- A name with a number, as in main[0].
abbrev pub entry_written : List ℕ → ℕ → Written
entry_written name i = leaf_written (name ++ (codes "[" ++ (decimal i ++ codes "]")))

-- A constant is written by its number.
abbrev pub constant_written : {F : Type 0} → (F → ℕ) → F → Written
constant_written number k = leaf_written (decimal (number k))

-- Two operands with a sign between them. The left one may bind as tightly as the whole.
abbrev pub pair_written : Binding → List ℕ → Binding → Written → Written → Written
pair_written binding sign least a b = record { binding = binding; text = operand_text binding a ++ (sign ++ operand_text least b) }

abbrev pub sum_written : Written → Written → Written
sum_written a b = pair_written Additive (codes " + ") Multiplicative a b

abbrev pub difference_written : Written → Written → Written
difference_written a b = pair_written Additive (codes " - ") Multiplicative a b

abbrev pub product_written : Written → Written → Written
product_written a b = pair_written Multiplicative (codes " * ") Prefix a b

abbrev pub negation_written : Written → Written
negation_written a = record { binding = Prefix; text = codes "-" ++ operand_text Leaf a }

-- The whole of a tree.
abbrev pub tree_written : {F : Type 0} → (F → ℕ) → Tree F → Written
tree_written number (constant k) = constant_written number k
tree_written number (main_current c) = entry_written (codes "main") c
tree_written number (main_next c) = entry_written (codes "next") c
tree_written number (preprocessed_current c) = entry_written (codes "preprocessed") c
tree_written number (preprocessed_next c) = entry_written (codes "preprocessed_next") c
tree_written number (public_value i) = entry_written (codes "public") i
tree_written number (periodic_value c) = entry_written (codes "periodic") c
tree_written number first_row = leaf_written (codes "first_row")
tree_written number last_row = leaf_written (codes "last_row")
tree_written number transition = leaf_written (codes "transition")
tree_written number (sum t u) = sum_written (tree_written number t) (tree_written number u)
tree_written number (difference t u) = difference_written (tree_written number t) (tree_written number u)
tree_written number (product t u) = product_written (tree_written number t) (tree_written number u)
tree_written number (negation t) = negation_written (tree_written number t)

-- The text of a tree's expression.
abbrev pub equation_text : {F : Type 0} → (F → ℕ) → Tree F → List ℕ
equation_text number t = (tree_written number t).text
