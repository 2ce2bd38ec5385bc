-- The windows of rows that a builder gives, where they were asked for.
use Rattle.std.specs.Prelude.{ℕ, Option, IfSome}
use Rattle.std.specs.Option.{IsSome}
use Rattle.stark_air.specs.Layout.{Layout}
use Rattle.stark_air.specs.Value.{Environment, Shows}
use Rattle.stark_tree_air.specs.declared.node.TreeNode.{TreeNode}
use Rattle.stark_tree_air.specs.declared.node.TreeNode.TheVariants.{MainCurrent, MainNext, PreprocessedCurrent, PreprocessedNext}

-- Each window shows the values of its two rows, if it is there.
abbrev pub WindowsShow : {V E M P : Type 0} → (V → E → Type 0) → (E → E → Type 0) → Environment E → Layout → (M → ℕ → Option V) → (M → ℕ → Option V) → (P → ℕ → Option V) → (P → ℕ → Option V) → Option M → Option P → Type 0
WindowsShow from_gives stands e l current next preprocessed_current preprocessed_next main preprocessed =
    IfSome main (λ w. Shows from_gives stands e.main_current l.main (current w) × Shows from_gives stands e.main_next l.main_next (next w))
    × IfSome preprocessed (λ w. Shows from_gives stands e.preprocessed_current l.preprocessed (preprocessed_current w) × Shows from_gives stands e.preprocessed_next l.preprocessed_next (preprocessed_next w))

-- The windows that a node reads are there.
abbrev pub ReadAreThere : {M P : Type 0} → TreeNode → Option M → Option P → Type 0
ReadAreThere (MainCurrent c) main preprocessed = IsSome main
ReadAreThere (MainNext c) main preprocessed = IsSome main
ReadAreThere (PreprocessedCurrent c) main preprocessed = IsSome preprocessed
ReadAreThere (PreprocessedNext c) main preprocessed = IsSome preprocessed
ReadAreThere _ main preprocessed = Unit {0}
