-- The parts of a text, joined.
use Rattle.std.proofs.Common.{◌≡◌, ◌∙◌, ℕ, ◌+◌, ◌^◌, List, ◌++◌, length, ap, arith}
use Rattle.stark_tree_air.specs.Nodes.{ConstraintsFit}
use Rattle.stark_tree_air.specs.declared.columns.TreeDeclaration.{TreeDeclaration}
use Rattle.stark_tree_air.specs.declared.list.TreeList.{TreeList}
use Rattle.stark_show.specs.Lines.{chunks_line}
use Rattle.stark_show.specs.Shown.{IsWhole, columns_text, constraints_text}
use Rattle.stark_show.specs.ShownNodes.{NodesName}
use Rattle.stark_show.proofs.WholeLaw.{lines_whole}

pub sections_are : (text a b c d e columns constraints long chunks bound : List ℕ) → text ≡ a ++ (b ++ (c ++ (d ++ e))) → a ≡ columns → b ≡ constraints → c ≡ long → d ≡ chunks → e ≡ bound → text ≡ columns ++ (constraints ++ (long ++ (chunks ++ bound)))
sections_are text a b c d e columns constraints long chunks bound is ea eb ec ed ee = cc

pub chunks_are : (line : List ℕ) (count log : ℕ) → line ≡ chunks_line count → count ≡ 2 ^ log → line ≡ chunks_line (2 ^ (log + 0))
chunks_are line count log is number = is ∙ ap chunks_line (number ∙ ap (λ k. 2 ^ k) (let e : log ≡ log + 0 = omega arith in e))

pub whole_are : {F : Type 0} (number : F → ℕ) (declaration : TreeDeclaration F) (list : TreeList F) (text rest : List ℕ) → text ≡ columns_text declaration.columns ++ (constraints_text number list ++ rest) → NodesName (length list.constants.items) 0 list.nodes.items → ConstraintsFit (length list.nodes.items) list.constraints.items → IsWhole number declaration list text
unfolding constraints_text
whole_are number declaration list text rest is names fit = record {
  whole = λ short. (rest, is ∙ ap (λ x. columns_text declaration.columns ++ (x ++ rest)) (lines_whole number list.constants.items list.nodes.items names 0 list.constraints.items fit short));
}
