-- What stands at a place of a list of texts.
use Rattle.std.proofs.Common.{◌≡◌, ◌∙◌, ℕ, ◌<◌, List, codes, length, map, get_or, sym, ap}
use Rattle.std.proofs.lemmas.List.{get_or-map}
use Rattle.stark_show.specs.Expressions.{constant_written, leaf_written, phrase_view}
use Rattle.stark_show.specs.ShownNodes.{written_at}
use Rattle.stark_show.specs.declared.phrase.Phrase.{Phrase}

pub phrase_at : (ps : List Phrase) (i : ℕ) (p : Phrase) → i < length ps → p ≡ get_or ps i p → phrase_view p ≡ written_at (map phrase_view ps) i
phrase_at ps i p within is = ap phrase_view is ∙ sym (get_or-map phrase_view ps i p (leaf_written (codes "first_row")) within)

pub constant_at : {F : Type 0} (number : F → ℕ) (ks : List F) (i : ℕ) (k : F) → i < length ks → k ≡ get_or ks i k → constant_written number k ≡ written_at (map (constant_written number) ks) i
constant_at number ks i k within is = ap (constant_written number) is ∙ sym (get_or-map (constant_written number) ks i k (leaf_written (codes "first_row")) within)
