use Rattle.std.proofs.Common.{◌≡◌, ◌∙◌, ◌++◌, ap, replicate}
use Rattle.stark_lookup_extension.proofs.groups.key.Goals as goal

pub returns : goal.returns
returns c =
    let parts = c.args.parts.now in
    let tuple = c.args.tuple.now in
    let first = c.in_ok-extend_from_slice.ensures.items ∙ ap (λ xs. xs ++ c.deref.result.now) c.new-key.ensures.items ∙ c.deref.ensures.value in
    let second = c.in_ok-extend_from_slice-2.ensures.items ∙ ap (λ xs. xs ++ tuple) first in
    let filling = c.deref-2.ensures.value ∙ c.in_ok-filling.ensures ∙ ap (λ n. replicate n parts.zero) c.saturating_sub.ensures in
    c.in_ok-extend_from_slice-3.ensures.items ∙ ap (λ xs. xs ++ c.deref-2.result.now) second ∙ ap (λ xs. (parts.tag.items ++ tuple) ++ xs) filling
