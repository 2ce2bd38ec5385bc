-- Entries cut from values.
use Rattle.std.proofs.Common.{◌≡◌, ◌∙◌, ℕ, ◌-◌, List, [], ◌∷◌, ◌++◌, ap, arith, drop, length, length-drop, map, take}
use Rattle.std.specs.declared.vec.Vec.{Vec}
use Rattle.std.proofs.lemmas.List.{map-append, take_all}
use Rattle.stark_support.specs.Ring.{RingOps}
use Rattle.stark_logup.specs.Fractions.{Entry}
use Rattle.stark_lookup_extension.specs.declared.lookup.LookupInteraction.{LookupInteraction}
use Rattle.stark_lookup_rows.specs.Cut.{cut_groups}

-- One more of a list, as it is seen.
pub pushed : {A B : Type 0} (f : A → B) (xs all : List A) (x : A) (y : B) → all ≡ xs ++ x ∷ [] → f x ≡ y → map f all ≡ map f xs ++ y ∷ []
pushed f xs all x y is same = ap (map f) is ∙ map-append f xs (x ∷ []) ∙ ap (λ z. map f xs ++ z ∷ []) same

-- A slice without an end.
pub from_here : {A : Type 0} (xs : List A) (m n : ℕ) → m ≡ n → take (length xs - m) (drop m xs) ≡ drop n xs
from_here xs m n same = take_all (length xs - m) (drop m xs) (let size = length-drop m xs in omega (arith, size)) ∙ ap (λ k. drop k xs) same

-- The groups of a lookup, by equal forms.
pub by_form : {F A : Type 0} (ring : RingOps F) (width w : ℕ) (tag t : List F) (gs hs : List (Vec LookupInteraction A)) (rest : List F) (all more : List (List (Entry (List F) F)))
    → more ≡ all ++ cut_groups ring w t hs rest → w ≡ width → t ≡ tag → hs ≡ gs → more ≡ all ++ cut_groups ring width tag gs rest
by_form ring width w tag t gs hs rest all more made same_width same_tag same =
    made ∙ ap (λ n. all ++ cut_groups ring n t hs rest) same_width ∙ ap (λ u. all ++ cut_groups ring width u hs rest) same_tag ∙ ap (λ ks. all ++ cut_groups ring width tag ks rest) same
