-- Rounds that are pushed behind others.
use Rattle.std.proofs.Common.{◌≡◌, ◌∙◌, ap, sym, List, [], ◌∷◌, ◌++◌, map}
use Rattle.std.proofs.lemmas.List.{map-append, append_assoc}

module _ {V R : Type 0} (view : V → R) where
  pub pushed : (front all : List V) (x : V) (rounds : List R) (r : R) → all ≡ front ++ x ∷ [] → map view front ≡ rounds → view x ≡ r → map view all ≡ rounds ++ r ∷ []
  pushed front all x rounds r is seen as_r =
      ap (map view) is ∙ map-append view front (x ∷ []) ∙ ap (λ rs. rs ++ view x ∷ []) seen ∙ ap (λ y. rounds ++ y ∷ []) as_r

  pub two_pushed : (front one two : List V) (x y : V) (rounds : List R) (a b : R) → one ≡ front ++ x ∷ [] → two ≡ one ++ y ∷ [] → map view front ≡ rounds → view x ≡ a → view y ≡ b
      → map view two ≡ rounds ++ a ∷ b ∷ []
  two_pushed front one two x y rounds a b first second seen as_a as_b =
      pushed one two y (rounds ++ a ∷ []) b second (pushed front one x rounds a first seen as_a) as_b ∙ append_assoc rounds (a ∷ []) (b ∷ [])

  -- Two rounds and no more, or one more.
  pub none_behind : (claims : List V) (rounds : List R) (a b : R) (obtained : List R) → map view claims ≡ rounds ++ a ∷ b ∷ [] → obtained ≡ [] → map view claims ≡ rounds ++ a ∷ b ∷ obtained
  none_behind claims rounds a b obtained seen none = seen ∙ ap (λ rest. rounds ++ a ∷ b ∷ rest) (sym none)

  pub one_behind : (claims all : List V) (x : V) (rounds : List R) (a b r : R) (obtained : List R) → all ≡ claims ++ x ∷ [] → map view claims ≡ rounds ++ a ∷ b ∷ [] → view x ≡ r → obtained ≡ r ∷ []
      → map view all ≡ rounds ++ a ∷ b ∷ obtained
  one_behind claims all x rounds a b r obtained is seen as_r one =
      pushed claims all x (rounds ++ a ∷ b ∷ []) r is seen as_r ∙ append_assoc rounds (a ∷ b ∷ []) (r ∷ []) ∙ ap (λ rest. rounds ++ a ∷ b ∷ rest) (sym one)
