-- A window over two rows shows their values.
use Rattle.std.proofs.Common.{◌≡◌, List, length, get_or, sym, subst}
use Rattle.std.specs.List.{slice_get}
use Rattle.stark_air.specs.Value.{Shows}
use Rattle.stark_air.proofs.Steps.{slice_shows}

module _ {E : Type 0} (from_gives stands : E → E → Type 0) (blank : E) (itself : (x : E) → stands x x) (from_is : (x y : E) → from_gives x y → y ≡ x) where
  -- The elements of a row stand for themselves.
  row_shows : (row shown : List E) → shown ≡ row → Shows from_gives stands (λ c. get_or row c blank) (length row) (slice_get shown)
  row_shows row shown same =
      subst (λ s. Shows from_gives stands (λ c. get_or row c blank) (length row) (slice_get s)) (sym same)
      (slice_shows from_gives stands (λ x. x) row blank (λ x y h. subst (λ z. stands x z) (sym (from_is x y h)) (itself x)))

  pub window_shows : (current next shown_current shown_next : List E) → shown_current ≡ current → shown_next ≡ next
      → Shows from_gives stands (λ c. get_or current c blank) (length current) (slice_get shown_current) × Shows from_gives stands (λ c. get_or next c blank) (length next) (slice_get shown_next)
  window_shows current next shown_current shown_next e f = (row_shows current shown_current e, row_shows next shown_next f)
