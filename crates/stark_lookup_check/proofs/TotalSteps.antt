-- What adding to a total changes.
use Rattle.std.proofs.Common.{◌≡◌, ◌∙◌, ap, refl, sym, ℕ, Bool, true, false, List, Some, unwrap_or, Decides}
use Rattle.std.specs.BTreeMap.{BTreeMap, Updates, is_at}
use Rattle.std.proofs.Common.{Ordering}
use Rattle.std.specs.Ordering.{nat_cmp}
use Rattle.std.specs.Cmp.Lexicographic.{bytes_decides, slice_cmp, texts_ties}
use Rattle.std.specs.Str.{bytes_eq}
use Rattle.std.specs.declared.vec.Vec.{Vec}
use Rattle.stark_support.specs.Ring.{RingOps}
use Rattle.stark_lookup_check.specs.Totals.{AddsAt, total_at}

not_same : (b : Bool) (P : Type 0) → Decides b P → (P → ⊥) → b ≡ false
not_same true P decides other = absurd (other (decides.0 refl))
not_same false P decides other = refl

-- Keys with other numbers compare as different.
apart : (xs ys : List ℕ) → (xs ≡ ys → ⊥) → is_at (slice_cmp nat_cmp xs) ys ≡ false
apart xs ys other = sym (texts_ties xs ys) ∙ not_same (bytes_eq xs ys) (xs ≡ ys) (bytes_decides xs ys) other

module _ {A F : Type 0} (ring : RingOps F) where
  abbrev compare : Vec ℕ A → Vec ℕ A → Ordering
  compare a b = slice_cmp nat_cmp a.items b.items

  pub adds_at : (old new : BTreeMap (Vec ℕ A) F) (key : Vec ℕ A) (x next : F) → next ≡ ring.add (total_at ring old key.items) x → Updates compare old new key (Some next) → AddsAt ring old new key.items x
  adds_at old new key x next is updates = record {
    here = ap (λ o. unwrap_or o ring.zero) updates.1 ∙ is;
    others = λ other differs. ap (λ o. unwrap_or o ring.zero) (updates.2 other (apart key.items other.items (λ same. differs (sym same))));
  }
