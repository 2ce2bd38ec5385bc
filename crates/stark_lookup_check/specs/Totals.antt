-- Totals of keys, in a map.
use Rattle.std.specs.Prelude.{◌≡◌, ◌≢◌, ℕ, List, map, unwrap_or}
use Rattle.std.specs.BTreeMap.{BTreeMap, get_by}
use Rattle.std.specs.Ordering.{nat_cmp}
use Rattle.std.specs.Cmp.Lexicographic.{slice_cmp}
use Rattle.std.specs.declared.vec.Vec.{Vec}
use Rattle.stark_support.specs.Ring.{RingOps}
use Rattle.stark_logup.specs.Fractions.{Decides, Entry, total}

module _ {A F : Type 0} (ring : RingOps F) where
  -- the total of a key, and zero of one that isn't there
  abbrev pub total_at : BTreeMap (Vec ℕ A) F → List ℕ → F
  total_at m key = unwrap_or (get_by (λ k. slice_cmp nat_cmp key k.items) m) ring.zero

  -- The key's total is greater by x, and every other is as it was.
  pub record AddsAt (old new : BTreeMap (Vec ℕ A) F) (key : List ℕ) (x : F) : Type 0 where
    pub here : total_at new key ≡ ring.add (total_at old key) x
    pub others : (other : Vec ℕ A) → other.items ≢ key → total_at new other.items ≡ total_at old other.items

  -- The map has the total of each tuple, by the numbers of its elements.
  abbrev pub AreTotalsOf : (F → ℕ) → List (Entry (List F) F) → BTreeMap (Vec ℕ A) F → Type 0
  AreTotalsOf number_of es m = (same : Decides (List F)) (key : Vec ℕ A) (tuple : List F) → key.items ≡ map number_of tuple → total_at m key.items ≡ total ring same tuple es
