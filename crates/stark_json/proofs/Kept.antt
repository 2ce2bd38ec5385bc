-- What an object with rows joined at a path has under its names.
use Rattle.std.proofs.Common.{◌≡◌, ℕ, List, Some, option_map, true, false, if◌then◌else◌, is_some, Ordering, Less, Equal, Greater, nat_cmp, refl, ap, subst}
use Rattle.std.specs.Cmp.Lexicographic.{slice_cmp}
use Rattle.std.specs.Ordering.{match_ordering}
use Rattle.std.specs.Str.{bytes_eq}
use Rattle.serde_json.specs.Data.{Data, null, boolean, number, string, array, object, Members, no_members, member}
use Rattle.serde_json.specs.Find.{as_null, get, get_member}
use Rattle.stark_json.specs.Apart.{changed, changed_members, joined}
use Rattle.stark_json.specs.Names.{first_unknown, is_among}
use Rattle.stark_json.proofs.Changed.{equal_names}

module _ (name : List ℕ) (f : Data → Data) where
  other_at : (o : Ordering) (q l : List ℕ) (e : Data) (ms : Members) → slice_cmp nat_cmp q l ≡ o → bytes_eq q name ≡ false → get_member q (changed_members name f ms) ≡ get_member q ms
      → match_ordering o (get_member q (changed_members name f ms)) (Some (if bytes_eq l name then f e else e)) (get_member q (changed_members name f ms)) ≡ match_ordering o (get_member q ms) (Some e) (get_member q ms)
  other_at Less q l e ms is other more = more
  other_at Equal q l e ms is other more = ap (λ b. Some (if b then f e else e)) (subst (λ k. bytes_eq k name ≡ false) (equal_names q l is) other)
  other_at Greater q l e ms is other more = more

  member_other : (q : List ℕ) (ms : Members) → bytes_eq q name ≡ false → get_member q (changed_members name f ms) ≡ get_member q ms
  member_other q no_members other = refl
  member_other q (member l e ms) other = other_at _ q l e ms refl other (member_other q ms other)

  same_at : (o : Ordering) (q l : List ℕ) (e : Data) (ms : Members) → slice_cmp nat_cmp q l ≡ o → bytes_eq q name ≡ true → get_member q (changed_members name f ms) ≡ option_map f (get_member q ms)
      → match_ordering o (get_member q (changed_members name f ms)) (Some (if bytes_eq l name then f e else e)) (get_member q (changed_members name f ms)) ≡ option_map f (match_ordering o (get_member q ms) (Some e) (get_member q ms))
  same_at Less q l e ms is same more = more
  same_at Equal q l e ms is same more = ap (λ b. Some (if b then f e else e)) (subst (λ k. bytes_eq k name ≡ true) (equal_names q l is) same)
  same_at Greater q l e ms is same more = more

  member_same : (q : List ℕ) (ms : Members) → bytes_eq q name ≡ true → get_member q (changed_members name f ms) ≡ option_map f (get_member q ms)
  member_same q no_members same = refl
  member_same q (member l e ms) same = same_at _ q l e ms refl same (member_same q ms same)

  pub get_other : (q : List ℕ) (d : Data) → bytes_eq q name ≡ false → get q (changed name f d) ≡ get q d
  get_other q null other = refl
  get_other q (boolean b) other = refl
  get_other q (number n) other = refl
  get_other q (string s) other = refl
  get_other q (array ds) other = refl
  get_other q (object ms) other = member_other q ms other

  -- the member of the name, if it computes that it is
  pub get_same : (d : Data) → bytes_eq name name ≡ true → get name (changed name f d) ≡ option_map f (get name d)
  get_same null same = refl
  get_same (boolean b) same = refl
  get_same (number n) same = refl
  get_same (string s) same = refl
  get_same (array ds) same = refl
  get_same (object ms) same = member_same name ms same

  pub as_null-changed : (d : Data) → is_some (as_null (changed name f d)) ≡ is_some (as_null d)
  as_null-changed null = refl
  as_null-changed (boolean b) = refl
  as_null-changed (number n) = refl
  as_null-changed (string s) = refl
  as_null-changed (array ds) = refl
  as_null-changed (object ms) = refl

  -- the names are as they were
  pub first_unknown-changed : (names : List (List ℕ)) (ms : Members) → first_unknown names (changed_members name f ms) ≡ first_unknown names ms
  first_unknown-changed names no_members = refl
  first_unknown-changed names (member key d ms) = ap (λ rest. if is_among key names then rest else Some key) (first_unknown-changed names ms)
