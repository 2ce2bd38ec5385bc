-- An object whose members are changed, one by one.
use Rattle.std.proofs.Common.{◌≡◌, ℕ, List, ◌∷◌, Option, Some, None, true, false, if◌then◌else◌, Ordering, Less, Equal, Greater, nat_cmp, is_eq, refl, sym, ap, ◌∙◌}
use Rattle.std.specs.Cmp.Lexicographic.{slice_cmp}
use Rattle.std.specs.Ordering.{match_ordering}
use Rattle.std.specs.Str.{bytes_eq}
use Rattle.std.proofs.lemmas.Map.Text.{is_eq-slice_cmp}
use Rattle.std.proofs.lemmas.Slice.Eq.{bytes_eq-Decides}
use Rattle.serde_json.specs.Data.{Data, Members, no_members, member, object, put}
use Rattle.stark_json.specs.Apart.{changed_members, joined, joined_members, placed, rows_data}

pub equal_names : (k l : List ℕ) → slice_cmp nat_cmp k l ≡ Equal → k ≡ l
equal_names k l e = (bytes_eq-Decides k l).0 (sym (is_eq-slice_cmp k l) ∙ ap is_eq e)

module _ (name : List ℕ) (f : Data → Data) where
  at_put : (o : Ordering) (k l : List ℕ) (d e : Data) (ms : Members) → slice_cmp nat_cmp k l ≡ o
      → changed_members name f (put k d ms) ≡ put k (if bytes_eq k name then f d else d) (changed_members name f ms)
      → changed_members name f (match_ordering o (member k d (member l e ms)) (member l d ms) (member l e (put k d ms)))
      ≡ match_ordering o (member k (if bytes_eq k name then f d else d) (changed_members name f (member l e ms)))
      (member l (if bytes_eq k name then f d else d) (changed_members name f ms))
      (member l (if bytes_eq l name then f e else e) (put k (if bytes_eq k name then f d else d) (changed_members name f ms)))
  at_put Less k l d e ms is more = refl
  at_put Equal k l d e ms is more = ap (λ x. member l (if bytes_eq x name then f d else d) (changed_members name f ms)) (sym (equal_names k l is))
  at_put Greater k l d e ms is more = ap (member l (if bytes_eq l name then f e else e)) more

  -- what is put among the members is changed as the others are
  pub changed-put : (k : List ℕ) (d : Data) (ms : Members) → changed_members name f (put k d ms) ≡ put k (if bytes_eq k name then f d else d) (changed_members name f ms)
  changed-put k d no_members = refl
  changed-put k d (member l e ms) = at_put _ k l d e ms refl (changed-put k d ms)

  pub put_other : (k : List ℕ) (d : Data) (ms : Members) → bytes_eq k name ≡ false → changed_members name f (put k d ms) ≡ put k d (changed_members name f ms)
  put_other k d ms other = changed-put k d ms ∙ ap (λ b. put k (if b then f d else d) (changed_members name f ms)) other

  pub put_same : (k : List ℕ) (d : Data) (ms : Members) → bytes_eq k name ≡ true → changed_members name f (put k d ms) ≡ put k (f d) (changed_members name f ms)
  put_same k d ms same = changed-put k d ms ∙ ap (λ b. put k (if b then f d else d) (changed_members name f ms)) same

-- No member has this name: whatever changes it leaves the members as they are.
abbrev pub HasNone : List ℕ → Members → Type 0
HasNone name ms = (f : Data → Data) → changed_members name f ms ≡ ms

pub none_more : (name k : List ℕ) (d : Data) (ms : Members) → bytes_eq k name ≡ false → HasNone name ms → HasNone name (put k d ms)
none_more name k d ms other none f = put_other name f k d ms other ∙ ap (put k d) (none f)

-- another member, beside rows that may be apart
pub joined_other : (name : List ℕ) (path : List (List ℕ)) (rows : Option (List (List ℕ))) (k : List ℕ) (d : Data) (ms : Members) → bytes_eq k name ≡ false
    → joined_members name path rows (put k d ms) ≡ put k d (joined_members name path rows ms)
joined_other name path None k d ms other = refl
joined_other name path (Some rows) k d ms other = put_other name (placed path (rows_data rows)) k d ms other

-- the first member of the name, whose rows may be apart
pub joined_first : (name : List ℕ) (path : List (List ℕ)) (before rows : Option (List (List ℕ))) (k : List ℕ) (d : Data) (ms : Members) → bytes_eq k name ≡ true → before ≡ None → HasNone name ms
    → joined_members name path rows (put k d ms) ≡ put k (joined path rows d) (joined_members name path before ms)
joined_first name path before None k d ms same blank none = ap (λ b. put k d (joined_members name path b ms)) (sym blank)
joined_first name path before (Some rows) k d ms same blank none =
    let f = placed path (rows_data rows) in
    put_same name f k d ms same ∙ ap (put k (f d)) (none f) ∙ ap (λ b. put k (f d) (joined_members name path b ms)) (sym blank)

-- the same of an object
pub joined-object : (name : List ℕ) (path : List (List ℕ)) (rows : Option (List (List ℕ))) (ms : Members) → joined (name ∷ path) rows (object ms) ≡ object (joined_members name path rows ms)
joined-object name path None ms = refl
joined-object name path (Some rows) ms = refl
