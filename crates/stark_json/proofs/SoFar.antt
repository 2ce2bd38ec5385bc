-- An array or an object of which some items or members were read.
use Rattle.std.proofs.Common.{◌≡◌, ℕ, ◌-◌, ◌<◌, ◌≤◌, List, [], ◌∷◌, ◌++◌, length, map, Option, Some, None, option_and_then, refl, sym, ap, ◌∙◌, arith}
use Rattle.json.specs.Token.{Token}
use Rattle.json.specs.Json as json
use Rattle.json.specs.Json.{after_end_array, if_last, items, members, parse_map, read_key, value}
use Rattle.json.proofs.Grammar.{after_end_array-shorter, read_key-shorter, value-begin_array, value-begin_object}
use Rattle.serde_json.specs.Data.{Data, Items, no_items, item, Members, no_members, put, array, object}
use Rattle.serde_json.specs.Read.{converted, of_items, of_json, of_members}
use Rattle.serde_json.specs.View.{items_of}
use Rattle.stark_json.proofs.Turns.{converted-array, converted-object, item_read, items_over, member_read, members_over, none_before, parsed}

-- ---- items

module _ {A : Type 0} (spelled : A → Data) where
  -- items, before the rest of them
  abbrev before : List A → Items → Items
  before [] rest = rest
  before (x ∷ xs) rest = item (spelled x) (before xs rest)

  before-no_items : (xs : List A) → before xs no_items ≡ items_of (map spelled xs)
  before-no_items [] = refl
  before-no_items (x ∷ xs) = ap (item (spelled x)) (before-no_items xs)

  pushed : (xs : List A) (x : A) (rest : Items) → before xs (item (spelled x) rest) ≡ before (xs ++ x ∷ []) rest
  pushed [] x rest = refl
  pushed (y ∷ xs) x rest = ap (item (spelled y)) (pushed xs x rest)

  one_more : (xs : List A) (x : A) (r : Option (Items × List Token)) → parse_map (before xs) (parse_map (item (spelled x)) r) ≡ parse_map (before (xs ++ x ∷ [])) r
  one_more xs x None = refl
  one_more xs x (Some p) = ap (λ ds. Some (ds, p.1)) (pushed xs x p.0)

  -- Of the tokens `start` in an array, these items were read, and `ts` are left.
  pub record ItemsSoFar (depth : ℕ) (start ts : List Token) (xs : List A) : Type 0 where
    turns : ℕ
    enough : length ts ≤ turns
    so_far : converted of_items (items (value depth) (length start) start) ≡ parse_map (before xs) (converted of_items (items (value depth) turns ts))
    pub shorter : length ts ≤ length start

  module _ (depth : ℕ) (start : List Token) where
    pub no_item_yet : (xs : List A) → xs ≡ [] → ItemsSoFar depth start start xs
    no_item_yet xs e =
        let all = converted of_items (items (value depth) (length start) start) in
        record { turns = length start; enough = omega arith; so_far = none_before all ∙ ap (λ ys. parse_map (before ys) all) (sym e); shorter = omega arith }

    pub item_more : (ts r : List Token) (xs ys : List A) (x : A) → ItemsSoFar depth start ts xs → after_end_array ts ≡ None → converted of_json (value depth ts) ≡ Some (spelled x, r)
        → length r < length ts → ys ≡ xs ++ x ∷ [] → ItemsSoFar depth start r ys
    item_more ts r xs ys x h going one less grown =
        let enough = h.enough in
        let shorter = h.shorter in
        let rest = converted of_items (items (value depth) (h.turns - 1) r) in
        record {
          turns = h.turns - 1;
          enough = omega arith;
          so_far = h.so_far ∙ ap (parse_map (before xs)) (item_read (value depth) h.turns ts r (spelled x) (omega arith) going one) ∙ one_more xs x rest ∙ ap (λ zs. parse_map (before zs) rest) (sym grown);
          shorter = omega arith;
        }

    pub items_ended : (ts r : List Token) (xs : List A) → ItemsSoFar depth start ts xs → after_end_array ts ≡ Some r
        → (converted of_items (items (value depth) (length start) start) ≡ Some (items_of (map spelled xs), r)) × (length r < length start)
    items_ended ts r xs h over =
        let shorter = h.shorter in (
          h.so_far ∙ ap (parse_map (before xs)) (items_over (value depth) h.turns ts r h.enough over) ∙ ap (λ ds. Some (ds, r)) (before-no_items xs),
          omega (arith, after_end_array-shorter ts r over),
        )

-- ---- members

-- Of the tokens `start` in an object, members were read that give these, and `ts` are left.
pub record MembersSoFar (depth : ℕ) (start ts : List Token) (now : Members) : Type 0 where
  turns : ℕ
  enough : length ts ≤ turns
  so_far : converted (λ ms. of_members ms no_members) (members (value depth) (length start) start) ≡ converted (λ ms. of_members ms now) (members (value depth) turns ts)
  pub shorter : length ts ≤ length start

module _ (depth : ℕ) (start : List Token) where
  pub no_member_yet : (now : Members) → now ≡ no_members → MembersSoFar depth start start now
  no_member_yet now e =
      let all = members (value depth) (length start) start in
      record { turns = length start; enough = omega arith; so_far = ap (λ obtained. converted (λ ms. of_members ms obtained) all) (sym e); shorter = omega arith }

  pub member_more : (ts s r : List Token) (old now : Members) (k : List ℕ) (d : Data) → MembersSoFar depth start ts old → read_key ts ≡ Some (Some k, s)
      → converted of_json (value depth s) ≡ Some (d, r) → length r < length s → now ≡ put k d old → MembersSoFar depth start r now
  member_more ts s r old now k d h named one less grown =
      let enough = h.enough in
      let shorter = h.shorter in
      let key = read_key-shorter ts (Some k) s named in
      let rest = members (value depth) (h.turns - 1) r in
      record {
        turns = h.turns - 1;
        enough = omega arith;
        so_far = h.so_far ∙ member_read (value depth) old h.turns k ts s r d (omega arith) named one ∙ ap (λ obtained. converted (λ ms. of_members ms obtained) rest) (sym grown);
        shorter = omega arith;
      }

  pub members_ended : (ts r : List Token) (now : Members) → MembersSoFar depth start ts now → read_key ts ≡ Some (None, r)
      → (converted (λ ms. of_members ms no_members) (members (value depth) (length start) start) ≡ Some (now, r)) × (length r < length start)
  members_ended ts r now h over =
      let shorter = h.shorter in (
        h.so_far ∙ members_over (value depth) now h.turns ts r h.enough over,
        omega (arith, read_key-shorter ts None r over),
      )

-- ---- what a bracket opens

pub array_read : (depth : ℕ) (ts inner r : List Token) (ds : Items) → 0 < depth → ts ≡ Token.begin_array ∷ inner → converted of_items (items (value (depth - 1)) (length inner) inner) ≡ Some (ds, r)
    → converted of_json (value depth ts) ≡ Some (array ds, r)
array_read depth ts inner r ds deep first read =
    ap (converted of_json) (ap (value depth) first ∙ value-begin_array depth inner deep) ∙ converted-array (items (value (depth - 1)) (length inner) inner) ∙ ap (parse_map array) read

pub object_read : (depth : ℕ) (ts inner r : List Token) (ms : Members) → 0 < depth → ts ≡ Token.begin_object ∷ inner
    → converted (λ ms. of_members ms no_members) (members (value (depth - 1)) (length inner) inner) ≡ Some (ms, r) → converted of_json (value depth ts) ≡ Some (object ms, r)
object_read depth ts inner r ms deep first read =
    ap (converted of_json) (ap (value depth) first ∙ value-begin_object depth inner deep) ∙ converted-object (members (value (depth - 1)) (length inner) inner) ∙ ap (parse_map object) read

-- ---- the whole text

pub whole_read : (o : Option (json.Json × List Token)) (d : Data) → converted of_json o ≡ Some (d, []) → option_and_then of_json (option_and_then (λ p. if_last p.0 p.1) o) ≡ Some d
whole_read o d e = let j = parsed of_json o d [] e in ap (λ p. option_and_then of_json (option_and_then (λ q. if_last q.0 q.1) p)) j.1 ∙ j.2
