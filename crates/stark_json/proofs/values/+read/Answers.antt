use Rattle.std.proofs.Common.{◌≡◌, ◌<◌, ◌∷◌, None, Some, length, string_bytes, subst, sym, ap, ◌∙◌, arith, rules}
use Rattle.json.specs.Token.{Token}
use Rattle.json.specs.Json.{after_end_array, read_key, value}
use Rattle.json.specs.Reads.{token_of}
use Rattle.json.proofs.Grammar.{value_is}
use Rattle.serde_json.specs.Data.{boolean, null, put, string}
use Rattle.serde_json.specs.Read.{converted, of_json}
use Rattle.serde_json.specs.View.{members_view, view}
use Rattle.serde_json.specs.declared.value.Value.{Bool, Null, String, the_lemmas}
use Rattle.serde_json.proofs.Views.{members_view-insert_entry, view-Array, view-Object}
use Rattle.stark_json.proofs.SoFar.{array_read, item_more, items_ended, member_more, members_ended, no_item_yet, no_member_yet, object_read}
use Rattle.stark_json.proofs.values.+read.Goals as goal

pub read-returns-in_ok-from_str-in-String-clause-read : goal.read-returns-in_ok-from_str-in-String-clause-read
read-returns-in_ok-from_str-in-String-clause-read t c =
    let first : c.args.reader.now ≡ token_of c.in_ok-token.token ∷ c.next.new.self = grind arith in
    let is : c.args.reader.now ≡ Token.string c.in-String.text.now ∷ c.next.new.self = grind (arith, first) in
    let made = c.in_ok-from_str-in-String.field-0 in
    let seen : view (String made) ≡ string (string_bytes made) = search (rules, the_lemmas) in
    let copied : string_bytes made ≡ c.in-String.text.now = search rules in
    ap (converted of_json) (ap (value c.args.depth) is ∙ value_is c.args.depth _) ∙ ap (λ d. Some (d, c.next.new.self)) (sym (seen ∙ ap string copied))

pub read-returns-in-Some-clause-read : goal.read-returns-in-Some-clause-read
read-returns-in-Some-clause-read t c =
    let first : c.args.reader.now ≡ token_of c.in_ok-token.token ∷ c.next.new.self = grind arith in
    let is : c.args.reader.now ≡ Token.number c.in-Number.text.now ∷ c.next.new.self = grind (arith, first) in
    ap (converted of_json) (ap (value c.args.depth) is ∙ value_is c.args.depth _) ∙ rw (c.in-Some.ensures, c.from.ensures)

pub read-returns-in-Bool-clause-read : goal.read-returns-in-Bool-clause-read
read-returns-in-Bool-clause-read t c =
    let first : c.args.reader.now ≡ token_of c.in_ok-token.token ∷ c.next.new.self = grind arith in
    let is : c.args.reader.now ≡ Token.boolean c.in-Bool.truth ∷ c.next.new.self = grind (arith, first) in
    let seen : view (Bool c.in-Bool.truth) ≡ boolean c.in-Bool.truth = search (rules, the_lemmas) in
    ap (converted of_json) (ap (value c.args.depth) is ∙ value_is c.args.depth _) ∙ ap (λ d. Some (d, c.next.new.self)) (sym seen)

pub read-returns-in-Null-clause-read : goal.read-returns-in-Null-clause-read
read-returns-in-Null-clause-read t c =
    let first : c.args.reader.now ≡ token_of c.in_ok-token.token ∷ c.next.new.self = grind arith in
    let is : c.args.reader.now ≡ Token.null ∷ c.next.new.self = grind (arith, first) in
    let seen : view (Null) ≡ null = search (rules, the_lemmas) in
    ap (converted of_json) (ap (value c.args.depth) is ∙ value_is c.args.depth _) ∙ ap (λ d. Some (d, c.next.new.self)) (sym seen)

pub read-returns-in_ok-read_items-in-BeginArray-clause-read : goal.read-returns-in_ok-read_items-in-BeginArray-clause-read
read-returns-in_ok-read_items-in-BeginArray-clause-read t c =
    let first : c.args.reader.now ≡ token_of c.in_ok-token.token ∷ c.next.new.self = grind arith in
    let obtained = c.in_ok-read_items-in-BeginArray in
    array_read c.args.depth c.args.reader.now c.next.new.self c.read_items.new.reader _ (omega arith) (first ∙ ap (λ k. token_of k ∷ c.next.new.self) c.in-BeginArray.is) obtained.ensures.read
    ∙ ap (λ d. Some (d, c.read_items.new.reader)) (sym (view-Array obtained.field-0))

pub read-returns-in_ok-read_members-in-BeginObject-clause-read : goal.read-returns-in_ok-read_members-in-BeginObject-clause-read
read-returns-in_ok-read_members-in-BeginObject-clause-read t c =
    let first : c.args.reader.now ≡ token_of c.in_ok-token.token ∷ c.next.new.self = grind arith in
    let obtained = c.in_ok-read_members-in-BeginObject in
    object_read c.args.depth c.args.reader.now c.next.new.self c.read_members.new.reader _ (omega arith) (first ∙ ap (λ k. token_of k ∷ c.next.new.self) c.in-BeginObject.is) obtained.ensures.read
    ∙ ap (λ d. Some (d, c.read_members.new.reader)) (sym (view-Object obtained.field-0))

pub read_items-items-init : goal.read_items-items-init
read_items-items-init t c = no_item_yet view c.args.depth c.args.reader.now _ c.new-values.ensures.items

pub read_items-items-preserved : goal.read_items-items-preserved
read_items-items-preserved t c =
    let going : (after_end_array c.items.reader ≡ None) × (c.take_end_array.new.self ≡ c.items.reader) = grind arith in
    let rest = c.read.new.reader in
    let one = subst (λ ts. converted of_json (value c.args.depth ts) ≡ Some (view c.in_ok-item.item, rest)) going.1 c.in_ok-item.ensures.read in
    let less = subst (λ ts. length rest < length ts) going.1 c.in_ok-item.ensures.shorter in
    item_more view c.args.depth c.args.reader.now c.items.reader rest c.items.values.items _ c.in_ok-item.item c.items.invariant going.0 one less c.in_ok-push.ensures.items

pub read_items-returns-clause-read : goal.read_items-returns-clause-read
read_items-returns-clause-read t c =
    let over : after_end_array c.items.reader ≡ Some c.take_end_array.new.self = grind arith in
    (items_ended view c.args.depth c.args.reader.now c.items.reader c.take_end_array.new.self c.items.values.items c.items.invariant over).0

pub read_items-returns-clause-shorter : goal.read_items-returns-clause-shorter
read_items-returns-clause-shorter t c =
    let over : after_end_array c.items.reader ≡ Some c.take_end_array.new.self = grind arith in
    (items_ended view c.args.depth c.args.reader.now c.items.reader c.take_end_array.new.self c.items.values.items c.items.invariant over).1

pub read_members-members-init : goal.read_members-members-init
read_members-members-init t c = no_member_yet c.args.depth c.args.reader.now _ (ap members_view c.new-object.ensures.empty)

pub read_members-members-preserved : goal.read_members-members-preserved
read_members-members-preserved t c =
    let named : read_key c.members.reader ≡ Some (Some c.in-Some.name.now, c.next_key.new.self) = grind arith in
    let read = c.in_ok-member.ensures in
    let old = members_view c.members.object.entries in
    let copied : string_bytes c.in_ok-key.key ≡ c.in-Some.name.now = search rules in
    let inserted = ap members_view c.in_ok-insert.ensures.entries ∙ members_view-insert_entry c.members.object.entries c.in_ok-key.key c.in_ok-member.member ∙ ap (λ name. put name (view c.in_ok-member.member) old) copied in
    member_more c.args.depth c.args.reader.now c.members.reader c.next_key.new.self c.read.new.reader old _ c.in-Some.name.now (view c.in_ok-member.member) c.members.invariant named read.read read.shorter inserted

pub read_members-returns-clause-read : goal.read_members-returns-clause-read
read_members-returns-clause-read t c =
    let over : read_key c.members.reader ≡ Some (None, c.next_key.new.self) = grind arith in
    (members_ended c.args.depth c.args.reader.now c.members.reader c.next_key.new.self _ c.members.invariant over).0

pub read_members-returns-clause-shorter : goal.read_members-returns-clause-shorter
read_members-returns-clause-shorter t c =
    let over : read_key c.members.reader ≡ Some (None, c.next_key.new.self) = grind arith in
    (members_ended c.args.depth c.args.reader.now c.members.reader c.next_key.new.self _ c.members.invariant over).1
