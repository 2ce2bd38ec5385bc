use Rattle.std.proofs.Common.{◌≡◌, ◌∷◌, false, true, None, Some, map, refl, string_bytes, sym, ap, ◌∙◌, arith, rules}
use Rattle.std.specs.Str.{bytes_eq}
use Rattle.json.specs.Token.{Token}
use Rattle.json.specs.Json.{read_key, value}
use Rattle.json.specs.Reads.{token_of}
use Rattle.json.proofs.Grammar.{value_is}
use Rattle.serde_json.specs.Data.{null, object, put}
use Rattle.serde_json.specs.Read.{converted, of_json}
use Rattle.serde_json.specs.View.{members_view, view}
use Rattle.serde_json.specs.declared.value.Value.{Null, Object, the_lemmas}
use Rattle.serde_json.proofs.Views.{members_view-insert_entry, view-Object}
use Rattle.stark_json.specs.Apart.{joined, joined_members, rows_apart}
use Rattle.stark_json.proofs.Changed.{joined-object, joined_first, joined_other, none_more}
use Rattle.stark_json.proofs.SoFar.{member_more, members_ended, no_member_yet, object_read}
use Rattle.stark_json.proofs.apart.+read_at.Goals as goal

pub read_at-returns-in-Null-clause-read : goal.read_at-returns-in-Null-clause-read
read_at-returns-in-Null-clause-read t c =
    let first : c.args.reader.now ≡ token_of c.in_ok-token.token ∷ c.next.new.self = grind arith in
    let is : c.args.reader.now ≡ Token.null ∷ c.next.new.self = grind (arith, first) in
    let seen : view (Null) ≡ null = search (rules, the_lemmas) in
    ap (converted of_json) (ap (value c.args.depth) is ∙ value_is c.args.depth _) ∙ ap (λ d. Some (d, c.next.new.self)) (sym seen)

pub read_at-returns-in_ok-members-in-BeginObject-clause-read : goal.read_at-returns-in_ok-members-in-BeginObject-clause-read
read_at-returns-in_ok-members-in-BeginObject-clause-read t c =
    let first : c.args.reader.now ≡ token_of c.in_ok-token.token ∷ c.next.new.self = grind arith in
    let obtained = c.in_ok-members-in-BeginObject in
    let rest = c.read_members_at.new.reader in
    let rows = rows_apart obtained.rows in
    let name = c.in-Some.name.now.now in
    let path = map (λ name. name.now) c.in-Some.path.now in
    let names : map (λ name. name.now) c.args.path.now ≡ name ∷ path = ap (map (λ name. name.now)) c.in-Some.ensures.cases.0 in
    let seen = ap (λ names. joined names rows (view (Object obtained.members))) names ∙ ap (joined (name ∷ path) rows) (view-Object obtained.members) ∙ joined-object name path rows (members_view obtained.members.entries) in
    object_read c.args.depth c.args.reader.now c.next.new.self rest _ (omega arith) (first ∙ ap (λ k. token_of k ∷ c.next.new.self) c.in-BeginObject.is) obtained.ensures.read
    ∙ ap (λ d. Some (d, rest)) (sym seen)

pub read_members_at-members-init : goal.read_members_at-members-init
read_members_at-members-init t c =
    let empty = ap members_view c.new-object.ensures.empty in
    record { so_far = no_member_yet c.args.depth c.args.reader.now _ empty; unseen = λ _. (refl, λ f. rw empty refl) }

pub read_members_at-members-preserved-then-eq : goal.read_members_at-members-preserved-then-eq
read_members_at-members-preserved-then-eq t c =
    let named : read_key c.members.reader ≡ Some (Some c.in-Some.key.now, c.next_key.new.self) = grind arith in
    let name = c.args.name.now in
    let key = c.in-Some.key.now in
    let path = map (λ name. name.now) c.args.path.now in
    let same : bytes_eq key name ≡ true = search rules in
    let read = c.in_ok-member.ensures in
    let d = view c.in_ok-member.member in
    let before = rows_apart c.members.rows in
    let rows = rows_apart c.in_ok-member.apart in
    let old = members_view c.members.object.entries in
    let unseen = c.members.invariant.unseen c.if-seen.false in
    let copied : string_bytes c.in_ok-owned.owned ≡ key = search rules in
    let inserted = ap members_view c.in_ok-insert.ensures.entries ∙ members_view-insert_entry c.members.object.entries c.in_ok-owned.owned c.in_ok-member.member ∙ ap (λ k. put k d old) copied in
    record {
      so_far =
          member_more c.args.depth c.args.reader.now c.members.reader c.next_key.new.self c.read_at.new.reader (joined_members name path before old) _ key (joined path rows d) c.members.invariant.so_far named read.read read.shorter
          (ap (joined_members name path rows) inserted ∙ joined_first name path before rows key d old same unseen.0 unseen.1);
      unseen = λ never. absurd (cc);
    }

pub read_members_at-members-preserved : goal.read_members_at-members-preserved
read_members_at-members-preserved t c =
    let named : read_key c.members.reader ≡ Some (Some c.in-Some.key.now, c.next_key.new.self) = grind arith in
    let name = c.args.name.now in
    let key = c.in-Some.key.now in
    let path = map (λ name. name.now) c.args.path.now in
    let other : bytes_eq key name ≡ false = search rules in
    let read = c.in_ok-member-2.ensures in
    let d = view c.in_ok-member-2.member in
    let rows = rows_apart c.members.rows in
    let old = members_view c.members.object.entries in
    let copied : string_bytes c.in_ok-owned.owned ≡ key = search rules in
    let inserted = ap members_view c.in_ok-insert-2.ensures.entries ∙ members_view-insert_entry c.members.object.entries c.in_ok-owned.owned c.in_ok-member-2.member ∙ ap (λ k. put k d old) copied in
    record {
      so_far =
          member_more c.args.depth c.args.reader.now c.members.reader c.next_key.new.self c.read.new.reader (joined_members name path rows old) _ key d c.members.invariant.so_far named read.read read.shorter
          (ap (joined_members name path rows) inserted ∙ joined_other name path rows key d old other);
      unseen = λ none. let unseen = c.members.invariant.unseen none in (unseen.0, λ f. rw inserted (none_more name key d old other unseen.1 f));
    }

pub read_members_at-returns-clause-read : goal.read_members_at-returns-clause-read
read_members_at-returns-clause-read t c =
    let over : read_key c.members.reader ≡ Some (None, c.next_key.new.self) = grind arith in
    (members_ended c.args.depth c.args.reader.now c.members.reader c.next_key.new.self _ c.members.invariant.so_far over).0

pub read_members_at-returns-clause-shorter : goal.read_members_at-returns-clause-shorter
read_members_at-returns-clause-shorter t c =
    let over : read_key c.members.reader ≡ Some (None, c.next_key.new.self) = grind arith in
    (members_ended c.args.depth c.args.reader.now c.members.reader c.next_key.new.self _ c.members.invariant.so_far over).1
