-- A name that stands twice, found token by token.
use Rattle.std.proofs.Common.{string_bytes, string_cmp, option_map, option_to_list, rules, arith, ◌<◌, ◌≡◌, ◌∙◌, ℕ, zero, suc, Bool, true, false, true≢false, BTreeMap, Global, String, List, [], ◌∷◌, ◌++◌, drop, length, Option, Some, None, bytes_eq, ap, option_and_then, refl, sym}
use Rattle.std.specs.Prelude.{⊤, ◌||◌, if◌then◌else◌, is_some, IsSome, Ok, Err}
use Rattle.std.specs.Str.{is_utf8}
use Rattle.std.proofs.lemmas.Bool.{false≢true}
use Rattle.stark_support.specs.Json.{json_of}
use Rattle.std.proofs.lemmas.Slice.Eq.{bytes_eq-Decides}
use Rattle.std.specs.Borrow.{Bor}
use Rattle.std.specs.BTreeMap.{get as get_entry, insert_entry}
use Rattle.std.proofs.lemmas.List.{append-nil}
use Rattle.json.specs.Reads.{token_of}
use Rattle.json.specs.Token.{Token}
use Rattle.json.specs.declared.token.Token as Read
use Rattle.json.specs.Json as json
use Rattle.json.specs.Json.{Json, Parse, if_last, items, members, parse_map, value}
use Rattle.json.specs.Lex.{tokens}
use Rattle.serde_json.specs.Data.{Data, Members, no_members, null, put}
use Rattle.serde_json.specs.Find.{get_member}
use Rattle.serde_json.specs.Read.{max_depth, of_json, read}
use Rattle.serde_json.specs.View.{members_view, view}
use Rattle.serde_json.specs.declared.value.Value.{Value, Null, the_lemmas}
use Rattle.serde_json.proofs.Views.{get_member-put, get_member-put_other, members_view-insert_entry, view-lookup}
use Rattle.stark_json.specs.Names.{is_among}
use Rattle.stark_statement.specs.StatementJson.{repeated_name, unless_repeated, unrepeated}
use Rattle.stark_statement.specs.Repeats.{or_else, repeat_in, repeat_in_items, repeat_in_members, repeated_in, text_json}

-- With the names of the objects that are open, the innermost first, the first name that its object has already.
abbrev pub scan : List Members → List Token → Option (List ℕ)
scan objects [] = None
scan objects (Token.begin_object ∷ ts) = scan (no_members ∷ objects) ts
scan objects (Token.end_object ∷ ts) = scan (drop 1 objects) ts
scan objects (Token.begin_array ∷ ts) = scan objects ts
scan objects (Token.end_array ∷ ts) = scan objects ts
scan [] (Token.key k ∷ ts) = None
scan (names ∷ objects) (Token.key k ∷ ts) = if is_some (get_member k names) then Some k else scan (put k null names ∷ objects) ts
scan objects (Token.string s ∷ ts) = scan objects ts
scan objects (Token.number s ∷ ts) = scan objects ts
scan objects (Token.boolean b ∷ ts) = scan objects ts
scan objects (Token.null ∷ ts) = scan objects ts
scan objects (Token.bad ∷ ts) = scan objects ts

-- ---- beside the grammar

or_else_assoc : {A : Type 0} (a b c : Option A) → or_else (or_else a b) c ≡ or_else a (or_else b c)
or_else_assoc None b c = refl
or_else_assoc (Some x) b c = refl

-- What is found is found in what was read, or else after it.
abbrev FoundIn : List Members → Option (List ℕ) → Option (Json × List Token) → Type 0
FoundIn objects start None = ⊤
FoundIn objects start (Some p) = start ≡ or_else (repeat_in p.0) (scan objects p.1)

abbrev FoundInItems : List Members → Option (List ℕ) → Option (json.Items × List Token) → Type 0
FoundInItems objects start None = ⊤
FoundInItems objects start (Some p) = start ≡ or_else (repeat_in_items p.0) (scan objects p.1)

abbrev FoundInMembers : List Members → List (List ℕ) → Option (List ℕ) → Option (json.Members × List Token) → Type 0
FoundInMembers objects names start None = ⊤
FoundInMembers objects names start (Some p) = start ≡ or_else (repeat_in_members names p.0) (scan objects p.1)

-- The members have these names.
abbrev HaveNames : Members → List (List ℕ) → Type 0
HaveNames ms names = (q : List ℕ) → is_some (get_member q ms) ≡ is_among q names

name_here : (ms : Members) (names : List (List ℕ)) (k q : List ℕ) (b : Bool) → HaveNames ms names → bytes_eq q k ≡ b → is_some (get_member q (put k null ms)) ≡ (b || is_among q names)
name_here ms names k q true have same = ap (λ t. is_some (get_member t (put k null ms))) ((bytes_eq-Decides q k).0 same) ∙ ap is_some (get_member-put k null ms)
name_here ms names k q false have other = ap is_some (get_member-put_other q k null ms (λ is. true≢false (sym ((bytes_eq-Decides q k).1 is) ∙ other))) ∙ have q

name_more : (ms : Members) (names : List (List ℕ)) (k : List ℕ) → HaveNames ms names → HaveNames (put k null ms) (k ∷ names)
name_more ms names k have q = name_here ms names k q (bytes_eq q k) have refl

module _ (p : Parse Json) (each : (objects : List Members) (ts : List Token) → FoundIn objects (scan objects ts) (p ts)) where
  -- ---- arrays

  item_more : (objects : List Members) (start middle : Option (List ℕ)) (j : Json) (r : Option (json.Items × List Token)) → start ≡ or_else (repeat_in j) middle → FoundInItems objects middle r
      → FoundInItems objects start (parse_map (json.item j) r)
  item_more objects start middle j None here rest = tt
  item_more objects start middle j (Some q) here rest = here ∙ ap (or_else (repeat_in j)) rest ∙ sym (or_else_assoc (repeat_in j) (repeat_in_items q.0) (scan objects q.1))

  items_more : (n : ℕ) (later : (ts : List Token) (objects : List Members) → FoundInItems objects (scan objects ts) (items p n ts)) (objects : List Members) (start : Option (List ℕ)) (r : Option (Json × List Token))
      → FoundIn objects start r → FoundInItems objects start (option_and_then (λ q. parse_map (json.item q.0) (items p n q.1)) r)
  items_more n later objects start None found = tt
  items_more n later objects start (Some q) found = item_more objects start (scan objects q.1) q.0 (items p n q.1) found (later q.1 objects)

  in_items : (n : ℕ) (ts : List Token) (objects : List Members) → FoundInItems objects (scan objects ts) (items p n ts)
  unfolding items
  in_items zero ts objects = tt
  in_items (suc n) [] objects = items_more n (in_items n) objects (scan objects []) (p []) (each objects [])
  in_items (suc n) (Token.begin_object ∷ ts) objects = items_more n (in_items n) objects (scan objects (Token.begin_object ∷ ts)) (p (Token.begin_object ∷ ts)) (each objects (Token.begin_object ∷ ts))
  in_items (suc n) (Token.end_object ∷ ts) objects = items_more n (in_items n) objects (scan objects (Token.end_object ∷ ts)) (p (Token.end_object ∷ ts)) (each objects (Token.end_object ∷ ts))
  in_items (suc n) (Token.begin_array ∷ ts) objects = items_more n (in_items n) objects (scan objects (Token.begin_array ∷ ts)) (p (Token.begin_array ∷ ts)) (each objects (Token.begin_array ∷ ts))
  in_items (suc n) (Token.end_array ∷ ts) objects = refl
  in_items (suc n) (Token.key k ∷ ts) objects = items_more n (in_items n) objects (scan objects (Token.key k ∷ ts)) (p (Token.key k ∷ ts)) (each objects (Token.key k ∷ ts))
  in_items (suc n) (Token.string s ∷ ts) objects = items_more n (in_items n) objects (scan objects (Token.string s ∷ ts)) (p (Token.string s ∷ ts)) (each objects (Token.string s ∷ ts))
  in_items (suc n) (Token.number s ∷ ts) objects = items_more n (in_items n) objects (scan objects (Token.number s ∷ ts)) (p (Token.number s ∷ ts)) (each objects (Token.number s ∷ ts))
  in_items (suc n) (Token.boolean b ∷ ts) objects = items_more n (in_items n) objects (scan objects (Token.boolean b ∷ ts)) (p (Token.boolean b ∷ ts)) (each objects (Token.boolean b ∷ ts))
  in_items (suc n) (Token.null ∷ ts) objects = items_more n (in_items n) objects (scan objects (Token.null ∷ ts)) (p (Token.null ∷ ts)) (each objects (Token.null ∷ ts))
  in_items (suc n) (Token.bad ∷ ts) objects = items_more n (in_items n) objects (scan objects (Token.bad ∷ ts)) (p (Token.bad ∷ ts)) (each objects (Token.bad ∷ ts))

  -- ---- objects

  member_more : (objects : List Members) (names : List (List ℕ)) (k : List ℕ) (b : Bool) → is_among k names ≡ b → (start middle : Option (List ℕ)) (j : Json) (r : Option (json.Members × List Token))
      → start ≡ or_else (repeat_in j) middle → FoundInMembers objects (k ∷ names) middle r → FoundInMembers objects names (if b then Some k else start) (parse_map (json.member k j) r)
  member_more objects names k b known start middle j None here rest = tt
  member_more objects names k true known start middle j (Some q) here rest = rw known refl
  member_more objects names k false known start middle j (Some q) here rest =
      rw known (here ∙ ap (or_else (repeat_in j)) rest ∙ sym (or_else_assoc (repeat_in j) (repeat_in_members (k ∷ names) q.0) (scan objects q.1)))

  members_more : (n : ℕ) (objects : List Members) (ms : Members) (names : List (List ℕ)) (k : List ℕ) (later : (ts : List Token) → FoundInMembers objects (k ∷ names) (scan (ms ∷ objects) ts) (members p n ts))
      (b : Bool) → is_among k names ≡ b → (start : Option (List ℕ)) (r : Option (Json × List Token)) → FoundIn (ms ∷ objects) start r
      → FoundInMembers objects names (if b then Some k else start) (option_and_then (λ q. parse_map (json.member k q.0) (members p n q.1)) r)
  members_more n objects ms names k later b known start None found = tt
  members_more n objects ms names k later b known start (Some q) found = member_more objects names k b known start (scan (ms ∷ objects) q.1) q.0 (members p n q.1) found (later q.1)

  in_members : (n : ℕ) (ts : List Token) (objects : List Members) (ms : Members) (names : List (List ℕ)) → HaveNames ms names → FoundInMembers objects names (scan (ms ∷ objects) ts) (members p n ts)
  unfolding members
  in_members zero ts objects ms names have = tt
  in_members (suc n) [] objects ms names have = tt
  in_members (suc n) (Token.begin_object ∷ ts) objects ms names have = tt
  in_members (suc n) (Token.end_object ∷ ts) objects ms names have = refl
  in_members (suc n) (Token.begin_array ∷ ts) objects ms names have = tt
  in_members (suc n) (Token.end_array ∷ ts) objects ms names have = tt
  in_members (suc n) (Token.key k ∷ ts) objects ms names have =
      members_more n objects (put k null ms) names k (λ rest. in_members n rest objects (put k null ms) (k ∷ names) (name_more ms names k have)) (is_some (get_member k ms)) (sym (have k))
      (scan (put k null ms ∷ objects) ts) (p ts) (each (put k null ms ∷ objects) ts)
  in_members (suc n) (Token.string s ∷ ts) objects ms names have = tt
  in_members (suc n) (Token.number s ∷ ts) objects ms names have = tt
  in_members (suc n) (Token.boolean b ∷ ts) objects ms names have = tt
  in_members (suc n) (Token.null ∷ ts) objects ms names have = tt
  in_members (suc n) (Token.bad ∷ ts) objects ms names have = tt

of_array : (objects : List Members) (start : Option (List ℕ)) (r : Option (json.Items × List Token)) → FoundInItems objects start r → FoundIn objects start (parse_map json.array r)
of_array objects start None found = tt
of_array objects start (Some q) found = found

of_object : (objects : List Members) (start : Option (List ℕ)) (r : Option (json.Members × List Token)) → FoundInMembers objects [] start r → FoundIn objects start (parse_map json.object r)
of_object objects start None found = tt
of_object objects start (Some q) found = found

in_value : (depth : ℕ) (objects : List Members) (ts : List Token) → FoundIn objects (scan objects ts) (value depth ts)
unfolding value
in_value zero objects [] = tt
in_value (suc d) objects [] = tt
in_value zero objects (Token.begin_object ∷ ts) = tt
in_value (suc d) objects (Token.begin_object ∷ ts) =
    of_object objects (scan (no_members ∷ objects) ts) (members (value d) (length ts) ts) (in_members (value d) (in_value d) (length ts) ts objects no_members [] (λ q. refl))
in_value zero objects (Token.end_object ∷ ts) = tt
in_value (suc d) objects (Token.end_object ∷ ts) = tt
in_value zero objects (Token.begin_array ∷ ts) = tt
in_value (suc d) objects (Token.begin_array ∷ ts) = of_array objects (scan objects ts) (items (value d) (length ts) ts) (in_items (value d) (in_value d) (length ts) ts objects)
in_value zero objects (Token.end_array ∷ ts) = tt
in_value (suc d) objects (Token.end_array ∷ ts) = tt
in_value zero objects (Token.key k ∷ ts) = tt
in_value (suc d) objects (Token.key k ∷ ts) = tt
in_value zero objects (Token.string s ∷ ts) = refl
in_value (suc d) objects (Token.string s ∷ ts) = refl
in_value zero objects (Token.number s ∷ ts) = refl
in_value (suc d) objects (Token.number s ∷ ts) = refl
in_value zero objects (Token.boolean b ∷ ts) = refl
in_value (suc d) objects (Token.boolean b ∷ ts) = refl
in_value zero objects (Token.null ∷ ts) = refl
in_value (suc d) objects (Token.null ∷ ts) = refl
in_value zero objects (Token.bad ∷ ts) = tt
in_value (suc d) objects (Token.bad ∷ ts) = tt

-- ---- of a text

or_nothing : {A : Type 0} (a : Option A) → or_else a None ≡ a
or_nothing None = refl
or_nothing (Some x) = refl

of_last : (start : Option (List ℕ)) (j : Json) (ts : List Token) → start ≡ or_else (repeat_in j) (scan [] ts) → IsSome (if_last j ts) → start ≡ option_and_then repeat_in (if_last j ts)
of_last start j [] found some = found ∙ or_nothing (repeat_in j)
of_last start j (t ∷ ts) found some = absurd (false≢true some)

of_whole : (start : Option (List ℕ)) (r : Option (Json × List Token)) → FoundIn [] start r → IsSome (option_and_then (λ p. if_last p.0 p.1) r)
    → start ≡ option_and_then repeat_in (option_and_then (λ p. if_last p.0 p.1) r)
of_whole start None found some = absurd (false≢true some)
of_whole start (Some p) found some = of_last start p.0 p.1 found some

-- What is found of all tokens is the first repeat of the value that the text is.
pub found_in_text : (text : List ℕ) → IsSome (text_json text) → scan [] (tokens text) ≡ repeated_in text
unfolding repeated_in
found_in_text text some = of_whole (scan [] (tokens text)) (value max_depth (tokens text)) (in_value max_depth [] (tokens text)) some

-- A text that is read is a value.
json_before : (r : Option Json) → IsSome (option_and_then of_json r) → IsSome r
json_before None some = some
json_before (Some j) some = refl

if_some : {A : Type 0} (b : Bool) (r : Option A) → IsSome (if b then r else None) → IsSome r
if_some true r some = some
if_some false r some = absurd (false≢true some)

pub value_of_read : (bytes : List ℕ) → IsSome (json_of bytes) → IsSome (text_json bytes)
unfolding json_of
value_of_read bytes some = json_before (text_json bytes) (if_some (is_utf8 bytes) (read bytes) some)

-- ---- in memory

abbrev onto : {A B : Type 0} → (A → B) → List B → List A → List B
onto f found [] = found
onto f found (x ∷ xs) = onto f (f x ∷ found) xs

onto_more : {A B : Type 0} (f : A → B) (found : List B) (xs : List A) (x : A) → onto f found (xs ++ x ∷ []) ≡ f x ∷ onto f found xs
onto_more f found [] x = refl
onto_more f found (y ∷ ys) x = onto_more f (f y ∷ found) ys x

abbrev pub names_of_map : BTreeMap (String Global) Value → Members
names_of_map m = members_view m.entries

-- The names of the objects that are open, those of the last first.
abbrev pub names_of_objects : List (BTreeMap (String Global) Value) → List Members
names_of_objects objects = onto names_of_map [] objects

pub one_more_object : (objects more : List (BTreeMap (String Global) Value)) (m : BTreeMap (String Global) Value) → more ≡ objects ++ m ∷ [] → names_of_objects more ≡ names_of_map m ∷ names_of_objects objects
one_more_object objects more m is = ap names_of_objects is ∙ onto_more names_of_map [] objects m

-- ---- token by token

module _ (objects : List (BTreeMap (String Global) Value)) (before after : List Token) where
  abbrev found : Option (List ℕ)
  found = scan (names_of_objects objects) before

  pub object_begun : (more : List (BTreeMap (String Global) Value)) (m : BTreeMap (String Global) Value) → before ≡ Token.begin_object ∷ after → more ≡ objects ++ m ∷ [] → m.entries ≡ []
      → found ≡ scan (names_of_objects more) after
  object_begun more m is pushed empty =
      ap (scan (names_of_objects objects)) is ∙ ap (λ ms. scan (ms ∷ names_of_objects objects) after) (sym (ap members_view empty))
      ∙ ap (λ o. scan o after) (sym (one_more_object objects more m pushed))

  ended : (rest : List (BTreeMap (String Global) Value)) (popped : Option (BTreeMap (String Global) Value)) → objects ≡ rest ++ option_to_list popped → (is_some popped ≡ false → objects ≡ [])
      → scan (drop 1 (names_of_objects objects)) after ≡ scan (names_of_objects rest) after
  ended rest None is none =
      let nothing : rest ≡ [] = sym (append-nil rest) ∙ sym is ∙ none refl in
      ap (λ o. scan (drop 1 (names_of_objects o)) after) (none refl) ∙ ap (λ o. scan (names_of_objects o) after) (sym nothing)
  ended rest (Some m) is none = ap (λ o. scan (drop 1 o) after) (one_more_object rest objects m is)

  pub object_ended : (rest : List (BTreeMap (String Global) Value)) (popped : Option (BTreeMap (String Global) Value)) → before ≡ Token.end_object ∷ after → objects ≡ rest ++ option_to_list popped
      → (is_some popped ≡ false → objects ≡ []) → found ≡ scan (names_of_objects rest) after
  object_ended rest popped is parts none = ap (scan (names_of_objects objects)) is ∙ ended rest popped parts none

  -- A token that is none of an object's.
  pub other_token : (token : Read.Token) → before ≡ token_of token ∷ after → (token ≡ Read.TheVariants.BeginObject → ⊥) → (token ≡ Read.TheVariants.EndObject → ⊥)
      → ((key : Bor (List ℕ)) → token ≡ Read.TheVariants.Key key → ⊥) → found ≡ scan (names_of_objects objects) after
  other_token Read.TheVariants.BeginObject is begins ends named = absurd (begins refl)
  other_token Read.TheVariants.EndObject is begins ends named = absurd (ends refl)
  other_token Read.TheVariants.BeginArray is begins ends named = ap (scan (names_of_objects objects)) is
  other_token Read.TheVariants.EndArray is begins ends named = ap (scan (names_of_objects objects)) is
  other_token (Read.TheVariants.Key key) is begins ends named = absurd (named key refl)
  other_token (Read.TheVariants.String s) is begins ends named = ap (scan (names_of_objects objects)) is
  other_token (Read.TheVariants.Number s) is begins ends named = ap (scan (names_of_objects objects)) is
  other_token (Read.TheVariants.Bool b) is begins ends named = ap (scan (names_of_objects objects)) is
  other_token Read.TheVariants.Null is begins ends named = ap (scan (names_of_objects objects)) is
  other_token Read.TheVariants.Bad is begins ends named = ap (scan (names_of_objects objects)) is

  module _ (key : String Global) (is : before ≡ Token.key (string_bytes key) ∷ after) where
    pub outside_objects : objects ≡ [] → found ≡ None
    outside_objects none = ap (scan (names_of_objects objects)) is ∙ ap (λ o. scan (names_of_objects o) (Token.key (string_bytes key) ∷ after)) none

    module _ (rest : List (BTreeMap (String Global) Value)) (names : BTreeMap (String Global) Value) (popped : objects ≡ rest ++ names ∷ []) (old : Option Value) (obtained : old ≡ get_entry string_cmp names key) where
      abbrev in_object : Option (List ℕ)
      in_object = scan (names_of_map names ∷ names_of_objects rest) (Token.key (string_bytes key) ∷ after)

      at_key : found ≡ in_object
      at_key = ap (scan (names_of_objects objects)) is ∙ ap (λ o. scan o (Token.key (string_bytes key) ∷ after)) (one_more_object rest objects names popped)

      mapped : {A B : Type 0} (f : A → B) (o : Option A) → is_some (option_map f o) ≡ is_some o
      mapped f None = refl
      mapped f (Some x) = refl

      among : is_some (get_member (string_bytes key) (names_of_map names)) ≡ is_some old
      among = sym (ap is_some (view-lookup (string_bytes key) names.entries)) ∙ mapped view (get_entry string_cmp names key) ∙ ap is_some (sym obtained)

      pub old_name : is_some old ≡ true → found ≡ Some (string_bytes key)
      old_name some = at_key
          ∙ ap (λ b. if b then Some (string_bytes key) else scan (put (string_bytes key) null (names_of_map names) ∷ names_of_objects rest) after) (among ∙ some)

      pub new_name : is_some old ≡ false → (changed : BTreeMap (String Global) Value) → changed.entries ≡ insert_entry string_cmp names.entries key Null → (more : List (BTreeMap (String Global) Value))
          → more ≡ rest ++ changed ∷ [] → found ≡ scan (names_of_objects more) after
      new_name none changed inserted more pushed =
          let seen : view Null ≡ null = search (rules, the_lemmas) in
          let grown : names_of_map changed ≡ put (string_bytes key) null (names_of_map names) =
          ap members_view inserted ∙ members_view-insert_entry names.entries key Null ∙ ap (λ d. put (string_bytes key) d (names_of_map names)) seen in
          at_key ∙ ap (λ b. if b then Some (string_bytes key) else scan (put (string_bytes key) null (names_of_map names) ∷ names_of_objects rest) after) (among ∙ none)
          ∙ ap (λ ms. scan (ms ∷ names_of_objects rest) after) (sym grown) ∙ ap (λ o. scan o after) (sym (one_more_object rest more changed pushed))

pub nothing_in : {A : Type 0} (xs : List A) → (0 < length xs → ⊥) → xs ≡ []
nothing_in [] none = refl
nothing_in (x ∷ xs) none = absurd (none (omega arith))

-- What was found of a text, and what a statement's bytes are refused for.
module _ {A : Type 0} (f : A → List ℕ) (o : Option A) (text bytes : List ℕ) (same : text ≡ bytes) (obtained : option_map f o ≡ repeated_in text) where
  pub without_repeat : o ≡ None → unrepeated bytes ≡ Ok tt
  without_repeat is = ap unless_repeated (ap repeated_in (sym same) ∙ sym obtained ∙ ap (option_map f) is)

  pub with_repeat : (x : A) → o ≡ Some x → unrepeated bytes ≡ Err (repeated_name (f x))
  with_repeat x is = ap unless_repeated (ap repeated_in (sym same) ∙ sym obtained ∙ ap (option_map f) is)
