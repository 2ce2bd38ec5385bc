-- What the tokens of an array of arrays of numbers are read as.
use Rattle.std.proofs.Common.{◌≡◌, ℕ, suc, ◌+◌, ◌-◌, ◌<◌, ◌≤◌, true, ◌&&◌, ◌==◌, List, [], ◌∷◌, ◌++◌, length, Option, Some, None, option_map, option_and_then, decimal, refl, sym, ap, ap₂, ◌∙◌, subst, arith, IsUtf8, append-nil, length-append, eq-eqb}
use Rattle.std.proofs.lemmas.Grind.{flat_map-append}
use Rattle.std.proofs.lemmas.List.Folds.{list_all-append}
use Rattle.std.specs.List.{flat_map}
use Rattle.std.specs.Prelude.{IfSome}
use Rattle.json.specs.Token.{Token, begin_array, end_array, number}
use Rattle.json.specs.Json as json
use Rattle.json.specs.Json.{Parse, parse_map, after_end_array, items, value, if_last}
use Rattle.json.specs.Lex.{tokens}
use Rattle.json.proofs.Grammar.{items_end, items_more, value_is, value-begin_array}
use Rattle.serde_json.specs.Data as json_data
use Rattle.serde_json.specs.Data.{Data, Items, no_items, item, unsigned, array}
use Rattle.serde_json.specs.Read.{of_json, of_items, max_depth, read}
use Rattle.serde_json.proofs.Numbers.{number_of-decimal}
use Rattle.stark_support.specs.Json.{◌>>=◌, each_at, array_at}
use Rattle.stark_support.proofs.Readings.{json_of-some}
use Rattle.stark_trace_json.specs.Rows.{AreRows, rows_in}
use Rattle.stark_trace_json.specs.Scanned.{IsElement, AreElements, IsRow, AreRowsAhead, IsTable}

module _ {F : Type 0} (reading : Data → Option F) where
  -- ---- one more at the end

  pub element_behind : (fs : List F) (f : F) (ts now rest : List Token) → AreElements reading fs ts now → IsElement reading f now rest → AreElements reading (fs ++ f ∷ []) ts rest
  unfolding AreElements
  element_behind [] f ts now rest h k = (rest, subst (λ us. IsElement reading f us rest) (sym h) k, refl)
  element_behind (g ∷ fs) f ts now rest h k = (h.0, h.1, element_behind fs f h.0 now rest h.2 k)

  pub row_behind : (rows : List (List F)) (row : List F) (ts now rest : List Token) → AreRowsAhead reading rows ts now → IsRow reading row now rest → AreRowsAhead reading (rows ++ row ∷ []) ts rest
  unfolding AreRowsAhead
  row_behind [] row ts now rest h k = (rest, subst (λ us. IsRow reading row us rest) (sym h) k, refl)
  row_behind (r ∷ rows) row ts now rest h k = (h.0, h.1, row_behind rows row h.0 now rest h.2 k)

  -- ---- what is read

  -- of the tokens, with so many turns
  record ReadsItems {A : Type 0} (each : Data → Option A) (obtained : List A) (p : Parse json.Json) (n : ℕ) (ts rest : List Token) : Type 0 where
    js : json.Items
    ds : Items
    parsed : items p n ts ≡ Some (js, rest)
    converted : of_items js ≡ Some ds
    seen : each_at each ds ≡ Some obtained
    shorter : length rest < length ts

  items_over : {A : Type 0} (each : Data → Option A) (p : Parse json.Json) (n : ℕ) (ts rest : List Token) → ts ≡ end_array ∷ rest → length ts ≤ n → ReadsItems each [] p n ts rest
  items_over each p n ts rest e enough = record {
    js = json.no_items;
    ds = no_items;
    parsed = items_end p n ts rest enough (ap after_end_array e);
    converted = refl;
    seen = refl;
    shorter = omega (arith, ap length e);
  }

  items_turn : {A : Type 0} (each : Data → Option A) (a : A) (more : List A) (p : Parse json.Json) (n : ℕ) (ts next rest : List Token) (j : json.Json) (d : Data) → 0 < n
      → after_end_array ts ≡ None → p ts ≡ Some (j, next) → of_json j ≡ Some d → each d ≡ Some a → length next < length ts
      → ReadsItems each more p (n - 1) next rest → ReadsItems each (a ∷ more) p n ts rest
  items_turn each a more p n ts next rest j d some going one made seen less r = record {
    js = json.item j r.js;
    ds = item d r.ds;
    parsed = items_more p n ts next j some going one ∙ ap (parse_map (json.item j)) r.parsed;
    converted = ap (option_and_then (λ x. option_map (item x) (of_items r.js))) made ∙ ap (option_map (item d)) r.converted;
    seen = ap (λ o. o >>= λ x. option_map (λ xs. x ∷ xs) (each_at each r.ds)) seen ∙ ap (option_map (λ xs. a ∷ xs)) r.seen;
    shorter = omega (arith, r.shorter);
  }

  elements_read : (d n : ℕ) (fs : List F) (ts rest : List Token) → AreElements reading fs ts (end_array ∷ rest) → length ts ≤ n → ReadsItems reading fs (value d) n ts rest
  unfolding AreElements IsElement
  elements_read d n [] ts rest h enough = items_over reading (value d) n ts rest h enough
  elements_read d n (f ∷ fs) ts rest h enough =
      let next = h.0 in
      let s = decimal h.1.0 in
      let first : ts ≡ number s ∷ next = h.1.2 in
      let long : length ts ≡ suc (length next) = ap length first in
      items_turn reading f fs (value d) n ts next rest (json.number s) (json_data.number (unsigned h.1.0)) (omega arith) (ap after_end_array first)
      (ap (value d) first ∙ value_is d _) (ap (option_map json_data.number) (number_of-decimal h.1.0 h.1.1)) h.1.3 (omega arith)
      (elements_read d (n - 1) fs next rest h.2 (omega arith))

  rows_read : (d n : ℕ) (rows : List (List F)) (ts rest : List Token) → 0 < d → AreRowsAhead reading rows ts (end_array ∷ rest) → length ts ≤ n
      → ReadsItems (array_at reading) rows (value d) n ts rest
  unfolding AreRowsAhead IsRow array_at
  rows_read d n [] ts rest deep h enough = items_over (array_at reading) (value d) n ts rest h enough
  rows_read d n (row ∷ rows) ts rest deep h enough =
      let next = h.0 in
      let inner = h.1.0 in
      let first : ts ≡ begin_array ∷ inner = h.1.1 in
      let long : length ts ≡ suc (length inner) = ap length first in
      let r = elements_read (d - 1) (length inner) row inner next h.1.2 (omega arith) in
      let shorter = r.shorter in
      items_turn (array_at reading) row rows (value d) n ts next rest (json.array r.js) (array r.ds) (omega arith) (ap after_end_array first)
      (ap (value d) first ∙ value-begin_array d inner deep ∙ ap (parse_map json.array) r.parsed) (ap (option_map array) r.converted) r.seen (omega arith)
      (rows_read d (n - 1) rows next rest deep h.2 (omega arith))

  pub table_read : (bytes : List ℕ) (rows : List (List F)) → IsUtf8 bytes → IsTable reading rows (tokens bytes) → rows_in reading bytes ≡ Some rows
  unfolding IsTable rows_in array_at
  table_read bytes rows utf8 h =
      let inner = h.0 in
      let r = rows_read 126 (length inner) rows inner [] (omega arith) h.2 (omega arith) in
      let parsed : value max_depth (tokens bytes) ≡ Some (json.array r.js, []) =
      ap (value 127) h.1 ∙ value-begin_array 127 inner (omega arith) ∙ ap (parse_map json.array) r.parsed in
      let obtained : read bytes ≡ Some (array r.ds) = ap (λ o. option_and_then of_json (option_and_then (λ p. if_last p.0 p.1) o)) parsed ∙ ap (option_map array) r.converted in
      ap (λ o. o >>= array_at (array_at reading)) (json_of-some bytes (array r.ds) utf8 obtained) ∙ r.seen

pub some_holds : {A : Type 0} (P : A → Type 0) (o : Option A) (x : A) → IfSome o P → o ≡ Some x → P x
some_holds P None x h e = absurd (cc)
some_holds P (Some y) x h e = let same : y ≡ x = cc in subst P same h

-- ---- one more row

module _ {F : Type 0} where
  pub row_more : (listed more row : List F) (count before after : ℕ) (rows : List (List F)) → AreRows listed count before rows → more ≡ listed ++ row → after ≡ length row
      → (0 < count → before ≡ after) → AreRows more (count + 1) after (rows ++ row ∷ [])
  row_more listed more row count before after [] h e long same = record {
    values = e ∙ ap (λ xs. xs ++ row) h.values ∙ sym (append-nil row);
    height = omega (arith, h.height);
    width = long;
    even = ap (λ b. b && true) (eq-eqb (length row) (length row) refl);
  }
  row_more listed more row count before after (first ∷ rows) h e long same =
      let some : 0 < count = omega (arith, h.height) in
      let w : length row ≡ length first = omega (arith, long, same some, h.width) in
      record {
        values = e ∙ ap (λ xs. xs ++ row) h.values ∙ ap (λ xs. flat_map (λ r. r) (first ∷ rows) ++ xs) (sym (append-nil row)) ∙ sym (flat_map-append (λ r. r) (first ∷ rows) (row ∷ []));
        height = omega (arith, h.height, length-append (first ∷ rows) (row ∷ []));
        width = omega (arith, long, w);
        even = list_all-append (λ r. length r == length first) (first ∷ rows) (row ∷ []) ∙ ap₂ (λ a b. a && (b && true)) h.even (eq-eqb (length row) (length first) w);
      }
