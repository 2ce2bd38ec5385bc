-- How names and numbers are looked up, in the turns of a loop.
use Rattle.std.proofs.Common.{◌≡◌, ℕ, zero, suc, ◌+◌, ◌-◌, ◌<◌, ◌≤◌, Bool, true, false, cond, ◌==◌, List, [], ◌∷◌, ◌++◌, length, map, drop, get_or, set, Option, Some, None, option_map, Result, Ok, Err, refl, sym, ap, ◌∙◌, subst, arith}
use Rattle.std.specs.Prelude.{slice_get, slice_set}
use Rattle.std.specs.Str.{bytes_eq}
use Rattle.std.proofs.lemmas.List.{drop_all, drop_more, get_or_read}
use Rattle.std.proofs.lemmas.Bool.Decides.{nat_tests}
use Rattle.std.proofs.lemmas.Option.{slice_get-get_or, slice_get-map}
use Rattle.stark_language.specs.Expressions.{Name, Step}
use Rattle.stark_language.specs.Faults.{◌>>=◌, Fails, fault_at}
use Rattle.stark_language.specs.Nodes.{Entry, Writer, entry_next, entry_node, last_of, last_on, multiplied, name_node, next_node, next_value, node_of_number, one_more, placed_next, placed_node, place_of, pop_operand, popped, push_node, stepped, value_node, written}
use Rattle.stark_language.specs.declared.fault.Fault.{Fault}
use Rattle.stark_language.specs.declared.fault.FaultKind.TheVariants.{NoNextRow, OperandExpected, UnknownName}
use Rattle.stark_language.specs.declared.fault.LanguageError.{LanguageError}
use Rattle.stark_language.specs.declared.fault.LanguageError.TheVariants as errors
use Rattle.stark_language.specs.declared.writer.Node.TheVariants as node
use Rattle.stark_language.specs.declared.writer.Value.{Value}
use Rattle.stark_language.specs.declared.writer.Value.TheVariants.{At}
use Rattle.stark_language.specs.declared.writer.NumberEntry.{NumberEntry}

no_more : (o : Option ℕ) → option_map (λ n. n + 0) o ≡ o
no_more None = refl
no_more (Some n) = let same : n + 0 ≡ n = omega arith in ap Some same

more_by_one : (at : ℕ) (o : Option ℕ) → option_map (λ n. n + (at + 1)) o ≡ option_map (λ n. n + at) (one_more o)
more_by_one at None = refl
more_by_one at (Some n) = let same : n + (at + 1) ≡ (n + 1) + at = omega arith in ap Some same

-- an error of a step is one of all
fails_on : {A B : Type 0} (error : LanguageError) (read : Result A Fault) (rest : A → Result B Fault) → Fails error read → Fails error (read >>= rest)
fails_on errors.OutOfMemory read rest h = tt
fails_on (errors.Fault fault) (Ok x) rest h = absurd (cc)
fails_on (errors.Fault fault) (Err e) rest h = cc

module _ {A : Type 0} (view : A → Entry) (names : List A) (name : List ℕ) where
  pub place_begins : option_map (λ n. n + 0) (place_of name (map view (drop 0 names))) ≡ place_of name (map view names)
  place_begins = no_more (place_of name (map view names))

  pub place_here : (at : ℕ) (d : A) → at < length names → bytes_eq (view (get_or names at d)).name name ≡ true
      → option_map (λ n. n + at) (place_of name (map view (drop at names))) ≡ place_of name (map view names) → place_of name (map view names) ≡ Some at
  unfolding place_of
  place_here at d within found whole =
      let none : 0 + at ≡ at = omega arith in
      sym whole ∙ ap (λ es. option_map (λ n. n + at) (place_of name (map view es))) (drop_more names at d within)
      ∙ ap (λ b. option_map (λ n. n + at) (cond b (Some 0) (one_more (place_of name (map view (drop (at + 1) names)))))) found ∙ ap Some none

  pub place_later : (at : ℕ) (d : A) → at < length names → bytes_eq (view (get_or names at d)).name name ≡ false
      → option_map (λ n. n + at) (place_of name (map view (drop at names))) ≡ place_of name (map view names)
      → option_map (λ n. n + (at + 1)) (place_of name (map view (drop (at + 1) names))) ≡ place_of name (map view names)
  unfolding place_of
  place_later at d within other whole =
      more_by_one at (place_of name (map view (drop (at + 1) names)))
      ∙ ap (λ b. option_map (λ n. n + at) (cond b (Some 0) (one_more (place_of name (map view (drop (at + 1) names)))))) (sym other)
      ∙ ap (λ es. option_map (λ n. n + at) (place_of name (map view es))) (sym (drop_more names at d within)) ∙ whole

  pub place_nowhere : (at : ℕ) → length names ≤ at
      → option_map (λ n. n + at) (place_of name (map view (drop at names))) ≡ place_of name (map view names) → place_of name (map view names) ≡ None
  unfolding place_of
  place_nowhere at beyond whole = sym whole ∙ ap (λ es. option_map (λ n. n + at) (place_of name (map view es))) (drop_all at names beyond)

module _ (numbers : List NumberEntry) (value : ℕ) where
  pub number_here : (at : ℕ) (d : NumberEntry) → at < length numbers → (get_or numbers at d).value ≡ value
      → node_of_number value (drop at numbers) ≡ node_of_number value numbers → node_of_number value numbers ≡ Some (get_or numbers at d).node
  unfolding node_of_number
  number_here at d within same whole =
      let found : ((get_or numbers at d).value == value) ≡ true = grind (arith, nat_tests) in
      sym whole ∙ ap (node_of_number value) (drop_more numbers at d within) ∙ ap (λ b. cond b (Some (get_or numbers at d).node) (node_of_number value (drop (at + 1) numbers))) found

  pub number_later : (at : ℕ) (d : NumberEntry) → at < length numbers → ((get_or numbers at d).value ≡ value → ⊥)
      → node_of_number value (drop at numbers) ≡ node_of_number value numbers → node_of_number value (drop (at + 1) numbers) ≡ node_of_number value numbers
  unfolding node_of_number
  number_later at d within differs whole =
      let other : ((get_or numbers at d).value == value) ≡ false = grind (arith, nat_tests) in
      ap (λ b. cond b (Some (get_or numbers at d).node) (node_of_number value (drop (at + 1) numbers))) (sym other) ∙ ap (node_of_number value) (sym (drop_more numbers at d within)) ∙ whole

  pub number_nowhere : (at : ℕ) → length numbers ≤ at → node_of_number value (drop at numbers) ≡ node_of_number value numbers → node_of_number value numbers ≡ None
  unfolding node_of_number
  number_nowhere at beyond whole = sym whole ∙ ap (node_of_number value) (drop_all at numbers beyond)

-- the last of a list that ends so
last_is : (ns : List ℕ) (n : ℕ) → last_of (ns ++ n ∷ []) ≡ Some (n, ns)
unfolding last_of
last_is [] n = refl
last_is (m ∷ ns) n = ap (last_on m) (last_is ns n)

-- ---- operands

pub operand_popped : (w : Writer) (rest : List ℕ) (n : ℕ) → w.stack ≡ rest ++ n ∷ [] → pop_operand w ≡ Ok (n, record w { stack = rest })
unfolding pop_operand
operand_popped w rest n ends = ap (popped w) (ap last_of ends ∙ last_is rest n)

pub no_operand : (w : Writer) → length w.stack ≡ 0 → pop_operand w ≡ fault_at OperandExpected 0
unfolding pop_operand last_of
no_operand w none = ap (λ ns. popped w (last_of ns)) (nothing w.stack none)
  where
    nothing : (ns : List ℕ) → length ns ≡ 0 → ns ≡ []
    nothing [] h = refl
    nothing (n ∷ ns) h = absurd (omega arith)

-- ---- products

module _ (factor count step start : ℕ) (w : Writer) (all : Result (ℕ × Writer) Fault) where
  pub product_goes : (n : ℕ) (after : Writer) → step < count → push_node (node.Mul start factor) w ≡ Ok (n, after) → multiplied factor (count - step) start w ≡ all → multiplied factor (count - (step + 1)) n after ≡ all
  unfolding multiplied
  product_goes n after within pushed whole =
      let left : count - step ≡ suc (count - (step + 1)) = omega arith in
      ap (λ r. r >>= λ x. multiplied factor (count - (step + 1)) x.0 x.1) (sym pushed) ∙ ap (λ m. multiplied factor m start w) (sym left) ∙ whole

  pub product_ends : count ≤ step → multiplied factor (count - step) start w ≡ all → all ≡ Ok (start, w)
  unfolding multiplied
  product_ends beyond whole = let none : count - step ≡ 0 = omega arith in sym whole ∙ ap (λ m. multiplied factor m start w) none

-- ---- steps

module _ {A : Type 0} (view : A → Step) (modulus : ℕ) (steps : List A) (at : ℕ) (w : Writer) (all : Result (Unit {0} × Writer) Fault) where
  begun : (d : A) → at < length steps → written modulus (map view (drop at steps)) w ≡ (stepped modulus (view (get_or steps at d)) w >>= λ r. written modulus (map view (drop (at + 1) steps)) r.1)
  unfolding written
  begun d within = ap (λ ss. written modulus (map view ss) w) (drop_more steps at d within)

  pub step_goes : (d : A) (after : Writer) → at < length steps → stepped modulus (view (get_or steps at d)) w ≡ Ok (tt, after)
      → written modulus (map view (drop at steps)) w ≡ all → written modulus (map view (drop (at + 1) steps)) after ≡ all
  step_goes d after within done whole = ap (λ r. r >>= λ x. written modulus (map view (drop (at + 1) steps)) x.1) (sym done) ∙ sym (begun d within) ∙ whole

  pub step_fails : (d : A) (error : LanguageError) → at < length steps → Fails error (stepped modulus (view (get_or steps at d)) w) → written modulus (map view (drop at steps)) w ≡ all → Fails error all
  step_fails d error within h whole = subst (Fails error) (sym (begun d within) ∙ whole) (fails_on error (stepped modulus (view (get_or steps at d)) w) (λ r. written modulus (map view (drop (at + 1) steps)) r.1) h)

  pub steps_end : length steps ≤ at → written modulus (map view (drop at steps)) w ≡ all → all ≡ Ok (tt, w)
  unfolding written
  steps_end beyond whole = sym whole ∙ ap (λ ss. written modulus (map view ss) w) (drop_all at steps beyond)

-- the entry that is read at a place
pub entry_read : {A : Type 0} (view : A → Entry) (items : List A) (place : ℕ) (x : A) → place < length items → x ≡ get_or items place x → slice_get (map view items) place ≡ Some (view x)
entry_read view items place x within is = slice_get-map view items place ∙ ap (option_map view) (slice_get-get_or items place x within ∙ ap Some (sym is))

-- what is read at a place twice
pub read_twice : {A : Type 0} (items after : List A) (place : ℕ) (x y : A) → place < length items → x ≡ get_or items place x → y ≡ get_or after place y → after ≡ items → y ≡ x
read_twice items after place x y within first second same = second ∙ ap (λ xs. get_or xs place y) same ∙ sym (get_or_read items place x within first y)

-- ---- the nodes of names

module _ (n : Name) (w : Writer) where
  pub unknown_name : place_of n.text w.names ≡ None → name_node n w ≡ fault_at UnknownName n.at
  unfolding name_node
  unknown_name e = ap (placed_node n.at w) e

  pub unknown_next : place_of n.text w.names ≡ None → next_node n w ≡ fault_at UnknownName n.at
  unfolding next_node
  unknown_next e = ap (placed_next n.at w) e

  module _ (place : ℕ) (e : Entry) (placed : place_of n.text w.names ≡ Some place) (there : slice_get w.names place ≡ Some e) where
    found_node : name_node n w ≡ entry_node n.at place w (Some e)
    unfolding name_node
    found_node = ap (placed_node n.at w) placed ∙ ap (entry_node n.at place w) there

    found_next : next_node n w ≡ next_value n.at place w e e.next
    unfolding next_node
    found_next = ap (placed_next n.at w) placed ∙ ap (entry_next n.at place w) there

    pub name_written : (k : ℕ) (after : Writer) (names : List Entry) → value_node e.here w ≡ Ok (k, after) → slice_set after.names place (record e { here = At k }) ≡ names
        → name_node n w ≡ Ok (k, record after { names = names })
    name_written k after names h same =
        found_node ∙ ap (λ r. r >>= λ x. Ok (x.0, record x.1 { names = slice_set x.1.names place (record e { here = At x.0 }) })) h ∙ ap (λ es. Ok (k, record after { names = es })) same

    pub name_fails : (error : LanguageError) → Fails error (value_node e.here w) → Fails error (name_node n w)
    name_fails error h =
        subst (Fails error) (sym found_node) (fails_on error (value_node e.here w) (λ x. Ok (x.0, record x.1 { names = slice_set x.1.names place (record e { here = At x.0 }) })) h)

    pub no_next : e.next ≡ None → next_node n w ≡ fault_at NoNextRow n.at
    no_next none = found_next ∙ ap (next_value n.at place w e) none

    pub next_written : (value : Value) (k : ℕ) (after : Writer) (names : List Entry) → e.next ≡ Some value → value_node value w ≡ Ok (k, after) → slice_set after.names place (record e { next = Some (At k) }) ≡ names
        → next_node n w ≡ Ok (k, record after { names = names })
    next_written value k after names some h same =
        found_next ∙ ap (next_value n.at place w e) some
        ∙ ap (λ r. r >>= λ x. Ok (x.0, record x.1 { names = slice_set x.1.names place (record e { next = Some (At x.0) }) })) h ∙ ap (λ es. Ok (k, record after { names = es })) same

    pub next_fails : (value : Value) (error : LanguageError) → e.next ≡ Some value → Fails error (value_node value w) → Fails error (next_node n w)
    next_fails value error some h =
        subst (Fails error) (sym (found_next ∙ ap (next_value n.at place w e) some)) (fails_on error (value_node value w) (λ x. Ok (x.0, record x.1 { names = slice_set x.1.names place (record e { next = Some (At x.0) }) })) h)
