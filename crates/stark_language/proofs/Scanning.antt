-- How a text is passed, lexeme by lexeme.
use Rattle.std.proofs.Common.{◌≡◌, ℕ, zero, suc, ◌+◌, ◌-◌, ◌*◌, ◌<◌, ◌≤◌, Bool, true, false, cond, ◌==◌, List, [], ◌∷◌, ◌++◌, length, map, take, drop, get_or, Result, Ok, Err, refl, sym, ap, ◌∙◌, subst, arith, length-drop}
use Rattle.std.specs.List.{prefix_len}
use Rattle.std.proofs.lemmas.List.{append_assoc, append-nil, drop_all, drop_more, drop-drop, map-append, take_all}
use Rattle.std.proofs.lemmas.Bool.Decides.{nat_tests}
use Rattle.std.proofs.Math.Dec.{eqb-suc-suc}
use Rattle.stark_language.specs.Faults.{with_front}
use Rattle.stark_language.specs.declared.fault.Fault.{Fault}
use Rattle.stark_language.specs.declared.fault.FaultKind.{FaultKind}
use Rattle.stark_language.specs.Tokens.{Front, Lexeme, Token, depth_after, end, ended, front_of, is_dropped, is_last, lexeme_at, lexemes_from, lexemes_step, whole_after}

-- digits make a number no smaller
pub whole_after-ge : (n : ℕ) (digits : List ℕ) → n ≤ whole_after n digits
whole_after-ge n [] = omega arith
whole_after-ge n (digit ∷ digits) = omega (arith, whole_after-ge (10 * n + (digit - 48)) digits)

-- a run has a byte if the first of a text belongs to its class
pub run_begins : (p : ℕ → Bool) (text : List ℕ) → 0 < length text → p (get_or text 0 0) ≡ true → 0 < prefix_len p text
run_begins p [] h begins = absurd (omega arith)
run_begins p (byte ∷ bytes) h begins = subst (λ b. 0 < cond b (1 + prefix_len p bytes) 0) (sym begins) (omega arith)

-- what begins with the front of a list begins with the front's front
pub with_front-append : {A E : Type 0} (xs ys : List A) (read : Result (List A) E) → with_front (xs ++ ys) read ≡ with_front xs (with_front ys read)
with_front-append xs ys (Ok zs) = ap Ok (append_assoc xs ys zs)
with_front-append xs ys (Err e) = refl

-- the bytes of what has begun are passed
pub lexemes_pass : (left at : ℕ) (bytes : List ℕ) → left ≤ length bytes → lexemes_from left at bytes ≡ lexemes_from 0 (at + left) (drop left bytes)
unfolding lexemes_from
lexemes_pass zero at bytes h = let same : at ≡ at + 0 = omega arith in ap (λ n. lexemes_from 0 n bytes) same
lexemes_pass (suc left) at [] h = absurd (omega arith)
lexemes_pass (suc left) at (byte ∷ bytes) h =
    let on : (at + 1) + left ≡ at + suc left = omega arith in
    lexemes_pass left (at + 1) bytes (omega arith) ∙ ap (λ n. lexemes_from 0 n (drop left bytes)) on

-- what the front of a text is begins its lexemes
lexemes_begin : (at : ℕ) (bytes : List ℕ) (front : Front) → front_of bytes ≡ Ok front → 0 < front.length → front.length ≤ length bytes
    → lexemes_from 0 at bytes ≡ with_front (lexeme_at at front.token) (lexemes_from 0 (at + front.length) (drop front.length bytes))
unfolding lexemes_from
lexemes_begin at [] front e some within = absurd (omega arith)
lexemes_begin at (byte ∷ bytes) front e some within =
    let on : front.length ≡ suc (front.length - 1) = omega arith in
    let there : (at + 1) + (front.length - 1) ≡ at + front.length = omega arith in
    let left : drop (front.length - 1) bytes ≡ drop front.length (byte ∷ bytes) = ap (λ n. drop n (byte ∷ bytes)) (sym on) in
    ap (λ read. lexemes_step 0 at read (λ more. lexemes_from more (at + 1) bytes)) e
    ∙ ap (with_front (lexeme_at at front.token)) (lexemes_pass (front.length - 1) (at + 1) bytes (omega arith)
    ∙ ap (λ n. lexemes_from 0 n (drop (front.length - 1) bytes)) there ∙ ap (lexemes_from 0 (at + front.length)) left)

-- a step of the scanner: the lexemes so far and those of what is left are those of the text
pub lexemes_turn : (text : List ℕ) (all : Result (List Lexeme) Fault) (so_far : List Lexeme) (at : ℕ) (front : Front) → front_of (drop at text) ≡ Ok front → 0 < front.length → front.length ≤ length (drop at text)
    → with_front so_far (lexemes_from 0 at (drop at text)) ≡ all → with_front (so_far ++ lexeme_at at front.token) (lexemes_from 0 (at + front.length) (drop (at + front.length) text)) ≡ all
lexemes_turn text all so_far at front e some within whole =
    with_front-append so_far (lexeme_at at front.token) _
    ∙ ap (with_front so_far) (ap (λ rest. with_front (lexeme_at at front.token) (lexemes_from 0 (at + front.length) rest)) (sym (drop-drop front.length at text))
    ∙ sym (lexemes_begin at (drop at text) front e some within))
    ∙ whole

-- a fault at a place is the text's
pub lexemes_fault : (at : ℕ) (bytes : List ℕ) (kind : FaultKind) → 0 < length bytes → front_of bytes ≡ Err kind → lexemes_from 0 at bytes ≡ Err (record { kind = kind; at = at })
unfolding lexemes_from
lexemes_fault at [] kind h e = absurd (omega arith)
lexemes_fault at (byte ∷ bytes) kind h e = ap (λ read. lexemes_step 0 at read (λ more. lexemes_from more (at + 1) bytes)) e

-- a text ends as a line does
pub lexemes_end : (at : ℕ) (bytes : List ℕ) → length bytes ≤ 0 → lexemes_from 0 at bytes ≡ Ok (record { token = end; at = at } ∷ [])
unfolding lexemes_from
lexemes_end at [] h = refl
lexemes_end at (byte ∷ bytes) h = absurd (omega arith)

-- ---- ends of lines

-- a list from a place on
pub rest_is : {A : Type 0} (text : List A) (at : ℕ) → take (length text - at) (drop at text) ≡ drop at text
rest_is text at = take_all (length text - at) (drop at text) (omega (arith, length-drop at text))

-- whether a lexeme is the last
pub last_at : {A : Type 0} (view : A → Lexeme) (xs : List A) (i : ℕ) → i < length xs → is_last (map view (drop (i + 1) xs)) ≡ (i + 1 == length xs)
last_at view [] i h = absurd (omega arith)
last_at view (x ∷ []) zero h = refl
last_at view (x ∷ []) (suc i) h = absurd (omega arith)
last_at view (x ∷ y ∷ xs) zero h = let other : (1 == suc (suc (length xs))) ≡ false = grind (arith, nat_tests) in sym other
last_at view (x ∷ y ∷ xs) (suc i) h =
    let on : suc i + 1 ≡ suc (i + 1) = omega arith in
    rw on (last_at view (y ∷ xs) i (omega arith) ∙ sym (eqb-suc-suc (i + 1) (suc (length xs))))

-- a step over the lexemes: those that are kept so far and of what is left are those of all
pub ended_turn : {A : Type 0} (view : A → Lexeme) (xs : List A) (i : ℕ) (d : A) (depth : ℕ) (before : Token) (dropped : Bool) → i < length xs
    → dropped ≡ is_dropped (view (get_or xs i d)).token depth before (i + 1 == length xs)
    → ended depth before (map view (drop i xs))
    ≡ cond dropped (ended depth before (map view (drop (i + 1) xs)))
    (view (get_or xs i d) ∷ ended (depth_after depth (view (get_or xs i d)).token) (view (get_or xs i d)).token (map view (drop (i + 1) xs)))
unfolding ended
ended_turn view xs i d depth before dropped h e =
    ap (λ ys. ended depth before (map view ys)) (drop_more xs i d h)
    ∙ ap (λ b. cond b (ended depth before (map view (drop (i + 1) xs)))
    (view (get_or xs i d) ∷ ended (depth_after depth (view (get_or xs i d)).token) (view (get_or xs i d)).token (map view (drop (i + 1) xs))))
    (ap (is_dropped (view (get_or xs i d)).token depth before) (last_at view xs i h) ∙ sym e)

-- one more is kept
pub one_kept : {A : Type 0} (view : A → Lexeme) (kept more : List A) (x : A) (left rest all : List Lexeme) → more ≡ kept ++ x ∷ [] → left ≡ view x ∷ rest → map view kept ++ left ≡ all → map view more ++ rest ≡ all
one_kept view kept more x left rest all is begins whole =
    ap (λ ys. map view ys ++ rest) is ∙ ap (λ ys. ys ++ rest) (map-append view kept (x ∷ [])) ∙ append_assoc (map view kept) (view x ∷ []) rest ∙ ap (λ ys. map view kept ++ ys) (sym begins) ∙ whole

-- nothing is left
pub all_kept : {A : Type 0} (view : A → Lexeme) (xs : List A) (i depth : ℕ) (before : Token) (kept all : List Lexeme) → length xs ≤ i → kept ++ ended depth before (map view (drop i xs)) ≡ all → all ≡ kept
unfolding ended
all_kept view xs i depth before kept all h whole =
    sym whole ∙ ap (λ ys. kept ++ ended depth before (map view ys)) (drop_all i xs h) ∙ append-nil kept
