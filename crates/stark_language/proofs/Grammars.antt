-- What the reading of an expression makes of the tokens that spell a tree.
use Rattle.std.proofs.Common.{◌≡◌, ℕ, ◌<◌, ◌≤◌, Bool, true, false, cond, List, [], ◌∷◌, ◌++◌, Option, Some, None, Result, Ok, Err, refl, sym, ap, ◌∙◌, subst, arith}
use Rattle.std.proofs.lemmas.List.{append_assoc, append-nil}
use Rattle.stark_language.specs.declared.expression.Mode.{Mode}
use Rattle.stark_language.specs.declared.expression.Mode.TheVariants.{Operand, Atom, Exponent, Factor}
use Rattle.stark_language.specs.declared.expression.Pending.{Pending}
use Rattle.stark_language.specs.declared.expression.Sign.{Sign}
use Rattle.stark_language.specs.declared.expression.Sign.TheVariants as sign
use Rattle.stark_language.specs.declared.expression.State.{State}
use Rattle.stark_language.specs.declared.fault.Fault.{Fault}
use Rattle.stark_language.specs.declared.fault.FaultKind.TheVariants.{OperandExpected}
use Rattle.stark_language.specs.declared.token.Symbol.TheVariants.{Comma, Colon, Equals, Plus, Minus, Times, Power, To, OpenParenthesis, CloseParenthesis, OpenBracket, CloseBracket}
use Rattle.stark_language.specs.Expressions.{Name, Step, Turn, add, after_product, after_sign, after_sum, closed, exponent_turn, expression_at, multiply, negate, no_pending, operand_turn, operator_turn, goes, push_if, raise, read_from, read_on, subtract, turn}
use Rattle.stark_language.specs.Faults.{ahead}
use Rattle.stark_language.specs.Grammar.{EachIsRead, IsAfterExpression, IsExpression, Tree, brackets, difference, following, level, named, opposite, power, product, sign_at, spelled, steps_of, sum, whole}
use Rattle.stark_language.specs.Tokens.{Lexeme, Token, end, name, next, number, symbol}
use Rattle.stark_language.proofs.Many.{ahead-append, ahead-nil}

-- what a function reads
abbrev Read : Type 0
Read = Result (List Step × List Lexeme) Fault

-- after an operand: whether a power may follow
abbrev after_operand : Bool → Mode
after_operand true = Atom
after_operand false = Factor

abbrev operand_in : Pending → State
operand_in p = record { mode = Operand; pending = p }

abbrev reached_in : Bool → Pending → State
reached_in b p = record { mode = after_operand b; pending = p }

-- the operations that wait for what comes after a factor of a product, after a term of a sum
abbrev in_product : Pending → Pending
in_product p = record { sum = p.sum; product = true; negated = false }

abbrev in_sum : Pending
in_sum = record { sum = Some sign.Plus; product = false; negated = false }

abbrev in_difference : Pending
in_difference = record { sum = Some sign.Minus; product = false; negated = false }

-- whether a power may follow a tree
may_raise : Tree → Bool
may_raise (whole value at) = true
may_raise (named n) = true
may_raise (following n) = true
may_raise (brackets opened t closing) = true
may_raise (power t at exponent place) = false
may_raise (opposite at t) = may_raise t
may_raise (product a at b) = may_raise b
may_raise (sum a at b) = may_raise b
may_raise (difference a at b) = may_raise b

-- the operations that wait after a tree
reached : Tree → Pending → Pending
reached (whole value at) p = p
reached (named n) p = p
reached (following n) p = p
reached (brackets opened t closing) p = p
reached (power t at exponent place) p = p
reached (opposite at t) p = record { sum = p.sum; product = p.product; negated = true }
reached (product a at b) p = reached b (in_product p)
reached (sum a at b) p = reached b in_sum
reached (difference a at b) p = reached b in_difference

-- the steps that a tree has brought then
brought : Tree → Pending → List Step
unfolding reached
brought (whole value at) p = steps_of (whole value at)
brought (named n) p = steps_of (named n)
brought (following n) p = steps_of (following n)
brought (brackets opened t closing) p = steps_of t
brought (power t at exponent place) p = steps_of t ++ raise exponent place ∷ []
brought (opposite at t) p = steps_of t
brought (product a at b) p = (brought a p ++ after_product (reached a p)) ++ brought b (in_product p)
brought (sum a at b) p = (brought a p ++ after_sum (reached a p)) ++ brought b in_sum
brought (difference a at b) p = (brought a p ++ after_sum (reached a p)) ++ brought b in_difference

-- ---- what is brought and what still waits are the steps

-- a power or a single operand leaves what waits as it is
tight_reached : (t : Tree) (p : Pending) → 3 ≤ level t → reached t p ≡ p
unfolding level reached
tight_reached (whole value at) p h = refl
tight_reached (named n) p h = refl
tight_reached (following n) p h = refl
tight_reached (brackets opened t closing) p h = refl
tight_reached (power t at exponent place) p h = refl
tight_reached (opposite at t) p h = absurd (omega arith)
tight_reached (product a at b) p h = absurd (omega arith)
tight_reached (sum a at b) p h = absurd (omega arith)
tight_reached (difference a at b) p h = absurd (omega arith)

tight_brought : (t : Tree) (p : Pending) → 3 ≤ level t → brought t p ≡ steps_of t
unfolding level brought steps_of
tight_brought (whole value at) p h = refl
tight_brought (named n) p h = refl
tight_brought (following n) p h = refl
tight_brought (brackets opened t closing) p h = refl
tight_brought (power t at exponent place) p h = refl
tight_brought (opposite at t) p h = absurd (omega arith)
tight_brought (product a at b) p h = absurd (omega arith)
tight_brought (sum a at b) p h = absurd (omega arith)
tight_brought (difference a at b) p h = absurd (omega arith)

atom_raises : (t : Tree) → 4 ≤ level t → may_raise t ≡ true
unfolding level may_raise
atom_raises (whole value at) h = refl
atom_raises (named n) h = refl
atom_raises (following n) h = refl
atom_raises (brackets opened t closing) h = refl
atom_raises (power t at exponent place) h = absurd (omega arith)
atom_raises (opposite at t) h = absurd (omega arith)
atom_raises (product a at b) h = absurd (omega arith)
atom_raises (sum a at b) h = absurd (omega arith)
atom_raises (difference a at b) h = absurd (omega arith)

-- what waits for a factor
abbrev waiting : Option Sign → Bool → Pending
waiting s b = record { sum = s; product = b; negated = false }

factor_closes : (t : Tree) (s : Option Sign) (b : Bool) → 2 ≤ level t → brought t (waiting s b) ++ after_product (reached t (waiting s b)) ≡ steps_of t ++ push_if b multiply
unfolding level brought reached steps_of
factor_closes (whole value at) s b h = refl
factor_closes (named n) s b h = refl
factor_closes (following n) s b h = refl
factor_closes (brackets opened t closing) s b h = refl
factor_closes (power t at exponent place) s b h = refl
factor_closes (opposite at t) s b h = sym (append_assoc (steps_of t) (negate ∷ []) (push_if b multiply))
factor_closes (product a at c) s b h = absurd (omega arith)
factor_closes (sum a at c) s b h = absurd (omega arith)
factor_closes (difference a at c) s b h = absurd (omega arith)

factor_sum : (t : Tree) (s : Option Sign) (b : Bool) → 2 ≤ level t → (reached t (waiting s b)).sum ≡ s
unfolding level reached
factor_sum (whole value at) s b h = refl
factor_sum (named n) s b h = refl
factor_sum (following n) s b h = refl
factor_sum (brackets opened t closing) s b h = refl
factor_sum (power t at exponent place) s b h = refl
factor_sum (opposite at t) s b h = refl
factor_sum (product a at c) s b h = absurd (omega arith)
factor_sum (sum a at c) s b h = absurd (omega arith)
factor_sum (difference a at c) s b h = absurd (omega arith)

term_of_factor : (t : Tree) (s : Option Sign) → 2 ≤ level t → brought t (waiting s false) ++ after_product (reached t (waiting s false)) ≡ steps_of t
term_of_factor t s h = factor_closes t s false h ∙ append-nil (steps_of t)

-- a product, its factors and what multiplies them
joined : (xs ys zs ws vs us : List Step) → xs ≡ ws → ys ++ zs ≡ vs ++ us → (xs ++ ys) ++ zs ≡ (ws ++ vs) ++ us
joined xs ys zs ws vs us first rest = append_assoc xs ys zs ∙ ap (λ front. front ++ (ys ++ zs)) first ∙ ap (λ back. ws ++ back) rest ∙ sym (append_assoc ws vs us)

term_closes : (t : Tree) (s : Option Sign) → IsExpression t → 1 ≤ level t → brought t (waiting s false) ++ after_product (reached t (waiting s false)) ≡ steps_of t
unfolding level brought reached steps_of IsExpression
term_closes (whole value at) s e h = term_of_factor (whole value at) s (omega arith)
term_closes (named n) s e h = term_of_factor (named n) s (omega arith)
term_closes (following n) s e h = term_of_factor (following n) s (omega arith)
term_closes (brackets opened t closing) s e h = term_of_factor (brackets opened t closing) s (omega arith)
term_closes (power t at exponent place) s e h = term_of_factor (power t at exponent place) s (omega arith)
term_closes (opposite at t) s e h = term_of_factor (opposite at t) s (omega arith)
term_closes (product a at b) s e h =
    joined (brought a (waiting s false) ++ after_product (reached a (waiting s false))) (brought b (waiting s true)) (after_product (reached b (waiting s true))) (steps_of a) (steps_of b) (multiply ∷ [])
    (term_closes a s e.0 e.1) (factor_closes b s true e.3)
term_closes (sum a at b) s e h = absurd (omega arith)
term_closes (difference a at b) s e h = absurd (omega arith)

term_sum : (t : Tree) (s : Option Sign) → IsExpression t → 1 ≤ level t → (reached t (waiting s false)).sum ≡ s
unfolding level reached IsExpression
term_sum (whole value at) s e h = refl
term_sum (named n) s e h = refl
term_sum (following n) s e h = refl
term_sum (brackets opened t closing) s e h = refl
term_sum (power t at exponent place) s e h = refl
term_sum (opposite at t) s e h = refl
term_sum (product a at b) s e h = factor_sum b s true e.3
term_sum (sum a at b) s e h = absurd (omega arith)
term_sum (difference a at b) s e h = absurd (omega arith)

term_ends : (t : Tree) (s : Option Sign) → IsExpression t → 1 ≤ level t → brought t (waiting s false) ++ after_sum (reached t (waiting s false)) ≡ steps_of t ++ after_sign s
term_ends t s e h =
    sym (append_assoc (brought t (waiting s false)) (after_product (reached t (waiting s false))) (after_sign (reached t (waiting s false)).sum))
    ∙ ap (λ front. front ++ after_sign (reached t (waiting s false)).sum) (term_closes t s e h) ∙ ap (λ o. steps_of t ++ after_sign o) (term_sum t s e h)

whole_of_term : (t : Tree) → IsExpression t → 1 ≤ level t → brought t no_pending ++ after_sum (reached t no_pending) ≡ steps_of t
whole_of_term t e h = term_ends t None e h ∙ append-nil (steps_of t)

whole_closes : (t : Tree) → IsExpression t → brought t no_pending ++ after_sum (reached t no_pending) ≡ steps_of t
unfolding level brought reached steps_of IsExpression
whole_closes (whole value at) e = whole_of_term (whole value at) e (omega arith)
whole_closes (named n) e = whole_of_term (named n) e (omega arith)
whole_closes (following n) e = whole_of_term (following n) e (omega arith)
whole_closes (brackets opened t closing) e = whole_of_term (brackets opened t closing) e (omega arith)
whole_closes (power t at exponent place) e = whole_of_term (power t at exponent place) e (omega arith)
whole_closes (opposite at t) e = whole_of_term (opposite at t) e (omega arith)
whole_closes (product a at b) e = whole_of_term (product a at b) e (omega arith)
whole_closes (sum a at b) e =
    joined (brought a no_pending ++ after_sum (reached a no_pending)) (brought b in_sum) (after_sum (reached b in_sum)) (steps_of a) (steps_of b) (add ∷ []) (whole_closes a e.0) (term_ends b (Some sign.Plus) e.1 e.2)
whole_closes (difference a at b) e =
    joined (brought a no_pending ++ after_sum (reached a no_pending)) (brought b in_difference) (after_sum (reached b in_difference)) (steps_of a) (steps_of b) (subtract ∷ []) (whole_closes a e.0) (term_ends b (Some sign.Minus) e.1 e.2)

-- ---- the turns

turn_times : (b : Bool) (p : Pending) (outer : List Pending) (at : ℕ) (ls : List Lexeme) → read_from (reached_in b p) outer (sign_at Times at ∷ ls) ≡ ahead (after_product p) (read_from (operand_in (in_product p)) outer ls)
unfolding read_from turn operator_turn
turn_times true p outer at ls = refl
turn_times false p outer at ls = refl

turn_plus : (b : Bool) (p : Pending) (outer : List Pending) (at : ℕ) (ls : List Lexeme) → read_from (reached_in b p) outer (sign_at Plus at ∷ ls) ≡ ahead (after_sum p) (read_from (operand_in in_sum) outer ls)
unfolding read_from turn operator_turn
turn_plus true p outer at ls = refl
turn_plus false p outer at ls = refl

turn_minus : (b : Bool) (p : Pending) (outer : List Pending) (at : ℕ) (ls : List Lexeme) → read_from (reached_in b p) outer (sign_at Minus at ∷ ls) ≡ ahead (after_sum p) (read_from (operand_in in_difference) outer ls)
unfolding read_from turn operator_turn
turn_minus true p outer at ls = refl
turn_minus false p outer at ls = refl

turn_close : (b : Bool) (p q : Pending) (outer : List Pending) (at : ℕ) (ls : List Lexeme) → read_from (reached_in b p) (q ∷ outer) (sign_at CloseParenthesis at ∷ ls) ≡ ahead (after_sum p) (read_from (reached_in true q) outer ls)
unfolding read_from turn operator_turn closed
turn_close true p q outer at ls = refl
turn_close false p q outer at ls = refl

turn_open : (p : Pending) (outer : List Pending) (at : ℕ) (ls : List Lexeme) → read_from (operand_in p) outer (sign_at OpenParenthesis at ∷ ls) ≡ ahead [] (read_from (operand_in no_pending) (p ∷ outer) ls)
unfolding read_from turn operand_turn
turn_open p outer at ls = refl

turn_opposite : (p : Pending) (outer : List Pending) (at : ℕ) (ls : List Lexeme) → p.negated ≡ false → read_from (operand_in p) outer (sign_at Minus at ∷ ls) ≡ ahead [] (read_from (operand_in (record p { negated = true })) outer ls)
unfolding read_from turn operand_turn
turn_opposite p outer at ls h =
    ap (λ b. read_on (cond b (Err (record { kind = OperandExpected; at = at })) (Ok (goes [] (operand_in (record p { negated = true })) outer))) (sign_at Minus at ∷ ls) (λ state open_brackets. read_from state open_brackets ls)) h

turn_power : (p : Pending) (outer : List Pending) (at exponent place : ℕ) (ls : List Lexeme)
    → read_from (reached_in true p) outer (sign_at Power at ∷ record { token = number exponent; at = place } ∷ ls) ≡ ahead [] (ahead (raise exponent place ∷ []) (read_from (reached_in false p) outer ls))
unfolding read_from turn exponent_turn
turn_power p outer at exponent place ls = refl

turn_stop : (b : Bool) (p : Pending) (t : Token) (at : ℕ) (ls : List Lexeme) → IsAfterExpression t → read_from (reached_in b p) [] (record { token = t; at = at } ∷ ls) ≡ Ok (after_sum p, record { token = t; at = at } ∷ ls)
unfolding read_from turn operator_turn closed
turn_stop true p (name text) at ls h = refl
turn_stop true p (next text) at ls h = refl
turn_stop true p (number n) at ls h = refl
turn_stop true p end at ls h = refl
turn_stop true p (symbol Comma) at ls h = refl
turn_stop true p (symbol Colon) at ls h = refl
turn_stop true p (symbol Equals) at ls h = refl
turn_stop true p (symbol Plus) at ls h = absurd h
turn_stop true p (symbol Minus) at ls h = absurd h
turn_stop true p (symbol Times) at ls h = absurd h
turn_stop true p (symbol Power) at ls h = absurd h
turn_stop true p (symbol To) at ls h = refl
turn_stop true p (symbol OpenParenthesis) at ls h = refl
turn_stop true p (symbol CloseParenthesis) at ls h = refl
turn_stop true p (symbol OpenBracket) at ls h = refl
turn_stop true p (symbol CloseBracket) at ls h = refl
turn_stop false p (name text) at ls h = refl
turn_stop false p (next text) at ls h = refl
turn_stop false p (number n) at ls h = refl
turn_stop false p end at ls h = refl
turn_stop false p (symbol Comma) at ls h = refl
turn_stop false p (symbol Colon) at ls h = refl
turn_stop false p (symbol Equals) at ls h = refl
turn_stop false p (symbol Plus) at ls h = absurd h
turn_stop false p (symbol Minus) at ls h = absurd h
turn_stop false p (symbol Times) at ls h = absurd h
turn_stop false p (symbol Power) at ls h = absurd h
turn_stop false p (symbol To) at ls h = refl
turn_stop false p (symbol OpenParenthesis) at ls h = refl
turn_stop false p (symbol CloseParenthesis) at ls h = refl
turn_stop false p (symbol OpenBracket) at ls h = refl
turn_stop false p (symbol CloseBracket) at ls h = refl

-- ---- a whole tree

three : (xs ys zs : List Step) (read : Read) → ahead xs (ahead ys (ahead zs read)) ≡ ahead ((xs ++ ys) ++ zs) read
three xs ys zs read = sym (ahead-append (xs ++ ys) zs read ∙ ahead-append xs ys (ahead zs read))

-- where neither an opposite nor a product waits
settled : (p : Pending) → p.negated ≡ false → p.product ≡ false → p ≡ waiting p.sum false
settled p n m = ap (λ b. record { sum = p.sum; product = b; negated = p.negated }) m ∙ ap (λ b. record { sum = p.sum; product = false; negated = b }) n

-- Nothing waits that a tree of this level would take as its own.
record Leaves (t : Tree) (p : Pending) : Type 0 where
  negated : level t ≤ 2 → p.negated ≡ false
  product : level t ≤ 1 → p.product ≡ false

nothing_waits : (t : Tree) → Leaves t no_pending
nothing_waits t = record { negated = λ h. refl; product = λ h. refl }

reads : (t : Tree) → IsExpression t → (p : Pending) → Leaves t p → (outer : List Pending) (ls : List Lexeme) → read_from (operand_in p) outer (spelled t ++ ls) ≡ ahead (brought t p) (read_from (reached_in (may_raise t) (reached t p)) outer ls)
unfolding level brought reached may_raise steps_of spelled IsExpression read_from turn operand_turn
reads (whole value at) e p w outer ls = refl
reads (named n) e p w outer ls = refl
reads (following n) e p w outer ls = refl
reads (brackets opened t closing) e p w outer ls =
    let close = sign_at CloseParenthesis closing in
    ap (read_from (operand_in p) outer) (ap (λ xs. sign_at OpenParenthesis opened ∷ xs) (append_assoc (spelled t) (close ∷ []) ls))
    ∙ turn_open p outer opened (spelled t ++ close ∷ ls) ∙ ahead-nil _ ∙ reads t e no_pending (nothing_waits t) (p ∷ outer) (close ∷ ls)
    ∙ ap (ahead (brought t no_pending)) (turn_close (may_raise t) (reached t no_pending) p outer closing ls)
    ∙ sym (ahead-append (brought t no_pending) (after_sum (reached t no_pending)) (read_from (reached_in true p) outer ls))
    ∙ ap (λ steps. ahead steps (read_from (reached_in true p) outer ls)) (whole_closes t e)
reads (power t at exponent place) e p w outer ls =
    let rest = sign_at Power at ∷ record { token = number exponent; at = place } ∷ ls in
    let tight : 3 ≤ level t = omega (arith, e.1) in
    ap (read_from (operand_in p) outer) (append_assoc (spelled t) (sign_at Power at ∷ record { token = number exponent; at = place } ∷ []) ls)
    ∙ reads t e.0 p (record { negated = λ h. absurd (omega (arith, e.1)); product = λ h. absurd (omega (arith, e.1)) }) outer rest
    ∙ ap (λ steps. ahead steps (read_from (reached_in (may_raise t) (reached t p)) outer rest)) (tight_brought t p tight)
    ∙ ap (λ q. ahead (steps_of t) (read_from (reached_in (may_raise t) q) outer rest)) (tight_reached t p tight)
    ∙ ap (λ b. ahead (steps_of t) (read_from (reached_in b p) outer rest)) (atom_raises t e.1)
    ∙ ap (ahead (steps_of t)) (turn_power p outer at exponent place ls ∙ ahead-nil _)
    ∙ sym (ahead-append (steps_of t) (raise exponent place ∷ []) (read_from (reached_in false p) outer ls))
reads (opposite at t) e p w outer ls =
    let q = record p { negated = true } in
    turn_opposite p outer at (spelled t ++ ls) (w.negated (omega arith)) ∙ ahead-nil _
    ∙ reads t e.0 q (record { negated = λ h. absurd (omega (arith, e.1)); product = λ h. absurd (omega (arith, e.1)) }) outer ls
    ∙ ap (λ steps. ahead steps (read_from (reached_in (may_raise t) (reached t q)) outer ls)) (tight_brought t q e.1)
    ∙ ap (λ r. ahead (steps_of t) (read_from (reached_in (may_raise t) r) outer ls)) (tight_reached t q e.1)
reads (product a at b) e p w outer ls =
    ap (read_from (operand_in p) outer) (append_assoc (spelled a) (sign_at Times at ∷ spelled b) ls)
    ∙ reads a e.0 p (record { negated = λ h. w.negated (omega arith); product = λ h. w.product (omega arith) }) outer (sign_at Times at ∷ (spelled b ++ ls))
    ∙ ap (ahead (brought a p)) (turn_times (may_raise a) (reached a p) outer at (spelled b ++ ls)
    ∙ ap (λ s. ahead (after_product (reached a p)) (read_from (operand_in (waiting s true)) outer (spelled b ++ ls))) (ap (λ q. (reached a q).sum) (settled p (w.negated (omega arith)) (w.product (omega arith))) ∙ term_sum a p.sum e.0 e.1)
    ∙ ap (ahead (after_product (reached a p))) (reads b e.2 (in_product p) (record { negated = λ h. refl; product = λ h. absurd (omega (arith, e.3)) }) outer ls))
    ∙ three (brought a p) (after_product (reached a p)) (brought b (in_product p)) (read_from (reached_in (may_raise b) (reached b (in_product p))) outer ls)
reads (sum a at b) e p w outer ls =
    ap (read_from (operand_in p) outer) (append_assoc (spelled a) (sign_at Plus at ∷ spelled b) ls)
    ∙ reads a e.0 p (record { negated = λ h. w.negated (omega arith); product = λ h. w.product (omega arith) }) outer (sign_at Plus at ∷ (spelled b ++ ls))
    ∙ ap (ahead (brought a p)) (turn_plus (may_raise a) (reached a p) outer at (spelled b ++ ls)
    ∙ ap (ahead (after_sum (reached a p))) (reads b e.1 in_sum (record { negated = λ h. refl; product = λ h. refl }) outer ls))
    ∙ three (brought a p) (after_sum (reached a p)) (brought b in_sum) (read_from (reached_in (may_raise b) (reached b in_sum)) outer ls)
reads (difference a at b) e p w outer ls =
    ap (read_from (operand_in p) outer) (append_assoc (spelled a) (sign_at Minus at ∷ spelled b) ls)
    ∙ reads a e.0 p (record { negated = λ h. w.negated (omega arith); product = λ h. w.product (omega arith) }) outer (sign_at Minus at ∷ (spelled b ++ ls))
    ∙ ap (ahead (brought a p)) (turn_minus (may_raise a) (reached a p) outer at (spelled b ++ ls)
    ∙ ap (ahead (after_sum (reached a p))) (reads b e.1 in_difference (record { negated = λ h. refl; product = λ h. refl }) outer ls))
    ∙ three (brought a p) (after_sum (reached a p)) (brought b in_difference) (read_from (reached_in (may_raise b) (reached b in_difference)) outer ls)

pub each_is_read : EachIsRead
each_is_read t e l ls after =
    reads t e no_pending (nothing_waits t) [] (l ∷ ls)
    ∙ ap (ahead (brought t no_pending)) (turn_stop (may_raise t) (reached t no_pending) l.token l.at ls after)
    ∙ ap (λ steps. Ok (steps, l ∷ ls)) (whole_closes t e)
