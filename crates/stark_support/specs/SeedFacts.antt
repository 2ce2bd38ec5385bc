-- A seed is that of one shape alone.
use Rattle.std.specs.Prelude.{◌≡◌, ℕ, suc, zero, ◌+◌, ◌<◌, ◌≤◌, ◌^◌, Bool, true, false, cond, eqb, ltb, List, [], ◌∷◌, ◌++◌, length, get_or, take, drop, map, codes, refl}
use Rattle.std.proofs.Common.{◌∙◌, sym, ap, subst, arith, lit<, append_assoc}
use Rattle.std.specs.Int.{w64, from_be_bytes}
use Rattle.std.proofs.lemmas.Nat.{from_be_bytes-to_be_bytes_8}
use Rattle.std.proofs.lemmas.Bool.{lt-ltb}
use Rattle.std.proofs.Math.Seq.{drop-append_seam, take-append_seam}
use Rattle.stark_support.specs.declared.pattern.Hierarchy.TheVariants.{Begin, End}
use Rattle.stark_support.specs.declared.pattern.Kind.{Kind}
use Rattle.stark_support.specs.declared.pattern.Kind.TheVariants.{Message, Public, Challenge, Pow, Protocol}
use Rattle.stark_support.specs.declared.pattern.Length.{Length}
use Rattle.stark_support.specs.declared.pattern.Length.TheVariants.{Scalar, Fixed, Nothing}
use Rattle.stark_support.specs.Seed.{Step, number, hierarchy_byte, kind_byte, length_tag, length_number, message, elements, marker, step_bytes, steps_bytes, items_bytes, seed_of, ShapeNumbers, IsBounded, flag, step_if, shape_steps, shape_items, shape_seed, steps_from_alpha, plain_seed}

-- ---- numbers

pub length-number : (n : ℕ) → length (number n) ≡ 8
unfolding number
length-number n = refl

pub same_number : (n m : ℕ) → n < 2 ^ 64 → m < 2 ^ 64 → number n ≡ number m → n ≡ m
unfolding number
same_number n m h k e = sym (from_be_bytes-to_be_bytes_8 n h) ∙ ap (from_be_bytes w64) e ∙ from_be_bytes-to_be_bytes_8 m k

split : (a b x y : List ℕ) → length a ≡ length b → a ++ x ≡ b ++ y → (a ≡ b) × (x ≡ y)
split a b x y l e = (
  sym (take-append_seam a x) ∙ ap (take (length a)) e ∙ ap (λ k. take k (b ++ y)) l ∙ take-append_seam b y,
  sym (drop-append_seam a x) ∙ ap (drop (length a)) e ∙ ap (λ k. drop k (b ++ y)) l ∙ drop-append_seam b y,
)

pub split_number : (n m : ℕ) (x y : List ℕ) → number n ++ x ≡ number m ++ y → (number n ≡ number m) × (x ≡ y)
split_number n m x y e = split (number n) (number m) x y (length-number n ∙ sym (length-number m)) e

pub read_number : (n m : ℕ) (x y : List ℕ) → n < 2 ^ 64 → m < 2 ^ 64 → number n ++ x ≡ number m ++ y → (n ≡ m) × (x ≡ y)
read_number n m x y h k e = let s = split_number n m x y e in (same_number n m h k s.0, s.1)

-- ---- bytes that are put together in turn

pub step_joined : (start n label m d : List ℕ) (h k t : ℕ) →
    ((((((start ++ h ∷ []) ++ k ∷ []) ++ n) ++ label) ++ t ∷ []) ++ m) ++ d ≡ start ++ (h ∷ k ∷ (n ++ (label ++ (t ∷ (m ++ d)))))
step_joined start n label m d h k t = simp append_assoc

-- ---- steps

kind_at : ℕ → Kind
kind_at n = cond (eqb n 0) Message (cond (eqb n 1) Public (cond (eqb n 2) Challenge (cond (eqb n 3) Pow Protocol)))

kind_back : (k : Kind) → kind_at (kind_byte k) ≡ k
unfolding kind_at
kind_back Message = refl
kind_back Public = refl
kind_back Challenge = refl
kind_back Pow = refl
kind_back Protocol = refl

length_at : ℕ → ℕ → Length
length_at tag n = cond (eqb tag 0) Scalar (cond (eqb tag 1) (Fixed n) Nothing)

length_back : (l : Length) → length_at (length_tag l) (length_number l) ≡ l
unfolding length_at
length_back Scalar = refl
length_back (Fixed n) = refl
length_back Nothing = refl

-- What the numbers of a shape are read from.
record StepSays : Type 0 where
  kind : Kind
  length : Length

said : Step → StepSays
said s = record { kind = s.kind; length = s.length }

record StepFits (s : Step) : Type 0 where
  label : length s.label < 2 ^ 64
  values : length_number s.length < 2 ^ 64

StepsFit : List Step → Type 0
StepsFit [] = Unit {0}
StepsFit (s ∷ ss) = StepFits s × StepsFit ss

heads : (a b : ℕ) (xs ys : List ℕ) → a ∷ xs ≡ b ∷ ys → (a ≡ b) × (xs ≡ ys)
heads a b xs ys e = ((cc), (cc))

same_said : (s t : Step) → s.kind ≡ t.kind → s.length ≡ t.length → said s ≡ said t
unfolding said
same_said s t k l = λ i. record { kind = k i; length = l i }

same_kind : (k l : Kind) → kind_byte k ≡ kind_byte l → k ≡ l
same_kind k l e = sym (kind_back k) ∙ ap kind_at e ∙ kind_back l

same_length : (l m : Length) → length_tag l ≡ length_tag m → length_number l ≡ length_number m → l ≡ m
same_length l m e h = sym (length_back l) ∙ ap (λ n. length_at n (length_number l)) e ∙ ap (length_at (length_tag m)) h ∙ length_back m

regrouped : (s : Step) (x : List ℕ) → step_bytes s ++ x ≡
    hierarchy_byte s.hierarchy ∷ kind_byte s.kind ∷ (number (length s.label) ++ (s.label ++
    (length_tag s.length ∷ (number (length_number s.length) ++ (number s.degree ++ x)))))
regrouped s x = simp append_assoc

read_step : (s t : Step) (x y : List ℕ) → StepFits s → StepFits t → step_bytes s ++ x ≡ step_bytes t ++ y → (said s ≡ said t) × (x ≡ y)
read_step s t x y fs ft e =
    let a = heads _ _ _ _ (sym (regrouped s x) ∙ e ∙ regrouped t y) in
    let b = heads _ _ _ _ a.1 in
    let c = read_number (length s.label) (length t.label) _ _ fs.label ft.label b.1 in
    let d = split s.label t.label _ _ c.0 c.1 in
    let f = heads _ _ _ _ d.1 in
    let g = read_number (length_number s.length) (length_number t.length) _ _ fs.values ft.values f.1 in
    let h = split_number s.degree t.degree _ _ g.1 in
    (same_said s t (same_kind _ _ b.0) (same_length _ _ f.0 g.0), h.1)

read_steps : (ss ts : List Step) (x y : List ℕ) → length ss ≡ length ts → StepsFit ss → StepsFit ts → steps_bytes ss ++ x ≡ steps_bytes ts ++ y →
    (map said ss ≡ map said ts) × (x ≡ y)
unfolding StepsFit
read_steps [] [] x y l fs ft e = (refl, e)
read_steps [] (t ∷ ts) x y l fs ft e = absurd (omega arith)
read_steps (s ∷ ss) [] x y l fs ft e = absurd (omega arith)
read_steps (s ∷ ss) (t ∷ ts) x y l fs ft e =
    let a = read_step s t _ _ fs.0 ft.0 (sym (append_assoc (step_bytes s) (steps_bytes ss) x) ∙ e ∙ append_assoc (step_bytes t) (steps_bytes ts) y) in
    let k : length ss ≡ length ts = omega arith in
    let b = read_steps ss ts x y k fs.1 ft.1 a.1 in
    ((λ i. a.0 i ∷ b.0 i), b.1)

-- ---- the items of the instance

ItemsFit : List ℕ → Type 0
ItemsFit [] = Unit {0}
ItemsFit (n ∷ ns) = (n < 2 ^ 64) × ItemsFit ns

read_items : (ns ms : List ℕ) → length ns ≡ length ms → ItemsFit ns → ItemsFit ms → items_bytes ns ≡ items_bytes ms → ns ≡ ms
unfolding ItemsFit
read_items [] [] l fn fm e = refl
read_items [] (m ∷ ms) l fn fm e = absurd (omega arith)
read_items (n ∷ ns) [] l fn fm e = absurd (omega arith)
read_items (n ∷ ns) (m ∷ ms) l fn fm e =
    let a = split_number 8 8 _ _ e in
    let b = read_number n m _ _ fn.0 fm.0 a.1 in
    let k : length ns ≡ length ms = omega arith in
    λ i. b.0 i ∷ read_items ns ms k fn.1 fm.1 b.1 i

-- ---- what the steps say

if_public : Kind → ℕ → ℕ → ℕ
if_public Public n rest = n
if_public _ n rest = rest

if_pow : Kind → ℕ → ℕ → ℕ
if_pow Pow n rest = n
if_pow _ n rest = rest

-- A number where a challenge is drawn, another where not.
if_challenge : Kind → ℕ → ℕ → ℕ
if_challenge Challenge n rest = n
if_challenge _ n rest = rest

if_message : Kind → ℕ → ℕ
if_message Message rest = suc rest
if_message _ rest = rest

public_count : List StepSays → ℕ
public_count [] = 0
public_count (d ∷ ds) = if_public d.kind (length_number d.length) (public_count ds)

pow_bits : List StepSays → ℕ
pow_bits [] = 0
pow_bits (d ∷ ds) = if_pow d.kind (length_number d.length) (pow_bits ds)

-- The bits of the work before the first challenge, and of that after it.
bits_before : List StepSays → ℕ
bits_before [] = 0
bits_before (d ∷ ds) = if_challenge d.kind 0 (if_pow d.kind (length_number d.length) (bits_before ds))

bits_after : List StepSays → ℕ
bits_after [] = 0
bits_after (d ∷ ds) = if_challenge d.kind (pow_bits ds) (bits_after ds)

messages : List StepSays → ℕ
messages [] = 0
messages (d ∷ ds) = if_message d.kind (messages ds)

public_count_past : (b : Bool) (label : List ℕ) (rest : List Step) → public_count (map said (step_if b (message label) rest)) ≡ public_count (map said rest)
unfolding public_count if_public said
public_count_past true label rest = refl
public_count_past false label rest = refl

bits_past : (b : Bool) (label : List ℕ) (rest : List Step) → pow_bits (map said (step_if b (message label) rest)) ≡ pow_bits (map said rest)
unfolding pow_bits if_pow said
bits_past true label rest = refl
bits_past false label rest = refl

before_past : (b : Bool) (label : List ℕ) (rest : List Step) → bits_before (map said (step_if b (message label) rest)) ≡ bits_before (map said rest)
unfolding bits_before if_pow if_challenge said
before_past true label rest = refl
before_past false label rest = refl

after_past : (b : Bool) (label : List ℕ) (rest : List Step) → bits_after (map said (step_if b (message label) rest)) ≡ bits_after (map said rest)
unfolding bits_after if_challenge said
after_past true label rest = refl
after_past false label rest = refl

messages_past : (b : Bool) (label : List ℕ) (rest : List Step) → messages (map said (step_if b (message label) rest)) ≡ flag b + messages (map said rest)
unfolding messages if_message said
messages_past true label rest = omega arith
messages_past false label rest = omega arith

length_past : (b : Bool) (s : Step) (rest : List Step) → length (step_if b s rest) ≤ suc (length rest)
length_past true s rest = omega arith
length_past false s rest = omega arith

fits_past : (b : Bool) (s : Step) (rest : List Step) → StepFits s → StepsFit rest → StepsFit (step_if b s rest)
unfolding StepsFit
fits_past true s rest f g = (f, g)
fits_past false s rest f g = g

bits_found : (b : Bool) (n : ℕ) (label : List ℕ) (degree : ℕ) (rest : List Step) → pow_bits (map said rest) ≡ 0 →
    pow_bits (map said (step_if b (elements Pow label (Fixed n) degree) rest)) ≡ cond b n 0
unfolding pow_bits if_pow said
bits_found true n label degree rest h = refl
bits_found false n label degree rest h = h

before_found : (b : Bool) (n : ℕ) (label : List ℕ) (degree : ℕ) (rest : List Step) → bits_before (map said rest) ≡ 0 →
    bits_before (map said (step_if b (elements Pow label (Fixed n) degree) rest)) ≡ cond b n 0
unfolding bits_before if_pow if_challenge said
before_found true n label degree rest h = refl
before_found false n label degree rest h = h

after_past_work : (b : Bool) (n : ℕ) (label : List ℕ) (degree : ℕ) (rest : List Step) →
    bits_after (map said (step_if b (elements Pow label (Fixed n) degree) rest)) ≡ bits_after (map said rest)
unfolding bits_after if_challenge said
after_past_work true n label degree rest = refl
after_past_work false n label degree rest = refl

messages_past_work : (b : Bool) (n : ℕ) (label : List ℕ) (degree : ℕ) (rest : List Step) →
    messages (map said (step_if b (elements Pow label (Fixed n) degree) rest)) ≡ messages (map said rest)
unfolding messages if_message said
messages_past_work true n label degree rest = refl
messages_past_work false n label degree rest = refl

if_positive : (n : ℕ) → cond (ltb 0 n) n 0 ≡ n
if_positive zero = refl
if_positive (suc n) = rw (lt-ltb 0 (suc n) (omega arith)) refl

flag_fits : (b : Bool) → flag b < 2 ^ 64
flag_fits true = lit< tt
flag_fits false = lit< tt

same_flag : (a b : Bool) → flag a ≡ flag b → a ≡ b
same_flag true true e = refl
same_flag true false e = absurd (omega arith)
same_flag false true e = absurd (omega arith)
same_flag false false e = refl

-- ---- one shape

module _ (base extension : ℕ) where
  -- what follows the last commitment
  last_steps : List Step
  last_steps = elements Challenge (codes "zeta") Scalar extension ∷ marker Begin (codes "opening_argument") ∷ marker End (codes "opening_argument") ∷ []

  no_bits : pow_bits (map said last_steps) ≡ 0
  unfolding last_steps pow_bits if_pow said
  no_bits = refl

  no_messages : messages (map said last_steps) ≡ 0
  unfolding last_steps messages if_message said
  no_messages = refl

  last_fit : StepsFit last_steps
  unfolding last_steps StepsFit
  last_fit = (record { label = lit< tt; values = lit< tt }, (record { label = lit< tt; values = lit< tt }, (record { label = lit< tt; values = lit< tt }, tt)))

  module _ (n : ShapeNumbers) where
    work : Step
    work = elements Pow (codes "ood_pow") (Fixed n.ood_pow_bits) base

    from_work : List Step
    from_work = step_if (ltb 0 n.ood_pow_bits) work last_steps

    from_random : List Step
    from_random = step_if n.has_randomization (message (codes "random_commitment")) from_work

    from_alpha : List Step
    from_alpha = elements Challenge (codes "alpha") Scalar extension
        ∷ message (codes "quotient_commitment")
        ∷ from_random

    first_work : Step
    first_work = elements Pow (codes "alpha_pow") (Fixed n.constraint_pow_bits) base

    from_first_work : List Step
    from_first_work = step_if (ltb 0 n.constraint_pow_bits) first_work from_alpha

    from_public_values : List Step
    from_public_values = elements Public (codes "public_values") (Fixed n.num_public_values) base ∷ from_first_work

    in_parts : shape_steps base extension n ≡ message (codes "trace_commitment")
        ∷ step_if (ltb 0 n.preprocessed_width) (message (codes "preprocessed_commitment")) from_public_values
    unfolding from_public_values from_first_work first_work from_alpha from_random from_work work last_steps
    in_parts = refl

    few_last : length last_steps ≡ 3
    unfolding last_steps
    few_last = refl

    few_work : length from_work ≤ 4
    unfolding from_work
    few_work = omega (arith, length_past (ltb 0 n.ood_pow_bits) work last_steps, few_last)

    few_random : length from_random ≤ 5
    unfolding from_random
    few_random = omega (arith, length_past n.has_randomization (message (codes "random_commitment")) from_work, few_work)

    few_alpha : length from_alpha ≤ 7
    unfolding from_alpha
    few_alpha = omega (arith, few_random)

    few_first_work : length from_first_work ≤ 8
    unfolding from_first_work
    few_first_work = omega (arith, length_past (ltb 0 n.constraint_pow_bits) first_work from_alpha, few_alpha)

    few_public_values : length from_public_values ≤ 9
    unfolding from_public_values
    few_public_values = omega (arith, few_first_work)

    steps_are_few : length (shape_steps base extension n) ≤ 11
    steps_are_few =
        let a : length (shape_steps base extension n) ≡ suc (length (step_if (ltb 0 n.preprocessed_width) (message (codes "preprocessed_commitment")) from_public_values)) = ap length in_parts in
        omega (arith, a, length_past (ltb 0 n.preprocessed_width) (message (codes "preprocessed_commitment")) from_public_values, few_public_values)

    module _ (fits : IsBounded n) where
      work_fits : StepsFit from_work
      unfolding from_work work
      work_fits = fits_past (ltb 0 n.ood_pow_bits) work last_steps (record { label = lit< tt; values = fits.ood_pow_bits }) last_fit

      random_fits : StepsFit from_random
      unfolding from_random
      random_fits = fits_past n.has_randomization (message (codes "random_commitment")) from_work (record { label = lit< tt; values = lit< tt }) work_fits

      alpha_fits : StepsFit from_alpha
      unfolding from_alpha StepsFit
      alpha_fits = (record { label = lit< tt; values = lit< tt }, (record { label = lit< tt; values = lit< tt }, random_fits))

      first_work_fits : StepsFit from_first_work
      unfolding from_first_work first_work
      first_work_fits = fits_past (ltb 0 n.constraint_pow_bits) first_work from_alpha (record { label = lit< tt; values = fits.constraint_pow_bits }) alpha_fits

      public_values_fit : StepsFit from_public_values
      unfolding from_public_values StepsFit
      public_values_fit = (record { label = lit< tt; values = fits.num_public_values }, first_work_fits)

      steps_fit : StepsFit (shape_steps base extension n)
      unfolding StepsFit
      steps_fit = subst StepsFit (sym in_parts) (
        record { label = lit< tt; values = lit< tt },
        fits_past (ltb 0 n.preprocessed_width) (message (codes "preprocessed_commitment")) from_public_values (record { label = lit< tt; values = lit< tt }) public_values_fit,
      )

      items_fit : ItemsFit (shape_items n)
      unfolding ItemsFit
      items_fit = (
        fits.log_ext_degree,
        (
          fits.log_degree,
          (
            fits.main_width,
            (
              fits.preprocessed_width,
              (
                fits.num_periodic_columns,
                (
                  fits.num_quotient_chunks,
                  (flag_fits n.opens_main_next_row, (flag_fits n.opens_preprocessed_next_row, tt)),
                ),
              ),
            ),
          ),
        ),
      )

    public_count_is : public_count (map said (shape_steps base extension n)) ≡ n.num_public_values
    unfolding public_count if_public said from_public_values
    public_count_is = ap (λ s. public_count (map said s)) in_parts ∙ public_count_past (ltb 0 n.preprocessed_width) (codes "preprocessed_commitment") from_public_values

    bits_before_is : bits_before (map said (shape_steps base extension n)) ≡ n.constraint_pow_bits
    unfolding bits_before if_pow if_challenge said from_public_values from_first_work first_work from_alpha
    bits_before_is = ap (λ s. bits_before (map said s)) in_parts ∙ before_past (ltb 0 n.preprocessed_width) (codes "preprocessed_commitment") from_public_values
        ∙ before_found (ltb 0 n.constraint_pow_bits) n.constraint_pow_bits (codes "alpha_pow") base from_alpha refl
        ∙ if_positive n.constraint_pow_bits

    bits_after_is : bits_after (map said (shape_steps base extension n)) ≡ n.ood_pow_bits
    unfolding bits_after pow_bits if_pow if_challenge said from_public_values from_first_work first_work from_alpha from_random from_work work
    bits_after_is = ap (λ s. bits_after (map said s)) in_parts ∙ after_past (ltb 0 n.preprocessed_width) (codes "preprocessed_commitment") from_public_values
        ∙ after_past_work (ltb 0 n.constraint_pow_bits) n.constraint_pow_bits (codes "alpha_pow") base from_alpha
        ∙ bits_past n.has_randomization (codes "random_commitment") from_work ∙ bits_found (ltb 0 n.ood_pow_bits) n.ood_pow_bits (codes "ood_pow") base last_steps no_bits
        ∙ if_positive n.ood_pow_bits

    messages_from_random : messages (map said from_random) ≡ flag n.has_randomization
    unfolding from_random from_work work
    messages_from_random =
        let a = messages_past n.has_randomization (codes "random_commitment") from_work in
        let b = messages_past_work (ltb 0 n.ood_pow_bits) n.ood_pow_bits (codes "ood_pow") base last_steps in
        omega (arith, a, b, no_messages)

    messages_from_alpha : messages (map said from_alpha) ≡ suc (flag n.has_randomization)
    unfolding messages if_message said from_alpha
    messages_from_alpha = ap (λ k. suc k) messages_from_random

    messages_from_public_values : messages (map said from_public_values) ≡ suc (flag n.has_randomization)
    unfolding messages if_message said from_public_values from_first_work first_work
    messages_from_public_values = messages_past_work (ltb 0 n.constraint_pow_bits) n.constraint_pow_bits (codes "alpha_pow") base from_alpha ∙ messages_from_alpha

    messages_is : messages (map said (shape_steps base extension n)) ≡ suc (flag (ltb 0 n.preprocessed_width) + suc (flag n.has_randomization))
    unfolding messages if_message said
    messages_is = ap (λ s. messages (map said s)) in_parts
        ∙ ap (λ k. suc k) (messages_past (ltb 0 n.preprocessed_width) (codes "preprocessed_commitment") from_public_values ∙ ap (λ k. flag (ltb 0 n.preprocessed_width) + k) messages_from_public_values)

  module _ (n m : ShapeNumbers) where
    -- equal steps and equal items are those of equal numbers
    same_numbers : map said (shape_steps base extension n) ≡ map said (shape_steps base extension m) → shape_items n ≡ shape_items m → n ≡ m
    same_numbers e f =
        let log_ext_degree : n.log_ext_degree ≡ m.log_ext_degree = ap (λ s. get_or s 0 0) f in
        let log_degree : n.log_degree ≡ m.log_degree = ap (λ s. get_or s 1 0) f in
        let main_width : n.main_width ≡ m.main_width = ap (λ s. get_or s 2 0) f in
        let preprocessed_width : n.preprocessed_width ≡ m.preprocessed_width = ap (λ s. get_or s 3 0) f in
        let num_periodic_columns : n.num_periodic_columns ≡ m.num_periodic_columns = ap (λ s. get_or s 4 0) f in
        let num_quotient_chunks : n.num_quotient_chunks ≡ m.num_quotient_chunks = ap (λ s. get_or s 5 0) f in
        let main_row : flag n.opens_main_next_row ≡ flag m.opens_main_next_row = ap (λ s. get_or s 6 0) f in
        let preprocessed_row : flag n.opens_preprocessed_next_row ≡ flag m.opens_preprocessed_next_row = ap (λ s. get_or s 7 0) f in
        let num_public_values = sym (public_count_is n) ∙ ap public_count e ∙ public_count_is m in
        let ood_pow_bits = sym (bits_after_is n) ∙ ap bits_after e ∙ bits_after_is m in
        let constraint_pow_bits = sym (bits_before_is n) ∙ ap bits_before e ∙ bits_before_is m in
        let there : flag (ltb 0 n.preprocessed_width) ≡ flag (ltb 0 m.preprocessed_width) = ap (λ w. flag (ltb 0 w)) preprocessed_width in
        let random : flag n.has_randomization ≡ flag m.has_randomization = omega (arith, messages_is n, messages_is m, ap messages e, there) in
        λ i. record {
          log_ext_degree = log_ext_degree i;
          log_degree = log_degree i;
          main_width = main_width i;
          preprocessed_width = preprocessed_width i;
          num_public_values = num_public_values i;
          num_periodic_columns = num_periodic_columns i;
          num_quotient_chunks = num_quotient_chunks i;
          opens_main_next_row = same_flag _ _ main_row i;
          opens_preprocessed_next_row = same_flag _ _ preprocessed_row i;
          has_randomization = same_flag _ _ random i;
          ood_pow_bits = ood_pow_bits i;
          constraint_pow_bits = constraint_pow_bits i;
        }

    pub seed_of_one_shape : IsBounded n → IsBounded m → shape_seed base extension n ≡ shape_seed base extension m → n ≡ m
    unfolding shape_seed
    seed_of_one_shape bounded_n bounded_m e =
        let rest : ShapeNumbers → List ℕ = λ k.
        number (length (shape_steps base extension k)) ++ (steps_bytes (shape_steps base extension k) ++ (number 8 ++ items_bytes (shape_items k))) in
        let a = heads _ _ _ _ e in
        let b = split_number 12 12 (codes "p3-uni-stark" ++ rest n) (codes "p3-uni-stark" ++ rest m) a.1 in
        let c = split (codes "p3-uni-stark") (codes "p3-uni-stark") (rest n) (rest m) refl b.1 in
        let few_n = steps_are_few n in
        let few_m = steps_are_few m in
        let d = read_number (length (shape_steps base extension n)) (length (shape_steps base extension m)) _ _ (omega arith) (omega arith) c.1 in
        let k = read_steps (shape_steps base extension n) (shape_steps base extension m) _ _ d.0 (steps_fit n bounded_n) (steps_fit m bounded_m) d.1 in
        let l = split_number 8 8 (items_bytes (shape_items n)) (items_bytes (shape_items m)) k.1 in
        same_numbers k.0 (read_items (shape_items n) (shape_items m) refl (items_fit n bounded_n) (items_fit m bounded_m) l.1)

-- What is put together from the steps and the items of a shape is its seed; a and b are the two flags as numbers.
pub seed_joined : (base extension : ℕ) (n : ShapeNumbers) (seed : List ℕ) (steps : List Step) (a b : ℕ) →
    seed ≡ seed_of (codes "p3-uni-stark") steps (n.log_ext_degree ∷ n.log_degree ∷ n.main_width ∷ n.preprocessed_width ∷ n.num_periodic_columns ∷ n.num_quotient_chunks ∷ a ∷ b ∷ []) →
    steps ≡ shape_steps base extension n → a ≡ flag n.opens_main_next_row → b ≡ flag n.opens_preprocessed_next_row → seed ≡ shape_seed base extension n
unfolding shape_seed
seed_joined base extension n seed steps a b e f h k = e ∙ λ i. seed_of (codes "p3-uni-stark") (f i)
    (n.log_ext_degree ∷ n.log_degree ∷ n.main_width ∷ n.preprocessed_width ∷ n.num_periodic_columns ∷ n.num_quotient_chunks ∷ h i ∷ k i ∷ [])

-- No other shape over the same fields has a shape's seed.
pub no_other_shape : (base extension : ℕ) (n : ShapeNumbers) (seed : List ℕ) → IsBounded n → seed ≡ shape_seed base extension n →
    (other : ShapeNumbers) → IsBounded other → seed ≡ shape_seed base extension other → other ≡ n
no_other_shape base extension n seed bounded e other fits f = seed_of_one_shape base extension other n fits bounded (sym f ∙ e)

-- Without a grind before alpha the seed is that of eleven numbers.
pub seed_without_first_work : (base extension : ℕ) (n : ShapeNumbers) → n.constraint_pow_bits ≡ 0 → shape_seed base extension n ≡ plain_seed base extension n
unfolding shape_seed plain_seed
seed_without_first_work base extension n none = ap (λ steps. seed_of (codes "p3-uni-stark") steps (shape_items n)) (ap (λ bits.
    message (codes "trace_commitment")
    ∷ step_if (ltb 0 n.preprocessed_width) (message (codes "preprocessed_commitment"))
    (elements Public (codes "public_values") (Fixed n.num_public_values) base
    ∷ step_if (ltb 0 bits) (elements Pow (codes "alpha_pow") (Fixed bits) base)
    (steps_from_alpha base extension n)))
    none)
