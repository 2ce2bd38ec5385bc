-- What proved bits are worth.
use Rattle.std.proofs.Common.{◌≡◌, ◌∙◌, ◌⊎◌, ℕ, zero, suc, ◌+◌, ◌-◌, ◌*◌, ◌^◌, ◌<◌, ◌≤◌, add-one, ap, arith, refl, inl, inr, subst, sym, mul-le-mul, pow-suc}
use Rattle.std.specs.Prelude.{◌/◌, ◌%◌, max, min}
use Rattle.std.proofs.Math.Nat.{le_of_mul-le-mul_right, mul-le-mul_left, pow-zero}
use Rattle.std.proofs.lemmas.Bool.{cases_lt}
use Rattle.std.proofs.lemmas.Nat.{mul-pow, one_shl, pow-add, pow_pos}
use Rattle.stark_security.specs.declared.params.StarkSecurityParams.{StarkSecurityParams}
use Rattle.stark_support.specs.Logarithm.{IsCeilingOfLog}
use Rattle.stark_support.specs.LogarithmFacts.{two_power_at_most}
use Rattle.stark_fri_security.specs.ListedBits.{ListedBitsAreProved}
use Rattle.stark_fri_security.specs.ProvedBits.{AreBetterBits, AreBitsWithin, AreDrawsWithin, AreProvedBits, BitsAreProved, counted_blowup, draw_parts, draws_in_half, draws_in_third, field_bits_of, half_radius, passing_parts, query_parts, rounded_up, third_radius, whole_bits}

-- ---- a quotient that is rounded up

-- a / b, rounded up, times b is at least a,
pub covers : (a b : ℕ) → 1 ≤ b → a ≤ rounded_up a b * b
covers a b some = omega arith

-- no more than c, where a is at most c b,
pub rounded_within : (a b c : ℕ) → 1 ≤ b → a ≤ c * b → rounded_up a b ≤ c
rounded_within a b c some fits = elim (cases_lt c (rounded_up a b)) [
  | inl more ↦ let product : b * suc c ≤ b * rounded_up a b = mul-le-mul_left b more in absurd (omega arith)
  | inr within ↦ within
]

-- and positive where a is.
pub rounded_positive : (a b : ℕ) → 1 ≤ b → 1 ≤ a → 1 ≤ rounded_up a b
rounded_positive a b some positive = elim (cases_lt (rounded_up a b) 1) [
  | inl none ↦ let product : b * rounded_up a b ≤ b * 0 = mul-le-mul_left b (omega arith) in absurd (omega arith)
  | inr more ↦ more
]

-- ---- the parts that pass

same_sides : (w x y : ℕ) → x ≡ 1 → y ≡ 1 → w * x ≤ w * y
same_sides w x y p q = let same : w * x ≡ w * y = ap (λ t. w * t) (p ∙ sym q) in omega arith

next_cover : (whole chance some parts all_lists all next : ℕ) → whole * chance ≤ parts * all_lists → parts * some ≤ next * all → whole * (chance * some) ≤ next * (all_lists * all)
next_cover whole chance some parts all_lists all next before step =
    let first : whole * chance * some ≤ parts * all_lists * some = mul-le-mul before (omega arith) in
    let second : parts * some * all_lists ≤ next * all * all_lists = mul-le-mul step (omega arith) in
    omega arith

itself : (n : ℕ) → n ≤ n
itself n = omega arith

module _ (whole some all : ℕ) (positive : 1 ≤ all) where
  -- They are no fewer than pass by chance,
  parts_cover : (number : ℕ) → whole * some ^ number ≤ passing_parts whole some all number * all ^ number
  unfolding passing_parts
  parts_cover zero = same_sides whole (some ^ 0) (all ^ 0) (pow-zero some) (pow-zero all)
  parts_cover (suc number) =
      let parts = passing_parts whole some all number in
      let next = rounded_up (parts * some) all in
      subst (λ t. whole * some ^ suc number ≤ next * t) (sym (pow-suc all number)) (subst (λ t. whole * t ≤ next * (all ^ number * all)) (sym (pow-suc some number))
      (next_cover whole (some ^ number) some parts (all ^ number) all next (parts_cover number) (covers (parts * some) all positive)))

  -- at most all,
  pub parts_within : some ≤ all → (number : ℕ) → passing_parts whole some all number ≤ whole
  unfolding passing_parts
  parts_within less zero = itself whole
  parts_within less (suc number) = rounded_within (passing_parts whole some all number * some) all whole positive (mul-le-mul (parts_within less number) less)

  -- and some.
  pub parts_positive : 1 ≤ whole → 1 ≤ some → (number : ℕ) → 1 ≤ passing_parts whole some all number
  unfolding passing_parts
  parts_positive any one zero = any
  parts_positive any one (suc number) = rounded_positive (passing_parts whole some all number * some) all positive (mul-le-mul (parts_positive any one number) one)

-- ---- places

bases_grow : (a b : ℕ) → a ≤ b → (number : ℕ) → a ^ number ≤ b ^ number
bases_grow a b less zero = let left : a ^ 0 ≡ 1 = pow-zero a in let right : b ^ 0 ≡ 1 = pow-zero b in omega arith
bases_grow a b less (suc number) = subst (λ t. t ≤ b ^ suc number) (sym (pow-suc a number)) (subst (λ t. a ^ number * a ≤ t) (sym (pow-suc b number)) (mul-le-mul (bases_grow a b less number) less))

powers_positive : (a : ℕ) → 1 ≤ a → (number : ℕ) → 1 ≤ a ^ number
powers_positive a some zero = let one : a ^ 0 ≡ 1 = pow-zero a in omega arith
powers_positive a some (suc number) = subst (λ t. 1 ≤ t) (sym (pow-suc a number)) (mul-le-mul (powers_positive a some number) some)

rearranged : (whole left all_lists rows some parts : ℕ) → left ≤ rows * some → whole * some ≤ parts * all_lists → whole * left ≤ parts * rows * all_lists
rearranged whole left all_lists rows some parts less covered =
    let first : whole * left ≤ whole * (rows * some) = mul-le-mul (itself whole) less in
    let second : rows * (whole * some) ≤ rows * (parts * all_lists) = mul-le-mul (itself rows) covered in omega arith

-- Where `some` of `all` places pass, and lists of passing ones are at most the parts, so are lists of a of n places, if a all is at most n some.
lists_of_places : (whole some all parts a n number : ℕ) → 1 ≤ all → a * all ≤ n * some → whole * some ^ number ≤ parts * all ^ number → whole * a ^ number ≤ parts * n ^ number
lists_of_places whole some all parts a n number positive fraction covered =
    let grown : (a * all) ^ number ≤ (n * some) ^ number = bases_grow (a * all) (n * some) fraction number in
    let both : a ^ number * all ^ number ≤ n ^ number * some ^ number = subst (λ t. t ≤ n ^ number * some ^ number) (mul-pow a all number) (subst (λ t. (a * all) ^ number ≤ t) (mul-pow n some number) grown) in
    let lists : 1 ≤ all ^ number = powers_positive all positive number in
    let spread : whole * (a ^ number * all ^ number) ≤ parts * n ^ number * all ^ number = rearranged whole (a ^ number * all ^ number) (all ^ number) (n ^ number) (some ^ number) parts both covered in
    let less : whole * a ^ number * all ^ number ≤ parts * n ^ number * all ^ number = omega arith in
    le_of_mul-le-mul_right less lists

-- More queries leave no greater part.
more_queries : (whole parts a n few rest number : ℕ) → few + rest ≡ number → a ≤ n → whole * a ^ few ≤ parts * n ^ few → whole * a ^ number ≤ parts * n ^ number
more_queries whole parts a n few rest number sum less covered =
    let left : a ^ number ≡ a ^ few * a ^ rest = ap (λ t. a ^ t) (sym sum) ∙ pow-add a few rest in
    let right : n ^ number ≡ n ^ few * n ^ rest = ap (λ t. n ^ t) (sym sum) ∙ pow-add n few rest in
    let product : whole * a ^ few * a ^ rest ≤ parts * n ^ few * n ^ rest = mul-le-mul covered (bases_grow a n less rest) in
    subst (λ t. whole * t ≤ parts * n ^ number) (sym left) (subst (λ t. whole * (a ^ few * a ^ rest) ≤ parts * t) (sym right) (omega arith))

half_passes : (rows n e power left : ℕ) → e ≡ (n - rows - 1) / 2 → left ≡ n - suc e → rows * power ≤ n → rows ≤ n → left * (2 * power) ≤ n * (power + 1)
half_passes rows n e power left is left_is shorter less =
    let twice : 2 * left ≤ n + rows = omega arith in
    let product : 2 * left * power ≤ (n + rows) * power = mul-le-mul twice (itself power) in omega arith

third_passes : (rows n e power left : ℕ) → e ≡ (n - rows) / 3 → left ≡ n - suc e → rows * power ≤ n → rows ≤ n → left * (3 * power) ≤ n * (2 * power + 1)
third_passes rows n e power left is left_is shorter less =
    let thrice : 3 * left ≤ 2 * n + rows = omega arith in
    let product : 3 * left * power ≤ (2 * n + rows) * power = mul-le-mul thrice (itself power) in omega arith

-- ---- both parts

joined_parts : (whole bad lists elements passing draws queries : ℕ) → whole * bad ≤ draws * elements → whole * passing ≤ queries * lists → whole * (bad * lists + elements * passing) ≤ (draws + queries) * (elements * lists)
joined_parts whole bad lists elements passing draws queries few_elements few_lists =
    let first : whole * bad * lists ≤ draws * elements * lists = mul-le-mul few_elements (itself lists) in
    let second : elements * (whole * passing) ≤ elements * (queries * lists) = mul-le-mul (itself elements) few_lists in omega arith

-- Where the parts are at most 2^log of 2^(bits + log).
bits_of_parts : (power part whole bad all parts : ℕ) → power * part ≡ whole → 1 ≤ whole → parts ≤ part → whole * bad ≤ parts * all → power * bad ≤ all
bits_of_parts power part whole bad all parts is positive few covered =
    let more : parts * all ≤ part * all = mul-le-mul few (itself all) in
    let whole_times : power * (whole * bad) ≤ power * (part * all) = mul-le-mul (itself power) (let through : whole * bad ≤ part * all = omega arith in through) in
    let own : power * part * all ≡ whole * all = ap (λ t. t * all) is in
    let less : power * bad * whole ≤ all * whole = omega arith in
    le_of_mul-le-mul_right less positive

-- Less than all elements are bad where their parts are less than all parts.
bad_is_less : (bad field unit draws part whole : ℕ) → min bad field ≤ draws * unit → draws ≤ part → 2 * part ≤ whole → whole * unit ≡ field → 1 ≤ field → bad ≤ draws * unit
bad_is_less bad field unit draws part whole covered few half is some =
    let product : draws * unit ≤ part * unit = mul-le-mul few (itself unit) in
    let twice : 2 * part * unit ≤ whole * unit = mul-le-mul half (itself unit) in omega arith

draws_of_parts : (bad field unit draws whole elements : ℕ) → bad ≤ draws * unit → whole * unit ≡ field → field ≤ elements → whole * bad ≤ draws * elements
draws_of_parts bad field unit draws whole elements less is within =
    let first : whole * bad ≤ whole * (draws * unit) = mul-le-mul (itself whole) less in
    let own : draws * (whole * unit) ≡ draws * field = ap (λ t. draws * t) is in
    let second : draws * field ≤ draws * elements = mul-le-mul (itself draws) within in omega arith

with_work : (whole passing parts lists queries work all_work : ℕ) → whole * passing ≤ parts * lists → parts ≤ queries * work → work ≤ all_work → whole * passing ≤ queries * (lists * all_work)
with_work whole passing parts lists queries work all_work few covered less =
    let first : parts * lists ≤ queries * work * lists = mul-le-mul covered (itself lists) in
    let second : queries * lists * work ≤ queries * lists * all_work = mul-le-mul (itself (queries * lists)) less in omega arith

least_of : (a b : ℕ) → min a b ≤ a
least_of a b = omega arith

rest_of : (a b : ℕ) → min a b + (a - min a b) ≡ a
rest_of a b = omega arith

left_of : (whole log : ℕ) → 1 ≤ whole - log → whole - log + log ≡ whole
left_of whole log some = omega arith

smaller_log : (whole log : ℕ) → 1 ≤ whole - log → suc log ≤ whole
smaller_log whole log some = omega arith

within_both : (a b c : ℕ) → a ≤ b → b ≤ c → a ≤ c
within_both a b c h k = omega arith

first_part : (a b c : ℕ) → a + b ≤ c → a ≤ c
first_part a b c h = omega arith

largest : (c top : ℕ) → max c 1 ≤ top → c ≤ top
largest c top h = omega arith

fewer : (n e : ℕ) → n - e ≤ n
fewer n e = omega arith

bits_above : (s f m : ℕ) → s ≡ min m 110 → f ≡ min m 127 → s + (f - s) ≡ f
bits_above s f m is other = omega arith

module _ (p : StarkSecurityParams) (bad some all bits : ℕ) (are : AreBitsWithin p bad some all bits) (positive : 1 ≤ bits) (any : 1 ≤ all) where
  abbrev whole : ℕ
  whole = 2 ^ whole_bits p

  abbrev unit : ℕ
  unit = 2 ^ (field_bits_of p - whole_bits p)

  abbrev draws : ℕ
  draws = draw_parts p bad

  abbrev queries : ℕ
  queries = query_parts p some all

  some_left : 1 ≤ whole_bits p - are.log
  some_left = subst (λ t. 1 ≤ t) are.left positive

  split : 2 ^ bits * 2 ^ are.log ≡ whole
  split = sym (pow-add 2 bits are.log) ∙ ap (λ t. 2 ^ t) (ap (λ t. t + are.log) are.left ∙ left_of (whole_bits p) are.log some_left)

  half_of_whole : 2 * 2 ^ are.log ≤ whole
  half_of_whole = let next : 2 ^ suc are.log ≡ 2 ^ are.log * 2 = pow-suc 2 are.log in let grown : 2 ^ suc are.log ≤ whole = two_power_at_most (suc are.log) (whole_bits p) (smaller_log (whole_bits p) are.log some_left) in omega arith

  units : whole * unit ≡ 2 ^ field_bits_of p
  units = sym (pow-add 2 (whole_bits p) (field_bits_of p - whole_bits p)) ∙ ap (λ t. 2 ^ t) (bits_above (whole_bits p) (field_bits_of p) p.num_modulus_bits refl refl)

  bad_covered : bad ≤ draws * unit
  bad_covered =
      bad_is_less bad (2 ^ field_bits_of p) unit draws (2 ^ are.log) whole (covers (min bad (2 ^ field_bits_of p)) unit (pow_pos (field_bits_of p - whole_bits p)))
      (first_part draws queries (2 ^ are.log) are.parts.covers) half_of_whole units (pow_pos (field_bits_of p))

  module _ (elements a n : ℕ) (field : 2 ^ p.num_modulus_bits ≤ elements) (less : a ≤ n) (fraction : a * all ≤ n * some) where
    abbrev lists : ℕ
    lists = n ^ p.fri_num_queries * 2 ^ p.fri_query_proof_of_work_bits

    few_elements : whole * bad ≤ draws * elements
    few_elements =
        draws_of_parts bad (2 ^ field_bits_of p) unit draws whole elements bad_covered units
        (within_both (2 ^ field_bits_of p) (2 ^ p.num_modulus_bits) elements (two_power_at_most (field_bits_of p) p.num_modulus_bits (least_of p.num_modulus_bits 127)) field)

    few_lists : whole * a ^ p.fri_num_queries ≤ queries * lists
    few_lists =
        let few = min p.fri_num_queries 4096 in
        let parts = passing_parts whole some all few in
        let work = min p.fri_query_proof_of_work_bits 127 in
        let by_chance : whole * some ^ few ≤ parts * all ^ few = parts_cover whole some all any few in
        let by_places : whole * a ^ few ≤ parts * n ^ few = lists_of_places whole some all parts a n few any fraction by_chance in
        let all_queries : whole * a ^ p.fri_num_queries ≤ parts * n ^ p.fri_num_queries =
        more_queries whole parts a n few (p.fri_num_queries - few) p.fri_num_queries (rest_of p.fri_num_queries 4096) less by_places in
        with_work whole (a ^ p.fri_num_queries) parts (n ^ p.fri_num_queries) queries (2 ^ work) (2 ^ p.fri_query_proof_of_work_bits) all_queries (covers parts (2 ^ work) (pow_pos work))
        (two_power_at_most work p.fri_query_proof_of_work_bits (least_of p.fri_query_proof_of_work_bits 127))

    -- Within a radius of which this number of places passes, the bits are what the counts leave.
    pub bits_hold : 2 ^ bits * (bad * lists + elements * a ^ p.fri_num_queries) ≤ elements * lists
    bits_hold =
        bits_of_parts (2 ^ bits) (2 ^ are.log) whole (bad * lists + elements * a ^ p.fri_num_queries) (elements * lists) (draws + queries) split (pow_pos (whole_bits p)) are.parts.covers
        (joined_parts whole bad lists elements (a ^ p.fri_num_queries) draws queries few_elements few_lists)

-- ---- both radii

half_within : (n rows : ℕ) → rows < n → 2 * ((n - rows - 1) / 2) + rows < n
half_within n rows less = omega arith

third_within : (n rows : ℕ) → rows ≤ n → 3 * ((n - rows) / 3) + rows ≤ n
third_within n rows less = omega arith

longer : (rows power n : ℕ) → rows * power ≡ n → 2 ≤ power → 1 ≤ rows → rows < n
longer rows power n is more some = let product : rows * 2 ≤ rows * power = mul-le-mul (itself rows) more in omega arith

at_most : (a b : ℕ) → a < b → a ≤ b
at_most a b h = omega arith

some_bits : (bits x : ℕ) → bits ≡ 0 → 1 ≤ bits → ⊥
some_bits bits x none some = omega arith

greater_of : (half third bits : ℕ) → bits ≡ max half third → (bits ≡ half) ⊎ (bits ≡ third)
greater_of half third bits is = elim (cases_lt half third) [
  | inl less ↦ inr (omega arith)
  | inr more ↦ inl (omega arith)
]

one_power : (b : ℕ) → 1 ≤ b → 2 ≤ 2 ^ b
one_power b some = two_power_at_most 1 b some

twice_positive : (x : ℕ) → 1 ≤ x → 1 ≤ 2 * x
twice_positive x h = omega arith

thrice_positive : (x : ℕ) → 1 ≤ x → 1 ≤ 3 * x
thrice_positive x h = omega arith

product_less : (rows small power n : ℕ) → rows * power ≡ n → small ≤ power → rows * small ≤ n
product_less rows small power n is less = let product : rows * small ≤ rows * power = mul-le-mul (itself rows) less in omega arith

module _ (p : StarkSecurityParams) (alphas zetas k bits elements : ℕ) (positive : 1 ≤ bits) (blown : 1 ≤ p.fri_log_blowup) (field : 2 ^ p.num_modulus_bits ≤ elements) where
  abbrev n : ℕ
  n = 2 ^ (k + p.fri_log_blowup)

  abbrev all_lists : ℕ
  all_lists = n ^ p.fri_num_queries * 2 ^ p.fri_query_proof_of_work_bits

  abbrev Held : Type 0
  Held = (e : ℕ) × (draws : ℕ) × AreDrawsWithin p.num_batched_functions k p.fri_log_blowup e draws
      × (2 ^ bits * ((alphas + zetas + draws) * all_lists + elements * (n - suc e) ^ p.fri_num_queries) ≤ elements * all_lists)

  rows_are : 2 ^ k * 2 ^ p.fri_log_blowup ≡ n
  rows_are = sym (pow-add 2 k p.fri_log_blowup)

  below : 2 ^ k < n
  below = longer (2 ^ k) (2 ^ p.fri_log_blowup) n rows_are (one_power p.fri_log_blowup blown) (pow_pos k)

  abbrev power : ℕ
  power = 2 ^ min p.fri_log_blowup 14

  shorter : 2 ^ k * power ≤ n
  shorter = product_less (2 ^ k) power (2 ^ p.fri_log_blowup) n rows_are (two_power_at_most (min p.fri_log_blowup 14) p.fri_log_blowup (least_of p.fri_log_blowup 14))

  in_half : AreBitsWithin p (alphas + zetas + p.num_batched_functions * (n + half_radius k p.fri_log_blowup)) (power + 1) (2 * power) bits → Held
  in_half are =
      let e = half_radius k p.fri_log_blowup in
      let draws = p.num_batched_functions * (n + e) in (
        e,
        draws,
        inl (half_within n (2 ^ k) below, refl),
        bits_hold p (alphas + zetas + draws) (power + 1) (2 * power) bits are positive (twice_positive power (pow_pos (min p.fri_log_blowup 14))) elements (n - suc e) n field (fewer n (suc e))
            (half_passes (2 ^ k) n e power (n - suc e) refl refl shorter (at_most (2 ^ k) n below)),
      )

  in_third : AreBitsWithin p (alphas + zetas + ((p.num_batched_functions - 1) * (n + third_radius k p.fri_log_blowup) + (third_radius k p.fri_log_blowup + k))) (2 * power + 1) (3 * power) bits → Held
  in_third are =
      let e = third_radius k p.fri_log_blowup in
      let draws = (p.num_batched_functions - 1) * (n + e) + (e + k) in (
        e,
        draws,
        inr (third_within n (2 ^ k) (at_most (2 ^ k) n below), refl),
        bits_hold p (alphas + zetas + draws) (2 * power + 1) (3 * power) bits are positive (thrice_positive power (pow_pos (min p.fri_log_blowup 14))) elements (n - suc e) n field (fewer n (suc e))
            (third_passes (2 ^ k) n e power (n - suc e) refl refl shorter (at_most (2 ^ k) n below)),
      )

  of_better : AreBetterBits p alphas zetas k bits → Held
  of_better are = elim (greater_of are.half are.third bits are.better) [
    | inl is ↦ in_half (subst (λ t. AreBitsWithin p (alphas + zetas + p.num_batched_functions * (n + half_radius k p.fri_log_blowup)) (power + 1) (2 * power) t) (sym is) are.in_half)
    | inr is ↦ in_third (subst (λ t. AreBitsWithin p (alphas + zetas + ((p.num_batched_functions - 1) * (n + third_radius k p.fri_log_blowup) + (third_radius k p.fri_log_blowup + k))) (2 * power + 1) (3 * power) t) (sym is) are.in_third)
  ]

  pub of_proved : AreProvedBits p alphas zetas k bits → Held
  of_proved are = elim (cases_lt 126 (k + p.fri_log_blowup)) [
    | inl large ↦ absurd (some_bits bits 0 (are.uncounted large) positive)
    | inr small ↦ of_better (are.counted small)
  ]

pub bits_are_proved : BitsAreProved
bits_are_proved p alphas zetas k bits elements are positive blown field = of_proved p alphas zetas k bits elements positive blown field are

-- ---- in words of 128 bits

pub first_is : (total some all : ℕ) → total ≡ passing_parts total some all 0
unfolding passing_parts
first_is total some all = refl

pub next_is : (whole some all parts number : ℕ) → parts ≡ passing_parts whole some all number → rounded_up (parts * some) all ≡ passing_parts whole some all (number + 1)
unfolding passing_parts
next_is whole some all parts number is = ap (λ t. rounded_up (t * some) all) is ∙ ap (passing_parts whole some all) (sym (add-one number))

pub next_within : (part total some all number : ℕ) → 1 ≤ all → some ≤ all → part ≡ passing_parts total some all number → part ≤ total
next_within part total some all number positive less is = subst (λ t. t ≤ total) (sym is) (parts_within total some all positive less number)

pub product_fits : (parts whole some all : ℕ) → parts ≤ whole → whole ≤ 2 ^ 110 → some ≤ all → all ≤ 2 ^ 16 → parts * some ≤ 2 ^ 126
product_fits parts whole some all few small less fits =
    let product : parts * some ≤ 2 ^ 110 * 2 ^ 16 = mul-le-mul (within_both parts whole (2 ^ 110) few small) (within_both some all (2 ^ 16) less fits) in omega arith

pub product_positive : (a b : ℕ) → 1 ≤ a → 1 ≤ b → 1 ≤ a * b
product_positive a b h k = let product : 1 * 1 ≤ a * b = mul-le-mul h k in omega arith

pub itself_in_units : (a b : ℕ) → 1 ≤ b → rounded_up a b ≤ a
itself_in_units a b some = rounded_within a b a some (let product : a * 1 ≤ a * b = mul-le-mul (itself a) some in omega arith)

pub word_power : (k : ℕ) → k ≤ 127 → 1 * 2 ^ k % 2 ^ 128 ≤ 2 ^ 127
word_power k few = let plain : 1 * 2 ^ k % 2 ^ 128 ≡ 2 ^ k = one_shl k 128 (omega arith) in let grown : 2 ^ k ≤ 2 ^ 127 = two_power_at_most k 127 few in omega arith

pub small_power : (k power : ℕ) → k ≤ 110 → power ≡ 2 ^ k → power ≤ 2 ^ 110
small_power k power few is = let grown : 2 ^ k ≤ 2 ^ 110 = two_power_at_most k 110 few in omega arith

-- A number of bad elements that has saturated counts as it would have.
pub saturated_bad : (own draws most field : ℕ) → field ≤ most → min (min (own + min draws most) most) field ≡ min (own + draws) field
saturated_bad own draws most field within = omega arith

pub size_is : (s k b most : ℕ) → s ≡ min (k + b) most → s ≤ 126 → 126 < most → s ≡ k + b
size_is s k b most is few large = omega arith

pub height_within : (s k b most : ℕ) → s ≡ min (k + b) most → s ≤ 126 → 126 < most → k ≤ s
height_within s k b most is few large = omega arith

pub power_less : (j k left right : ℕ) → left ≡ 2 ^ j → right ≡ 2 ^ k → j ≤ k → left ≤ right
power_less j k left right first second less = let grown : 2 ^ j ≤ 2 ^ k = two_power_at_most j k less in omega arith

pub power_few : (j k left : ℕ) → left ≡ 2 ^ j → j ≤ k → left ≤ 2 ^ k
power_few j k left first less = let grown : 2 ^ j ≤ 2 ^ k = two_power_at_most j k less in omega arith

pub not_large : (s k b most : ℕ) → s ≡ min (k + b) most → s ≤ 126 → 126 < most → 126 < k + b → ⊥
not_large s k b most is few large more = omega arith

module _ (p : StarkSecurityParams) where
  field_within : 2 ^ field_bits_of p ≤ 2 ^ 128 - 1
  field_within = let grown : 2 ^ field_bits_of p ≤ 2 ^ 127 = two_power_at_most (field_bits_of p) 127 (let few : field_bits_of p ≤ 127 = omega arith in few) in omega arith

  settled : (sum bad some part all whole_all bits : ℕ) → min sum (2 ^ field_bits_of p) ≡ min bad (2 ^ field_bits_of p) → some ≡ part → all ≡ whole_all → AreBitsWithin p sum some all bits → AreBitsWithin p bad part whole_all bits
  settled sum bad some part all whole_all bits same is_part is_all are = record {
    log = are.log;
    parts = subst (λ t. IsCeilingOfLog are.log (rounded_up (min bad (2 ^ field_bits_of p)) (2 ^ (field_bits_of p - whole_bits p)) + query_parts p part t)) is_all
        (subst (λ t. IsCeilingOfLog are.log (rounded_up (min bad (2 ^ field_bits_of p)) (2 ^ (field_bits_of p - whole_bits p)) + query_parts p t all)) is_part
        (subst (λ t. IsCeilingOfLog are.log (rounded_up t (2 ^ (field_bits_of p - whole_bits p)) + query_parts p some all)) same are.parts));
    left = are.left;
  }

  module _ (alphas zetas k s rows places blowup draws sum bits : ℕ) (size : s ≡ k + p.fri_log_blowup) (rows_is : rows ≡ 2 ^ k) (places_is : places ≡ 2 ^ s) (blowup_is : blowup ≡ counted_blowup p) (sum_is : sum ≡ min (alphas + zetas + draws) (2 ^ 128 - 1)) where
    all_places : places ≡ 2 ^ (k + p.fri_log_blowup)
    all_places = places_is ∙ ap (λ t. 2 ^ t) size

    saturated : (bad : ℕ) → draws ≡ min bad (2 ^ 128 - 1) → min sum (2 ^ field_bits_of p) ≡ min (alphas + zetas + bad) (2 ^ field_bits_of p)
    saturated bad is = ap (λ t. min t (2 ^ field_bits_of p)) (sum_is ∙ ap (λ t. min (alphas + zetas + t) (2 ^ 128 - 1)) is) ∙ saturated_bad (alphas + zetas) bad (2 ^ 128 - 1) (2 ^ field_bits_of p) field_within

    pub in_half_of : draws ≡ min (p.num_batched_functions * (places + (places - rows - 1) / 2)) (2 ^ 128 - 1) → AreBitsWithin p sum (blowup + 1) (2 * blowup) bits
        → AreBitsWithin p (alphas + zetas + draws_in_half p.num_batched_functions k p.fri_log_blowup) (counted_blowup p + 1) (2 * counted_blowup p) bits
    in_half_of is are =
        let own : draws ≡ min (draws_in_half p.num_batched_functions k p.fri_log_blowup) (2 ^ 128 - 1) =
        is ∙ ap (λ t. min (p.num_batched_functions * (places + (places - t - 1) / 2)) (2 ^ 128 - 1)) rows_is ∙ ap (λ t. min (p.num_batched_functions * (t + (t - 2 ^ k - 1) / 2)) (2 ^ 128 - 1)) all_places in
        settled sum (alphas + zetas + draws_in_half p.num_batched_functions k p.fri_log_blowup) (blowup + 1) (counted_blowup p + 1) (2 * blowup) (2 * counted_blowup p) bits
        (saturated (draws_in_half p.num_batched_functions k p.fri_log_blowup) own) (ap (λ t. t + 1) blowup_is) (ap (λ t. 2 * t) blowup_is) are

    pub in_third_of : draws ≡ min ((p.num_batched_functions - 1) * (places + (places - rows) / 3) + ((places - rows) / 3 + k)) (2 ^ 128 - 1) → AreBitsWithin p sum (2 * blowup + 1) (3 * blowup) bits
        → AreBitsWithin p (alphas + zetas + draws_in_third p.num_batched_functions k p.fri_log_blowup) (2 * counted_blowup p + 1) (3 * counted_blowup p) bits
    in_third_of is are =
        let own : draws ≡ min (draws_in_third p.num_batched_functions k p.fri_log_blowup) (2 ^ 128 - 1) =
        is ∙ ap (λ t. min ((p.num_batched_functions - 1) * (places + (places - t) / 3) + ((places - t) / 3 + k)) (2 ^ 128 - 1)) rows_is
        ∙ ap (λ t. min ((p.num_batched_functions - 1) * (t + (t - 2 ^ k) / 3) + ((t - 2 ^ k) / 3 + k)) (2 ^ 128 - 1)) all_places in
        settled sum (alphas + zetas + draws_in_third p.num_batched_functions k p.fri_log_blowup) (2 * blowup + 1) (2 * counted_blowup p + 1) (3 * blowup) (3 * counted_blowup p) bits
        (saturated (draws_in_third p.num_batched_functions k p.fri_log_blowup) own) (ap (λ t. 2 * t + 1) blowup_is) (ap (λ t. 3 * t) blowup_is) are

-- ---- where a proof lists its columns

pub listed_bits_are_proved : ListedBitsAreProved
listed_bits_are_proved field alphas zetas bits elements are some within =
    let log = are.log in
    let split : 2 ^ bits * 2 ^ log ≡ 2 ^ field = sym (pow-add 2 bits log) ∙ ap (λ t. 2 ^ t) (ap (λ t. t + log) are.left ∙ left_of field log (subst (λ t. 1 ≤ t) are.left some)) in
    let few : alphas + zetas ≤ 2 ^ log = largest (alphas + zetas) (2 ^ log) are.bad.covers in
    let product : 2 ^ bits * (alphas + zetas) ≤ 2 ^ bits * 2 ^ log = mul-le-mul (itself (2 ^ bits)) few in omega arith
