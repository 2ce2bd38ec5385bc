-- Lookups without a fault name nodes that are there.
use Rattle.std.proofs.Common.{◌≡◌, ◌∙◌, ℕ, zero, suc, ◌+◌, ◌<◌, ◌&&◌, nat_lt, Bool, true, false, List, [], ◌∷◌, length, Option, Some, None, if◌then◌else◌, refl, sym, ap, subst, arith}
use Rattle.std.proofs.lemmas.Bool.{lt-ltb}
use Rattle.std.specs.List.{AllByRecursion}
use Rattle.std.specs.Option.{option_or}
use Rattle.std.specs.declared.vec.Vec.{Vec}
use Rattle.stark_support.specs.OptionFacts.{both_none}
use Rattle.stark_lookup_extension.specs.ExtensionFaults.{all_below, group_fault, interaction_fault, lookup_fault, lookups_fault}
use Rattle.stark_lookup_extension.specs.WrittenGroups.{NamesNodes}
use Rattle.stark_lookup_extension.specs.declared.error.ExtensionError.{ExtensionError}
use Rattle.stark_lookup_extension.specs.declared.error.ExtensionError.TheVariants.{LongTuple, NoSuchNode}
use Rattle.stark_lookup_extension.specs.declared.fault.Limits.{Limits}
use Rattle.stark_lookup_extension.specs.declared.lookup.Lookup.{Lookup}
use Rattle.stark_lookup_extension.specs.declared.lookup.LookupInteraction.{LookupInteraction}

below : (i n : ℕ) → nat_lt i n ≡ true → i < n
below i n h = grind arith

is_below : (b c : Bool) → (if b then c else false) ≡ true → (b ≡ true) × (c ≡ true)
is_below true c e = (refl, e)
is_below false c e = absurd (cc)

both_true : (a b : Bool) → a && b ≡ true → (a ≡ true) × (b ≡ true)
both_true true b e = (refl, e)
both_true false b e = absurd (cc)

tested : {A : Type 0} (b : Bool) (x : A) → (if b then None else Some x) ≡ None → b ≡ true
tested true x e = refl
tested false x e = absurd (cc)

not_first : {A : Type 0} (b : Bool) (x : A) (o : Option A) → (if b then Some x else o) ≡ None → o ≡ None
not_first true x o e = absurd (cc)
not_first false x o e = e

all_are_below : (count : ℕ) (ps : List ℕ) → all_below count ps ≡ true → AllByRecursion (λ p. p < count) ps
all_are_below count [] e = tt
all_are_below count (p ∷ ps) e = let both = is_below (nat_lt p count) (all_below count ps) e in (below p count both.0, all_are_below count ps both.1)

module _ (limits : Limits) where
  names_nodes : (lookup group k : ℕ) (e : LookupInteraction) → interaction_fault limits lookup group k e ≡ None → NamesNodes limits.nodes e
  names_nodes lookup group k e none =
      let short = not_first (nat_lt limits.width (length e.tuple.items)) (LongTuple lookup group k) (if nat_lt e.times limits.nodes && all_below limits.nodes e.tuple.items then None else Some (NoSuchNode lookup group k)) none in
      let both = both_true (nat_lt e.times limits.nodes) (all_below limits.nodes e.tuple.items) (tested (nat_lt e.times limits.nodes && all_below limits.nodes e.tuple.items) (NoSuchNode lookup group k) short) in
      record { tuple = all_are_below limits.nodes e.tuple.items both.1; times = below e.times limits.nodes both.0 }

  group_names : (lookup group k : ℕ) (es : List LookupInteraction) → group_fault limits lookup group k es ≡ None → AllByRecursion (NamesNodes limits.nodes) es
  group_names lookup group k [] none = tt
  group_names lookup group k (e ∷ es) none =
      let both = both_none (interaction_fault limits lookup group k e) (group_fault limits lookup group (k + 1) es) none in
      (names_nodes lookup group k e both.0, group_names lookup group (k + 1) es both.1)

  lookup_names : {A : Type 0} (lookup k : ℕ) (gs : List (Vec LookupInteraction A)) → lookup_fault limits lookup k gs ≡ None → AllByRecursion (λ g. AllByRecursion (NamesNodes limits.nodes) g.items) gs
  lookup_names lookup k [] none = tt
  lookup_names lookup k (g ∷ gs) none =
      let both = both_none (group_fault limits lookup k 0 g.items) (lookup_fault limits lookup (k + 1) gs) none in
      (group_names lookup k 0 g.items both.0, lookup_names lookup (k + 1) gs both.1)

  pub lookups_name : (k : ℕ) (xs : List Lookup) → lookups_fault limits k xs ≡ None → AllByRecursion (λ x. AllByRecursion (λ g. AllByRecursion (NamesNodes limits.nodes) g.items) x.groups.items) xs
  lookups_name k [] none = tt
  lookups_name k (x ∷ xs) none =
      let both = both_none (lookup_fault limits k 0 x.groups.items) (lookups_fault limits (k + 1) xs) none in
      (lookup_names k 0 x.groups.items both.0, lookups_name (k + 1) xs both.1)

-- ---- the fault of an AIR with lookups, stage by stage

pub no_columns : (width : ℕ) (e : ExtensionError) (rest : Option ExtensionError) → width ≡ 0 → option_or (if nat_lt 0 width then None else Some e) rest ≡ Some e
no_columns width e rest is = ap (λ n. option_or (if nat_lt 0 n then None else Some e) rest) is

pub some_columns : (width : ℕ) (e : ExtensionError) (rest : Option ExtensionError) → 0 < width → option_or (if nat_lt 0 width then None else Some e) rest ≡ rest
some_columns width e rest some = ap (λ b. option_or (if b then None else Some e) rest) (lt-ltb 0 width some)

pub fault_first : (o rest : Option ExtensionError) (e : ExtensionError) → o ≡ Some e → option_or o rest ≡ Some e
fault_first o rest e is = ap (λ p. option_or p rest) is

pub fault_later : (o rest : Option ExtensionError) → o ≡ None → option_or o rest ≡ rest
fault_later o rest is = ap (λ p. option_or p rest) is

pub too_large : (b : Bool) (e : ExtensionError) → b ≡ false → (if b then None else Some e) ≡ Some e
too_large b e is = ap (λ c. if c then None else Some e) is

pub not_too_large : (b : Bool) (e : ExtensionError) → b ≡ true → (if b then None else Some e) ≡ None
not_too_large b e is = ap (λ c. if c then None else Some e) is

pub left_false : (a b : Bool) → a ≡ false → a && b ≡ false
left_false a b is = ap (λ c. c && b) is

pub right_false : (a b : Bool) → b ≡ false → a && b ≡ false
right_false true b is = is
right_false false b is = refl

pub both_hold : (a b : Bool) → a ≡ true → b ≡ true → a && b ≡ true
both_hold a b p q = ap (λ c. c && b) p ∙ q

pub is_less : (i n : ℕ) → i < n → nat_lt i n ≡ true
is_less i n below = lt-ltb i n below
