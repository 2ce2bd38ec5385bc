-- Loops that write nodes.
use Rattle.std.proofs.Common.{◌≡◌, ◌∙◌, ℕ, zero, suc, ◌+◌, ◌-◌, ◌<◌, ◌≤◌, List, [], ◌∷◌, ◌++◌, length, map, drop, slice_get, Some, refl, sym, ap, subst, arith, append_assoc}
use Rattle.std.proofs.lemmas.List.{append-nil, drop_all}
use Rattle.stark_support.specs.Faults.{PlaceByPlace}
use Rattle.stark_air.specs.Layout.{Layout}
use Rattle.stark_air.specs.Tree.{Tree}
use Rattle.stark_tree_air.specs.declared.list.TreeList.{TreeList}
use Rattle.stark_lookup_extension.specs.Written.{KeepPlaces, Spelling, Written, WritesOne, WritesTwo}
use Rattle.stark_lookup_extension.proofs.Steps.{Keep, after_it, each_kept, none_yet, one_after, so_made, unchanged}

-- what stands at a place, and the rest
pub from_there : {A : Type 0} (xs : List A) (i : ℕ) (x : A) → slice_get xs i ≡ Some x → drop i xs ≡ x ∷ drop (i + 1) xs
from_there [] i x e = absurd (cc)
from_there (y ∷ xs) zero x e = let same : y ≡ x = cc in ap (λ z. z ∷ xs) same
from_there (y ∷ xs) (suc i) x e = let next : suc i + 1 ≡ suc (i + 1) = omega arith in from_there xs i x e ∙ ap (λ n. x ∷ drop n (y ∷ xs)) (sym next)

-- What stands for the first of a list, and the others.
pub record Parted {A B : Type 0} (R : A → B → Type 0) (x : A) (xs : List A) (ys : List B) : Type 0 where
  pub first : B
  pub others : List B
  pub whole : ys ≡ first ∷ others
  pub here : R x first
  pub after : PlaceByPlace R xs others

pub parted : {A B : Type 0} (R : A → B → Type 0) (x : A) (xs : List A) (ys : List B) → PlaceByPlace R (x ∷ xs) ys → Parted R x xs ys
unfolding PlaceByPlace
parted R x xs [] h = absurd h
parted R x xs (y ∷ ys) h = record { first = y; others = ys; whole = refl; here = h.0; after = h.1 }

pub nothing_for_none : {A B : Type 0} (R : A → B → Type 0) (ys : List B) → PlaceByPlace R [] ys → ys ≡ []
unfolding PlaceByPlace
nothing_for_none R [] h = refl
nothing_for_none R (y ∷ ys) h = absurd h

-- What stands for the rest of a list is the rest of what stands for it.
pub rest_stands : {A B : Type 0} (R : A → B → Type 0) (i : ℕ) (xs : List A) (ys : List B) → PlaceByPlace R xs ys → PlaceByPlace R (drop i xs) (drop i ys)
unfolding PlaceByPlace
rest_stands R zero xs ys h = h
rest_stands R (suc i) [] [] h = h
rest_stands R (suc i) [] (y ∷ ys) h = absurd h
rest_stands R (suc i) (x ∷ xs) [] h = absurd h
rest_stands R (suc i) (x ∷ xs) (y ∷ ys) h = rest_stands R i xs ys h.1

pub as_many : {A B : Type 0} (R : A → B → Type 0) (xs : List A) (ys : List B) → PlaceByPlace R xs ys → length xs ≡ length ys
unfolding PlaceByPlace
as_many R [] [] h = refl
as_many R [] (y ∷ ys) h = absurd h
as_many R (x ∷ xs) [] h = absurd h
as_many R (x ∷ xs) (y ∷ ys) h = ap suc (as_many R xs ys h.1)

-- ---- a loop that makes one thing of each

module _ {F X Y P U V W : Type 0} (R : List (Tree F) → X → U → Type 0) (S : List (Tree F) → Y → V → Type 0) (Q : List (Tree F) → P → W → Type 0) (f : U → V → W) where
  -- those before the place i are made
  pub record Half (ts : List (Tree F)) (x : X) (u : U) (ys : List Y) (vs : List V) (i : ℕ) (ps : List P) : Type 0 where
    pub done : List W
    pub todo : List V
    pub made : PlaceByPlace (Q ts) ps done
    pub left : PlaceByPlace (S ts) (drop i ys) todo
    pub split : done ++ map (f u) todo ≡ map (f u) vs
    pub given : R ts x u

  abbrev pub Begun : TreeList F → X → List Y → ℕ → List P → TreeList F → Type 0
  Begun old x ys i ps new = (l : Layout) (ts : List (Tree F)) (u : U) (vs : List V) → Spelling l old ts → R ts x u → PlaceByPlace (S ts) ys vs → Written l ts old new (λ us. Half us x u ys vs i ps)

  pub begun_none : (list : TreeList F) (x : X) (ys : List Y) (ps : List P) → ps ≡ [] → Begun list x ys 0 ps list
  begun_none list x ys ps none l ts u vs h r s = unchanged list h (record {
    done = [];
    todo = vs;
    made = subst (λ qs. PlaceByPlace (Q ts) qs []) (sym none) (none_yet (Q ts));
    left = s;
    split = refl;
    given = r;
  })

  pub begun_one : Keep R → Keep S → Keep Q → (a b c : TreeList F) (x : X) (ys : List Y) (i : ℕ) (y : Y) (p : P) (ps qs : List P) → slice_get ys i ≡ Some y → qs ≡ ps ++ p ∷ []
      → Begun a x ys i ps b → WritesTwo R S Q f b x y p c → Begun a x ys (i + 1) qs c
  begun_one keep_r keep_s keep_q a b c x ys i y p ps qs is pushed begun one l ts u vs h r s =
      let w = begun l ts u vs h r s in
      let half = w.made in
      let opened : drop i ys ≡ y ∷ drop (i + 1) ys = from_there ys i y is in
      let next = parted (S w.trees) y (drop (i + 1) ys) half.todo (subst (λ zs. PlaceByPlace (S w.trees) zs half.todo) opened half.left) in
      let v = one l w.trees u next.first w.spelling half.given next.here in
      let made_before = each_kept Q keep_q w.trees v.trees v.kept ps half.done half.made in
      after_it a b c w (so_made b c v (record {
        done = half.done ++ f u next.first ∷ [];
        todo = next.others;
        made = subst (λ zs. PlaceByPlace (Q v.trees) zs (half.done ++ f u next.first ∷ [])) (sym pushed) (one_after (Q v.trees) ps half.done p (f u next.first) made_before v.made);
        left = each_kept S keep_s w.trees v.trees v.kept (drop (i + 1) ys) next.others next.after;
        split = append_assoc half.done (f u next.first ∷ []) (map (f u) next.others) ∙ ap (λ zs. half.done ++ map (f u) zs) (sym next.whole) ∙ half.split;
        given = keep_r w.trees v.trees v.kept x u half.given;
      }))

  pub begun_all : (a b : TreeList F) (x : X) (ys : List Y) (i : ℕ) (ps : List P) → length ys ≤ i → Begun a x ys i ps b
      → WritesTwo R (λ ts zs vs. PlaceByPlace (S ts) zs vs) (λ ts zs ws. PlaceByPlace (Q ts) zs ws) (λ u vs. map (f u) vs) a x ys ps b
  begun_all a b x ys i ps ended begun l ts u vs h r s =
      let w = begun l ts u vs h r s in
      let half = w.made in
      let none : half.todo ≡ [] = nothing_for_none (S w.trees) half.todo (subst (λ zs. PlaceByPlace (S w.trees) zs half.todo) (drop_all i ys ended) half.left) in
      let all : half.done ≡ map (f u) vs = sym (append-nil half.done) ∙ ap (λ zs. half.done ++ map (f u) zs) (sym none) ∙ half.split in
      so_made a b w (subst (λ zs. PlaceByPlace (Q w.trees) ps zs) all half.made)

-- ---- the same, where nothing else is given

abbrev pub Nothing : {F : Type 0} → List (Tree F) → Unit {0} → Unit {0} → Type 0
Nothing ts x u = Unit {0}

pub nothing_kept : {F : Type 0} → Keep {F = F} Nothing
nothing_kept ts us k x u h = tt

module _ {F Y P V W : Type 0} (S : List (Tree F) → Y → V → Type 0) (Q : List (Tree F) → P → W → Type 0) (f : V → W) where
  abbrev pub EachSoFar : TreeList F → List Y → ℕ → List P → TreeList F → Type 0
  EachSoFar old ys i ps new = Begun Nothing S Q (λ u v. f v) old tt ys i ps new

  pub each_none : (list : TreeList F) (ys : List Y) (ps : List P) → ps ≡ [] → EachSoFar list ys 0 ps list
  each_none list ys ps none = begun_none Nothing S Q (λ u v. f v) list tt ys ps none

  pub each_one : Keep S → Keep Q → (a b c : TreeList F) (ys : List Y) (i : ℕ) (y : Y) (p : P) (ps qs : List P) → slice_get ys i ≡ Some y → qs ≡ ps ++ p ∷ [] → EachSoFar a ys i ps b → WritesOne S Q f b y p c → EachSoFar a ys (i + 1) qs c
  each_one keep_s keep_q a b c ys i y p ps qs is pushed so_far one = begun_one Nothing S Q (λ u v. f v) nothing_kept keep_s keep_q a b c tt ys i y p ps qs is pushed so_far (λ l ts u v h r s. one l ts v h s)

  pub each_all : (a b : TreeList F) (ys : List Y) (i : ℕ) (ps : List P) → length ys ≤ i → EachSoFar a ys i ps b → WritesOne (λ ts zs vs. PlaceByPlace (S ts) zs vs) (λ ts zs ws. PlaceByPlace (Q ts) zs ws) (map f) a ys ps b
  each_all a b ys i ps ended so_far l ts vs h s = begun_all Nothing S Q (λ u v. f v) a b tt ys i ps ended so_far l ts tt vs h tt s

-- ---- a loop from the last to the first

-- What stands for the element at a place, and the rest from there on.
pub record Place {A B : Type 0} (R : A → B → Type 0) (x : A) (i : ℕ) (ys : List B) : Type 0 where
  pub there : B
  pub stands : R x there
  pub opened : drop i ys ≡ there ∷ drop (i + 1) ys

pub place_of : {A B : Type 0} (R : A → B → Type 0) (xs : List A) (ys : List B) (i : ℕ) (x : A) → PlaceByPlace R xs ys → slice_get xs i ≡ Some x → Place R x i ys
unfolding PlaceByPlace
place_of R [] ys i x h is = absurd (cc)
place_of R (z ∷ xs) [] i x h is = absurd h
place_of R (z ∷ xs) (y ∷ ys) zero x h is = let same : z ≡ x = cc in record { there = y; stands = subst (λ a. R a y) same h.0; opened = refl }
place_of R (z ∷ xs) (y ∷ ys) (suc i) x h is =
    let later = place_of R xs ys i x h.1 is in
    let next : suc i + 1 ≡ suc (i + 1) = omega arith in
    record { there = later.there; stands = later.stands; opened = later.opened ∙ ap (λ n. later.there ∷ drop n (y ∷ ys)) (sym next) }

module _ {F X Y P U V W : Type 0} (R : List (Tree F) → X → U → Type 0) (S : List (Tree F) → Y → V → Type 0) (Q : List (Tree F) → P → W → Type 0) (f : U → List V → W) (step : U → V → W → W) where
  -- those from the place i on are taken together
  pub record Taken (ts : List (Tree F)) (x : X) (u : U) (ys : List Y) (vs : List V) (i : ℕ) (p : P) : Type 0 where
    pub given : R ts x u
    pub all : PlaceByPlace (S ts) ys vs
    pub made : Q ts p (f u (drop i vs))

  abbrev pub From : TreeList F → X → List Y → ℕ → P → TreeList F → Type 0
  From old x ys i p new = (l : Layout) (ts : List (Tree F)) (u : U) (vs : List V) → Spelling l old ts → R ts x u → PlaceByPlace (S ts) ys vs → Written l ts old new (λ us. Taken us x u ys vs i p)

  pub from_none : (list : TreeList F) (x : X) (ys : List Y) (i : ℕ) (p : P) → length ys ≤ i → ((ts : List (Tree F)) (u : U) → R ts x u → Q ts p (f u [])) → From list x ys i p list
  from_none list x ys i p ended none l ts u vs h r s = unchanged list h (record {
    given = r;
    all = s;
    made =
        let same = as_many (S ts) ys vs s in
        let nothing : drop i vs ≡ [] = drop_all i vs (omega (arith, same, ended)) in
        subst (λ ws. Q ts p (f u ws)) (sym nothing) (none ts u r);
  })

  pub from_one : Keep R → Keep S → ((u : U) (v : V) (vs : List V) → f u (v ∷ vs) ≡ step u v (f u vs)) → (a b c : TreeList F) (x : X) (ys : List Y) (i j : ℕ) (y : Y) (p q : P) → i + 1 ≡ j → slice_get ys i ≡ Some y
      → From a x ys j p b
      → ((l : Layout) (ts : List (Tree F)) (u : U) (v : V) (w : W) → Spelling l b ts → R ts x u → S ts y v → Q ts p w → Written l ts b c (λ us. Q us q (step u v w))) → From a x ys i q c
  from_one keep_r keep_s same a b c x ys i j y p q next is so_far one l ts u vs h r s =
      let w = so_far l ts u vs h r s in
      let taken = w.made in
      let place = place_of (S w.trees) ys vs i y taken.all is in
      let before : Q w.trees p (f u (drop (i + 1) vs)) = subst (λ n. Q w.trees p (f u (drop n vs))) (sym next) taken.made in
      let v = one l w.trees u place.there (f u (drop (i + 1) vs)) w.spelling taken.given place.stands before in
      after_it a b c w (so_made b c v (record {
        given = keep_r w.trees v.trees v.kept x u taken.given;
        all = each_kept S keep_s w.trees v.trees v.kept ys vs taken.all;
        made = subst (λ z. Q v.trees q z) (sym (ap (f u) place.opened ∙ same u place.there (drop (i + 1) vs))) v.made;
      }))

  pub from_all : (a b : TreeList F) (x : X) (ys : List Y) (p : P) → From a x ys 0 p b → WritesTwo R (λ ts zs vs. PlaceByPlace (S ts) zs vs) Q f a x ys p b
  from_all a b x ys p so_far l ts u vs h r s = let w = so_far l ts u vs h r s in so_made a b w w.made.made
