-- Values of the places that interactions name are cut into what the interactions are worth.
use Rattle.std.proofs.Common.{◌≡◌, ◌∙◌, ℕ, zero, suc, ◌+◌, ◌-◌, Bool, true, false, nat_lt, List, [], ◌∷◌, ◌++◌, append_assoc, ap, get_or, length, map, refl, replicate, sym, take}
use Rattle.std.specs.List.{flat_map, sum_by}
use Rattle.std.specs.declared.vec.Vec.{Vec}
use Rattle.std.proofs.lemmas.List.{length-append, length-map, map-append}
use Rattle.std.proofs.lemmas.List.Sums.{sum_by-cons}
use Rattle.std.proofs.lemmas.Simd.{map-map}
use Rattle.std.proofs.Math.Seq.{get_or-append_seam, take-append_seam}
use Rattle.stark_support.specs.Ring.{RingOps}
use Rattle.stark_air.specs.Tree.{Tree, constant, negation}
use Rattle.stark_logup.specs.Fractions.{Entry}
use Rattle.stark_logup.specs.RowConstraints.{worth}
use Rattle.stark_tree_air.specs.Nodes.{tree_at}
use Rattle.stark_lookup_extension.specs.Interactions.{directed, interaction_over, numbered_groups, tag_of}
use Rattle.stark_lookup_extension.specs.declared.lookup.Direction.{Direction}
use Rattle.stark_lookup_extension.specs.declared.lookup.Direction.TheVariants.{Sent, Received}
use Rattle.stark_lookup_extension.specs.declared.lookup.Lookup.{Lookup}
use Rattle.stark_lookup_extension.specs.declared.lookup.LookupInteraction.{LookupInteraction}
use Rattle.stark_lookup_rows.specs.Cut.{counted, cut_entry, cut_group, cut_groups, cut_lookups, entry_of, group_of, group_size, groups_size, interaction_size, lookup_of, lookups_size, same_state, tag_at}
use Rattle.stark_lookup_rows.specs.Cutting.{made_in_turn}
use Rattle.stark_lookup_rows.specs.Places.{group_places, groups_places, interaction_places, lookups_places}
use Rattle.stark_lookup_rows.proofs.CuttingSteps.{cut_of_listed}

map_replicate : {A B : Type 0} (f : A → B) (n : ℕ) (a : A) → map f (replicate n a) ≡ replicate n (f a)
map_replicate f zero a = refl
map_replicate f (suc n) a = ap (λ xs. f a ∷ xs) (map_replicate f n a)

map_listed : {X A B : Type 0} (f : A → B) (places : X → List A) (xs : List X) → map f (flat_map places xs) ≡ flat_map (λ x. map f (places x)) xs
map_listed f places [] = refl
map_listed f places (x ∷ xs) = map-append f (places x) (flat_map places xs) ∙ ap (λ ys. map f (places x) ++ ys) (map_listed f places xs)

-- What groups make with nothing that goes on.
each_made : {X Y : Type 0} (f : X → Y) (xs : List X) → made_in_turn same_state (λ s x. f x ∷ []) tt xs ≡ map f xs
each_made f [] = refl
each_made f (x ∷ xs) = ap (λ ys. f x ∷ ys) (each_made f xs)

-- ---- how many

size_of_places : (e : LookupInteraction) → length (interaction_places e) ≡ interaction_size e
size_of_places e = length-append e.tuple.items (e.times ∷ [])

sizes_listed : {X : Type 0} (places : X → List ℕ) (size : X → ℕ) → ((x : X) → length (places x) ≡ size x) → (xs : List X) → length (flat_map places xs) ≡ sum_by size xs
sizes_listed places size sized [] = refl
sizes_listed places size sized (x ∷ xs) =
    length-append (places x) (flat_map places xs) ∙ ap (λ n. n + length (flat_map places xs)) (sized x) ∙ ap (λ n. size x + n) (sizes_listed places size sized xs) ∙ sym (sum_by-cons size x xs)

size_of_group : (es : List LookupInteraction) → length (group_places es) ≡ group_size es
size_of_group es = sizes_listed interaction_places interaction_size size_of_places es

size_of_groups : {A : Type 0} (gs : List (Vec LookupInteraction A)) → length (groups_places gs) ≡ groups_size gs
size_of_groups gs = sizes_listed (λ g. group_places g.items) (λ g. group_size g.items) (λ g. size_of_group g.items) gs

pub size_of_lookups : (xs : List Lookup) → length (lookups_places xs) ≡ lookups_size xs
size_of_lookups xs = sizes_listed (λ x. groups_places x.groups.items) (λ x. groups_size x.groups.items) (λ x. size_of_groups x.groups.items) xs

-- ---- what they are worth

module _ {F : Type 0} (ring : RingOps F) (ts : List (Tree F)) (width : ℕ) (f : Tree F → F) (on_constant : (k : F) → f (constant k) ≡ k) (on_negation : (t : Tree F) → f (negation t) ≡ ring.neg (f t)) where
  abbrev worth_at : ℕ → F
  worth_at p = f (tree_at ts p)

  is_counted : (d : Direction) (times : ℕ) → counted ring d (worth_at times) ≡ f (directed d (tree_at ts times))
  is_counted Sent times = refl
  is_counted Received times = sym (on_negation (tree_at ts times))

  tag_worth : (numbered : Bool) (number : F) → map f (tag_of numbered number) ≡ tag_at numbered number
  tag_worth true number = ap (λ k. k ∷ []) (on_constant number)
  tag_worth false number = refl

  -- An entry,
  entry_cut : (tag : List (Tree F)) (e : LookupInteraction) (others : List F) → cut_entry ring width (map f tag) e (map worth_at (interaction_places e) ++ others) ≡ worth f (interaction_over ring ts width tag e)
  entry_cut tag e others =
      let tuple = e.tuple.items in
      let n = length tuple in
      let filling = replicate (width - n) (constant ring.zero) in
      let values = map worth_at tuple in
      let whole : map worth_at (interaction_places e) ++ others ≡ values ++ worth_at e.times ∷ others
      = ap (λ ys. ys ++ others) (map-append worth_at tuple (e.times ∷ [])) ∙ append_assoc values (worth_at e.times ∷ []) others in
      let size : n ≡ length values = sym (length-map tuple worth_at) in
      let taken : take n (map worth_at (interaction_places e) ++ others) ≡ map f (map (tree_at ts) tuple)
      = ap (take n) whole ∙ ap (λ m. take m (values ++ worth_at e.times ∷ others)) size ∙ take-append_seam values (worth_at e.times ∷ others) ∙ sym (map-map f (tree_at ts) tuple) in
      let read : get_or (map worth_at (interaction_places e) ++ others) n ring.zero ≡ worth_at e.times
      = ap (λ ys. get_or ys n ring.zero) whole ∙ ap (λ m. get_or (values ++ worth_at e.times ∷ others) m ring.zero) size ∙ get_or-append_seam values (worth_at e.times) others ring.zero in
      let filled : replicate (width - n) ring.zero ≡ map f filling = ap (replicate (width - n)) (sym (on_constant ring.zero)) ∙ sym (map_replicate f (width - n) (constant ring.zero)) in
      let key : map f tag ++ take n (map worth_at (interaction_places e) ++ others) ++ replicate (width - n) ring.zero ≡ map f (tag ++ map (tree_at ts) tuple ++ filling)
      = ap (λ ys. map f tag ++ ys ++ replicate (width - n) ring.zero) taken ∙ ap (λ ys. map f tag ++ map f (map (tree_at ts) tuple) ++ ys) filled
      ∙ ap (λ ys. ys ++ map f filling) (sym (map-append f tag (map (tree_at ts) tuple))) ∙ sym (map-append f (tag ++ map (tree_at ts) tuple) filling) in
      let times : counted ring e.direction (get_or (map worth_at (interaction_places e) ++ others) n ring.zero) ≡ f (directed e.direction (tree_at ts e.times)) = ap (counted ring e.direction) read ∙ is_counted e.direction e.times in
      let made : List F → F → Entry (List F) F = λ k m. record { key = k; multiplicity = m } in
      ap (λ k. made k (counted ring e.direction (get_or (map worth_at (interaction_places e) ++ others) n ring.zero))) key ∙ ap (made (map f (tag ++ map (tree_at ts) tuple ++ filling))) times

  length_worth : {X : Type 0} (places : X → List ℕ) (size : X → ℕ) → ((x : X) → length (places x) ≡ size x) → (x : X) → length (map worth_at (places x)) ≡ size x
  length_worth places size sized x = length-map (places x) worth_at ∙ sized x

  -- a group,
  group_cut : (tag : List (Tree F)) (es : List LookupInteraction) (others : List F) → cut_group ring width (map f tag) es (map worth_at (group_places es) ++ others) ≡ map (worth f) (map (interaction_over ring ts width tag) es)
  group_cut tag es others =
      ap (λ ys. cut_group ring width (map f tag) es (ys ++ others)) (map_listed worth_at interaction_places es)
      ∙ cut_of_listed interaction_size same_state (entry_of ring width (map f tag)) (λ e. map worth_at (interaction_places e)) (λ s e. worth f (interaction_over ring ts width tag e) ∷ []) (length_worth interaction_places interaction_size size_of_places)
      (λ s e rest. ap (λ x. x ∷ []) (entry_cut tag e rest)) tt es others
      ∙ each_made (λ e. worth f (interaction_over ring ts width tag e)) es ∙ sym (map-map (worth f) (interaction_over ring ts width tag) es)

  -- the groups of a lookup,
  groups_cut : {A : Type 0} (tag : List (Tree F)) (gs : List (Vec LookupInteraction A)) (others : List F)
      → cut_groups ring width (map f tag) gs (map worth_at (groups_places gs) ++ others) ≡ map (map (worth f)) (map (λ g. map (interaction_over ring ts width tag) g.items) gs)
  groups_cut tag gs others =
      ap (λ ys. cut_groups ring width (map f tag) gs (ys ++ others)) (map_listed worth_at (λ g. group_places g.items) gs)
      ∙ cut_of_listed (λ g. group_size g.items) same_state (group_of ring width (map f tag)) (λ g. map worth_at (group_places g.items)) (λ s g. map (worth f) (map (interaction_over ring ts width tag) g.items) ∷ [])
      (length_worth (λ g. group_places g.items) (λ g. group_size g.items) (λ g. size_of_group g.items)) (λ s g rest. ap (λ x. x ∷ []) (group_cut tag g.items rest)) tt gs others
      ∙ each_made (λ g. map (worth f) (map (interaction_over ring ts width tag) g.items)) gs ∙ sym (map-map (map (worth f)) (λ g. map (interaction_over ring ts width tag) g.items) gs)

  -- and those of all lookups.
  numbered_made : (numbered : Bool) (number : F) (xs : List Lookup)
      → made_in_turn (λ n. ring.add n ring.one) (λ n x. map (map (worth f)) (map (λ g. map (interaction_over ring ts width (tag_of numbered n)) g.items) x.groups.items)) number xs ≡ map (map (worth f)) (numbered_groups ring ts width numbered number xs)
  numbered_made numbered number [] = refl
  numbered_made numbered number (x ∷ xs) =
      ap (λ ys. map (map (worth f)) (map (λ g. map (interaction_over ring ts width (tag_of numbered number)) g.items) x.groups.items) ++ ys) (numbered_made numbered (ring.add number ring.one) xs)
      ∙ sym (map-append (map (worth f)) (map (λ g. map (interaction_over ring ts width (tag_of numbered number)) g.items) x.groups.items) (numbered_groups ring ts width numbered (ring.add number ring.one) xs))

  pub lookups_cut : (xs : List Lookup) (others : List F)
      → cut_lookups ring width xs (map worth_at (lookups_places xs) ++ others) ≡ map (map (worth f)) (numbered_groups ring ts width (nat_lt 1 (length xs)) ring.zero xs)
  lookups_cut xs others =
      let numbered = nat_lt 1 (length xs) in
      ap (λ ys. cut_lookups ring width xs (ys ++ others)) (map_listed worth_at (λ x. groups_places x.groups.items) xs)
      ∙ cut_of_listed (λ x. groups_size x.groups.items) (λ n. ring.add n ring.one) (lookup_of ring width numbered) (λ x. map worth_at (groups_places x.groups.items))
      (λ n x. map (map (worth f)) (map (λ g. map (interaction_over ring ts width (tag_of numbered n)) g.items) x.groups.items))
      (length_worth (λ x. groups_places x.groups.items) (λ x. groups_size x.groups.items) (λ x. size_of_groups x.groups.items))
      (λ n x rest. ap (λ tag. cut_groups ring width tag x.groups.items (map worth_at (groups_places x.groups.items) ++ rest)) (sym (tag_worth numbered n)) ∙ groups_cut (tag_of numbered n) x.groups.items rest) ring.zero xs others
      ∙ numbered_made numbered ring.zero xs
