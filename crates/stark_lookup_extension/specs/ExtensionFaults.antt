-- What is wrong with lookups over an AIR.
use Rattle.std.specs.Prelude.{ℕ, ◌+◌, ◌*◌, ◌-◌, ◌^◌, nat_lt, ◌&&◌, Bool, true, false, List, [], ◌∷◌, length, Option, None, Some, if◌then◌else◌}
use Rattle.std.specs.Option.{option_or}
use Rattle.std.specs.declared.vec.Vec.{Vec}
use Rattle.stark_lookup_extension.specs.declared.error.ExtensionError.{ExtensionError}
use Rattle.stark_lookup_extension.specs.declared.error.ExtensionError.TheVariants.{LongTuple, NoMainColumns, NoSuchNode, TooLarge}
use Rattle.stark_lookup_extension.specs.declared.fault.Limits.{Limits}
use Rattle.stark_lookup_extension.specs.declared.lookup.Lookup.{Lookup}
use Rattle.stark_lookup_extension.specs.declared.lookup.LookupInteraction.{LookupInteraction}

-- each is below the count
abbrev pub all_below : ℕ → List ℕ → Bool
all_below count [] = true
all_below count (p ∷ ps) = (if nat_lt p count then all_below count ps else false)

-- A tuple is too long, or a place has no node.
abbrev pub interaction_fault : Limits → ℕ → ℕ → ℕ → LookupInteraction → Option ExtensionError
interaction_fault limits lookup group interaction e = (
    if nat_lt limits.width (length e.tuple.items) then Some (LongTuple lookup group interaction) else (
    if nat_lt e.times limits.nodes && all_below limits.nodes e.tuple.items then None else Some (NoSuchNode lookup group interaction)
    )
    )

-- the first fault of interactions that are counted from here on
abbrev pub group_fault : Limits → ℕ → ℕ → ℕ → List LookupInteraction → Option ExtensionError
group_fault limits lookup group k [] = None
group_fault limits lookup group k (e ∷ es) = option_or (interaction_fault limits lookup group k e) (group_fault limits lookup group (k + 1) es)

abbrev pub lookup_fault : {A : Type 0} → Limits → ℕ → ℕ → List (Vec LookupInteraction A) → Option ExtensionError
lookup_fault limits lookup k [] = None
lookup_fault limits lookup k (g ∷ gs) = option_or (group_fault limits lookup k 0 g.items) (lookup_fault limits lookup (k + 1) gs)

abbrev pub lookups_fault : Limits → ℕ → List Lookup → Option ExtensionError
lookups_fault limits k [] = None
lookups_fault limits k (x ∷ xs) = option_or (lookup_fault limits k 0 x.groups.items) (lookups_fault limits (k + 1) xs)
