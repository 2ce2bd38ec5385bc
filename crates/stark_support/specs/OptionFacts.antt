-- An option, or else another, is none where both are.
use Rattle.std.specs.Option.{option_or}
use Rattle.std.proofs.Common.{◌≡◌, refl, Option, None, Some}

pub first_none : {A : Type 0} (first later : Option A) → option_or first later ≡ None → first ≡ None
first_none None later e = refl
first_none (Some a) later e = e

pub later_none : {A : Type 0} (first later : Option A) → option_or first later ≡ None → later ≡ None
later_none None later e = e
later_none (Some a) later e = absurd (cc)

pub both_none : {A : Type 0} (first later : Option A) → option_or first later ≡ None → (first ≡ None) × (later ≡ None)
both_none first later e = (first_none first later e, later_none first later e)
