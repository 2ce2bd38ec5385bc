-- Claims, points and opened values, without references and allocators.
use Rattle.std.specs.Prelude.{IfErr, List, Result, map, ⊤}
use Rattle.std.specs.declared.vec.Vec.{Vec}
use Rattle.std.specs.Borrow.{Bor}
use Rattle.stark_support.specs.Coset.{TwoAdicCoset}
use Rattle.stark_support.specs.declared.scheme.SchemeFault.{SchemeFault}
use Rattle.stark_support.specs.declared.scheme.SchemeFault.TheVariants.{Refused, OutOfMemory}

-- A commitment, and for each of its matrices the domain, and for each point the values there.
abbrev pub RoundClaim : Type 0 → Type 0 → Type 0 → Type 0
RoundClaim F E K = K × List (TwoAdicCoset F × List (E × List E))

-- The prover's data of a commitment, and for each of its matrices the points.
abbrev pub RoundPoints : Type 0 → Type 0 → Type 0
RoundPoints E T = T × List (List E)

abbrev pub point_view : {E : Type 0} → E × Bor (List E) → E × List E
point_view claim = (claim.0, claim.1.now)

abbrev pub matrix_view : {F E D A : Type 0} → (D → TwoAdicCoset F) → D × Vec (E × Bor (List E)) A → TwoAdicCoset F × List (E × List E)
matrix_view coset_of claim = (coset_of claim.0, map point_view claim.1.items)

abbrev pub claim_view : {F E K D A B : Type 0} → (D → TwoAdicCoset F) → Bor K × Vec (D × Vec (E × Bor (List E)) A) B → RoundClaim F E K
claim_view coset_of claim = (claim.0.now, map (matrix_view coset_of) claim.1.items)

abbrev pub claims_view : {F E K D A B G : Type 0} → (D → TwoAdicCoset F) → Vec (Bor K × Vec (D × Vec (E × Bor (List E)) A) B) G → List (RoundClaim F E K)
claims_view coset_of claims = map (claim_view coset_of) claims.items

abbrev pub round_view : {E T A B : Type 0} → Bor T × Vec (Vec E A) B → RoundPoints E T
round_view round = (round.0.now, map (λ p. p.items) round.1.items)

abbrev pub rounds_view : {E T A B G : Type 0} → Vec (Bor T × Vec (Vec E A) B) G → List (RoundPoints E T)
rounds_view rounds = map round_view rounds.items

abbrev pub opened_view : {E A B C G : Type 0} → Vec (Vec (Vec (Vec E A) B) C) G → List (List (List (List E)))
opened_view opened = map (λ r. map (λ m. map (λ p. p.items) m.items) r.items) opened.items

-- What holds of a refusal; nothing is said of want of memory.
abbrev pub IfRefused : {X : Type 0} → SchemeFault X → (X → Type 0) → Type 0
IfRefused (Refused error) holds = holds error
IfRefused OutOfMemory holds = ⊤

-- What holds of an answer that is a refusal; nothing is said of an Ok and of want of memory.
abbrev pub IfRefusal : {T X : Type 0} → Result T (SchemeFault X) → (X → Type 0) → Type 0
IfRefusal result holds = IfErr result (λ fault. IfRefused fault holds)
