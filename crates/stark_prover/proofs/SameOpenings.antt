-- Opened values are given by their lists.
use Rattle.std.proofs.Common.{◌≡◌, ◌∙◌, ap, refl, sym, zero, suc, List, [], ◌∷◌, ◌++◌, length, map, arith, Option, None, Some}
use Rattle.std.specs.Prelude.{is_some}
use Rattle.std.proofs.lemmas.Bool.{false≢true}
use Rattle.stark_proof.specs.ProofView.{OpeningsView, PreprocessedView}
use Rattle.stark_prover.proofs.OpenedSteps.{head_or, tail_of}
use Rattle.stark_prover.specs.Rounds.{opened_lists, preprocessed_opened, random_opened, rows_of}

first_or : {A : Type 0} → Option A → List A → Option A
first_or d [] = d
first_or d (x ∷ xs) = Some x

singles : {A : Type 0} (xs ys : List A) → map (λ x. x ∷ []) xs ≡ map (λ x. x ∷ []) ys → xs ≡ ys
unfolding head_or tail_of
singles [] [] e = refl
singles [] (y ∷ ys) e = absurd (let no : zero ≡ suc (length (map (λ x. x ∷ []) ys)) = ap length e in omega (arith, no))
singles (x ∷ xs) [] e = absurd (let no : suc (length (map (λ y. y ∷ []) xs)) ≡ zero = ap length e in omega (arith, no))
singles (x ∷ xs) (y ∷ ys) e = ap (λ l. head_or x l ∷ xs) (ap (head_or []) e) ∙ ap (λ l. y ∷ l) (singles xs ys (ap tail_of e))

local_of : {E : Type 0} → List (List E) → List E
local_of rows = head_or [] rows

next_of : {E : Type 0} → List (List E) → Option (List E)
next_of rows = first_or None (tail_of rows)

next_again : {E : Type 0} (local : List E) (next : Option (List E)) → next_of (rows_of local next) ≡ next
unfolding next_of first_or tail_of
next_again local None = refl
next_again local (Some row) = refl

local_again : {E : Type 0} (local : List E) (next : Option (List E)) → local_of (rows_of local next) ≡ local
unfolding local_of head_or
local_again local None = refl
local_again local (Some row) = refl

preprocessed_from : {E : Type 0} → List (List (List (List E))) → Option (PreprocessedView E)
preprocessed_from [] = None
preprocessed_from (round ∷ rounds) = Some (record { local = local_of (head_or [] round); next = next_of (head_or [] round) })

preprocessed_again : {E : Type 0} (rows : Option (PreprocessedView E)) → preprocessed_from (preprocessed_opened rows) ≡ rows
unfolding preprocessed_from head_or
preprocessed_again None = refl
preprocessed_again (Some rows) = ap (λ (l : List _). Some (record { local = l; next = next_of (rows_of rows.local rows.next) })) (local_again rows.local rows.next) ∙ ap (λ (n : Option (List _)). Some (record { local = rows.local; next = n })) (next_again rows.local rows.next)

-- The rounds that are there in each proof.
rest_of : {E : Type 0} → OpeningsView E → List (List (List (List E)))
rest_of v = (rows_of v.trace_local v.trace_next ∷ []) ∷ map (λ chunk. chunk ∷ []) v.quotient_chunks ∷ preprocessed_opened v.preprocessed

trace_again : {E : Type 0} (v : OpeningsView E) → head_or [] (head_or [] (rest_of v)) ≡ rows_of v.trace_local v.trace_next
unfolding rest_of head_or
trace_again v = refl

last_again : {E : Type 0} (v : OpeningsView E) → preprocessed_from (tail_of (tail_of (rest_of v))) ≡ v.preprocessed
unfolding rest_of tail_of
last_again v = preprocessed_again v.preprocessed

chunks_of_rest : {E : Type 0} (v : OpeningsView E) → head_or [] (tail_of (rest_of v)) ≡ map (λ chunk. chunk ∷ []) v.quotient_chunks
unfolding rest_of tail_of head_or
chunks_of_rest v = refl

-- A view, of its parts.
view_of : {E : Type 0} → List E → Option (List E) → Option (PreprocessedView E) → List (List E) → Option (List E) → OpeningsView E
view_of local next preprocessed chunks random = record { trace_local = local; trace_next = next; preprocessed = preprocessed; quotient_chunks = chunks; random = random }

same_rest : {E : Type 0} (v w : OpeningsView E) → v.random ≡ w.random → rest_of v ≡ rest_of w → v ≡ w
unfolding view_of
same_rest v w random rest =
    let rows = sym (trace_again v) ∙ ap (λ l. head_or [] (head_or [] l)) rest ∙ trace_again w in
    let local = sym (local_again v.trace_local v.trace_next) ∙ ap local_of rows ∙ local_again w.trace_local w.trace_next in
    let next = sym (next_again v.trace_local v.trace_next) ∙ ap next_of rows ∙ next_again w.trace_local w.trace_next in
    let preprocessed = sym (last_again v) ∙ ap (λ l. preprocessed_from (tail_of (tail_of l))) rest ∙ last_again w in
    let chunks = singles v.quotient_chunks w.quotient_chunks (sym (chunks_of_rest v) ∙ ap (λ l. head_or [] (tail_of l)) rest ∙ chunks_of_rest w) in
    ap (λ (l : List _). view_of l v.trace_next v.preprocessed v.quotient_chunks v.random) local ∙ ap (λ (n : Option (List _)). view_of w.trace_local n v.preprocessed v.quotient_chunks v.random) next ∙
    ap (λ (o : Option (PreprocessedView _)). view_of w.trace_local w.trace_next o v.quotient_chunks v.random) preprocessed ∙ ap (λ (q : List (List _)). view_of w.trace_local w.trace_next w.preprocessed q v.random) chunks ∙
    ap (λ (r : Option (List _)). view_of w.trace_local w.trace_next w.preprocessed w.quotient_chunks r) random

random_from : {E : Type 0} → List (List (List (List E))) → Option (List E)
random_from rounds = Some (head_or [] (head_or [] (head_or [] rounds)))

of_lists : {E : Type 0} (v w : OpeningsView E) (r s : Option (List E)) → is_some r ≡ is_some s → random_opened r ++ rest_of v ≡ random_opened s ++ rest_of w → (r ≡ s) × (rest_of v ≡ rest_of w)
unfolding head_or tail_of random_from
of_lists v w None None both e = (refl, e)
of_lists v w None (Some y) both e = absurd (false≢true both)
of_lists v w (Some x) None both e = absurd (false≢true (sym both))
of_lists v w (Some x) (Some y) both e = (ap random_from e, ap tail_of e)

-- Two opened values with the same lists, with a random row in both or in neither, are the same.
pub same_openings : {E : Type 0} (v w : OpeningsView E) → is_some v.random ≡ is_some w.random → opened_lists v ≡ opened_lists w → v ≡ w
unfolding rest_of
same_openings v w both e = let parts = of_lists v w v.random w.random both e in same_rest v w parts.0 parts.1
