-- Claims that are true of the columns of parts are true of the columns of the wholes.
use Rattle.std.proofs.Common.{◌≡◌, ◌∙◌, ap, refl, sym, subst, arith, ℕ, zero, suc, ◌+◌, ◌-◌, ◌<◌, ◌≤◌, nat_lt, true, false, List, [], ◌∷◌, ◌++◌, map, length, take, drop, Option, None, Some, option_map, if◌then◌else◌}
use Rattle.std.proofs.lemmas.Bool.{lt-ltb, le-ltb}
use Rattle.std.proofs.lemmas.List.{length-append, map-append, take-append-drop}
use Rattle.std.specs.List.{AllByRecursion}
use Rattle.stark_support.specs.Claims.{RoundClaim}
use Rattle.stark_support.specs.Coset.{TwoAdicCoset}
use Rattle.stark_support.specs.Ring.{RingOps}
use Rattle.stark_merkle.specs.declared.root.Root.{Root}
use Rattle.stark_proof.specs.ProofView.{OpeningsView, PreprocessedView}
use Rattle.stark_protocol.specs.OpenedClaims.{claims_of, preprocessed_rounds}
use Rattle.stark_protocol.specs.declared.preprocessed.PreprocessedVerifierKey.{PreprocessedVerifierKey}
use Rattle.stark_fri_soundness.specs.Claims.{ColumnIndex}
use Rattle.stark_fri.specs.Claims.{HasOneWidth, HasWidths, matrix_read, round_read}
use Rattle.stark_fri.specs.Words.{matrix_claims, point_claims, round_claims, value_claims}
use Rattle.stark_over_fri.specs.Tables.{columns_for}
use Rattle.stark_over_fri.proofs.TableSteps.{ClaimIsTrue, back, front}
use Rattle.stark_lookup.proofs.FitSteps.{all_joined}
use Rattle.stark_two_part.specs.InParts.{claims_on_parts, part_of_matrix, parted_claims, some_values}
use Rattle.stark_two_part.specs.declared.in_parts.InParts.{InParts}
use Rattle.stark_two_part.specs.declared.in_parts.InParts.TheVariants.{Whole, Parts}
use Rattle.stark_lookup_over_fri.specs.PlacesInParts.{in_part, in_parts_from, joined_polynomials, round_after}

-- ---- one root for each commitment

abbrev pub front_root : {K : Type 0} → InParts K → K
front_root (Whole k) = k
front_root (Parts k l) = k

abbrev pub front_claim : {F E K : Type 0} → RoundClaim F E (InParts K) → RoundClaim F E K
front_claim claim = (front_root claim.0, claim.1)

abbrev pub front_key : {K : Type 0} → PreprocessedVerifierKey (InParts K) → PreprocessedVerifierKey K
front_key key = record { width = key.width; degree_bits = key.degree_bits; commitment = front_root key.commitment }

module _ {F E K : Type 0} (coset : TwoAdicCoset F) (zeta next : E) where
  front_preprocessed : (key : Option (PreprocessedVerifierKey (InParts K))) (rows : Option (PreprocessedView E))
      → map front_claim (preprocessed_rounds coset zeta next key rows) ≡ preprocessed_rounds coset zeta next (option_map front_key key) rows
  front_preprocessed None rows = refl
  front_preprocessed (Some key) None = refl
  front_preprocessed (Some key) (Some rows) = refl

  pub front_claims : (key : Option (PreprocessedVerifierKey (InParts K))) (trace quotient_chunks : InParts K) (opened : OpeningsView E)
      → map front_claim (claims_of coset zeta next key trace quotient_chunks None opened) ≡ claims_of coset zeta next (option_map front_key key) (front_root trace) (front_root quotient_chunks) None opened
  front_claims key trace quotient_chunks opened = rw (front_preprocessed key opened.preprocessed) refl

-- ---- numbers

one_fewer : (num n first : ℕ) → num + suc n ≡ first → suc num + n ≡ first
one_fewer num n first e = omega arith

within : (num n first : ℕ) → num + suc n ≡ first → num < first
within num n first e = omega arith

none_left : (num first : ℕ) → num + 0 ≡ first → first ≤ num
none_left num first e = omega arith

one_further : (num first : ℕ) → first ≤ num → suc num - first ≡ suc (num - first)
one_further num first h = omega arith

further : (num first : ℕ) → first ≤ num → first ≤ suc num
further num first h = omega arith

nothing_between : (num first : ℕ) → num + 0 ≡ first → num - first ≡ 0
nothing_between num first e = omega arith

next_round : (n r : ℕ) → n + suc r ≡ suc n + r
next_round n r = omega arith

pub none_before : (n : ℕ) → 0 + n ≡ n
none_before n = omega arith

-- ---- places

module _ {K : Type 0} (first : ℕ) (k l : K) (round matrix number : ℕ) where
  pub in_first : number < first → in_part first (Parts k l) round matrix number ≡ record { round = round; matrix = matrix; number = number }
  in_first h = rw (lt-ltb number first h) refl

  pub in_others : first ≤ number → in_part first (Parts k l) round matrix number ≡ record { round = suc round; matrix = matrix; number = number - first }
  in_others h = rw (le-ltb number first h) refl

-- ---- claims

module _ {F E : Type 0} (ring : RingOps E) (embed : F → E) (first : ℕ) (parts wholes : ColumnIndex → List F) where
  abbrev InParts_true : (round matrix number : ℕ) → E → List E → Type 0
  InParts_true round matrix number z row = AllByRecursion (ClaimIsTrue parts ring embed) (value_claims round matrix number z row)

  abbrev Whole_true : (round matrix number : ℕ) → E → List E → Type 0
  Whole_true round matrix number z row = AllByRecursion (ClaimIsTrue wholes ring embed) (value_claims round matrix number z row)

  module _ {K : Type 0} (whole_round round matrix : ℕ) where
    -- The columns of a round, in the order of those of a commitment.
    abbrev Same : InParts K → Type 0
    Same k = (matrix number : ℕ) → wholes (record { round = whole_round; matrix = matrix; number = number }) ≡ parts (in_part first k round matrix number)

    values_of_whole : (k : K) → Same (Whole k) → (number : ℕ) (z : E) (row : List E) → InParts_true round matrix number z row → Whole_true whole_round matrix number z row
    unfolding value_claims
    values_of_whole k same number z [] h = tt
    values_of_whole k same number z (v ∷ row) h = (rw (same matrix number) h.0, values_of_whole k same (suc number) z row h.1)

    values_of_others : (k l : K) → Same (Parts k l) → (number : ℕ) (z : E) (row : List E) → first ≤ number → InParts_true (suc round) matrix (number - first) z row → Whole_true whole_round matrix number z row
    unfolding value_claims
    values_of_others k l same number z [] above h = tt
    values_of_others k l same number z (v ∷ row) above h = (
      rw (same matrix number, in_others first k l round matrix number above) h.0,
      values_of_others k l same (suc number) z row (further number first above) (subst (λ n. InParts_true (suc round) matrix n z row) (sym (one_further number first above)) h.1),
    )

    values_of_parts : (k l : K) → Same (Parts k l) → (number left : ℕ) (z : E) (row : List E) → number + left ≡ first
        → InParts_true round matrix number z (take left row) → InParts_true (suc round) matrix 0 z (drop left row) → Whole_true whole_round matrix number z row
    unfolding value_claims
    values_of_parts k l same number zero z row is h others =
        values_of_others k l same number z row (none_left number first is) (subst (λ n. InParts_true (suc round) matrix n z row) (sym (nothing_between number first is)) others)
    values_of_parts k l same number (suc left) z [] is h others = tt
    values_of_parts k l same number (suc left) z (v ∷ row) is h others = (
      rw (same matrix number, in_first first k l round matrix number (within number left first is)) h.0,
      values_of_parts k l same (suc number) left z row (one_fewer number left first is) h.1 others,
    )

    points_of_whole : (k : K) → Same (Whole k) → (points : List (E × List E)) → AllByRecursion (ClaimIsTrue parts ring embed) (point_claims round matrix points) → AllByRecursion (ClaimIsTrue wholes ring embed) (point_claims whole_round matrix points)
    unfolding point_claims
    points_of_whole k same [] h = tt
    points_of_whole k same (p ∷ points) h =
        let true_there = ClaimIsTrue parts ring embed in
        let rest = point_claims round matrix points in
        all_joined (ClaimIsTrue wholes ring embed) (value_claims whole_round matrix 0 p.0 p.1) (point_claims whole_round matrix points)
        (values_of_whole k same 0 p.0 p.1 (front true_there (value_claims round matrix 0 p.0 p.1) rest h))
        (points_of_whole k same points (back true_there (value_claims round matrix 0 p.0 p.1) rest h))

    points_of_parts : (k l : K) → Same (Parts k l) → (points : List (E × List E)) → AllByRecursion (ClaimIsTrue parts ring embed) (point_claims round matrix (map (some_values (take first)) points))
        → AllByRecursion (ClaimIsTrue parts ring embed) (point_claims (suc round) matrix (map (some_values (drop first)) points)) → AllByRecursion (ClaimIsTrue wholes ring embed) (point_claims whole_round matrix points)
    unfolding point_claims
    points_of_parts k l same [] h others = tt
    points_of_parts k l same (p ∷ points) h others =
        let true_there = ClaimIsTrue parts ring embed in
        let own = value_claims round matrix 0 p.0 (take first p.1) in
        let own_rest = point_claims round matrix (map (some_values (take first)) points) in
        let other = value_claims (suc round) matrix 0 p.0 (drop first p.1) in
        let other_rest = point_claims (suc round) matrix (map (some_values (drop first)) points) in
        all_joined (ClaimIsTrue wholes ring embed) (value_claims whole_round matrix 0 p.0 p.1) (point_claims whole_round matrix points)
        (values_of_parts k l same 0 first p.0 p.1 (none_before first) (front true_there own own_rest h) (front true_there other other_rest others))
        (points_of_parts k l same points (back true_there own own_rest h) (back true_there other other_rest others))

  module _ {K : Type 0} (whole_round round : ℕ) where
    matrices_of_whole : (k : K) → Same {K = K} whole_round round 0 (Whole k) → (matrix : ℕ) (ms : List (TwoAdicCoset F × List (E × List E)))
        → AllByRecursion (ClaimIsTrue parts ring embed) (matrix_claims round matrix (map matrix_read ms)) → AllByRecursion (ClaimIsTrue wholes ring embed) (matrix_claims whole_round matrix (map matrix_read ms))
    unfolding matrix_claims
    matrices_of_whole k same matrix [] h = tt
    matrices_of_whole k same matrix (m ∷ ms) h =
        let true_there = ClaimIsTrue parts ring embed in
        let own = point_claims round matrix m.1 in
        let rest = matrix_claims round (suc matrix) (map matrix_read ms) in
        all_joined (ClaimIsTrue wholes ring embed) (point_claims whole_round matrix m.1) (matrix_claims whole_round (suc matrix) (map matrix_read ms))
        (points_of_whole whole_round round matrix k same m.1 (front true_there own rest h)) (matrices_of_whole k same (suc matrix) ms (back true_there own rest h))

    matrices_of_parts : (k l : K) → Same {K = K} whole_round round 0 (Parts k l) → (matrix : ℕ) (ms : List (TwoAdicCoset F × List (E × List E)))
        → AllByRecursion (ClaimIsTrue parts ring embed) (matrix_claims round matrix (map matrix_read (map (part_of_matrix (take first)) ms)))
        → AllByRecursion (ClaimIsTrue parts ring embed) (matrix_claims (suc round) matrix (map matrix_read (map (part_of_matrix (drop first)) ms)))
        → AllByRecursion (ClaimIsTrue wholes ring embed) (matrix_claims whole_round matrix (map matrix_read ms))
    unfolding matrix_claims
    matrices_of_parts k l same matrix [] h others = tt
    matrices_of_parts k l same matrix (m ∷ ms) h others =
        let true_there = ClaimIsTrue parts ring embed in
        let own = point_claims round matrix (map (some_values (take first)) m.1) in
        let own_rest = matrix_claims round (suc matrix) (map matrix_read (map (part_of_matrix (take first)) ms)) in
        let other = point_claims (suc round) matrix (map (some_values (drop first)) m.1) in
        let other_rest = matrix_claims (suc round) (suc matrix) (map matrix_read (map (part_of_matrix (drop first)) ms)) in
        all_joined (ClaimIsTrue wholes ring embed) (point_claims whole_round matrix m.1) (matrix_claims whole_round (suc matrix) (map matrix_read ms))
        (points_of_parts whole_round round matrix k l same m.1 (front true_there own own_rest h) (front true_there other other_rest others))
        (matrices_of_parts k l same (suc matrix) ms (back true_there own own_rest h) (back true_there other other_rest others))

  -- From a round of the wholes on, and one of the parts.
  abbrev SameFrom : ℕ → ℕ → List (InParts Root) → Type 0
  SameFrom whole_round begins ks = (n matrix number : ℕ) → wholes (record { round = n + whole_round; matrix = matrix; number = number }) ≡ parts (in_parts_from first begins ks n matrix number)

  abbrev commitments : List (RoundClaim F E (InParts Root)) → List (InParts Root)
  commitments cs = map (λ c. c.0) cs

  later : (whole_round begins : ℕ) (k : InParts Root) (ks : List (InParts Root)) → SameFrom whole_round begins (k ∷ ks) → SameFrom (suc whole_round) (round_after k begins) ks
  later whole_round begins k ks same n matrix number = ap (λ r. wholes (record { round = r; matrix = matrix; number = number })) (next_round n whole_round) ∙ same (suc n) matrix number

  here : (whole_round begins : ℕ) (k : InParts Root) (ks : List (InParts Root)) → SameFrom whole_round begins (k ∷ ks) → (matrix number : ℕ)
      → wholes (record { round = whole_round; matrix = matrix; number = number }) ≡ parts (in_part first k begins matrix number)
  here whole_round begins k ks same matrix number = ap (λ r. wholes (record { round = r; matrix = matrix; number = number })) (sym (none_before whole_round)) ∙ same 0 matrix number

  rounds_true : (whole_round begins : ℕ) (cs : List (RoundClaim F E (InParts Root))) → SameFrom whole_round begins (commitments cs)
      → AllByRecursion (ClaimIsTrue parts ring embed) (round_claims begins (map round_read (parted_claims first cs)))
      → AllByRecursion (ClaimIsTrue wholes ring embed) (round_claims whole_round (map round_read (map front_claim cs)))
  unfolding round_claims
  rounds_true whole_round begins [] same h = tt
  rounds_true whole_round begins ((Whole k, ms) ∷ cs) same h =
      let true_there = ClaimIsTrue parts ring embed in
      let own = matrix_claims begins 0 (map matrix_read ms) in
      let rest = round_claims (suc begins) (map round_read (parted_claims first cs)) in
      all_joined (ClaimIsTrue wholes ring embed) (matrix_claims whole_round 0 (map matrix_read ms)) (round_claims (suc whole_round) (map round_read (map front_claim cs)))
      (matrices_of_whole whole_round begins k (here whole_round begins (Whole k) (commitments cs) same) 0 ms (front true_there own rest h))
      (rounds_true (suc whole_round) (suc begins) cs (later whole_round begins (Whole k) (commitments cs) same) (back true_there own rest h))
  rounds_true whole_round begins ((Parts k l, ms) ∷ cs) same h =
      let true_there = ClaimIsTrue parts ring embed in
      let own = matrix_claims begins 0 (map matrix_read (map (part_of_matrix (take first)) ms)) in
      let other = matrix_claims (suc begins) 0 (map matrix_read (map (part_of_matrix (drop first)) ms)) in
      let rest = round_claims (suc (suc begins)) (map round_read (parted_claims first cs)) in
      let others = back true_there own (other ++ rest) h in
      all_joined (ClaimIsTrue wholes ring embed) (matrix_claims whole_round 0 (map matrix_read ms)) (round_claims (suc whole_round) (map round_read (map front_claim cs)))
      (matrices_of_parts whole_round begins k l (here whole_round begins (Parts k l) (commitments cs) same) 0 ms (front true_there own (other ++ rest) h) (front true_there other rest others))
      (rounds_true (suc whole_round) (suc (suc begins)) cs (later whole_round begins (Parts k l) (commitments cs) same) (back true_there other rest others))

-- All claims on the wholes, of the polynomials that the parts' columns have.
pub joined_true : {F E : Type 0} (ring : RingOps E) (embed : F → E) (first : ℕ) (polynomials : ColumnIndex → List F) (cs : List (RoundClaim F E (InParts Root)))
    → AllByRecursion (ClaimIsTrue polynomials ring embed) (round_claims 0 (map round_read (parted_claims first cs)))
    → AllByRecursion (ClaimIsTrue (joined_polynomials first (map (λ c. c.0) cs) polynomials) ring embed) (round_claims 0 (map round_read (map front_claim cs)))
joined_true ring embed first polynomials cs h =
    let ks = map (λ c. c.0) cs in
    rounds_true ring embed first polynomials (joined_polynomials first ks polynomials) 0 0 cs
    (λ n matrix number. let same : n + 0 ≡ n = omega arith in ap (λ m. polynomials (in_parts_from first 0 ks m matrix number)) same) h

-- ---- widths

length_in_parts : {A : Type 0} (n : ℕ) (xs : List A) → length (take n xs) + length (drop n xs) ≡ length xs
length_in_parts n xs = sym (length-append (take n xs) (drop n xs)) ∙ ap length (take-append-drop n xs)

as_long : {A : Type 0} (n : ℕ) (xs ys : List A) → length (take n xs) ≡ length (take n ys) → length (drop n xs) ≡ length (drop n ys) → length xs ≡ length ys
as_long n xs ys e f = sym (length_in_parts n xs) ∙ ap (λ k. k + length (drop n xs)) e ∙ ap (λ k. length (take n ys) + k) f ∙ length_in_parts n ys

module _ {E : Type 0} (first : ℕ) where
  rest_wide : (p : E × List E) (points : List (E × List E)) → AllByRecursion (λ q. length q.1 ≡ length (take first p.1)) (map (some_values (take first)) points)
      → AllByRecursion (λ q. length q.1 ≡ length (drop first p.1)) (map (some_values (drop first)) points) → AllByRecursion (λ q. length q.1 ≡ length p.1) points
  rest_wide p [] h others = tt
  rest_wide p (q ∷ points) h others = (as_long first q.1 p.1 h.0 others.0, rest_wide p points h.1 others.1)

  points_wide : (points : List (E × List E)) → HasOneWidth (map (some_values (take first)) points) → HasOneWidth (map (some_values (drop first)) points) → HasOneWidth points
  points_wide [] h others = tt
  points_wide (p ∷ points) h others = rest_wide p points h others

module _ {F E : Type 0} (first : ℕ) where
  matrices_wide : (ms : List (TwoAdicCoset F × List (E × List E))) → AllByRecursion (λ m. HasOneWidth m.1) (map matrix_read (map (part_of_matrix (take first)) ms))
      → AllByRecursion (λ m. HasOneWidth m.1) (map matrix_read (map (part_of_matrix (drop first)) ms)) → AllByRecursion (λ m. HasOneWidth m.1) (map matrix_read ms)
  matrices_wide [] h others = tt
  matrices_wide (m ∷ ms) h others = (points_wide first m.1 h.0 others.0, matrices_wide ms h.1 others.1)

  pub joined_widths : (cs : List (RoundClaim F E (InParts Root))) → AllByRecursion HasWidths (map round_read (parted_claims first cs)) → AllByRecursion HasWidths (map round_read (map front_claim cs))
  joined_widths [] h = tt
  joined_widths ((Whole k, ms) ∷ cs) h = (h.0, joined_widths cs h.1)
  joined_widths ((Parts k l, ms) ∷ cs) h = (matrices_wide ms h.0 h.1.0, joined_widths cs h.1.1)

-- ---- columns

module _ {F : Type 0} (first : ℕ) (main others : Root) (ks : List (InParts Root)) (polynomials : ColumnIndex → List F) where
  abbrev wholes : ColumnIndex → List F
  wholes = joined_polynomials first (Parts main others ∷ ks) polynomials

  other_columns : {E : Type 0} (number : ℕ) (row : List E) → first ≤ number → columns_for wholes 0 0 number row ≡ columns_for polynomials 1 0 (number - first) row
  other_columns number [] above = refl
  other_columns number (v ∷ row) above =
      ap (λ column. polynomials column ∷ columns_for wholes 0 0 (suc number) row) (in_others first main others 0 0 number above)
      ∙ ap (λ cs. polynomials (record { round = 1; matrix = 0; number = number - first }) ∷ cs)
      (other_columns (suc number) row (further number first above) ∙ ap (λ n. columns_for polynomials 1 0 n row) (one_further number first above))

  pub columns_in_parts : {E : Type 0} (number left : ℕ) (row : List E) → number + left ≡ first
      → columns_for wholes 0 0 number row ≡ columns_for polynomials 0 0 number (take left row) ++ columns_for polynomials 1 0 0 (drop left row)
  columns_in_parts number zero row is = other_columns number row (none_left number first is) ∙ ap (λ n. columns_for polynomials 1 0 n row) (nothing_between number first is)
  columns_in_parts number (suc left) [] is = refl
  columns_in_parts number (suc left) (v ∷ row) is =
      ap (λ column. polynomials column ∷ columns_for wholes 0 0 (suc number) row) (in_first first main others 0 0 number (within number left first is))
      ∙ ap (λ cs. polynomials (record { round = 0; matrix = 0; number = number }) ∷ cs) (columns_in_parts (suc number) left row (one_fewer number left first is))
