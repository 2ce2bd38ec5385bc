-- Both schemes set up a trace in one way: it has one key.
use Rattle.std.proofs.Common.{◌≡◌, ◌∙◌, ap, arith, refl, sym, subst, ℕ, ◌+◌, ◌-◌, ◌^◌, ◌<◌, ◌≤◌, Bool, true, false, List, [], ◌∷◌, length, map}
use Rattle.std.specs.List.{AllByRecursion, range_with_len}
use Rattle.stark_support.specs.Coset.{coset_point, coset_size}
use Rattle.stark_support.specs.CosetFacts.{root_has_order}
use Rattle.stark_support.specs.PointFacts.{all_powers, powers_length, powers_without_repeats}
use Rattle.stark_support.specs.Points.{powers_from}
use Rattle.stark_support.specs.Polynomial.{HasDegreeBelow, IsRoot, IsZeroPolynomial, polynomial_opposite, polynomial_ring, polynomial_sum, value}
use Rattle.stark_support.specs.PolynomialFacts.{difference_length, value_of_difference, zero_if_many_roots}
use Rattle.stark_support.specs.Powers.{power}
use Rattle.stark_support.specs.Ring.{FieldLaws, RingLaws, RingOps, difference}
use Rattle.stark_support.specs.RingFacts.{same_if_no_difference}
use Rattle.stark_support.specs.Scheme.{SchemeOps, TakesRows, natural_coset, row_at, zk_bits}
use Rattle.stark_support.specs.TwoAdic.{TwoAdicLaws}
use Rattle.stark_air.specs.Declaration.{Trace}
use Rattle.stark_merkle.specs.RootJson.{same_root}
use Rattle.stark_merkle.specs.Tree.{layer_above}
use Rattle.stark_merkle.specs.declared.root.Root.{Root}
use Rattle.stark_protocol.specs.Preprocessing.{IsSetUp}
use Rattle.stark_protocol.specs.declared.preprocessed.PreprocessedProverData.{PreprocessedProverData}
use Rattle.stark_protocol.specs.declared.preprocessed.PreprocessedVerifierKey.{PreprocessedVerifierKey}
use Rattle.stark_fri_proof.specs.declared.parameters.FriParameters.{FriParameters}
use Rattle.stark_fri.specs.Parts.{FriDataView, FriOps}
use Rattle.stark_fri.specs.Scheme.{FriStands, IsRootOf, extended_row}
use Rattle.stark_service.specs.Service.{SetsUpOnce}

-- ---- columns that take the same rows

first_same : {A : Type 0} (a b : A) (xs ys : List A) → (a ∷ xs) ≡ (b ∷ ys) → a ≡ b
first_same a b xs ys e = cc

rest_same : {A : Type 0} (a b : A) (xs ys : List A) → (a ∷ xs) ≡ (b ∷ ys) → xs ≡ ys
rest_same a b xs ys e = cc

joined_same : {A : Type 0} (a b : A) (xs ys : List A) → a ≡ b → xs ≡ ys → (a ∷ xs) ≡ (b ∷ ys)
joined_same a b xs ys e h = cc

-- Polynomials of as many coefficients, whose difference is zero, have the same.
same_coefficients : {F : Type 0} {base : RingOps F} (laws : RingLaws base) (p q : List F) → length p ≡ length q → IsZeroPolynomial base (polynomial_sum base p (polynomial_opposite base q)) → p ≡ q
same_coefficients laws [] [] many zeros = refl
same_coefficients laws [] (d ∷ q) many zeros = absurd (omega (arith, many))
same_coefficients laws (c ∷ p) [] many zeros = absurd (omega (arith, many))
same_coefficients laws (c ∷ p) (d ∷ q) many zeros = joined_same c d p q (same_if_no_difference laws c d zeros.0) (same_coefficients laws p q (omega (arith, many)) zeros.1)

roots_of_difference : {F : Type 0} {base : RingOps F} (laws : RingLaws base) (p q : List F) (xs : List F) → AllByRecursion (λ x. value base p x ≡ value base q x) xs → AllByRecursion (IsRoot base (difference (polynomial_ring base) p q)) xs
roots_of_difference laws p q [] agree = tt
roots_of_difference {base = base} laws p q (x ∷ xs) agree =
    (value_of_difference laws p q x ∙ ap (λ w. difference base w (value base q x)) agree.0 ∙ laws.add_neg (value base q x), roots_of_difference laws p q xs agree.1)

module _ {F : Type 0} (base : RingOps F) (inverse : F → F) (laws : FieldLaws base inverse) (adicity : ℕ) (root : ℕ → F) (generator : F) (two_adic : TwoAdicLaws base adicity root generator) (k : ℕ) (within : k ≤ adicity) where
  -- With as many coefficients as points, the values there have one list of them.
  same_list : (p q : List F) → length p ≡ 2 ^ k → length q ≡ 2 ^ k
      → ((r : ℕ) → r < 2 ^ k → value base p (coset_point base root (natural_coset base k) r) ≡ value base q (coset_point base root (natural_coset base k) r)) → p ≡ q
  same_list p q long also agree =
      let g = root k in
      let point : (r : ℕ) → coset_point base root (natural_coset base k) r ≡ power base g r = λ r. laws.of_ring.mul_comm base.one (power base g r) ∙ laws.of_ring.mul_one (power base g r) in
      let order = root_has_order laws adicity root generator two_adic k within in
      let all = all_powers base (λ y. value base p y ≡ value base q y) g (2 ^ k) (λ r less. subst (λ y. value base p y ≡ value base q y) (point r) (agree r less)) in
      let few : HasDegreeBelow (length (powers_from base g 0 (2 ^ k))) (difference (polynomial_ring base) p q) =
      subst (λ n. HasDegreeBelow n (difference (polynomial_ring base) p q)) (sym (powers_length base g 0 (2 ^ k))) (difference_length base p q (2 ^ k) (omega (arith, long)) (omega (arith, also))) in
      same_coefficients laws.of_ring p q (long ∙ sym also)
      (zero_if_many_roots laws (powers_from base g 0 (2 ^ k)) (difference (polynomial_ring base) p q) few (powers_without_repeats laws.of_ring g (2 ^ k) order) (roots_of_difference laws.of_ring p q (powers_from base g 0 (2 ^ k)) all))

  same_lists : (ps qs : List (List F)) → length ps ≡ length qs → AllByRecursion (λ column. length column ≡ 2 ^ k) ps → AllByRecursion (λ column. length column ≡ 2 ^ k) qs
      → ((r : ℕ) → r < 2 ^ k → row_at base (λ c. c) ps (coset_point base root (natural_coset base k) r) ≡ row_at base (λ c. c) qs (coset_point base root (natural_coset base k) r)) → ps ≡ qs
  same_lists [] [] many full also agree = refl
  same_lists [] (q ∷ qs) many full also agree = absurd (omega (arith, many))
  same_lists (p ∷ ps) [] many full also agree = absurd (omega (arith, many))
  same_lists (p ∷ ps) (q ∷ qs) many full also agree =
      joined_same p q ps qs (same_list p q full.0 also.0 (λ r less. first_same _ _ _ _ (agree r less)))
      (same_lists ps qs (omega (arith, many)) full.1 also.1 (λ r less. rest_same _ _ _ _ (agree r less)))

  module _ (width : ℕ) (row : ℕ → List F) (ps qs : List (List F)) (takes : TakesRows base root (natural_coset base k) width row ps) (also : TakesRows base root (natural_coset base k) width row qs)
      (full : AllByRecursion (λ column. length column ≡ 2 ^ k) ps) (others : AllByRecursion (λ column. length column ≡ 2 ^ k) qs) where
    -- They are one list of columns,
    pub one_list : ps ≡ qs
    one_list = same_lists ps qs (takes.count ∙ sym also.count) full others (λ r less. sym (takes.rows r less) ∙ also.rows r less)

-- ---- keys

-- A scheme's commitments to columns that take the same rows are one.
abbrev pub CommitsOnce : {S F E C K T P X Y : Type 0} → SchemeOps S F E C K T P X Y → S → RingOps F → (ℕ → F) → Type 0
CommitsOnce {F = F} {K = K} {T = T} scheme s field root = (n : ℕ) → n ≤ scheme.log_max_trace_height s → (width : ℕ) (row : ℕ → List F) (ps qs : List (List F)) (commitment other : K) (held others : T)
    → TakesRows field root (natural_coset field n) width row ps → TakesRows field root (natural_coset field n) width row qs
    → scheme.Stands s commitment held (record { domain = natural_coset field n; columns = ps } ∷ []) → scheme.Stands s other others (record { domain = natural_coset field n; columns = qs } ∷ []) → commitment ≡ other

unmasked : (is_zk : Bool) (n : ℕ) → is_zk ≡ false → n + zk_bits is_zk ≡ n
unmasked is_zk n plain = let none : zk_bits is_zk ≡ 0 = ap zk_bits plain in omega (arith, none)

pub sets_up_once : {S F E C K T P X Y : Type 0} (scheme : SchemeOps S F E C K T P X Y) (s : S) (field : RingOps F) (root : ℕ → F) (is_zk : Bool) → is_zk ≡ false → CommitsOnce scheme s field root → SetsUpOnce scheme s field root is_zk
sets_up_once {F = F} {K = K} {T = T} scheme s field root is_zk plain once n within trace prover other key another set also =
    let height = unmasked is_zk n plain in
    let standing : (commitment : K) (held : T) (columns : List (List F)) → scheme.Stands s commitment held (record { domain = natural_coset field (n + zk_bits is_zk); columns = columns } ∷ [])
    → scheme.Stands s commitment held (record { domain = natural_coset field n; columns = columns } ∷ [])
    = λ commitment held columns. subst (λ h. scheme.Stands s commitment held (record { domain = natural_coset field h; columns = columns } ∷ [])) height in
    let same : prover.commitment ≡ other.commitment = once n within _ _ set.columns also.columns _ _ _ _ set.takes also.takes (standing _ _ set.columns set.stands) (standing _ _ also.columns also.stands) in
    let made : ℕ → ℕ → K → PreprocessedVerifierKey K = λ width degree_bits commitment. record { width = width; degree_bits = degree_bits; commitment = commitment } in
    ap (λ w. made w key.degree_bits key.commitment) (set.key_width ∙ sym also.key_width) ∙ ap (λ d. made another.width d key.commitment) (set.key_degree ∙ sym also.key_degree)
    ∙ ap (λ c. made another.width another.degree_bits c) (set.same ∙ same ∙ sym also.same)

-- ---- by FRI

module _ {C F E : Type 0} (fri : FriOps C F E) (laws : FieldLaws fri.fields.base fri.fields.base_inverse) (two_adic : TwoAdicLaws fri.fields.base fri.fields.adicity fri.fields.root fri.fields.generator) where
  -- Columns of equal rows have one root.
  one_root : (bits : ℕ) (ps qs : List (List F)) (root other : Root) → ps ≡ qs → IsRootOf fri bits (ps ∷ []) root → IsRootOf fri bits (qs ∷ []) other → root ≡ other
  one_root bits ps qs root other same is also =
      same_root root other (first_same _ _ _ _ (sym is ∙ ap (λ columns. layer_above fri.hash.node bits (map (λ i. fri.hash.leaf (fri.fields.row_bytes (extended_row fri bits (columns ∷ []) i))) (range_with_len 0 (2 ^ bits)))) same ∙ also))

  root_of_height : (s : FriParameters) (n : ℕ) (columns : List (List F)) (root : Root) (held : FriDataView F) → FriStands fri s root held (record { domain = natural_coset fri.fields.base n; columns = columns } ∷ [])
      → IsRootOf fri (n + s.log_blowup) (columns ∷ []) root
  root_of_height s n columns root held stands =
      subst (λ h. IsRootOf fri (h + s.log_blowup) (columns ∷ []) root) (sym stands.heights.0) (subst (λ ms. IsRootOf fri (held.log_height + s.log_blowup) ms root) stands.columns stands.extended)

  pub fri_commits_once : (s : FriParameters) (n : ℕ) → n ≤ fri.fields.adicity - s.log_blowup → (width : ℕ) (row : ℕ → List F) (ps qs : List (List F)) (root other : Root) (held others : FriDataView F)
      → TakesRows fri.fields.base fri.fields.root (natural_coset fri.fields.base n) width row ps → TakesRows fri.fields.base fri.fields.root (natural_coset fri.fields.base n) width row qs
      → FriStands fri s root held (record { domain = natural_coset fri.fields.base n; columns = ps } ∷ []) → FriStands fri s other others (record { domain = natural_coset fri.fields.base n; columns = qs } ∷ []) → root ≡ other
  fri_commits_once s n within width row ps qs root other held others takes also stands standing =
      one_root (n + s.log_blowup) ps qs root other
      (one_list fri.fields.base fri.fields.base_inverse laws fri.fields.adicity fri.fields.root fri.fields.generator two_adic n (omega (arith, within)) width row ps qs takes also stands.full.0 standing.full.0)
      (root_of_height s n ps root held stands) (root_of_height s n qs other others standing)

-- ---- in the clear

pub clear_commits_once : {F : Type 0} (base : RingOps F) (inverse : F → F) (laws : FieldLaws base inverse) (adicity : ℕ) (root : ℕ → F) (generator : F) (two_adic : TwoAdicLaws base adicity root generator)
    (n : ℕ) → n ≤ adicity → (width : ℕ) (row : ℕ → List F) (ps qs : List (List F)) (commitment other : List (List (List F)))
    → TakesRows base root (natural_coset base n) width row ps → TakesRows base root (natural_coset base n) width row qs
    → commitment ≡ ps ∷ [] → AllByRecursion (λ column. length column ≡ 2 ^ n) ps → other ≡ qs ∷ [] → AllByRecursion (λ column. length column ≡ 2 ^ n) qs → commitment ≡ other
clear_commits_once base inverse laws adicity root generator two_adic n within width row ps qs commitment other takes also is full same others =
    is ∙ ap (λ columns. columns ∷ []) (one_list base inverse laws adicity root generator two_adic n within width row ps qs takes also full others) ∙ sym same
