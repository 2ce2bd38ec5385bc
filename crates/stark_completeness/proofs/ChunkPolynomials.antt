-- The chunks of a polynomial's values on a coset recompose to it everywhere, masked or not.
use Rattle.std.proofs.Common.{◌≡◌, ◌∙◌, ap, sym, arith, refl, subst, ℕ, ◌+◌, ◌-◌, ◌*◌, ◌^◌, ◌<◌, ◌≤◌, Bool, List, [], ◌∷◌, map, length, get_or}
use Rattle.std.specs.List.{AllByRecursion, range_with_len}
use Rattle.std.proofs.lemmas.List.{get_or-map, length-map, same_lists}
use Rattle.std.proofs.lemmas.List.Elements.{recursion_from_All}
use Rattle.std.proofs.lemmas.List.FromFn.{length-map-range_with_len, get_or-map-range_with_len}
use Rattle.std.proofs.lemmas.Option.{slice_get-get_or}
use Rattle.std.proofs.lemmas.Simd.{map-map}
use Rattle.stark_support.specs.Ring.{RingOps, FieldLaws}
use Rattle.stark_support.specs.Powers.{power}
use Rattle.stark_support.specs.Embedding.{IsEmbedding}
use Rattle.stark_support.specs.Extension.{IsBasis, basis_sum}
use Rattle.stark_support.specs.KeepsRing.{kept_power}
use Rattle.stark_support.specs.TwoAdic.{TwoAdicLaws}
use Rattle.stark_support.specs.Coset.{TwoAdicCoset, IsTwoAdicCoset, coset_part, coset_point, coset_size}
use Rattle.stark_support.specs.DomainRecomposition.{recomposes_on_domains}
use Rattle.stark_support.specs.MaskFacts.{quotient_unmasked}
use Rattle.stark_support.specs.PointFacts.{all_mapped}
use Rattle.stark_support.specs.Polynomial.{value, HasDegreeBelow}
use Rattle.stark_support.specs.Recomposition.{recomposition}
use Rattle.stark_support.specs.RecompositionLaw.{AreChunksOf, ChunksAgree}
use Rattle.stark_support.specs.RecompositionPolynomial.{ChunksFit, chunk_values}
use Rattle.stark_support.specs.Scheme.{AreQuotientChunks, IsChunk, QuotientChunk, row_at}
use Rattle.stark_quotient.specs.FoldedPlaces.{mapped_same}
use Rattle.stark_quotient.specs.QuotientOfColumns.{embedded_rows}
use Rattle.stark_security.proofs.ConstraintDegrees.{value_of_embedded}
use Rattle.stark_completeness.proofs.PartPoints.{part_valid, parts_in_order, place_within, point_of_part, whole_size}

-- A chunk's polynomials before masking, seen in the extension.
abbrev pub plain_polynomials : {F E : Type 0} → (F → E) → QuotientChunk F → List (List E)
plain_polynomials embed chunk = map (map embed) (map (λ m. m.plain) chunk.columns)

-- The values of polynomials over the base field are those of the polynomials over the extension.
pub row_above : {F E : Type 0} (ring : RingOps E) (embed : F → E) (columns : List (List F)) (x : E) → row_at ring embed columns x ≡ row_at ring (λ c. c) (map (map embed) columns) x
row_above ring embed [] x = refl
row_above ring embed (p ∷ ps) x =
    ap (λ v. v ∷ row_at ring embed ps x) (value_of_embedded ring (λ c. c) embed p x) ∙ ap (λ vs. value ring (map embed p) x ∷ vs) (row_above ring embed ps x)

module _ {F E : Type 0} {base : RingOps F} {base_inverse : F → F} {ring : RingOps E} {inverse : E → E} {embed : F → E} (base_laws : FieldLaws base base_inverse) (laws : FieldLaws ring inverse) (embeds : IsEmbedding base ring embed)
    (adicity : ℕ) (root : ℕ → F) (generator : F) (two_adic : TwoAdicLaws base adicity root generator)
    (coset : TwoAdicCoset F) (valid : IsTwoAdicCoset base adicity coset) (log_chunks : ℕ) (fits : log_chunks ≤ coset.log_size)
    (width : ℕ) (basis : List E) (coordinates : E → List F) (is_basis : IsBasis ring embed width basis coordinates)
    (p : List E) (row : ℕ → List F) (row_is : (k : ℕ) → k < coset_size coset → row k ≡ coordinates (value ring p (embed (coset_point base root coset k))))
    (is_zk : Bool) (chunks : List (QuotientChunk F)) (are : AreQuotientChunks base root ring inverse embed is_zk coset log_chunks width row chunks) where
  -- A chunk takes the polynomial's values on its part.
  agrees : (i : ℕ) (q : QuotientChunk F) → i < 2 ^ log_chunks → IsChunk base root ring inverse embed is_zk coset log_chunks width row i q → (r : ℕ) → r < 2 ^ (coset.log_size - log_chunks)
      → let x = ring.mul (embed q.part.shift) (power ring (embed (root (coset.log_size - log_chunks))) r) in
      basis_sum ring (λ c. c) basis (map (λ c. value ring c x) (plain_polynomials embed q)) ≡ value ring p x
  agrees i q below is r within =
      let small = coset.log_size - log_chunks in
      let x = ring.mul (embed q.part.shift) (power ring (embed (root small)) r) in
      let y = coset_point base root q.part r in
      let k = i + r * 2 ^ log_chunks in
      let sum : List E → E = basis_sum ring (λ c. c) basis in
      let size : q.part.log_size ≡ small = ap (λ c. c.log_size) is.part in
      let at : embed y ≡ x =
      embeds.keeps.mul q.part.shift (power base (root q.part.log_size) r)
      ∙ ap (ring.mul (embed q.part.shift)) (kept_power embeds.keeps (root q.part.log_size) (embed (root q.part.log_size)) r refl)
      ∙ ap (λ (n : ℕ). ring.mul (embed q.part.shift) (power ring (embed (root n)) r)) size in
      let there : coset_point base root coset k ≡ y = point_of_part base_laws adicity root generator two_adic coset valid log_chunks fits i r below ∙ ap (λ c. coset_point base root c r) (sym is.part) in
      let inside : k < coset_size coset = place_within i r (2 ^ log_chunks) (2 ^ small) (coset_size coset) below within (whole_size coset.log_size log_chunks fits) in
      ap (λ z. sum (row_at ring (λ c. c) (plain_polynomials embed q) z)) (sym at) ∙
      ap sum (sym (embedded_rows embeds root q.part width (λ s. row (i + s * 2 ^ log_chunks)) (map (λ m. m.plain) q.columns) is.takes r (subst (λ n. r < 2 ^ n) (sym size) within))) ∙
      ap (λ cs. sum (map embed cs)) (row_is k inside) ∙
      sym (is_basis.sum (value ring p (embed (coset_point base root coset k)))) ∙
      ap (λ z. value ring p (embed z)) there ∙
      ap (value ring p) at

  agree_all : (qs : List (QuotientChunk F))
      → AllByRecursion (λ q. (r : ℕ) → r < 2 ^ (coset.log_size - log_chunks) → let x = ring.mul (embed q.part.shift) (power ring (embed (root (coset.log_size - log_chunks))) r) in
      basis_sum ring (λ c. c) basis (map (λ c. value ring c x) (plain_polynomials embed q)) ≡ value ring p x) qs
      → ChunksAgree ring (embed (root (coset.log_size - log_chunks))) (2 ^ (coset.log_size - log_chunks)) basis (value ring p) (map (λ q. embed q.part.shift) qs) (map (plain_polynomials embed) qs)
  agree_all [] agree = tt
  agree_all (q ∷ qs) agree = (agree.0, agree_all qs agree.1)

  chunk_at : (i : ℕ) (d : QuotientChunk F) → i < length chunks → IsChunk base root ring inverse embed is_zk coset log_chunks width row i (get_or chunks i d)
  chunk_at i d below = are.chunk i (get_or chunks i d) (slice_get-get_or chunks i d below)

  fit : ChunksFit (2 ^ (coset.log_size - log_chunks)) (map (plain_polynomials embed) chunks)
  fit =
      let n = 2 ^ (coset.log_size - log_chunks) in
      all_mapped (plain_polynomials embed) (AllByRecursion (HasDegreeBelow n)) chunks
      (recursion_from_All (λ q. AllByRecursion (HasDegreeBelow n) (plain_polynomials embed q)) chunks
      (λ i d below.
      let q = get_or chunks i d in
      let is = chunk_at i d below in
      let size : 2 ^ q.part.log_size ≡ n = ap (λ (c : TwoAdicCoset F). 2 ^ c.log_size) is.part in
      all_mapped (map embed) (HasDegreeBelow n) (map (λ m. m.plain) q.columns)
      (all_mapped (λ m. m.plain) (λ c. HasDegreeBelow n (map embed c)) q.columns
      (recursion_from_All (λ m. HasDegreeBelow n (map embed m.plain)) q.columns
      (λ j m within.
      let c = get_or q.columns j m in
      let degree : length c.plain ≤ 2 ^ q.part.log_size = (is.masked j m within).plain_degree in
      let same : length (map embed c.plain) ≡ length c.plain = length-map c.plain embed in
      omega (arith, degree, same, size))))))

  -- The chunks' shifts are the parts' in order.
  pub shifts_in_order : map (λ q. embed q.part.shift) chunks ≡ map (λ i. embed (coset_point base root coset i)) (range_with_len 0 (2 ^ log_chunks))
  shifts_in_order =
      let shift : QuotientChunk F → E = λ q. embed q.part.shift in
      let place : ℕ → E = λ i. embed (coset_point base root coset i) in
      let none : QuotientChunk F = record { part = coset; columns = [] } in
      same_lists (map shift chunks) (map place (range_with_len 0 (2 ^ log_chunks))) (length-map chunks shift ∙ are.number ∙ sym (length-map-range_with_len place 0 (2 ^ log_chunks)))
      (λ i d within.
      let there : i < length chunks = omega (arith, within, length-map chunks shift) in
      get_or-map shift chunks i none d there
      ∙ ap (λ c. embed c.shift) (chunk_at i none there).part
      ∙ sym (get_or-map-range_with_len place 0 (2 ^ log_chunks) i i d (omega (arith, there, are.number)) (omega arith)))

  module _ (short : HasDegreeBelow (coset_size coset) p) where
    chunks_of : AreChunksOf ring (embed (root (coset.log_size - log_chunks))) (2 ^ (coset.log_size - log_chunks)) basis (map (λ q. embed q.part.shift) chunks) (map (plain_polynomials embed) chunks) p
    chunks_of =
        let n = 2 ^ (coset.log_size - log_chunks) in
        let number : length (map (λ q. embed q.part.shift) chunks) ≡ 2 ^ log_chunks = length-map chunks (λ q. embed q.part.shift) ∙ are.number in
        record {
          fit = fit;
          short = subst (λ k. length p ≤ k) (whole_size coset.log_size log_chunks fits ∙ ap (λ k. k * n) (sym number)) short;
          agree = agree_all chunks (recursion_from_All _ chunks (λ i d below. agrees i (get_or chunks i d) (omega (arith, below, are.number)) (chunk_at i d below)));
        }

    -- The chunks without their masks recompose to the polynomial.
    pub plain_recomposes : (x : E) → recomposition ring ring (λ c. c) inverse (2 ^ (coset.log_size - log_chunks)) basis (map (λ i. embed (coset_point base root coset i)) (range_with_len 0 (2 ^ log_chunks)))
        (chunk_values ring (map (plain_polynomials embed) chunks) x) x ≡ value ring p x
    plain_recomposes x =
        recomposes_on_domains laws embeds base_laws.of_ring adicity root generator two_adic (coset_part base root coset log_chunks) (part_valid base_laws adicity root generator two_adic coset valid log_chunks fits)
        (coset.log_size - log_chunks) (range_with_len 0 (2 ^ log_chunks)) (parts_in_order base_laws adicity root generator two_adic coset valid log_chunks fits).disjoint basis
        (map (plain_polynomials embed) chunks) p
        (subst (λ shifts. AreChunksOf ring (embed (root (coset.log_size - log_chunks))) (2 ^ (coset.log_size - log_chunks)) basis shifts (map (plain_polynomials embed) chunks) p) shifts_in_order chunks_of) x

    -- So do the chunks that are committed to.
    pub committed_recomposes : (x : E) → recomposition ring ring (λ c. c) inverse (2 ^ (coset.log_size - log_chunks)) basis (map (λ i. embed (coset_point base root coset i)) (range_with_len 0 (2 ^ log_chunks)))
        (map (λ q. row_at ring embed (map (λ m. m.column) q.columns) x) chunks) x ≡ value ring p x
    committed_recomposes x =
        let n = 2 ^ (coset.log_size - log_chunks) in
        let over = λ (shifts : List E) (values : List (List E)). recomposition ring ring (λ c. c) inverse n basis shifts values x in
        let committed = map (λ q. row_at ring embed (map (λ m. m.column) q.columns) x) chunks in
        let unmasked : List (List E) = map (λ q. row_at ring embed (map (λ m. m.plain) q.columns) x) chunks in
        ap (λ shifts. over shifts committed) (sym shifts_in_order) ∙
        quotient_unmasked base root ring inverse embed is_zk coset log_chunks width row chunks laws.of_ring are basis is_basis.size x ∙
        ap (λ shifts. over shifts unmasked) shifts_in_order ∙
        ap (over _) (mapped_same _ _ (λ q. row_above ring embed (map (λ m. m.plain) q.columns) x) chunks ∙ sym (map-map (λ qs. row_at ring (λ c. c) qs x) (plain_polynomials embed) chunks)) ∙
        plain_recomposes x
