-- How the recomposition of chunks is added up, one chunk after the other.
use Rattle.std.specs.Prelude.{◌≡◌, ◌≢◌, ℕ, suc, ◌+◌, ◌-◌, ◌<◌, List, [], ◌∷◌, ◌++◌, map, length, take, drop, refl}
use Rattle.std.proofs.Common.{sym, ◌∙◌, ap, arith, get_or, add-one}
use Rattle.std.proofs.lemmas.List.{map-append, take_rest}
use Rattle.std.proofs.Math.Seq.{drop-cons, take-suc}
use Rattle.stark_support.specs.Ring.{RingOps, RingLaws, FieldLaws}
use Rattle.stark_support.specs.RingFacts.{one_mul}
use Rattle.stark_support.specs.Powers.{power}
use Rattle.stark_support.specs.Embedding.{IsEmbedding, embedded_two_adic}
use Rattle.stark_support.specs.KeepsRing.{kept_power}
use Rattle.stark_support.specs.TwoAdic.{TwoAdicLaws}
use Rattle.stark_support.specs.Extension.{basis_sum}
use Rattle.stark_support.specs.Coset.{TwoAdicCoset, IsTwoAdicCoset, AreDisjoint, coset_size, coset_vanishing}
use Rattle.stark_support.specs.CosetFacts.{only_on_points}
use Rattle.stark_support.specs.Subgroup.{embedded_coset}
use Rattle.stark_support.specs.SubgroupFacts.{embedded_valid}
use Rattle.stark_support.specs.Recomposition.{lagrange_factor, recomposition_from, recomposition}

module _ {K : Type 0} {ring : RingOps K} (laws : RingLaws ring) (inverse : K → K) (n : ℕ) where
  pub factor_append : (before after : List K) (s x : K) → lagrange_factor ring ring (λ c. c) inverse n (before ++ after) s x
      ≡ ring.mul (lagrange_factor ring ring (λ c. c) inverse n before s x) (lagrange_factor ring ring (λ c. c) inverse n after s x)
  factor_append [] after s x = sym (one_mul laws _)
  factor_append (o ∷ before) after s x = ap (ring.mul _) (factor_append before after s x) ∙ sym (laws.mul_assoc _ _ _)

  -- one more chunk in the sum
  pub next_chunk : {D V : Type 0} (shift : D → K) (values : V → List K) (basis : List K) (x done whole front back value both product next : K) (m i : ℕ) (cosets : List D) (chunks : List V) (d : D) (v : V)
      → m ≡ n → i < length cosets → i < length chunks → d ≡ get_or cosets i d → v ≡ get_or chunks i v
      → ring.add done (recomposition_from ring ring (λ c. c) inverse n basis (map shift (take i cosets)) (map shift (drop i cosets)) (map values (drop i chunks)) x) ≡ whole
      → front ≡ lagrange_factor ring ring (λ c. c) inverse m (map shift (take i cosets)) (shift d) x
      → back ≡ lagrange_factor ring ring (λ c. c) inverse m (map shift (take (length cosets - (i + 1)) (drop (i + 1) cosets))) (shift d) x
      → value ≡ basis_sum ring (λ c. c) basis (values v)
      → both ≡ ring.mul front back → product ≡ ring.mul both value → next ≡ ring.add done product
      → ring.add next
      (recomposition_from ring ring (λ c. c) inverse n basis (map shift (take (i + 1) cosets)) (map shift (drop (i + 1) cosets)) (map values (drop (i + 1) chunks)) x) ≡ whole
  next_chunk {D} {V} shift values basis x done whole front back value both product next m i cosets chunks d v size in_cosets in_chunks read_coset read_chunk before ef eb ev e_both e_product e_next =
      let from : List K → List K → List (List K) → K = λ b a q. recomposition_from ring ring (λ c. c) inverse n basis b a q x in
      let factor = λ (k : ℕ) (others : List D). lagrange_factor ring ring (λ c. c) inverse k (map shift others) (shift d) x in
      let after = map shift (drop (suc i) cosets) in
      let later = from (map shift (take (i + 1) cosets)) (map shift (drop (i + 1) cosets)) (map values (drop (i + 1) chunks)) in
      let taken : map shift (take (suc i) cosets) ≡ map shift (take i cosets) ++ shift d ∷ []
      = ap (map shift) (take-suc cosets i d in_cosets) ∙ map-append shift (take i cosets) (get_or cosets i d ∷ []) ∙ ap (λ (t : D). map shift (take i cosets) ++ shift t ∷ []) (sym read_coset) in
      let weight : both ≡ lagrange_factor ring ring (λ c. c) inverse n (map shift (take i cosets) ++ after) (shift d) x
      = e_both
      ∙ ap (λ t. ring.mul t back) (ef ∙ ap (λ k. factor k (take i cosets)) size)
      ∙ ap (ring.mul (factor n (take i cosets))) (eb ∙ ap (λ k. factor k (take (length cosets - (i + 1)) (drop (i + 1) cosets))) size ∙ ap (factor n) (take_rest cosets (i + 1)) ∙ ap (λ k. factor n (drop k cosets)) (add-one i))
      ∙ sym (factor_append (map shift (take i cosets)) after (shift d) x) in
      let term : product ≡ ring.mul (lagrange_factor ring ring (λ c. c) inverse n (map shift (take i cosets) ++ after) (shift d) x) (basis_sum ring (λ c. c) basis (values v))
      = e_product ∙ ap (λ t. ring.mul t value) weight ∙ ap (ring.mul (lagrange_factor ring ring (λ c. c) inverse n (map shift (take i cosets) ++ after) (shift d) x)) ev in
      ap (λ t. ring.add t later) (e_next ∙ ap (ring.add done) term) ∙
      laws.add_assoc done (ring.mul (lagrange_factor ring ring (λ c. c) inverse n (map shift (take i cosets) ++ after) (shift d) x) (basis_sum ring (λ c. c) basis (values v))) later ∙
      ap (λ m. ring.add done (ring.add (ring.mul (lagrange_factor ring ring (λ c. c) inverse n (map shift (take i cosets) ++ after) (shift d) x) (basis_sum ring (λ c. c) basis (values v)))
      (from (map shift (take m cosets)) (map shift (drop m cosets)) (map values (drop m chunks))))) (add-one i) ∙
      ap (λ b. ring.add done (ring.add (ring.mul (lagrange_factor ring ring (λ c. c) inverse n (map shift (take i cosets) ++ after) (shift d) x) (basis_sum ring (λ c. c) basis (values v)))
      (from b after (map values (drop (suc i) chunks))))) taken ∙
      ap (λ p. ring.add done (from (map shift (take i cosets)) (map shift p) (values v ∷ map values (drop (suc i) chunks))))
      (ap (λ t. t ∷ drop (suc i) cosets) read_coset ∙ sym (drop-cons cosets i d in_cosets)) ∙
      ap (λ q. ring.add done (from (map shift (take i cosets)) (map shift (drop i cosets)) (map values q)))
      (ap (λ t. t ∷ drop (suc i) chunks) read_chunk ∙ sym (drop-cons chunks i v in_chunks)) ∙
      before

module _ {F E : Type 0} {base : RingOps F} {ring : RingOps E} {inverse : E → E} {embed : F → E} (laws : FieldLaws ring inverse) (embeds : IsEmbedding base ring embed)
    (base_laws : RingLaws base) (adicity : ℕ) (root : ℕ → F) (generator : F) (two_adic : TwoAdicLaws base adicity root generator) where
  -- The vanishing value of a coset isn't zero at a point of a coset that has none in common with it.
  pub vanishing_apart : (c d : TwoAdicCoset F) (first z : E) → IsTwoAdicCoset base adicity d → AreDisjoint base root c d → first ≡ embed c.shift
      → z ≡ coset_vanishing ring (λ x. x) inverse (coset_size d) (embed d.shift) first → z ≢ ring.zero
  unfolding power
  vanishing_apart c d first z valid apart at_first is e =
      let lifted = embedded_two_adic embeds adicity root generator two_adic in
      let point = only_on_points laws adicity (λ k. embed (root k)) (embed generator) lifted (embedded_coset embed d) (embedded_valid laws embeds adicity root generator two_adic d valid) (embed c.shift)
      (ap (λ y. coset_vanishing ring (λ x. x) inverse (coset_size d) (embed d.shift) y) (sym at_first) ∙ sym is ∙ e) in
      apart.apart 0 point.0 (base_laws.mul_one c.shift ∙ embeds.injective _ _
      (point.2 ∙ ap (ring.mul (embed d.shift)) (sym (kept_power embeds.keeps (root d.log_size) _ point.0 refl)) ∙ sym (embeds.keeps.mul d.shift (power base (root d.log_size) point.0))))

-- On a single coset the recomposition is the one chunk's element, whatever the coset.
pub recomposition_of_one : {K : Type 0} (ring : RingOps K) (inverse : K → K) (basis : List K) (x : K) (n m : ℕ) (shifts : List K) (s : K) (chunks : List (List K)) → length shifts ≡ 1
    → recomposition ring ring (λ c. c) inverse n basis shifts chunks x ≡ recomposition ring ring (λ c. c) inverse m basis (s ∷ []) chunks x
recomposition_of_one ring inverse basis x n m [] s chunks h = absurd (omega arith)
recomposition_of_one ring inverse basis x n m (t ∷ []) s [] h = refl
recomposition_of_one ring inverse basis x n m (t ∷ []) s (q ∷ qs) h = refl
recomposition_of_one ring inverse basis x n m (t ∷ u ∷ more) s chunks h = absurd (omega arith)
