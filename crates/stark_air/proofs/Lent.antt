-- What one assertion on a filtered builder leaves in the builder that it borrows: `s` before it was lent, `f` and `g` while
-- it is, `u` afterwards.
use Rattle.std.proofs.Common.{◌≡◌, List, [], ◌∷◌, Result, Ok, Err, IfOk, OnErr, sym, subst}
use Rattle.stark_support.specs.Operations.{Operations}
use Rattle.stark_air.specs.Layout.{Layout}
use Rattle.stark_air.specs.Tree.{Tree, Constraint, base, constant, product, difference}
use Rattle.stark_air.specs.Value.{Environment, value}
use Rattle.stark_air.specs.Emission.{EmissionLaws, AfterUnder, under}

module _ {F : Type 0} {S : Type 0} {E : Type 0} {environment : S → Environment E} {layout : S → Layout} {after : S → List (Constraint F) → S → Type 0} (laws : EmissionLaws environment layout after) (o : Operations F E) (stands : E → E → Type 0) (s f g u : S) (condition : E) where
  moved : (c : Tree F) (x : Constraint F) → f ≡ s → g ≡ u → stands (value o (environment f) c) condition → AfterUnder o stands environment layout after condition f (x ∷ []) g → after s (under c x ∷ []) u
  moved c x same end holds h =
      subst (λ (z : S). after s (under c x ∷ []) z) end (subst (λ (z : S). after z (under c x ∷ []) g) same (h.asserted c holds))

  before : (t : Tree F) (a : E) → f ≡ s → stands (value o (environment s) t) a → stands (value o (environment f) t) a
  before t a same h = subst (λ (z : S). stands (value o (environment z) t) a) (sym same) h

  pub filtered_zero : {A : Type 0} {B : Type 0} (N K : Type 0) (r : Result A B) (c t : Tree F) (a : E) →
      IfOk r (λ _. (t : Tree F) → stands (value o (environment f) t) a → N × K × AfterUnder o stands environment layout after condition f (base t ∷ []) g) →
      f ≡ s → g ≡ u → stands (value o (environment f) c) condition → stands (value o (environment s) t) a →
      IfOk r (λ _. after s (base (product c t) ∷ []) u)
  filtered_zero N K (Ok v) c t a h same end holds p = moved c (base t) same end holds (h t (before t a same p)).2
  filtered_zero N K (Err e) c t a h same end holds p = tt

  pub filtered_one : {A : Type 0} {B : Type 0} (N K : Type 0) (r : Result A B) (c t : Tree F) (k : F) (a : E) →
      IfOk r (λ _. (t : Tree F) → stands (value o (environment f) t) a → N × K × AfterUnder o stands environment layout after condition f (base (difference t (constant k)) ∷ []) g) →
      f ≡ s → g ≡ u → stands (value o (environment f) c) condition → stands (value o (environment s) t) a →
      IfOk r (λ _. after s (base (product c (difference t (constant k))) ∷ []) u)
  filtered_one N K (Ok v) c t k a h same end holds p = moved c (base (difference t (constant k))) same end holds (h t (before t a same p)).2
  filtered_one N K (Err e) c t k a h same end holds p = tt

  pub filtered_eq : {A : Type 0} {B : Type 0} (N K : Type 0) (r : Result A B) (c t v : Tree F) (a b : E) →
      IfOk r (λ _. (t v : Tree F) → stands (value o (environment f) t) a → stands (value o (environment f) v) b → N × K × AfterUnder o stands environment layout after condition f (base (difference t v) ∷ []) g) →
      f ≡ s → g ≡ u → stands (value o (environment f) c) condition → stands (value o (environment s) t) a → stands (value o (environment s) v) b →
      IfOk r (λ _. after s (base (product c (difference t v)) ∷ []) u)
  filtered_eq N K (Ok w) c t v a b h same end holds p q = moved c (base (difference t v)) same end holds (h t v (before t a same p) (before v b same q)).2
  filtered_eq N K (Err e) c t v a b h same end holds p q = tt

  pub filtered_refused : {A : Type 0} {B : Type 0} (N K : Type 0) (r : Result A B) (c : Tree F) →
      OnErr r (N × K × AfterUnder o stands environment layout after condition f [] g) →
      f ≡ s → g ≡ u → stands (value o (environment f) c) condition →
      OnErr r (after s [] u)
  filtered_refused N K (Ok w) c h same end holds = tt
  filtered_refused N K (Err e) c h same end holds =
      subst (λ (z : S). after s [] z) end (subst (λ (z : S). after z [] g) same (h.2.asserted c holds))
