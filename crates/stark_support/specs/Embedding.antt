-- A ring inside another.
use Rattle.std.specs.Prelude.{◌≡◌, ℕ, zero, suc, refl}
use Rattle.std.proofs.Common.{sym, ◌∙◌, ap}
use Rattle.stark_support.specs.Ring.{RingOps}
use Rattle.stark_support.specs.KeepsRing.{KeepsRing}
use Rattle.stark_support.specs.Powers.{squarings}
use Rattle.stark_support.specs.TwoAdic.{TwoAdicLaws}

pub record IsEmbedding {F E : Type 0} (base : RingOps F) (extension : RingOps E) (embed : F → E) : Type 0 where
  pub keeps : KeepsRing base extension embed
  pub injective : (x y : F) → embed x ≡ embed y → x ≡ y

module _ {F E : Type 0} {base : RingOps F} {extension : RingOps E} {embed : F → E} (embeds : IsEmbedding base extension embed) where
  pub embedded_squarings : (x : F) (k : ℕ) → embed (squarings base x k) ≡ squarings extension (embed x) k
  unfolding squarings
  embedded_squarings x zero = refl
  embedded_squarings x (suc k) = embeds.keeps.mul (squarings base x k) (squarings base x k) ∙ ap (λ t. extension.mul t t) (embedded_squarings x k)

  -- the base's roots of one are the extension's
  pub embedded_two_adic : (adicity : ℕ) (root : ℕ → F) (generator : F) → TwoAdicLaws base adicity root generator → TwoAdicLaws extension adicity (λ k. embed (root k)) (embed generator)
  embedded_two_adic adicity root generator laws = record {
    bounded = laws.bounded;
    root_zero = ap embed laws.root_zero ∙ embeds.keeps.one;
    root_one = ap embed laws.root_one ∙ embeds.keeps.neg base.one ∙ ap extension.neg embeds.keeps.one;
    root_square = λ k h. sym (embeds.keeps.mul (root (suc k)) (root (suc k))) ∙ ap embed (laws.root_square k h);
    odd = λ e. laws.odd (embeds.injective _ _ (embeds.keeps.one ∙ e ∙ ap extension.neg (sym embeds.keeps.one) ∙ sym (embeds.keeps.neg base.one)));
    outside = λ e. laws.outside (embeds.injective _ _ (embedded_squarings generator adicity ∙ e ∙ sym embeds.keeps.one));
    generator_nonzero = λ e. laws.generator_nonzero (embeds.injective _ _ (e ∙ sym embeds.keeps.zero));
  }
