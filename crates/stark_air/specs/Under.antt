-- That constraints under a condition keep the laws of every builder.
use Rattle.std.specs.Prelude.{◌≡◌, List, [], ◌++◌, map, refl}
use Rattle.std.proofs.Common.{sym, ◌∙◌, subst}
use Rattle.std.proofs.lemmas.List.{map-append}
use Rattle.stark_air.specs.Tree.{Constraint}
use Rattle.stark_support.specs.Operations.{Operations}
use Rattle.stark_air.specs.Layout.{Layout}
use Rattle.stark_air.specs.Value.{Environment, value}
use Rattle.stark_air.specs.Emission.{EmissionLaws, AfterUnder, under}

module _ {F : Type 0} {S : Type 0} {E : Type 0} {environment : S → Environment E} {layout : S → Layout} {after : S → List (Constraint F) → S → Type 0} (laws : EmissionLaws environment layout after) (o : Operations F E) (stands : E → E → Type 0) where
  pub under_nothing : (condition : E) (s : S) → AfterUnder o stands environment layout after condition s [] s
  under_nothing condition s = record { same_environment = refl; same_layout = refl; asserted = λ c h. laws.nothing s }

  pub under_both : {condition : E} {later : E} {s : S} {t : S} {u : S} (cs ds : List (Constraint F)) → condition ≡ later → AfterUnder o stands environment layout after condition s cs t → AfterUnder o stands environment layout after later t ds u → AfterUnder o stands environment layout after condition s (cs ++ ds) u
  under_both {condition} {later} {s} {t} {u} cs ds same h k = record {
    same_environment = k.same_environment ∙ h.same_environment;
    same_layout = k.same_layout ∙ h.same_layout;
    asserted = λ c p. subst (λ l. after s l u) (sym (map-append (under c) cs ds)) (laws.both s t u (map (under c) cs) (map (under c) ds) (h.asserted c p) (k.asserted c (subst (λ x. stands (value o (environment t) c) x) same (subst (λ e. stands (value o e c) condition) (sym h.same_environment) p))));
  }
