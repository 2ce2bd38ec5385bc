-- What a builder that keeps one element for each constraint holds after constraints were asserted.
use Rattle.std.specs.Prelude.{◌≡◌, List, ◌++◌, map, refl}
use Rattle.std.proofs.Common.{sym, ◌∙◌, ap, append_assoc, append-nil}
use Rattle.std.proofs.lemmas.List.{map-append}
use Rattle.stark_air.specs.Tree.{Constraint}
use Rattle.stark_air.specs.Layout.{Layout}
use Rattle.stark_air.specs.Value.{Environment}
use Rattle.stark_air.specs.Emission.{EmissionLaws}

-- The row stays, and behind what was kept stands each constraint's element, in order.
pub record Collected {F : Type 0} {S : Type 0} {E : Type 0} {C : Type 0} (element : Environment E → Constraint F → C) (environment : S → Environment E) (layout : S → Layout) (kept : S → List C) (s : S) (cs : List (Constraint F)) (t : S) : Type 0 where
  pub same_environment : environment t ≡ environment s
  pub same_layout : layout t ≡ layout s
  pub appended : kept t ≡ kept s ++ map (element (environment s)) cs

pub collecting_laws : {F : Type 0} {S : Type 0} {E : Type 0} {C : Type 0} (element : Environment E → Constraint F → C) (environment : S → Environment E) (layout : S → Layout) (kept : S → List C) → EmissionLaws environment layout (Collected element environment layout kept)
collecting_laws {F} {S} {E} {C} element environment layout kept = record {
  nothing = λ s. record { same_environment = refl; same_layout = refl; appended = sym (append-nil (kept s)) };
  both = λ s t u cs ds h k. record {
    same_environment = k.same_environment ∙ h.same_environment;
    same_layout = k.same_layout ∙ h.same_layout;
    appended =
        k.appended ∙
        ap (λ (e : Environment E). kept t ++ map (element e) ds) h.same_environment ∙
        ap (λ (l : List C). l ++ map (element (environment s)) ds) h.appended ∙
        append_assoc (kept s) (map (element (environment s)) cs) (map (element (environment s)) ds) ∙
        ap (λ (l : List C). kept s ++ l) (sym (map-append (element (environment s)) cs ds));
  };
  same_environment = λ s t cs h. h.same_environment;
  same_layout = λ s t cs h. h.same_layout;
}
