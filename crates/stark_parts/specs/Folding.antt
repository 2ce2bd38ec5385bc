-- What the verifier's folder holds after constraints were asserted.
use Rattle.std.specs.Prelude.{◌≡◌, List, refl}
use Rattle.std.proofs.Common.{sym, ◌∙◌, ap, subst}
use Rattle.stark_support.specs.Ring.{RingOps}
use Rattle.stark_support.specs.Operations.{Operations, ring_operations, exact_binary}
use Rattle.stark_air.specs.Tree.{Tree, Constraint}
use Rattle.stark_air.specs.Layout.{Layout, Covers}
use Rattle.stark_air.specs.Value.{Environment, value, constraint_value, constraint_values}
use Rattle.stark_air.specs.Emission.{EmissionLaws, Asserts}
use Rattle.stark_air.specs.Rows.{environment_of, layout_of}
use Rattle.stark_parts.specs.Folded.{accumulated, accumulated_append, folded}
use Rattle.stark_parts.specs.declared.folder.RowsAtPoint.{RowsAtPoint}
use Rattle.stark_parts.specs.declared.folder.VerifierConstraintFolder.{VerifierConstraintFolder}
use Rattle.stark_support.specs.FieldPair.{FieldsOps}
use Rattle.stark_support.specs.declared.domain.LagrangeSelectors.{LagrangeSelectors}

-- The folder's types, in its declared order: configuration, scheme, extension, challenger, domain, commitment, prover's data, opening
-- proof, the verifier's and the prover's error, and base field. F is the base field and E the extension.
module _ {S P E C D K T A X Y F : Type 0} (base : RingOps F) (ring : RingOps E) (embed : F → E) where
  -- The rows that the folder borrows; past their ends stands zero.
  abbrev pub folder_environment : VerifierConstraintFolder S P E C D K T A X Y F → Environment E
  folder_environment s = environment_of (ring_operations ring embed) base.zero ring.zero s.main.top.values.now s.main.bottom.values.now s.preprocessed_window.current.now s.preprocessed_window.next.now s.public_values.now s.periodic_values.now s.is_first_row s.is_last_row s.is_transition

  abbrev pub folder_layout : VerifierConstraintFolder S P E C D K T A X Y F → Layout
  folder_layout s = layout_of s.main.top.values.now s.main.bottom.values.now s.preprocessed_window.current.now s.preprocessed_window.next.now s.public_values.now s.periodic_values.now

  -- Nothing but the accumulator is changed, and it carries the constraints' values on.
  abbrev pub after_folding : VerifierConstraintFolder S P E C D K T A X Y F → List (Constraint F) → VerifierConstraintFolder S P E C D K T A X Y F → Type 0
  after_folding s cs t = t ≡ record s { accumulator = accumulated ring s.alpha s.accumulator (constraint_values (ring_operations ring embed) (folder_environment s) cs) }

  -- Two folders show the same row, and have the same layout.
  abbrev pub ShowsSameRow : VerifierConstraintFolder S P E C D K T A X Y F → VerifierConstraintFolder S P E C D K T A X Y F → Type 0
  ShowsSameRow s t = folder_environment t ≡ folder_environment s

  abbrev pub HasSameLayout : VerifierConstraintFolder S P E C D K T A X Y F → VerifierConstraintFolder S P E C D K T A X Y F → Type 0
  HasSameLayout s t = folder_layout t ≡ folder_layout s

  pub folding_laws : EmissionLaws folder_environment folder_layout after_folding
  folding_laws = record {
    nothing = λ s. refl;
    both = λ s t u cs ds h k.
        let moved = subst (λ (z : VerifierConstraintFolder S P E C D K T A X Y F). u ≡ record z { accumulator = accumulated ring z.alpha z.accumulator (constraint_values (ring_operations ring embed) (folder_environment z) ds) }) h k in
        moved ∙ ap (λ (x : E). record s { accumulator = x }) (sym (accumulated_append ring s.alpha s.accumulator (constraint_value (ring_operations ring embed) (folder_environment s)) cs ds));
    same_environment = λ s t cs h. ap folder_environment h;
    same_layout = λ s t cs h. ap folder_layout h;
  }

module _ {F : Type 0} {E : Type 0} (ring : RingOps E) {embed : F → E} {o : Operations F E} (exact : o ≡ ring_operations ring embed) where
  -- One step of the accumulator.
  pub carried_on : (acc a m x z : E) (e : Environment E) (t : Tree F) → m ≡ ring.mul acc a → z ≡ ring.add m x → x ≡ value o e t → z ≡ ring.add (ring.mul acc a) (value (ring_operations ring embed) e t)
  carried_on acc a m x z e t product sum stands = exact_binary ring.add m x z (ring.mul acc a) (value (ring_operations ring embed) e t) sum product (stands ∙ ap (λ (b : Operations F E). value b e t) exact)

  -- A base value that is turned into an extension's stands for its embedding.
  pub exact_embedding : (stands : E → E → Type 0) (k : F) (x : E) → stands (o.embed k) x → stands (embed k) x
  exact_embedding stands k x h = subst (λ (b : Operations F E). stands (b.embed k) x) exact h

-- Of whatever tree the value stands for, this constraint was folded in.
abbrev pub FoldsIn : {S P E C D K T A X Y F : Type 0} → FieldsOps F E → Operations F E → (E → E → Type 0) → (Tree F → Constraint F)
    → VerifierConstraintFolder S P E C D K T A X Y F → E → VerifierConstraintFolder S P E C D K T A X Y F → Type 0
FoldsIn fields o stands constraint s x t =
    Asserts o stands (folder_environment fields.base fields.ring fields.embed) (after_folding fields.base fields.ring fields.embed) constraint s x t

module _ {F E : Type 0} where
  -- An AIR's layout is covered by two rows of main columns, two preprocessed ones, public and periodic values.
  abbrev pub CoversRows : RowsAtPoint F E → Layout → Type 0
  CoversRows rows layout = Covers (layout_of rows.main.current.now rows.main.next.now rows.preprocessed.current.now rows.preprocessed.next.now rows.public_values.now rows.periodic_values.now) layout

  -- The values that an AIR's constraints read there; past the ends of the rows stands zero.
  abbrev pub rows_environment : FieldsOps F E → RowsAtPoint F E → LagrangeSelectors E → Environment E
  rows_environment fields rows selectors =
      environment_of (ring_operations fields.ring fields.embed) fields.base.zero fields.ring.zero rows.main.current.now rows.main.next.now rows.preprocessed.current.now rows.preprocessed.next.now
      rows.public_values.now rows.periodic_values.now selectors.is_first_row selectors.is_last_row selectors.is_transition

  -- The sum over j below n of alpha ^ (n - 1 - j) times the value there of constraint j of n.
  abbrev pub IsFoldedSum : FieldsOps F E → List (Constraint F) → RowsAtPoint F E → LagrangeSelectors E → E → E → Type 0
  IsFoldedSum fields cs rows selectors alpha sum =
      sum ≡ folded fields.ring alpha (constraint_values (ring_operations fields.ring fields.embed) (rows_environment fields rows selectors) cs)
