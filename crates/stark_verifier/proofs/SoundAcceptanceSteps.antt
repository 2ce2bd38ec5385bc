-- The opened values of an accepted proof stand for polynomials' values, at least where a constraint reads them.
use Rattle.std.proofs.Common.{◌≡◌, ◌∙◌, ◌≤◌, ◌==◌, ◌&&◌, ap, arith, sym, refl, subst, ℕ, Bool, not, List, [], ◌∷◌, length, replicate, unwrap_or, Option, None, Some}
use Rattle.std.proofs.lemmas.Bool.{and_parts, eqb-true}
use Rattle.std.proofs.lemmas.List.{length-map}
use Rattle.stark_support.specs.OptionFacts.{first_none, later_none}
use Rattle.stark_support.specs.Ring.{FieldLaws}
use Rattle.stark_air.specs.Layout.{Layout, Covers, LeavesWithin}
use Rattle.stark_air.specs.Declaration.{Trace, IsDeclared, next_width}
use Rattle.stark_transcript.specs.Shape.{opens_next_row}
use Rattle.stark_transcript.specs.declared.error.InvalidProofShapeError.{InvalidProofShapeError}
use Rattle.stark_protocol.specs.declared.preprocessed.PreprocessedVerifierKey.{PreprocessedVerifierKey}
use Rattle.stark_protocol.specs.Equation.{opened_layout}
use Rattle.stark_proof.specs.ProofView.{OpeningsView, PreprocessedView, ProofView}
use Rattle.stark_protocol.specs.Instance.{Instance, ProtocolOps, log_height}
use Rattle.stark_protocol.specs.Acceptance.{preprocessed_local, preprocessed_next, rows_of, of_shape, periodic_values, quotient_value, log_parts, challenges, shape_fault, height_fault, key_fault, domain_fault, values_fault, IsBalanced, RunHolds, Accepted}
use Rattle.stark_protocol.specs.ShapeFaults.{fault_if, key_degree_fault, opened_fault, preprocessed_fault, preprocessed_rows_fault, public_values_fault, randomization_fault, trace_next_fault, width_in_force, width_of}
use Rattle.stark_protocol.specs.AcceptanceFacts.{same_drawn}
use Rattle.stark_verifier.specs.SoundAcceptance.{proved_air, proved_shifts, BreakingNeedsBadChallenges}
use Rattle.stark_verifier.proofs.ShapeSteps.{in_force, met, rows_cover}
use Rattle.stark_verifier.proofs.TakenValueSteps.{StandFor, accepted_needs_bad_draws}

pub shape_clear : {X : Type 0} (fault : Option InvalidProofShapeError) → of_shape {X = X} fault ≡ None → fault ≡ None
shape_clear None e = refl
shape_clear (Some error) e = absurd (cc)

-- no leaf of a next row where it isn't opened
unread : {E : Type 0} (columns : List ℕ) (width : ℕ) (next : Option (List E)) → trace_next_fault (opens_next_row columns) width next ≡ None → next ≡ None → next_width columns width ≡ 0
unread [] width next e none = refl
unread (column ∷ columns) width None e none = absurd (cc)
unread (column ∷ columns) width (Some row) e none = absurd (cc)

unread_preprocessed : {E : Type 0} (columns : List ℕ) (width wide : ℕ) (view : PreprocessedView E) → wide ≡ width → preprocessed_rows_fault wide (opens_next_row columns) (Some view) ≡ None → view.next ≡ None
    → next_width columns width ≡ 0
unread_preprocessed [] width wide view same e none = refl
unread_preprocessed (column ∷ columns) width wide view same e none =
    let tests = length view.local == wide && width_of view.next == wide in
    let past = first_none (fault_if (not tests) _) _ (later_none (fault_if (wide == 0) _) _ e) in
    let parts = and_parts (length view.local == wide) (width_of view.next == wide) (met tests _ past) in
    sym same ∙ sym (eqb-true (width_of view.next) wide parts.1) ∙ ap width_of none

at_most_none : (n m : ℕ) → n ≤ m → m ≡ 0 → n ≡ 0
at_most_none n m h e = omega arith

module _ {F E K : Type 0} (zero : E) (key : Option (PreprocessedVerifierKey K)) (layout : Layout) (main_next preprocessed_next_columns : List ℕ) (degree_bits : ℕ) (opened : OpeningsView E) (public_values : List F) (count dimension alpha_bits : ℕ) (alpha_is_zero : Bool) (bits : ℕ) (is_zero : Bool)
    (rows_clear : preprocessed_fault key layout.preprocessed (opens_next_row preprocessed_next_columns) degree_bits opened.preprocessed ≡ None)
    (values_clear : opened_fault layout.public_values (length public_values) (opens_next_row main_next) layout.main count dimension opened alpha_bits alpha_is_zero bits is_zero ≡ None)
    (periodic : List E) (preprocessed : Option (Trace F)) (columns : List (List F)) (declared : IsDeclared layout preprocessed columns main_next preprocessed_next_columns) (counted : length periodic ≡ length columns) where
  covers : Covers (opened_layout (rows_of zero layout.main layout.preprocessed opened periodic public_values)) layout
  covers = rows_cover zero key layout main_next preprocessed_next_columns degree_bits opened public_values count dimension alpha_bits alpha_is_zero bits is_zero rows_clear values_clear periodic preprocessed columns declared counted

  next_clear : trace_next_fault (opens_next_row main_next) layout.main opened.trace_next ≡ None
  next_clear = first_none _ _ (later_none (public_values_fault layout.public_values (length public_values)) _ values_clear)

  preprocessed_clear : preprocessed_rows_fault (width_in_force key layout.preprocessed) (opens_next_row preprocessed_next_columns) opened.preprocessed ≡ None
  preprocessed_clear = first_none _ _ rows_clear

  wide : width_in_force key layout.preprocessed ≡ layout.preprocessed
  wide = in_force key layout.preprocessed (first_none _ (key_degree_fault key degree_bits) (later_none (preprocessed_rows_fault (width_in_force key layout.preprocessed) (opens_next_row preprocessed_next_columns) opened.preprocessed) _ rows_clear))

  -- The rows of the equation stand for the opened values.
  pub rows_stand : StandFor layout (rows_of zero layout.main layout.preprocessed opened periodic public_values) opened
  rows_stand = record {
    local = refl;
    next = λ row e. ap (λ next. unwrap_or next (replicate layout.main zero)) e;
    no_next = λ e. declared.main_next_row ∙ unread main_next layout.main opened.trace_next next_clear e;
    preprocessed_local = λ view e. ap preprocessed_local e;
    preprocessed_next = λ view row e next. ap (preprocessed_next (replicate layout.preprocessed zero)) e ∙ ap (λ next. unwrap_or next (replicate layout.preprocessed zero)) next;
    no_preprocessed = λ e. at_most_none layout.preprocessed _ covers.preprocessed (ap (λ rows. length (preprocessed_local rows)) e);
    no_preprocessed_next = λ view e none.
        declared.preprocessed_next_row ∙ unread_preprocessed preprocessed_next_columns layout.preprocessed (width_in_force key layout.preprocessed) view wide
        (subst (λ rows. preprocessed_rows_fault (width_in_force key layout.preprocessed) (opens_next_row preprocessed_next_columns) rows ≡ None) e preprocessed_clear) none;
    neither = λ e. at_most_none layout.preprocessed_next _ covers.preprocessed_next (ap (λ rows. length (preprocessed_next (replicate layout.preprocessed zero) rows)) e);
  }

module _ {S F E C K T P X Y : Type 0} (ops : ProtocolOps S F E C K T P X Y) (i : Instance S F C K) (p : ProofView K E P F) where
  -- An accepted proof of a broken trace has a bad alpha or a bad zeta.
  pub accepted_is_sound : FieldLaws ops.opening.fields.ring ops.opening.fields.inverse → LeavesWithin i.layout i.constraints → (preprocessed : Option (Trace F))
      → IsDeclared i.layout preprocessed i.periodic_columns i.main_next_columns i.preprocessed_next_columns → Accepted ops i p → BreakingNeedsBadChallenges ops i p
  accepted_is_sound laws within preprocessed declared accepted = λ alpha zeta drawn.
      let height = log_height ops.opening.is_zk p.degree_bits in
      let values = periodic_values ops.opening.fields i.periodic_columns height zeta in
      let past_height = later_none (of_shape (height_fault ops i p)) _ accepted.shape in
      let past_key = later_none (of_shape (key_fault ops i p)) _ past_height in
      let past_domain = later_none (of_shape (domain_fault ops i p)) _ past_key in
      let key_clear : key_fault ops i p ≡ None = shape_clear {X = X} _ (first_none (of_shape (key_fault ops i p)) _ past_height) in
      let values_clear : values_fault ops i p ≡ None = shape_clear {X = X} _ (later_none (randomization_fault ops.opening.is_zk p.commitments.random p.opened_values.random) _ past_domain) in
      let same = same_drawn (challenges ops i p).answer accepted.alpha accepted.zeta alpha zeta accepted.run.drawn drawn in
      let balanced : IsBalanced ops i p alpha zeta = subst (λ a. IsBalanced ops i p a zeta) same.0 (subst (λ z. IsBalanced ops i p accepted.alpha z) same.1 accepted.balanced) in
      let stand = rows_stand ops.opening.fields.ring.zero i.key i.layout i.main_next_columns i.preprocessed_next_columns p.degree_bits p.opened_values i.public_values _ ops.opening.fields.dimension i.constraint_bits _ i.ood_bits _
      key_clear values_clear values preprocessed i.periodic_columns declared (length-map i.periodic_columns _) in
      accepted_needs_bad_draws (proved_air ops i p) laws i.layout p.opened_values (rows_of ops.opening.fields.ring.zero i.layout.main i.layout.preprocessed p.opened_values values i.public_values) (proved_shifts ops i p) alpha zeta
      (quotient_value ops.opening.fields p.degree_bits (log_parts ops i p) ops.opening.is_zk p.opened_values.quotient_chunks zeta) within stand refl refl balanced.equation

-- Soundness from the parts that a verifier has in hand.
pub sound_of_parts : {S F E C K T P X Y : Type 0} {ops : ProtocolOps S F E C K T P X Y} {i : Instance S F C K} {p : ProofView K E P F} {a z : E} {preprocessed : Option (Trace F)} → shape_fault ops i p ≡ None → RunHolds ops i p a z → IsBalanced ops i p a z
    → FieldLaws ops.opening.fields.ring ops.opening.fields.inverse → LeavesWithin i.layout i.constraints → IsDeclared i.layout preprocessed i.periodic_columns i.main_next_columns i.preprocessed_next_columns
    → BreakingNeedsBadChallenges ops i p
sound_of_parts {ops = ops} {i = i} {p = p} {a = a} {z = z} {preprocessed = preprocessed} shape run balanced laws within declared =
    accepted_is_sound ops i p laws within preprocessed declared (record { alpha = a; zeta = z; shape = shape; run = run; balanced = balanced })
