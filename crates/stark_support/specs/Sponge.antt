-- Sponges: states, what their calls answer, and the states that they leave.
use Rattle.std.specs.Prelude.{◌≡◌, ℕ, suc, zero, Bool, true, false, List, [], ◌∷◌, Option, None, Some}

-- What a challenger's calls do: C is its state, F the base field, E the extension, K a commitment.
pub record SpongeOps (C F E K : Type 0) : Type 0 where
  pub from_byte : ℕ → F
  pub observe_element : C → F → C
  pub observe_commitment : C → K → C
  pub draw : C → E
  pub after_draw : C → C
  pub passes : C → ℕ → F → Bool
  pub after_check : C → ℕ → F → C
  pub ground_witness : C → ℕ → Option F

-- The state after observing each element of a list in turn.
abbrev pub observed_all : {C T : Type 0} → (C → T → C) → List T → C → C
observed_all observe [] state = state
observed_all observe (x ∷ xs) state = observed_all observe xs (observe state x)

-- The state after observing each byte as an element.
abbrev pub observed_bytes : {C T : Type 0} → (C → T → C) → (ℕ → T) → List ℕ → C → C
observed_bytes observe from_byte [] state = state
observed_bytes observe from_byte (b ∷ bs) state = observed_bytes observe from_byte bs (observe state (from_byte b))

-- What a transcript plays on a sponge.
pub data Event (F K : Type 0) : Type 0 where
  element : F → Event F K
  commitment : K → Event F K
  draw_extension : Event F K
  check : ℕ → F → Event F K

abbrev pub after_event : {C F E K : Type 0} → SpongeOps C F E K → C → Event F K → C
after_event ops state (element x) = ops.observe_element state x
after_event ops state (commitment k) = ops.observe_commitment state k
after_event ops state draw_extension = ops.after_draw state
after_event ops state (check bits w) = ops.after_check state bits w

-- The state after a list of events.
abbrev pub replay : {C F E K : Type 0} → SpongeOps C F E K → List (Event F K) → C → C
replay ops [] state = state
replay ops (event ∷ events) state = replay ops events (after_event ops state event)

-- Several elements drawn in turn, and the state after them.
unfoldable pub drawn_in_turn : {C T : Type 0} → (C → T) → (C → C) → ℕ → C → List T
drawn_in_turn draw after zero state = []
drawn_in_turn draw after (suc n) state = draw state ∷ drawn_in_turn draw after n (after state)

unfoldable pub after_draws : {C : Type 0} → (C → C) → ℕ → C → C
after_draws after zero state = state
after_draws after (suc n) state = after_draws after n (after state)

-- The state that a search for a witness leaves: that after the check of the witness found, or the state before.
abbrev pub after_search : {C F : Type 0} → (C → ℕ → F → C) → C → ℕ → Option F → C
after_search after_check state bits (Some witness) = after_check state bits witness
after_search after_check state bits None = state

-- Work of no bits is never asked for; what a search finds passes, and where it finds nothing, nothing passes.
pub record GrindingLaws {C F : Type 0} (passes : C → ℕ → F → Bool) (after_check : C → ℕ → F → C) (ground_witness : C → ℕ → Option F) : Type 0 where
  pub no_bits_pass : (state : C) (witness : F) → passes state 0 witness ≡ true
  pub no_bits_keep : (state : C) (witness : F) → after_check state 0 witness ≡ state
  pub ground_passes : (state : C) (bits : ℕ) (witness : F) → ground_witness state bits ≡ Some witness → passes state bits witness ≡ true
  pub none_passes : (state : C) (bits : ℕ) → ground_witness state bits ≡ None → (witness : F) → passes state bits witness ≡ false

-- What a draw answers, and the state that it leaves.
pub record DrawOps (C T : Type 0) : Type 0 where
  pub draw : C → T
  pub after_draw : C → C

-- An element is drawn as so many coordinates, one after the other.
abbrev pub DrawsInTurn : {C E T : Type 0} → (E → List T) → (C → E) → DrawOps C T → ℕ → Type 0
DrawsInTurn {C} coordinates draw one n = (state : C) → coordinates (draw state) ≡ drawn_in_turn one.draw one.after_draw n state
