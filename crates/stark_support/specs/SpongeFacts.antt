-- Observing several lists in turn.
use Rattle.std.specs.Prelude.{◌≡◌, ℕ, List, [], ◌∷◌, ◌++◌, map, refl}
use Rattle.stark_support.specs.Sponge.{SpongeOps, Event, element, replay, after_event, observed_all, observed_bytes}

pub observed_append : {C T : Type 0} (observe : C → T → C) (xs ys : List T) (state : C) → observed_all observe (xs ++ ys) state ≡ observed_all observe ys (observed_all observe xs state)
observed_append observe [] ys state = refl
observed_append observe (x ∷ xs) ys state = observed_append observe xs ys (observe state x)

pub observed_as_elements : {C T : Type 0} (observe : C → T → C) (from_byte : ℕ → T) (bytes : List ℕ) (state : C) → observed_bytes observe from_byte bytes state ≡ observed_all observe (map from_byte bytes) state
observed_as_elements observe from_byte [] state = refl
observed_as_elements observe from_byte (b ∷ bs) state = observed_as_elements observe from_byte bs (observe state (from_byte b))

-- ---- replays

pub replay_append : {C F E K : Type 0} (ops : SpongeOps C F E K) (events more : List (Event F K)) (state : C) → replay ops (events ++ more) state ≡ replay ops more (replay ops events state)
replay_append ops [] more state = refl
replay_append ops (event ∷ events) more state = replay_append ops events more (after_event ops state event)

pub replay_elements : {C F E K : Type 0} (ops : SpongeOps C F E K) (xs : List F) (state : C) → replay ops (map (λ x. element x) xs) state ≡ observed_all ops.observe_element xs state
replay_elements ops [] state = refl
replay_elements ops (x ∷ xs) state = replay_elements ops xs (ops.observe_element state x)
