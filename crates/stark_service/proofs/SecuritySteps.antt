-- From an AIR's sizes to what is said of its proofs by FRI.
use Rattle.std.proofs.Common.{◌≡◌, ◌∙◌, ℕ, ◌+◌, ◌*◌, ◌^◌, ◌<◌, ◌≤◌, ◌||◌, ◌++◌, max, Bool, true, false, Option, Some, None, Result, Ok, Err, IfOk, unwrap_or, ap, arith, refl, subst, sym}
use Rattle.std.proofs.Math.Nat.{le-mul_of_pos_right, mul-le-mul_left}
use Rattle.std.specs.List.{filter_map}
use Rattle.std.specs.Prelude.{◌↔◌, IsTrue, List, length, min}
use Rattle.stark_air.specs.Declaration.{trace_width}
use Rattle.stark_air.specs.declared.layout.AirLayout.{AirLayout}
use Rattle.stark_support.specs.Logarithm.{IsCeilingOfLog}
use Rattle.stark_support.specs.LogarithmFacts.{exponent_below, within_power}
use Rattle.stark_support.specs.Scheme.{zk_bits}
use Rattle.stark_support.specs.declared.security.FriRegime.{FriRegime}
use Rattle.stark_symbolic.specs.Degree.{greatest_degree}
use Rattle.stark_tree_air.specs.Faults.{main_next_column, preprocessed_next_column}
use Rattle.stark_tree_air.specs.TreeJson.{AirView}
use Rattle.stark_tree_air.specs.Traces.{declared_trace}
use Rattle.stark_tree_air.specs.Writing.{spelled_in}
use Rattle.stark_tree_air.specs.declared.air.TreeAir.{TreeAir}
use Rattle.stark_parts.specs.Sizing.{constraint_degree, quotient_multiple}
use Rattle.stark_security.specs.ErrorBound.{HasRoomForChunks, IsChunkCountFor}
use Rattle.stark_security.specs.Openings.{batched_of, batched_openings, points_of}
use Rattle.stark_security.specs.declared.openings.OpeningShape.TheVariants.{TwoAdic}
use Rattle.stark_security.specs.declared.params.StarkSecurityParams.{StarkSecurityParams}
use Rattle.stark_fri_proof.specs.declared.parameters.FriParameters.{FriParameters}
use Rattle.stark_fri_security.specs.ConjecturedBits.{IsConjectured}
use Rattle.stark_fri_security.specs.FieldBits.{AreFieldBits}
use Rattle.stark_fri_security.specs.FriErrors.{IsFriErrorBound}
use Rattle.stark_fri_security.specs.Regime.{regime_of}
use Rattle.stark_statement.specs.Configuration.{FriNumbers, fri_numbers}
use Rattle.stark_statement.specs.Limits.{view_of}
use Rattle.stark_service.specs.Security.{AreBitsOf, AreChunks, AreClearLines, AreConjecturedByFri, AreFriLines, AreParams, AreProvedByFri, FieldNumbers, HasRoom, IsFlat, IsRoomy, clear_line, conjectured_line, most_degree, most_opened, proved_line}
use Rattle.stark_service.specs.StatementAir.{declared_of}

-- What holds of a value in an Ok.
pub if_ok : {X Y : Type 0} (P Q : X → Type 0) (r : Result X Y) → ((x : X) → P x → Q x) → IfOk r P → IfOk r Q
if_ok P Q (Ok x) each holds = each x holds
if_ok P Q (Err e) each holds = tt

-- Logarithms, rounded up, of one number are the same.
same_log : (j k n : ℕ) → IsCeilingOfLog j n → IsCeilingOfLog k n → j ≡ k
same_log j k n first second = omega (arith, first.least k second.covers, second.least j first.covers)

pub if_three_ok : {X Y : Type 0} (P Q R S : X → Type 0) (r : Result X Y) → ((x : X) → P x → Q x → R x → S x) → IfOk r P → IfOk r Q → IfOk r R → IfOk r S
if_three_ok P Q R S (Ok x) each first second third = each x first second third
if_three_ok P Q R S (Err e) each first second third = tt

-- What a test says.
pub tested : (b : Bool) (P : Type 0) → IsTrue b ↔ P → b ≡ true → P
tested b P tests is = tests.0 is

pub refused : (b : Bool) (P : Type 0) → IsTrue b ↔ P → b ≡ false → P → ⊥
refused b P tests is holds = let clash : true ≡ false = sym (tests.1 holds) ∙ is in cc

-- ---- chunks

module _ {F : Type 0} (air : AirView F) where
  abbrev multiple : ℕ
  multiple = quotient_multiple (constraint_degree 0 (declared_of air).constraints (declared_of air).degree_hint) 0

  pub are_chunks : (log : ℕ) → IsCeilingOfLog log multiple → AreChunks air (2 ^ log)
  are_chunks log sized = record { log = log; sized = sized; number = ap (λ k. 2 ^ k) (let same : log ≡ log + 0 = omega arith in same) }

  -- There are no more than these.
  pub same_chunks : (n m : ℕ) → AreChunks air n → AreChunks air m → n ≡ m
  same_chunks n m first second = first.number ∙ ap (λ k. 2 ^ (k + 0)) (same_log first.log second.log multiple first.sized second.sized) ∙ sym second.number

-- ---- room

positive_width : (degree : ℕ) → 1 ≤ max degree 1
positive_width degree = omega arith

within_opened : (main preprocessed chunks degree top : ℕ) → most_opened main preprocessed chunks degree < top → chunks < top
within_opened main preprocessed chunks degree top room = omega (arith, room, le-mul_of_pos_right {m = max degree 1} chunks (positive_width degree))

module _ {F : Type 0} (air : AirView F) (degree : ℕ) (roomy : IsRoomy air degree) where
  -- The number of chunks is one of 64 bits.
  pub room_for_chunks : HasRoomForChunks 0 (declared_of air).constraints (declared_of air).degree_hint TwoAdic
  room_for_chunks =
      let sized = roomy.1 in
      let few : 2 ^ (sized.log + 0) < 2 ^ 64 = subst (λ n. n < 2 ^ 64) sized.number (within_opened _ _ roomy.0 degree (2 ^ 64) roomy.2) in
      let low : sized.log + 0 < 64 = exponent_below (sized.log + 0) 64 few in
      within_power 63 sized.log (multiple air) sized.sized (omega arith)

at_two_points : (next : Bool) (width : ℕ) → points_of next * (width + 0) ≤ 2 * width
at_two_points true width = omega arith
at_two_points false width = omega arith

of_a_chunk : (chunks degree : ℕ) → chunks * (degree + 0) ≤ chunks * max degree 1
of_a_chunk chunks degree = mul-le-mul_left chunks (let least : degree + 0 ≤ max degree 1 = omega arith in least)

-- So is that of the openings.
pub few_openings : (main : ℕ) (main_next : Bool) (preprocessed : ℕ) (preprocessed_next : Bool) (chunks degree top : ℕ) → most_opened main preprocessed chunks degree < top
    → batched_openings main main_next preprocessed preprocessed_next chunks degree TwoAdic < top
few_openings main main_next preprocessed preprocessed_next chunks degree top room = omega (arith, room, at_two_points main_next main, at_two_points preprocessed_next preprocessed, of_a_chunk chunks degree)

-- A column is opened at two points at most.
pub two_points : (a b : Bool) → zk_bits (a || b) < 2
two_points true b = omega arith
two_points false true = omega arith
two_points false false = omega arith

-- ---- bits

-- What bad draws that were counted leave, or that they weren't.
pub bits_of_some : (bad : Option (ℕ × ℕ)) (pair : ℕ × ℕ) (Leave : ℕ → ℕ → ℕ → Type 0) (bits : ℕ) → bad ≡ Some pair → Leave pair.0 pair.1 bits → AreBitsOf bad Leave bits
bits_of_some bad pair Leave bits is leave = subst (λ o. AreBitsOf o Leave bits) (sym is) leave

pub bits_of_none : (bad : Option (ℕ × ℕ)) (Leave : ℕ → ℕ → ℕ → Type 0) → bad ≡ None → AreBitsOf bad Leave 0
bits_of_none bad Leave is = subst (λ o. AreBitsOf o Leave 0) (sym is) refl

pub of_this_field : (order degree bits p d : ℕ) → order ≡ p → degree ≡ d → AreFieldBits order degree bits → AreFieldBits p d bits
of_this_field order degree bits p d is_order is_degree are = subst (λ n. AreFieldBits n d bits) is_order (subst (λ n. AreFieldBits order n bits) is_degree are)

module _ {F : Type 0} (air : AirView F) (params : StarkSecurityParams) where
  conjectured_are : (k height conjectured proved bits : ℕ) → height ≡ k → IsConjectured params height conjectured → AreProvedByFri air params height proved → bits ≡ max conjectured proved → AreConjecturedByFri air params k bits
  conjectured_are k height conjectured proved bits same by_conjecture by_count better = record {
    conjectured = conjectured;
    proved = proved;
    by_conjecture = subst (λ h. IsConjectured params h conjectured) same by_conjecture;
    by_count = subst (λ h. AreProvedByFri air params h proved) same by_count;
    better = better;
  }

  -- Both lines by FRI.
  pub fri_lines_are : (greatest height usual most conjectured_usual conjectured_most better_usual better_most : ℕ) (text line other : List ℕ) → height ≡ min greatest 16
      → AreProvedByFri air params height usual → AreProvedByFri air params greatest most → IsConjectured params height conjectured_usual → IsConjectured params greatest conjectured_most
      → better_usual ≡ max conjectured_usual usual → better_most ≡ max conjectured_most most → line ≡ proved_line usual most greatest → other ≡ conjectured_line better_usual better_most greatest
      → text ≡ line ++ other → AreFriLines air params greatest text
  fri_lines_are greatest height usual most conjectured_usual conjectured_most better_usual better_most text line other same at_usual at_most conjectured_at_usual conjectured_at_most is_usual is_most says speaks all = record {
    proved_usual = usual;
    proved_most = most;
    conjectured_usual = better_usual;
    conjectured_most = better_most;
    proved = record { at_usual = subst (λ h. AreProvedByFri air params h usual) same at_usual; at_greatest = at_most };
    conjectured = record {
      at_usual = conjectured_are (min greatest 16) height conjectured_usual usual better_usual same conjectured_at_usual at_usual is_usual;
      at_greatest = conjectured_are greatest greatest conjectured_most most better_most refl conjectured_at_most at_most is_most;
    };
    lines = all ∙ ap (λ t. t ++ other) says ∙ ap (λ t. proved_line usual most greatest ++ t) speaks;
  }

  pub conjectured_here : (k conjectured proved bits : ℕ) → IsConjectured params k conjectured → AreProvedByFri air params k proved → bits ≡ max conjectured proved → AreConjecturedByFri air params k bits
  conjectured_here k conjectured proved bits by_conjecture by_count better = conjectured_are k k conjectured proved bits refl by_conjecture by_count better

-- The lines in the clear.
pub clear_lines_are : (Proved : ℕ → ℕ → Type 0) (greatest height usual most : ℕ) (text line other : List ℕ) → height ≡ min greatest 16 → Proved height usual → Proved greatest most
    → line ≡ proved_line usual most greatest → other ≡ clear_line → text ≡ line ++ other → AreClearLines Proved greatest text
clear_lines_are Proved greatest height usual most text line other same at_usual at_most says speaks all = record {
  usual = usual;
  most = most;
  proved = record { at_usual = subst (λ h. Proved h usual) same at_usual; at_greatest = at_most };
  lines = all ∙ ap (λ t. t ++ other) says ∙ ap (λ t. proved_line usual most greatest ++ t) speaks;
}

-- ---- an AIR that is data

module _ {F : Type 0} (air : TreeAir F) where
  pub flat_tree : (numbers : FriNumbers) (degree most : ℕ) → degree ≡ greatest_degree 0 (spelled_in air.list) → most ≡ most_degree numbers → degree ≤ most → IsFlat (view_of air) numbers
  unfolding declared_of
  flat_tree numbers degree most is least within = omega arith

  pub steep_tree : (numbers : FriNumbers) (degree most : ℕ) → degree ≡ greatest_degree 0 (spelled_in air.list) → most ≡ most_degree numbers → most < degree → IsFlat (view_of air) numbers → ⊥
  unfolding declared_of
  steep_tree numbers degree most is least past flat = omega (arith, flat)

  pub tree_chunks : (degree log : ℕ) → degree ≡ greatest_degree 0 (spelled_in air.list) → IsCeilingOfLog log (quotient_multiple (max degree (unwrap_or air.declaration.max_constraint_degree 0)) 0) → AreChunks (view_of air) (2 ^ log)
  unfolding declared_of
  tree_chunks degree log is sized = are_chunks (view_of air) log (subst (λ d. IsCeilingOfLog log (quotient_multiple (max d (unwrap_or air.declaration.max_constraint_degree 0)) 0)) is sized)

  module _ (main preprocessed degree dimension log : ℕ) (is_main : main ≡ air.declaration.columns.width) (is_preprocessed : preprocessed ≡ trace_width (declared_trace air.declaration.columns.preprocessed_trace)) (is_degree : degree ≡ dimension) where
    room_is : most_opened main preprocessed (2 ^ log) degree ≡ most_opened (declared_of (view_of air)).layout.main (declared_of (view_of air)).layout.preprocessed (2 ^ log) dimension
    unfolding declared_of
    room_is = ap (λ n. most_opened n preprocessed (2 ^ log) degree) is_main ∙ ap (λ n. most_opened air.declaration.columns.width n (2 ^ log) degree) is_preprocessed
        ∙ ap (λ n. most_opened air.declaration.columns.width (trace_width (declared_trace air.declaration.columns.preprocessed_trace)) (2 ^ log) n) is_degree

    pub tree_room : most_opened main preprocessed (2 ^ log) degree < 2 ^ 64 → HasRoom (view_of air) dimension (2 ^ log)
    tree_room room = subst (λ n. n < 2 ^ 64) room_is room

    pub tree_crowded : (most_opened main preprocessed (2 ^ log) degree < 2 ^ 64 → ⊥) → HasRoom (view_of air) dimension (2 ^ log) → ⊥
    tree_crowded crowded room = crowded (subst (λ n. n < 2 ^ 64) (sym room_is) room)

  -- The bound on bad draws that is answered for it.
  pub tree_fri_bound : (k : ℕ) (bad : Option (ℕ × ℕ)) → IsFriErrorBound (spelled_in air.list) air.declaration.max_constraint_degree k bad → IsFriErrorBound (declared_of (view_of air)).constraints (declared_of (view_of air)).degree_hint k bad
  unfolding declared_of
  tree_fri_bound k bad is = is

  -- As they are handed to a report.
  pub tree_degree : (numbers : FriNumbers) (log_blowup : ℕ) → log_blowup ≡ numbers.log_blowup → IsFlat (view_of air) numbers → greatest_degree 0 (spelled_in air.list) ≤ 2 ^ log_blowup + 1
  unfolding declared_of
  tree_degree numbers log_blowup is flat = subst (λ k. greatest_degree 0 (spelled_in air.list) ≤ 2 ^ k + 1) (sym is) flat

  pub tree_sized : (degree : ℕ) → IsRoomy (view_of air) degree → HasRoomForChunks 0 (spelled_in air.list) air.declaration.max_constraint_degree TwoAdic
  unfolding declared_of
  tree_sized degree roomy = room_for_chunks (view_of air) degree roomy

  pub tree_batched : (degree : ℕ) → IsRoomy (view_of air) degree → (main preprocessed : ℕ) (main_next preprocessed_next : Bool)
      → main ≡ air.declaration.columns.width → preprocessed ≡ trace_width (declared_trace air.declaration.columns.preprocessed_trace)
      → (chunks : ℕ) → IsChunkCountFor 0 (spelled_in air.list) air.declaration.max_constraint_degree TwoAdic chunks → batched_openings main main_next preprocessed preprocessed_next chunks degree TwoAdic < 2 ^ 64
  unfolding declared_of
  tree_batched degree roomy main preprocessed main_next preprocessed_next is_main is_preprocessed chunks are =
      let room : most_opened air.declaration.columns.width (trace_width (declared_trace air.declaration.columns.preprocessed_trace)) chunks degree < 2 ^ 64 =
      subst (λ n. most_opened air.declaration.columns.width (trace_width (declared_trace air.declaration.columns.preprocessed_trace)) n degree < 2 ^ 64) (same_chunks (view_of air) roomy.0 chunks roomy.1 are) roomy.2 in
      few_openings main main_next preprocessed preprocessed_next chunks degree (2 ^ 64)
      (subst (λ n. most_opened n preprocessed chunks degree < 2 ^ 64) (sym is_main)
      (subst (λ n. most_opened air.declaration.columns.width n chunks degree < 2 ^ 64) (sym is_preprocessed) room))

  module _ (fields : FieldNumbers F) (parameters : FriParameters) (regime : FriRegime) (bits order degree ood_bits : ℕ) (layout : AirLayout) (params : StarkSecurityParams)
      (is_regime : regime ≡ regime_of parameters) (is_order : order ≡ fields.order) (is_degree : degree ≡ fields.degree) (are_bits : AreFieldBits order degree bits)
      (is_main : layout.main_width ≡ air.declaration.columns.width) (is_preprocessed : layout.preprocessed_width ≡ trace_width (declared_trace air.declaration.columns.preprocessed_trace))
      (chunks : IsChunkCountFor 0 (spelled_in air.list) air.declaration.max_constraint_degree TwoAdic params.num_quotient_chunks)
      (numbers : params ≡ record {
        fri_log_blowup = regime.log_blowup;
        fri_log_final_poly_len = regime.log_final_poly_len;
        fri_max_log_arity = regime.max_log_arity;
        fri_num_queries = regime.num_queries;
        fri_commit_proof_of_work_bits = regime.commit_pow_bits;
        fri_query_proof_of_work_bits = regime.query_pow_bits;
        num_modulus_bits = bits;
        collision_resistance = 128;
        num_constraints = length (spelled_in air.list);
        air_max_constraint_degree = greatest_degree 0 (spelled_in air.list);
        num_quotient_chunks = params.num_quotient_chunks;
        max_combo = 2;
        num_batched_functions = batched_of layout (filter_map main_next_column air.list.nodes.items) (filter_map preprocessed_next_column air.list.nodes.items) params.num_quotient_chunks fields.degree TwoAdic;
        grinding = record { lookup_challenge = 0; out_of_domain = ood_bits; batch_combination = 0 };
      }) where
    pub tree_params : AreParams fields (fri_numbers parameters) (view_of air) ood_bits params
    unfolding declared_of
    tree_params =
        let same : params.num_modulus_bits ≡ bits = ap (λ p. p.num_modulus_bits) numbers in
        record {
          bits = subst (AreFieldBits fields.order fields.degree) (sym same) (subst (λ n. AreFieldBits n fields.degree bits) is_order (subst (λ d. AreFieldBits order d bits) is_degree are_bits));
          chunks = chunks;
          rest = cc;
        }
