-- What the proofs for a statement are worth, in lines for a person.
use Rattle.std.specs.Prelude.{◌≡◌, ℕ, ◌+◌, ◌*◌, ◌^◌, ◌<◌, ◌≤◌, max, min, List, ◌++◌, length, Option, None, Some, ⊤, codes, if◌then◌else◌, nat_lt}
use Rattle.std.specs.Fmt.{decimal}
use Rattle.stark_symbolic.specs.Degree.{greatest_degree}
use Rattle.stark_tree_air.specs.TreeJson.{AirView}
use Rattle.stark_transcript.specs.Shape.{opens_next_row}
use Rattle.stark_security.specs.ErrorBound.{IsChunkCount}
use Rattle.stark_security.specs.Openings.{batched_openings}
use Rattle.stark_security.specs.declared.openings.OpeningShape.TheVariants.{TwoAdic}
use Rattle.stark_security.specs.declared.params.StarkSecurityParams.{StarkSecurityParams}
use Rattle.stark_fri_security.specs.ConjecturedBits.{IsConjectured}
use Rattle.stark_fri_security.specs.FieldBits.{AreFieldBits}
use Rattle.stark_fri_security.specs.FriErrors.{IsFriErrorBound}
use Rattle.stark_fri_security.specs.ListedBits.{AreListedBits}
use Rattle.stark_fri_security.specs.ProvedBits.{AreProvedBits}
use Rattle.stark_statement.specs.Configuration.{FriNumbers}
use Rattle.stark_statement.specs.StatementView.{StatementView}
use Rattle.stark_answers.specs.CheckedAir.{CheckedAir}
use Rattle.stark_service.specs.StatementAir.{declared_of}
use Rattle.stark_service.specs.declared.security.SecurityBits.{SecurityBits}
use Rattle.stark_service.specs.declared.security.Stated.{Stated}
use Rattle.stark_service.specs.declared.security.Stated.TheVariants.{Crowded, Steep, With}

-- The number of a field's element, how many elements the field has, the degree of its extension, and the logarithm of the field's
-- greatest group of a power of two.
pub record FieldNumbers (F : Type 0) : Type 0 where
  pub number : F → ℕ
  pub order : ℕ
  pub degree : ℕ
  pub adicity : ℕ

-- ---- lines

-- How many values each challenge has, and what of them is proved.
abbrev pub challenges_line : ℕ → ℕ → List ℕ
challenges_line order degree =
    codes "challenges: alpha and zeta, each of " ++ (decimal order ++ (codes "^" ++ (decimal degree ++ codes " values; the error bound is proved, that SHA-256 draws at random is not\n")))

-- In the clear nothing is conjectured beside it.
abbrev pub clear_line : List ℕ
clear_line = codes "conjectured: nothing; in the clear the proof lists its columns\n"

-- By FRI, where a constraint has a degree above this one.
abbrev pub steep_line : ℕ → List ℕ
steep_line most = codes "security: no bits are stated for a constraint's degree above " ++ (decimal most ++ codes "\n")

-- Where there are too many openings.
abbrev pub crowded_line : List ℕ
crowded_line = codes "security: no bits are stated for 2^64 opened values and more\n"

-- Bits at a usual height of 2 ^ 16 rows and at the greatest one; at the latter alone where it isn't above.
abbrev pub bits_words : (usual most greatest : ℕ) → List ℕ
bits_words usual most greatest = if nat_lt 16 greatest then decimal usual ++ (codes " bits at 2^16 rows, " ++ (decimal most ++ (codes " at 2^" ++ decimal greatest))) else decimal most ++ (codes " bits at 2^" ++ (decimal greatest ++ codes " rows"))

abbrev pub proved_line : (usual most greatest : ℕ) → List ℕ
proved_line usual most greatest = codes "proved: " ++ (bits_words usual most greatest ++ codes " (by count; SHA-256 as a random oracle)\n")

abbrev pub conjectured_line : (usual most greatest : ℕ) → List ℕ
conjectured_line usual most greatest = codes "conjectured: " ++ (bits_words usual most greatest ++ codes " (ethSTARK's conjecture of 2021; ePrint 2025/2010 and 2025/2046 speak against it)\n")

-- ---- what they are computed from

-- The greatest degree of constraints for which FRI's parameters are taken.
abbrev pub most_degree : FriNumbers → ℕ
most_degree numbers = 2 ^ numbers.log_blowup + 1

-- How many values are opened at most: each column at two points, and each chunk's columns, of which there is one at least, at one.
abbrev pub most_opened : ℕ → ℕ → ℕ → ℕ → ℕ
most_opened main preprocessed chunks degree = 2 * (main + preprocessed) + chunks * max degree 1

module _ {F : Type 0} (air : AirView F) where
  abbrev declared : CheckedAir F
  declared = declared_of air

  -- The quotient is cut into as many chunks; nothing is masked.
  abbrev pub AreChunks : ℕ → Type 0
  AreChunks chunks = IsChunkCount 0 declared.constraints declared.degree_hint 0 chunks

  -- No constraint has too great a degree.
  abbrev pub IsFlat : FriNumbers → Type 0
  IsFlat numbers = greatest_degree 0 declared.constraints ≤ most_degree numbers

  -- There aren't too many openings of as many chunks, over an extension of this degree.
  abbrev pub HasRoom : ℕ → ℕ → Type 0
  HasRoom degree chunks = most_opened declared.layout.main declared.layout.preprocessed chunks degree < 2 ^ 64

  -- There aren't of the chunks that the quotient is cut into.
  abbrev pub IsRoomy : ℕ → Type 0
  IsRoomy degree = (chunks : ℕ) × AreChunks chunks × HasRoom degree chunks

  -- How many openings a prover by FRI batches.
  abbrev pub opened_by : ℕ → ℕ → ℕ
  opened_by chunks degree =
      batched_openings declared.layout.main (opens_next_row declared.next_columns) declared.layout.preprocessed (opens_next_row declared.preprocessed_next_columns) chunks degree TwoAdic

module _ {F : Type 0} (fields : FieldNumbers F) (numbers : FriNumbers) (air : AirView F) where
  -- FRI's parameters, the extension's bits, SHA-256's resistance to collisions, and the AIR's shape.
  pub record AreParams (ood_bits : ℕ) (params : StarkSecurityParams) : Type 0 where
    pub bits : AreFieldBits fields.order fields.degree params.num_modulus_bits
    pub chunks : AreChunks air params.num_quotient_chunks
    pub rest : params ≡ record {
      fri_log_blowup = numbers.log_blowup;
      fri_log_final_poly_len = numbers.log_final_poly_len;
      fri_max_log_arity = 1;
      fri_num_queries = numbers.num_queries;
      fri_commit_proof_of_work_bits = numbers.commit_bits;
      fri_query_proof_of_work_bits = numbers.query_bits;
      num_modulus_bits = params.num_modulus_bits;
      collision_resistance = 128;
      num_constraints = length (declared_of air).constraints;
      air_max_constraint_degree = greatest_degree 0 (declared_of air).constraints;
      num_quotient_chunks = params.num_quotient_chunks;
      max_combo = 2;
      num_batched_functions = opened_by air params.num_quotient_chunks fields.degree;
      grinding = record { lookup_challenge = 0; out_of_domain = ood_bits; batch_combination = 0 };
    }

  -- Bits are stated with these parameters; or a constraint has too great a degree, or there are too many openings.
  abbrev pub IsStated : (ood_bits : ℕ) → Stated → Type 0
  IsStated ood_bits Steep = IsFlat air numbers → ⊥
  IsStated ood_bits Crowded = IsFlat air numbers × ((chunks : ℕ) × AreChunks air chunks × (HasRoom air fields.degree chunks → ⊥))
  IsStated ood_bits (With params) = IsFlat air numbers × IsRoomy air fields.degree × AreParams ood_bits params

-- ---- bits

-- Of counted bad draws; none where their number is above all that is counted with.
abbrev pub AreBitsOf : Option (ℕ × ℕ) → (ℕ → ℕ → ℕ → Type 0) → ℕ → Type 0
AreBitsOf None Leave bits = bits ≡ 0
AreBitsOf (Some bad) Leave bits = Leave bad.0 bad.1 bits

module _ {F : Type 0} (air : AirView F) where
  -- The proved bits by FRI at 2 ^ k rows: what the bad alphas and zetas of the AIR leave, and those of FRI.
  pub record AreProvedByFri (params : StarkSecurityParams) (k bits : ℕ) : Type 0 where
    pub bad : Option (ℕ × ℕ)
    pub counted : IsFriErrorBound (declared_of air).constraints (declared_of air).degree_hint k bad
    pub left : AreBitsOf bad (λ alphas zetas. AreProvedBits params alphas zetas k) bits

  -- Those in the clear: what the bad alphas and zetas leave.
  pub record AreProvedInTheClear (fields : FieldNumbers F) (k bits : ℕ) : Type 0 where
    pub bad : Option (ℕ × ℕ)
    pub counted : IsFriErrorBound (declared_of air).constraints (declared_of air).degree_hint k bad
    pub field_bits : ℕ
    pub of_field : AreFieldBits fields.order fields.degree field_bits
    pub left : AreBitsOf bad (λ alphas zetas. AreListedBits field_bits alphas zetas) bits

-- The bits that are conjectured by FRI: by the conjecture, or those that are proved, where these are more.
pub record AreConjecturedByFri {F : Type 0} (air : AirView F) (params : StarkSecurityParams) (k bits : ℕ) : Type 0 where
  pub conjectured : ℕ
  pub proved : ℕ
  pub by_conjecture : IsConjectured params k conjectured
  pub by_count : AreProvedByFri air params k proved
  pub better : bits ≡ max conjectured proved

-- Such bits at a usual height and at the greatest one.
pub record AreAtBoth (Are : ℕ → ℕ → Type 0) (greatest usual most : ℕ) : Type 0 where
  pub at_usual : Are (min greatest 16) usual
  pub at_greatest : Are greatest most

-- The text says the proved bits and those that are conjectured, by their lines.
pub record AreBitLines (Proved Conjectured : ℕ → ℕ → Type 0) (greatest : ℕ) (text : List ℕ) : Type 0 where
  pub proved_usual : ℕ
  pub proved_most : ℕ
  pub conjectured_usual : ℕ
  pub conjectured_most : ℕ
  pub proved : AreAtBoth Proved greatest proved_usual proved_most
  pub conjectured : AreAtBoth Conjectured greatest conjectured_usual conjectured_most
  pub lines : text ≡ proved_line proved_usual proved_most greatest ++ conjectured_line conjectured_usual conjectured_most greatest

pub record AreClearLines (Proved : ℕ → ℕ → Type 0) (greatest : ℕ) (text : List ℕ) : Type 0 where
  pub usual : ℕ
  pub most : ℕ
  pub proved : AreAtBoth Proved greatest usual most
  pub lines : text ≡ proved_line usual most greatest ++ clear_line

abbrev pub AreFriLines : {F : Type 0} → AirView F → StarkSecurityParams → (greatest : ℕ) → List ℕ → Type 0
AreFriLines air params greatest text = AreBitLines (AreProvedByFri air params) (AreConjecturedByFri air params) greatest text

-- What is said of proofs by FRI over traces of up to 2 ^ greatest rows, by what is stated.
abbrev pub IsStatedLine : {F : Type 0} → FriNumbers → AirView F → (greatest : ℕ) → List ℕ → Stated → Type 0
IsStatedLine numbers air greatest text Steep = text ≡ steep_line (most_degree numbers)
IsStatedLine numbers air greatest text Crowded = text ≡ crowded_line
IsStatedLine numbers air greatest text (With params) = AreFriLines air params greatest text

-- What is said of the proofs for a statement, by its scheme.
abbrev pub IsWorthLine : {F : Type 0} → FieldNumbers F → Option FriNumbers → ℕ → StatementView F → List ℕ → Type 0
IsWorthLine fields (Some numbers) greatest s text = (stated : Stated) × IsStated fields numbers s.air s.ood_bits stated × IsStatedLine numbers s.air greatest text stated
IsWorthLine fields None greatest s text = AreClearLines (AreProvedInTheClear s.air fields) greatest text

-- ---- as numbers

-- What proofs at 2 ^ k rows are worth: by FRI the proved bits and those that are conjectured,
abbrev pub AreStatedBits : {F : Type 0} → AirView F → (k : ℕ) → Option SecurityBits → Stated → Type 0
AreStatedBits air k None Steep = ⊤
AreStatedBits air k None Crowded = ⊤
AreStatedBits air k None (With params) = ⊥
AreStatedBits air k (Some bits) Steep = ⊥
AreStatedBits air k (Some bits) Crowded = ⊥
AreStatedBits air k (Some bits) (With params) = AreProvedByFri air params k bits.proved × ((conjectured : ℕ) × (bits.conjectured ≡ Some conjectured) × AreConjecturedByFri air params k conjectured)

-- in the clear the proved bits alone; nothing where bits aren't stated.
abbrev pub AreBitsAt : {F : Type 0} → FieldNumbers F → Option FriNumbers → StatementView F → (k : ℕ) → Option SecurityBits → Type 0
AreBitsAt fields (Some numbers) s k bits = (stated : Stated) × IsStated fields numbers s.air s.ood_bits stated × AreStatedBits s.air k bits stated
AreBitsAt fields None s k None = ⊥
AreBitsAt fields None s k (Some bits) = AreProvedInTheClear s.air fields k bits.proved × (bits.conjectured ≡ None)
