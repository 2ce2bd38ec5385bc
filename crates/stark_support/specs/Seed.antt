-- The bytes that tell one instance of a protocol from another.
use Rattle.std.specs.Prelude.{ℕ, ◌<◌, ◌^◌, Bool, true, false, ltb, List, [], ◌∷◌, ◌++◌, length, codes}
use Rattle.std.specs.Int.{w64, to_be_bytes}
use Rattle.stark_support.specs.declared.pattern.Hierarchy.{Hierarchy}
use Rattle.stark_support.specs.declared.pattern.Hierarchy.TheVariants.{Atomic, Begin, End}
use Rattle.stark_support.specs.declared.pattern.Kind.{Kind}
use Rattle.stark_support.specs.declared.pattern.Kind.TheVariants.{Message, Public, Challenge, Pow, Protocol}
use Rattle.stark_support.specs.declared.pattern.Length.{Length}
use Rattle.stark_support.specs.declared.pattern.Length.TheVariants.{Scalar, Fixed, Nothing}
use Rattle.stark_support.specs.declared.pattern.Interaction.{Interaction}

-- A step of a protocol, with its label as bytes.
pub record Step : Type 0 where
  pub hierarchy : Hierarchy
  pub kind : Kind
  pub label : List ℕ
  pub length : Length
  pub degree : ℕ

abbrev pub step_of : Hierarchy → Kind → List ℕ → Length → ℕ → Step
step_of hierarchy kind label length degree = record { hierarchy = hierarchy; kind = kind; label = label; length = length; degree = degree }

abbrev pub step_view : Interaction → Step
step_view i = record { hierarchy = i.hierarchy; kind = i.kind; label = i.label.now; length = i.length; degree = i.degree }

-- ---- bytes

-- A number is written as 8 bytes, the high one first.
unfoldable pub number : ℕ → List ℕ
number n = to_be_bytes w64 n

abbrev pub hierarchy_byte : Hierarchy → ℕ
hierarchy_byte Atomic = 0
hierarchy_byte Begin = 1
hierarchy_byte End = 2

abbrev pub kind_byte : Kind → ℕ
kind_byte Message = 0
kind_byte Public = 1
kind_byte Challenge = 2
kind_byte Pow = 3
kind_byte Protocol = 4

abbrev pub length_tag : Length → ℕ
length_tag Scalar = 0
length_tag (Fixed n) = 1
length_tag Nothing = 2

abbrev pub length_number : Length → ℕ
length_number Scalar = 1
length_number (Fixed n) = n
length_number Nothing = 0

abbrev pub step_bytes : Step → List ℕ
step_bytes s =
    hierarchy_byte s.hierarchy ∷ kind_byte s.kind ∷ (number (length s.label) ++ (s.label ++
    (length_tag s.length ∷ (number (length_number s.length) ++ number s.degree))))

abbrev pub steps_bytes : List Step → List ℕ
steps_bytes [] = []
steps_bytes (s ∷ ss) = step_bytes s ++ steps_bytes ss

-- Each item of the instance is the number of its bytes, which are 8, and these.
abbrev pub items_bytes : List ℕ → List ℕ
items_bytes [] = []
items_bytes (n ∷ ns) = number 8 ++ (number n ++ items_bytes ns)

-- The version, the protocol's name, its steps, and the items of the instance.
abbrev pub seed_of : List ℕ → List Step → List ℕ → List ℕ
seed_of protocol steps items =
    1 ∷ (number (length protocol) ++ (protocol ++ (number (length steps) ++ (steps_bytes steps ++ (number (length items) ++ items_bytes items)))))

-- ---- a STARK of one AIR

-- The numbers that fix the transcript of a STARK of one AIR.
pub record ShapeNumbers : Type 0 where
  pub log_ext_degree : ℕ
  pub log_degree : ℕ
  pub main_width : ℕ
  pub preprocessed_width : ℕ
  pub num_public_values : ℕ
  pub num_periodic_columns : ℕ
  pub num_quotient_chunks : ℕ
  pub opens_main_next_row : Bool
  pub opens_preprocessed_next_row : Bool
  pub has_randomization : Bool
  pub ood_pow_bits : ℕ
  pub constraint_pow_bits : ℕ

-- Each number is below 2 ^ 64.
pub record IsBounded (n : ShapeNumbers) : Type 0 where
  pub log_ext_degree : n.log_ext_degree < 2 ^ 64
  pub log_degree : n.log_degree < 2 ^ 64
  pub main_width : n.main_width < 2 ^ 64
  pub preprocessed_width : n.preprocessed_width < 2 ^ 64
  pub num_public_values : n.num_public_values < 2 ^ 64
  pub num_periodic_columns : n.num_periodic_columns < 2 ^ 64
  pub num_quotient_chunks : n.num_quotient_chunks < 2 ^ 64
  pub ood_pow_bits : n.ood_pow_bits < 2 ^ 64
  pub constraint_pow_bits : n.constraint_pow_bits < 2 ^ 64

-- A flag as a number.
abbrev pub flag : Bool → ℕ
flag true = 1
flag false = 0

-- A step that is there where the test holds, before the rest.
abbrev pub step_if : Bool → Step → List Step → List Step
step_if true s rest = s ∷ rest
step_if false s rest = rest

-- The steps of a table that are there.
abbrev pub described : List (Bool × Step) → List Step
described [] = []
described ((b, s) ∷ rows) = step_if b s (described rows)

abbrev pub row_view : Bool × Interaction → Bool × Step
row_view row = (row.0, step_view row.1)

abbrev pub message : List ℕ → Step
message label = record { hierarchy = Atomic; kind = Message; label = label; length = Scalar; degree = 0 }

abbrev pub elements : Kind → List ℕ → Length → ℕ → Step
elements kind label len degree = record { hierarchy = Atomic; kind = kind; label = label; length = len; degree = degree }

abbrev pub marker : Hierarchy → List ℕ → Step
marker hierarchy label = record { hierarchy = hierarchy; kind = Protocol; label = label; length = Nothing; degree = 0 }

-- The steps from the draw of alpha on.
abbrev pub steps_from_alpha : ℕ → ℕ → ShapeNumbers → List Step
steps_from_alpha base extension n =
    elements Challenge (codes "alpha") Scalar extension
    ∷ message (codes "quotient_commitment")
    ∷ step_if n.has_randomization (message (codes "random_commitment"))
    (step_if (ltb 0 n.ood_pow_bits) (elements Pow (codes "ood_pow") (Fixed n.ood_pow_bits) base)
    (elements Challenge (codes "zeta") Scalar extension
    ∷ marker Begin (codes "opening_argument")
    ∷ marker End (codes "opening_argument")
    ∷ []))

-- The steps over a base field and an extension of these degrees.
abbrev pub shape_steps : ℕ → ℕ → ShapeNumbers → List Step
shape_steps base extension n =
    message (codes "trace_commitment")
    ∷ step_if (ltb 0 n.preprocessed_width) (message (codes "preprocessed_commitment"))
    (elements Public (codes "public_values") (Fixed n.num_public_values) base
    ∷ step_if (ltb 0 n.constraint_pow_bits) (elements Pow (codes "alpha_pow") (Fixed n.constraint_pow_bits) base)
    (steps_from_alpha base extension n))

-- The numbers that the steps don't have.
abbrev pub shape_items : ShapeNumbers → List ℕ
shape_items n =
    n.log_ext_degree ∷ n.log_degree ∷ n.main_width ∷ n.preprocessed_width ∷ n.num_periodic_columns ∷ n.num_quotient_chunks
    ∷ flag n.opens_main_next_row ∷ flag n.opens_preprocessed_next_row ∷ []

unfoldable pub shape_seed : ℕ → ℕ → ShapeNumbers → List ℕ
shape_seed base extension n = seed_of (codes "p3-uni-stark") (shape_steps base extension n) (shape_items n)

-- ---- without a grind before alpha

-- The steps as they are without a grind before alpha: those of eleven numbers.
abbrev pub plain_steps : ℕ → ℕ → ShapeNumbers → List Step
plain_steps base extension n =
    message (codes "trace_commitment")
    ∷ step_if (ltb 0 n.preprocessed_width) (message (codes "preprocessed_commitment"))
    (elements Public (codes "public_values") (Fixed n.num_public_values) base
    ∷ steps_from_alpha base extension n)

-- The seed as it is without a grind before alpha.
unfoldable pub plain_seed : ℕ → ℕ → ShapeNumbers → List ℕ
plain_seed base extension n = seed_of (codes "p3-uni-stark") (plain_steps base extension n) (shape_items n)
