-- What a statement fixes beside its AIR, in lines for a person.
use Rattle.std.specs.Prelude.{ℕ, zero, suc, List, [], ◌++◌, length, take, flat_map, Option, None, Some, codes, if◌then◌else◌, nat_lt}
use Rattle.std.specs.Fmt.{decimal}
use Rattle.stark_statement.specs.Configuration.{FriNumbers}
use Rattle.stark_statement.specs.StatementView.{StatementView}
use Rattle.stark_statement.specs.declared.configuration.FieldName.{FieldName}
use Rattle.stark_statement.specs.declared.configuration.FieldName.TheVariants.{BabyBear, KoalaBear, F12289}

-- as a statement's JSON names it
abbrev pub field_name : FieldName → List ℕ
field_name BabyBear = codes "baby_bear"
field_name KoalaBear = codes "koala_bear"
field_name F12289 = codes "f12289"

-- FRI with its numbers, by the names that a statement's JSON has for them
abbrev pub fri_text : FriNumbers → List ℕ
fri_text n =
    codes "fri, log_blowup " ++ (decimal n.log_blowup ++ (codes ", log_final_poly_len " ++ (decimal n.log_final_poly_len ++ (codes ", num_queries " ++ (decimal n.num_queries
    ++ (codes ", commit_proof_of_work_bits " ++ (decimal n.commit_bits ++ (codes ", query_proof_of_work_bits " ++ decimal n.query_bits))))))))

abbrev pub scheme_text : Option FriNumbers → List ℕ
scheme_text (Some n) = fri_text n
scheme_text None = codes "in the clear"

-- the height that is fixed, or that the prover chooses one
abbrev pub height_line : Option ℕ → List ℕ
height_line (Some log_height) = codes "height: 2^" ++ (decimal log_height ++ codes " rows, fixed\n")
height_line None = codes "height: the prover's choice\n"

abbrev pub work_line : (alpha_bits ood_bits : ℕ) → List ℕ
work_line alpha_bits ood_bits = codes "work: " ++ (decimal alpha_bits ++ (codes " bits before alpha, " ++ (decimal ood_bits ++ codes " before zeta\n")))

-- a value by its number, after a blank
abbrev pub value_text : {F : Type 0} → (F → ℕ) → F → List ℕ
value_text number x = codes " " ++ decimal (number x)

-- how many public values there are, and the first twenty
abbrev pub values_line : {F : Type 0} → (F → ℕ) → List F → List ℕ
values_line number values =
    if nat_lt 20 (length values) then codes "public values (" ++ (decimal (length values) ++ (codes ", the first 20):" ++ (flat_map (value_text number) (take 20 values) ++ codes "\n")))
    else codes "public values (" ++ (decimal (length values) ++ (codes "):" ++ (flat_map (value_text number) values ++ codes "\n")))

-- that there are none, where there are none
abbrev pub constraints_line : ℕ → List ℕ
constraints_line zero = codes "no constraints: each trace of the AIR's shape satisfies it\n"
constraints_line (suc n) = []

abbrev pub described : {F : Type 0} → (F → ℕ) → Option FriNumbers → StatementView F → List ℕ
described number scheme s =
    codes "configuration: " ++ (field_name s.config.field ++ (codes ", " ++ (scheme_text scheme ++ (codes "\n" ++ (height_line s.log_height
    ++ (work_line s.alpha_bits s.ood_bits ++ (values_line number s.public_values ++ constraints_line (length s.air.list.constraints))))))))
