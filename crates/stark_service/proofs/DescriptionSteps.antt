-- From the parts of a statement's lines to all of them.
use Rattle.std.proofs.Common.{◌≡◌, ◌∙◌, ap, ℕ, List, ◌++◌, length, Option}
use Rattle.std.specs.Prelude.{codes}
use Rattle.std.specs.Fmt.{decimal}
use Rattle.stark_statement.specs.Configuration.{FriNumbers}
use Rattle.stark_statement.specs.StatementView.{StatementView}
use Rattle.stark_service.specs.Description.{constraints_line, described, field_name, fri_text, height_line, scheme_text, values_line, work_line}

-- FRI's numbers.
abbrev numbers_in : (blowup final_len queries commit query : ℕ) → List ℕ
numbers_in blowup final_len queries commit query =
    codes "fri, log_blowup " ++ (decimal blowup ++ (codes ", log_final_poly_len " ++ (decimal final_len ++ (codes ", num_queries " ++ (decimal queries
    ++ (codes ", commit_proof_of_work_bits " ++ (decimal commit ++ (codes ", query_proof_of_work_bits " ++ decimal query))))))))

pub fri_text_is : (n : FriNumbers) (blowup final_len queries commit query : ℕ) (text : List ℕ) → blowup ≡ n.log_blowup → final_len ≡ n.log_final_poly_len → queries ≡ n.num_queries → commit ≡ n.commit_bits → query ≡ n.query_bits
    → text ≡ numbers_in blowup final_len queries commit query → text ≡ fri_text n
fri_text_is n blowup final_len queries commit query text first second third fourth fifth is =
    is ∙ ap (λ t. numbers_in t final_len queries commit query) first ∙ ap (λ t. numbers_in n.log_blowup t queries commit query) second ∙ ap (λ t. numbers_in n.log_blowup n.log_final_poly_len t commit query) third
    ∙ ap (λ t. numbers_in n.log_blowup n.log_final_poly_len n.num_queries t query) fourth ∙ ap (λ t. numbers_in n.log_blowup n.log_final_poly_len n.num_queries n.commit_bits t) fifth

-- All lines.
abbrev lines_of : (field name height work values none : List ℕ) → List ℕ
lines_of field name height work values none = codes "configuration: " ++ (field ++ (codes ", " ++ (name ++ (codes "\n" ++ (height ++ (work ++ (values ++ none)))))))

pub described_is : {F : Type 0} (number : F → ℕ) (scheme : Option FriNumbers) (s : StatementView F) (field name height work values none text : List ℕ) → field ≡ field_name s.config.field → name ≡ scheme_text scheme
    → height ≡ height_line s.log_height → work ≡ work_line s.alpha_bits s.ood_bits → values ≡ values_line number s.public_values → none ≡ constraints_line (length s.air.list.constraints)
    → text ≡ lines_of field name height work values none → text ≡ described number scheme s
described_is number scheme s field name height work values none text first second third fourth fifth sixth is =
    let fixed = height_line s.log_height in
    let asked = work_line s.alpha_bits s.ood_bits in
    is ∙ ap (λ t. lines_of t name height work values none) first ∙ ap (λ t. lines_of (field_name s.config.field) t height work values none) second
    ∙ ap (λ t. lines_of (field_name s.config.field) (scheme_text scheme) t work values none) third ∙ ap (λ t. lines_of (field_name s.config.field) (scheme_text scheme) fixed t values none) fourth
    ∙ ap (λ t. lines_of (field_name s.config.field) (scheme_text scheme) fixed asked t none) fifth ∙ ap (λ t. lines_of (field_name s.config.field) (scheme_text scheme) fixed asked (values_line number s.public_values) t) sixth
