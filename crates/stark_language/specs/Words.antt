-- The words that a line begins with.
use Rattle.std.specs.Prelude.{ℕ, List, Option, Some, None, option_map, codes, if◌then◌else◌}
use Rattle.std.specs.Str.{bytes_eq}
use Rattle.stark_language.specs.declared.tree.Member.{Member}
use Rattle.stark_language.specs.declared.tree.Member.TheVariants.{Config, Field, Scheme, LogBlowup, LogFinalPolyLen, NumQueries, CommitProofOfWorkBits, QueryProofOfWorkBits, AlphaBits, OodBits, LogHeight, MaxConstraintDegree, NumConstraints}
use Rattle.stark_language.specs.declared.word.Word.{Word}
use Rattle.stark_language.specs.declared.word.Word.TheVariants as words

-- the member of a configuration that has this name
unfoldable pub configuration_member : List ℕ → Option Member
configuration_member name =
    if bytes_eq name (codes "field") then Some Field
    else if bytes_eq name (codes "scheme") then Some Scheme
    else if bytes_eq name (codes "log_blowup") then Some LogBlowup
    else if bytes_eq name (codes "log_final_poly_len") then Some LogFinalPolyLen
    else if bytes_eq name (codes "num_queries") then Some NumQueries
    else if bytes_eq name (codes "commit_proof_of_work_bits") then Some CommitProofOfWorkBits
    else if bytes_eq name (codes "query_proof_of_work_bits") then Some QueryProofOfWorkBits
    else None

-- the member of a statement or of its AIR that has this name, else that of its configuration
unfoldable pub statement_member : List ℕ → Option Member
statement_member name =
    if bytes_eq name (codes "config") then Some Config
    else if bytes_eq name (codes "alpha_bits") then Some AlphaBits
    else if bytes_eq name (codes "ood_bits") then Some OodBits
    else if bytes_eq name (codes "log_height") then Some LogHeight
    else if bytes_eq name (codes "max_constraint_degree") then Some MaxConstraintDegree
    else if bytes_eq name (codes "num_constraints") then Some NumConstraints
    else configuration_member name

-- what a name means as the first word of a line
unfoldable pub word_of : List ℕ → Option Word
word_of name =
    if bytes_eq name (codes "columns") then Some words.Columns
    else if bytes_eq name (codes "public") then Some words.Public
    else if bytes_eq name (codes "periodic") then Some words.Periodic
    else if bytes_eq name (codes "fixed") then Some words.Fixed
    else if bytes_eq name (codes "let") then Some words.Let
    else option_map words.Member (statement_member name)
