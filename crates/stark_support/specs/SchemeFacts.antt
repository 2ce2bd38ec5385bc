-- What follows from what a scheme's calls answer.
use Rattle.std.specs.Prelude.{◌≡◌, ℕ, ◌^◌, ◌<◌, List, IfErr, Result, Ok, Err}
use Rattle.std.proofs.Common.{sym, ap, ◌∙◌, subst}
use Rattle.stark_support.specs.Ring.{RingOps}
use Rattle.stark_support.specs.Coset.{TwoAdicCoset, coset_size, coset_point}
use Rattle.stark_support.specs.LogarithmFacts.{same_exponent}
use Rattle.stark_support.specs.declared.scheme.SchemeFault.{SchemeFault}
use Rattle.stark_support.specs.declared.scheme.SchemeFault.TheVariants.{Refused, OutOfMemory}
use Rattle.stark_support.specs.Claims.{IfRefused}
use Rattle.stark_support.specs.Scheme.{natural_coset, TakesRows, HasRows, matrix_row, row_at}

-- Columns that take rows on a coset have these rows as their values there.
pub rows_again : {F : Type 0} (field : RingOps F) (root : ℕ → F) (given seen : TwoAdicCoset F) (width : ℕ) (row : ℕ → List F) (columns : List (List F)) (values : List F) (wide : ℕ)
    → seen ≡ given → TakesRows field root given width row columns → HasRows field root seen columns values wide → (r : ℕ) → r < coset_size given → matrix_row values wide r ≡ row r
rows_again field root given seen width row columns values wide same committed read r below =
    read.takes.rows r (subst (λ d. r < coset_size d) (sym same) below) ∙ ap (λ d. row_at field (λ c. c) columns (coset_point field root d r)) same ∙ sym (committed.rows r below)

-- A coset of shift one is the natural one of its size.
pub natural_of_size : {F : Type 0} (field : RingOps F) (coset : TwoAdicCoset F) (n k : ℕ) → coset.shift ≡ field.one → coset_size coset ≡ n → 2 ^ k ≡ n → coset ≡ natural_coset field k
natural_of_size {F} field coset n k shift size power =
    ap (λ (s : F). record { shift = s; log_size = coset.log_size }) shift ∙
    ap (λ (m : ℕ). record { shift = field.one; log_size = m }) (same_exponent coset.log_size k (size ∙ sym power))

-- What follows from what holds of a refusal holds of it too.
pub refused_map : {X Y : Type 0} (P Q : X → Type 0) (r : Result Y (SchemeFault X)) → ((x : X) → P x → Q x) → IfErr r (λ fault. IfRefused fault P) → IfErr r (λ fault. IfRefused fault Q)
refused_map P Q (Ok y) f h = tt
refused_map P Q (Err (Refused x)) f h = f x h
refused_map P Q (Err OutOfMemory) f h = tt
