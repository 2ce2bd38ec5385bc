-- What the bytes of an input are.
use Rattle.std.specs.Prelude.{ℕ, List, length, replicate, if◌then◌else◌, ◌==◌, ◌&&◌, nat_le, nat_lt, Bool, Option, None, Some, codes}
use Rattle.std.specs.List.{list_all}
use Rattle.serde_json.specs.Data.{Data}
use Rattle.serde_json.specs.Find.{get}
use Rattle.stark_support.specs.Ring.{RingOps}
use Rattle.stark_support.specs.Json.{◌>>=◌, json_of, whole_at, array_at}
use Rattle.stark_fields.specs.Residues.{residue, residue_ring}
use Rattle.stark_fields.specs.Ext4Field.{ext4_ring}
use Rattle.stark_fields.specs.ElementJson.{base_at, element_at}
use Rattle.stark_fields.specs.SmallResidues.{Residue12289}
use Rattle.stark_fields.specs.declared.residue.Lockstep.{Lockstep}
use Rattle.stark_fields.specs.declared.ext4.Ext4.{Ext4}
use Rattle.stark_answers.specs.declared.shape.CheckShape.{CheckShape}

abbrev pub Base : Type 0
Base = Residue12289 Lockstep

abbrev pub Extension : Type 0
Extension = Ext4 Base

abbrev pub elements : RingOps Extension
elements = ext4_ring residue_ring (residue 11)

-- the numbers of a check; a next row that it doesn't read is zeros, a preprocessed row that it doesn't read has no value
pub record CheckNumbers : Type 0 where
  pub log_height : ℕ
  pub public_values : List Base
  pub local : List Extension
  pub next : List Extension
  pub preprocessed_local : List Extension
  pub alpha : Extension
  pub zeta : Extension
  pub chunks : List (List Extension)

-- the exponent of the domain's size, 0 to 12
unfoldable pub log_height_at : Data → Option ℕ
log_height_at d = do
  n ← whole_at d
  if nat_le n 12 then Some n else None

abbrev pub zeros : ℕ → List Extension
zeros n = replicate n elements.zero

-- the row under a key where it is read, and else zeros
unfoldable pub row_or_zeros : List ℕ → ℕ → Bool → Data → Option (List Extension)
row_or_zeros key width is_read d = if is_read then get key d >>= array_at (element_at base_at) else Some (zeros width)

-- the numbers that a JSON value has under their names
unfoldable pub numbers_at : CheckShape → Data → Option CheckNumbers
numbers_at shape d = do
  log_height ← get (codes "log_height") d >>= log_height_at
  public_values ← get (codes "publics") d >>= array_at base_at
  local ← get (codes "local") d >>= array_at (element_at base_at)
  next ← row_or_zeros (codes "next") shape.width shape.reads_next d
  preprocessed_local ← row_or_zeros (codes "preprocessed_local") 0 (nat_lt 0 shape.preprocessed_width) d
  alpha ← get (codes "alpha") d >>= element_at base_at
  zeta ← get (codes "zeta") d >>= element_at base_at
  chunks ← get (codes "chunks") d >>= array_at (array_at (element_at base_at))
  Some (record { log_height = log_height; public_values = public_values; local = local; next = next; preprocessed_local = preprocessed_local; alpha = alpha; zeta = zeta; chunks = chunks })

-- the numbers that the bytes spell
unfoldable pub numbers_in : CheckShape → List ℕ → Option CheckNumbers
numbers_in shape bytes = json_of bytes >>= numbers_at shape

-- the widths and counts are those of the shape, and each chunk has four coordinates
abbrev pub has_shape : CheckShape → CheckNumbers → Bool
has_shape shape m =
    length m.public_values == shape.num_public_values && length m.local == shape.width && length m.next == shape.width && length m.preprocessed_local == shape.preprocessed_width
    && list_all (λ chunk. length chunk == 4) m.chunks
