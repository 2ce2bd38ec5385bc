-- What JSON values spell of the fields.
use Rattle.std.specs.Prelude.{◌≡◌, ◌≢◌, Bool, true, false, List, [], ◌∷◌, if◌then◌else◌, nat_lt, Option, None, Some, refl}
use Rattle.std.proofs.Common.{◌∙◌, ap}
use Rattle.std.proofs.lemmas.Bool.{lt-ltb}
use Rattle.serde_json.specs.Data.{Data, null, boolean, number, string, object, unsigned, array, no_items, item}
use Rattle.stark_support.specs.Json.{◌>>=◌, whole_at, array_at}
use Rattle.stark_fields.specs.declared.modulus.Modulus.{Ghosts}
use Rattle.stark_fields.specs.declared.residue.Residue.{Residue}
use Rattle.stark_fields.specs.declared.ext4.Ext4.{Ext4}
use Rattle.stark_fields.specs.Residues.{residue, residue_of_value}
use Rattle.stark_fields.specs.Ext4Field.{ext4}

-- a whole number below the modulus
unfoldable pub base_at : {M K : Type 0} {G : Ghosts M} → Data → Option (Residue M K G)
base_at {M} {K} {G} d = do
  n ← whole_at d
  if nat_lt n G.MODULUS then Some (residue n) else None

-- the element with these coordinates, of which there are four
abbrev pub of_four : {K : Type 0} → List K → Option (Ext4 K)
of_four [] = None
of_four (a ∷ []) = None
of_four (a ∷ b ∷ []) = None
of_four (a ∷ b ∷ c ∷ []) = None
of_four (a ∷ b ∷ c ∷ d ∷ []) = Some (ext4 a b c d)
of_four (a ∷ b ∷ c ∷ d ∷ e ∷ rest) = None

-- an array of exactly four coordinates
unfoldable pub element_at : {K : Type 0} → (Data → Option K) → Data → Option (Ext4 K)
element_at coordinate_at d = do
  coordinates ← array_at coordinate_at d
  of_four coordinates

-- the number, and nothing else
abbrev pub base_written : {M K : Type 0} {G : Ghosts M} → Residue M K G → Data
base_written x = number (unsigned x.value)

-- the array of the four coordinates, each as it is written
abbrev pub element_written : {K : Type 0} → (K → Data) → Ext4 K → Data
element_written coordinate_written x =
    array (item (coordinate_written x.c0) (item (coordinate_written x.c1) (item (coordinate_written x.c2) (item (coordinate_written x.c3) no_items))))

pub base_reads_back : {M K : Type 0} {G : Ghosts M} (x : Residue M K G) → base_at (base_written x) ≡ Some x
unfolding base_at
base_reads_back {M} {K} {G} x = ap (λ b. if b then Some (residue x.value) else None) (lt-ltb x.value G.MODULUS x.in_range) ∙ ap Some (residue_of_value x)

pub element_reads_back : {K : Type 0} (coordinate_at : Data → Option K) (coordinate_written : K → Data) → ((k : K) → coordinate_at (coordinate_written k) ≡ Some k) →
    (x : Ext4 K) → element_at coordinate_at (element_written coordinate_written x) ≡ Some x
unfolding element_at array_at
element_reads_back coordinate_at coordinate_written back x = rw (back x.c0, back x.c1, back x.c2, back x.c3) refl

pub is_null : Data → Bool
is_null null = true
is_null (boolean b) = false
is_null (number n) = false
is_null (string s) = false
is_null (array ds) = false
is_null (object ms) = false

pub base_never_null : {M K : Type 0} {G : Ghosts M} (x : Residue M K G) → base_written x ≢ null
base_never_null x e = let stated = ap is_null e in absurd (cc)

pub element_never_null : {K : Type 0} (coordinate_written : K → Data) (x : Ext4 K) → element_written coordinate_written x ≢ null
element_never_null coordinate_written x e = let stated = ap is_null e in absurd (cc)
