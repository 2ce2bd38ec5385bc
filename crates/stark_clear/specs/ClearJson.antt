-- The opening proof in JSON.
use Rattle.std.specs.Prelude.{◌≡◌, Option, Some, option_map, refl}
use Rattle.serde_json.specs.Data.{Data, null}
use Rattle.serde_json.specs.Find.{as_null}
use Rattle.stark_clear.specs.declared.clear.pcs.ClearProof.{ClearProof}

-- Null spells the proof, and nothing else does.
abbrev pub proof_at : Data → Option ClearProof
proof_at d = option_map (λ _. record {}) (as_null d)

abbrev pub proof_written : ClearProof → Data
proof_written proof = null

pub proof_back : (proof : ClearProof) → proof_at (proof_written proof) ≡ Some proof
proof_back proof = refl
