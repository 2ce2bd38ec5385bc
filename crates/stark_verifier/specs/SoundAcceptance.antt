-- What an accepted proof says of the polynomials that take its opened values.
use Rattle.std.specs.Prelude.{◌≡◌, ◌+◌, List, Ok}
use Rattle.stark_support.specs.Scheme.{natural_coset, zk_bits}
use Rattle.stark_protocol.specs.Acceptance.{challenges, log_parts}
use Rattle.stark_security.specs.ConstraintPolynomial.{AirInstance}
use Rattle.stark_protocol.specs.Instance.{Instance, ProtocolOps, log_height}
use Rattle.stark_proof.specs.ProofView.{ProofView}
use Rattle.stark_protocol.specs.Sizes.{chunk_shifts, quotient_coset}
use Rattle.stark_verifier.specs.TakenValues.{BreakingNeedsBadDraws}

module _ {S F E C K T P X Y : Type 0} (ops : ProtocolOps S F E C K T P X Y) (i : Instance S F C K) (p : ProofView K E P F) where
  -- The AIR over the rows that the proof is about.
  abbrev pub proved_air : AirInstance F E
  proved_air = record {
    base = ops.opening.fields.base;
    base_inverse = ops.opening.fields.base_inverse;
    ring = ops.opening.fields.ring;
    inverse = ops.opening.fields.inverse;
    embed = ops.opening.fields.embed;
    basis = ops.opening.fields.basis;
    generator = ops.opening.fields.root (log_height ops.opening.is_zk p.degree_bits);
    log_size = log_height ops.opening.is_zk p.degree_bits;
    constraints = i.constraints;
    periodic = i.periodic_columns;
  }

  -- the first points of the quotient chunks' domains
  abbrev pub proved_shifts : List E
  proved_shifts =
      chunk_shifts ops.opening.fields.base ops.opening.fields.root ops.opening.fields.embed
      (quotient_coset ops.opening.fields.base ops.opening.fields.generator (natural_coset ops.opening.fields.base p.degree_bits) (log_parts ops i p)) (log_parts ops i p + zk_bits ops.opening.is_zk)

  -- Whatever columns and chunks take the opened values: where they break a constraint, the alpha that the replay draws is bad for
  -- columns and public values, or the zeta for these, alpha and the chunks.
  abbrev pub BreakingNeedsBadChallenges : Type 0
  BreakingNeedsBadChallenges =
      (alpha zeta : E) → (challenges ops i p).answer ≡ Ok (alpha, zeta) → BreakingNeedsBadDraws proved_air proved_shifts p.opened_values i.public_values alpha zeta
