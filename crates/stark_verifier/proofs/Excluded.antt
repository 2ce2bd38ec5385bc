-- What is accepted has no fault.
use Rattle.std.proofs.Common.{◌≡◌, ap, subst, ◌⊎◌, inl, inr, Option, None, Result, Ok}
use Rattle.stark_support.specs.Scheme.{SchemeLaws}
use Rattle.stark_support.specs.declared.periodic.PeriodicColumnShapeError.{PeriodicColumnShapeError}
use Rattle.stark_transcript.specs.declared.error.VerificationError.{VerificationError}
use Rattle.stark_transcript.specs.declared.error.VerificationError.TheVariants.{OutOfMemory}
use Rattle.stark_protocol.specs.declared.preprocessed.PreprocessedVerifierKey.{PreprocessedVerifierKey}
use Rattle.stark_support.specs.SchemeClauses.{OpeningOps}
use Rattle.stark_protocol.specs.Instance.{Instance, ProtocolOps, log_height}
use Rattle.stark_protocol.specs.OpenedClaims.{OpeningsFault, OpeningsHold, claims, preprocessed_place, refused}
use Rattle.stark_proof.specs.ProofView.{ProofView}
use Rattle.stark_protocol.specs.Acceptance.{Accepted, IsBalanced, IsPointOfH, RunHolds, challenges, columns_fault}
use Rattle.stark_protocol.specs.FirstFault.{EquationFault, FirstFault, PointFault, RunFault, in_balance, in_columns, in_domain, in_equation, in_openings, in_point, in_replay, in_run, in_shape}

ok_same : {A B : Type 0} {x y : A} {r : Result A B} → r ≡ Ok x → r ≡ Ok y → x ≡ y
ok_same e f = cc

point_excluded : {X : Type 0} {Inside : Type 0} {fault : Option PeriodicColumnShapeError} {error : VerificationError X} → (Inside → ⊥) → fault ≡ None → PointFault Inside fault error → ⊥
point_excluded outside fits (in_domain inside) = outside inside
point_excluded outside fits (in_columns other is) = cc

equation_excluded : {X : Type 0} {Holds : Type 0} {error : VerificationError X} → Holds → EquationFault Holds error → ⊥
equation_excluded holds (in_balance fails) = fails holds

module _ {S F E C K T P X Y : Type 0} (ops : OpeningOps S F E C K T P X Y) (laws : SchemeLaws ops.scheme) (s : S) (key : Option (PreprocessedVerifierKey K)) (p : ProofView K E P F) (zeta : E) (state : C) where
  openings_excluded : {error : VerificationError X} → OpeningsHold ops s key p zeta state → OpeningsFault ops s key p zeta state error → ⊥
  openings_excluded h (refused {reason = reason} r) = laws.excludes s (claims ops key p zeta) p.opening_proof state (preprocessed_place ops.is_zk key) reason h.accepted r

module _ {S F E C K T P X Y : Type 0} (ops : ProtocolOps S F E C K T P X Y) (laws : SchemeLaws ops.opening.scheme) (i : Instance S F C K) (p : ProofView K E P F) where
  run_excluded : {alpha zeta : E} {error : VerificationError X} → RunHolds ops i p alpha zeta → RunFault ops i p error → ⊥
  run_excluded h (in_replay e) = let d = h.drawn in cc
  run_excluded {alpha = alpha} {zeta = zeta} h (in_point {alpha = a} {zeta = z} {error = error} e f) =
      let same : (a, z) ≡ (alpha, zeta) = ok_same e h.drawn in
      point_excluded h.outside h.fitting
      (subst (λ (x : E). PointFault (IsPointOfH ops.opening.fields (log_height ops.opening.is_zk p.degree_bits) x) (columns_fault ops i p) error) (ap (λ (x : E × E). x.1) same) f)
  run_excluded {alpha = alpha} {zeta = zeta} h (in_openings {alpha = a} {zeta = z} {error = error} e outside fits f) =
      let same : (a, z) ≡ (alpha, zeta) = ok_same e h.drawn in
      openings_excluded ops.opening laws i.scheme i.key p zeta (challenges ops i p).state h.opened
      (subst (λ (x : E). OpeningsFault ops.opening i.scheme i.key p x (challenges ops i p).state error) (ap (λ (x : E × E). x.1) same) f)

  pub excluded : {error : VerificationError X} → Accepted ops i p → FirstFault ops i p error → ⊥
  excluded a (in_shape e) = let h = a.shape in cc
  excluded a (in_run c f) = run_excluded a.run f
  excluded a (in_equation {alpha = alpha} {zeta = zeta} {error = error} c h f) =
      let same : (alpha, zeta) ≡ (a.alpha, a.zeta) = ok_same h.drawn a.run.drawn in
      equation_excluded a.balanced (subst (λ (x : E × E). EquationFault (IsBalanced ops i p x.0 x.1) error) same f)

-- A first fault is a proof that nothing is accepted.
pub exact : {S F E C K T P X Y : Type 0} {ops : ProtocolOps S F E C K T P X Y} {i : Instance S F C K} {p : ProofView K E P F} {error : VerificationError X} → SchemeLaws ops.opening.scheme
    → (error ≡ OutOfMemory) ⊎ FirstFault ops i p error → (error ≡ OutOfMemory) ⊎ (Accepted ops i p → ⊥)
exact laws (inl memory) = inl memory
exact {ops = ops} {i = i} {p = p} laws (inr fault) = inr (λ a. excluded ops laws i p a fault)
