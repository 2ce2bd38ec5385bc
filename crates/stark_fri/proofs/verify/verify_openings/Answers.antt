use Rattle.std.proofs.Common.{refl}
use Rattle.stark_fri.specs.Accept.{Accepted}
use Rattle.stark_fri.specs.Parts.{FriOps}
use Rattle.stark_fri.specs.Scheme.{claimed_by}
use Rattle.stark_fri.specs.Soundness.{AreFields, BytesNameValues}
use Rattle.stark_fri.proofs.BoundSteps.{names_by}
use Rattle.stark_fri.proofs.Members.{fields_by, sponge_by}
use Rattle.stark_fri.proofs.SoundSteps.{accepted_has_few, accepted_is_sound}
use Rattle.stark_fri.proofs.VerifySteps.{claims_at_fault, is_checkable, none_at_fault, query_at_fault, shape_at_fault, work_at_fault}
use Rattle.stark_fri.proofs.verify.verify_openings.Given as given
use Rattle.stark_fri.proofs.verify.verify_openings.Goals as goal

abbrev ops_of : (g : given.Over) → FriOps g.row.C.Denot g.row.D-Val.Denot g.row.EF.Denot
ops_of g = record {
  fields = fields_by g.D.Val.TwoAdicField g.D.Val.Field g.D.Val.PrimeField64 g.EF.Field g.EF.ExtensionField;
  hash = g.H.TreeHash.digests;
  sponge = sponge_by g.D.Val.Field g.D.Val.PrimeField64 g.EF.ExtensionField g.C.CanObserve-1 g.C.CanObserve-2 g.C.CanSample g.C.CanSampleBits g.C.GrindingChallenger;
}

pub returns-in-Err-clause-refused : goal.returns-in-Err-clause-refused
returns-in-Err-clause-refused g c =
    claims_at_fault (ops_of g) g.D.PolynomialSpace.coset_of c.args.parameters.now c.args.claims.now c.args.proof.now c.args.challenger.now c.in-Err.error (rw c.in-Err.is at c.check_claims.ensures)

pub returns-in-Err-check_shape-clause-refused : goal.returns-in-Err-check_shape-clause-refused
returns-in-Err-check_shape-clause-refused g c =
    shape_at_fault (ops_of g) g.D.PolynomialSpace.coset_of c.args.parameters.now c.args.claims.now c.args.proof.now c.args.challenger.now c.in-Ok.log_height
    (rw c.in-Ok.is at c.check_claims.ensures) c.in-Err-check_shape.error (rw c.in-Err-check_shape.is at c.check_shape.ensures)

pub returns-in-Err-2-clause-refused : goal.returns-in-Err-2-clause-refused
returns-in-Err-2-clause-refused g c =
    work_at_fault (ops_of g) g.D.PolynomialSpace.coset_of c.args.parameters.now c.args.claims.now c.args.proof.now c.args.challenger.now c.in-Ok.log_height
    (rw c.in-Ok.is at c.check_claims.ensures) (rw c.in_default.is at c.check_shape.ensures) c.log_blowup.result c.in-Err-2.error (rw c.in-Err-2.is at c.in_ok-drawn.ensures)

pub first_query_fault-requires : goal.first_query_fault-requires
first_query_fault-requires g c =
    is_checkable (ops_of g) g.D.PolynomialSpace.coset_of c.args.parameters.now c.args.challenger.now _ c.in-Ok.log_height (rw c.in-Ok.is at c.check_claims.ensures)
    (rw c.in_default.is at c.check_shape.ensures) c.log_blowup.result c.log_blowup.ensures refl (rw c.in-Ok-2.is at c.in_ok-drawn.ensures)

pub returns-in-Some-clause-refused : goal.returns-in-Some-clause-refused
returns-in-Some-clause-refused g c =
    query_at_fault (ops_of g) g.D.PolynomialSpace.coset_of c.args.parameters.now c.args.claims.now c.args.proof.now c.args.challenger.now c.in-Ok.log_height
    (rw c.in-Ok.is at c.check_claims.ensures) (rw c.in_default.is at c.check_shape.ensures) c.log_blowup.result c.log_blowup.ensures c.in-Ok-2.drawn (rw c.in-Ok-2.is at c.in_ok-drawn.ensures)
    c.in-Some.query c.in-Some.fault (rw c.in-Some.is at c.in_ok-query.ensures)

are_fields : (g : given.Over) → AreFields (ops_of g).fields
are_fields g = record {
  base = g.met.D.Val.Field.field_laws;
  extension = g.met.EF.Field.field_laws;
  embeds = g.met.EF.ExtensionField.embeds;
  two_adic = g.met.D.Val.TwoAdicField.two_adic;
}

bytes_name_values : (g : given.Over) → BytesNameValues (ops_of g).fields (ops_of g).hash
bytes_name_values g =
    names_by g.D.Val.TwoAdicField g.D.Val.Field g.D.Val.PrimeField64 g.EF.Field g.EF.ExtensionField
    g.met.D.Val.PrimeField64.below g.met.D.Val.PrimeField64.above g.met.D.Val.PrimeField64.fits_bytes g.met.D.Val.PrimeField64.same_number g.met.EF.ExtensionField.is_basis g.H.TreeHash.digests g.met.H.TreeHash.are_digests

pub returns : goal.returns
returns g c =
    let asked = claimed_by g.D.PolynomialSpace.coset_of c.args.parameters.now c.args.claims.now c.args.proof.now c.args.challenger.now in
    let holds : Accepted (ops_of g) asked =
    none_at_fault (ops_of g) g.D.PolynomialSpace.coset_of c.args.parameters.now c.args.claims.now c.args.proof.now c.args.challenger.now c.in-Ok.log_height
    (rw c.in-Ok.is at c.check_claims.ensures) (rw c.in_default.is at c.check_shape.ensures) c.log_blowup.result c.log_blowup.ensures c.in-Ok-2.drawn (rw c.in-Ok-2.is at c.in_ok-drawn.ensures)
    (rw c.in-None.is at c.in_ok-query.ensures) in record {
      accepted = holds;
      refused = tt;
      sound = accepted_is_sound (ops_of g) (are_fields g) asked (bytes_name_values g) holds;
      few = accepted_has_few (ops_of g) (are_fields g) asked holds;
    }
