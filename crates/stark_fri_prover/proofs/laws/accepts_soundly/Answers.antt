use Rattle.stark_fri.specs.Parts.{FriOps}
use Rattle.stark_fri.specs.Scheme.{claimed_of}
use Rattle.stark_fri.specs.Soundness.{AreFields}
use Rattle.stark_fri.proofs.BoundSteps.{names_by}
use Rattle.stark_fri.proofs.Members.{fields_by, sponge_by}
use Rattle.stark_fri.proofs.SoundSteps.{accepted_has_few, accepted_is_sound}
use Rattle.stark_fri_prover.proofs.laws.accepts_soundly.Given as given
use Rattle.stark_fri_prover.proofs.laws.accepts_soundly.Goals as goal

abbrev ops_of : (g : given.Over) → FriOps g.row.C.Denot g.row.F.Denot g.row.EF.Denot
ops_of g = record {
  fields = fields_by g.F.TwoAdicField g.F.Field g.F.PrimeField64 g.EF.Field g.EF.ExtensionField;
  hash = g.H.TreeHash.digests;
  sponge = sponge_by g.F.Field g.F.PrimeField64 g.EF.ExtensionField g.C.CanObserve-1 g.C.CanObserve-2 g.C.CanSample-2 g.C.CanSampleBits g.C.GrindingChallenger;
}

pub returns : goal.returns
returns g c =
    let are : AreFields (ops_of g).fields = record {
      base = g.met.F.Field.field_laws;
      extension = g.met.EF.Field.field_laws;
      embeds = g.met.EF.ExtensionField.embeds;
      two_adic = g.met.F.TwoAdicField.two_adic;
    } in
    let named =
    names_by g.F.TwoAdicField g.F.Field g.F.PrimeField64 g.EF.Field g.EF.ExtensionField g.met.F.PrimeField64.below g.met.F.PrimeField64.above g.met.F.PrimeField64.fits_bytes g.met.F.PrimeField64.same_number
    g.met.EF.ExtensionField.is_basis g.H.TreeHash.digests g.met.H.TreeHash.are_digests in
    λ s claims proof state index accepted.
    let asked = claimed_of s.parameters claims proof state in
    (accepted_is_sound (ops_of g) are asked named accepted, accepted_has_few (ops_of g) are asked accepted)
