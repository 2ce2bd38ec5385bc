use Rattle.std.proofs.Common.{◌≡◌, ◌+◌, ℕ}
use Rattle.stark_support.specs.Coset.{coset_from}
use Rattle.stark_merkle.specs.Bytes.{element_bytes}
use Rattle.stark_fri.specs.Parts.{FriOps, SpongeCalls}
use Rattle.stark_fri.specs.Transcript.{betas_of}
use Rattle.stark_fri.proofs.Members.{fields_by, sponge_by}
use Rattle.stark_fri_prover.specs.Folds.{AreFolds}
use Rattle.stark_fri_prover.proofs.FoldSteps.{LayersSoFar, WordsTo}
use Rattle.stark_fri_prover.proofs.phases.fold_all.Given as goal

abbrev pub sponge_of : (g : goal.Over) → SpongeCalls g.row.C.Denot g.row.F.Denot g.row.EF.Denot
sponge_of g = sponge_by g.F.Field g.F.PrimeField64 g.EF.ExtensionField g.C.CanObserve-1 g.C.CanObserve-2 g.C.CanSample g.C.CanSampleBits g.C.GrindingChallenger

abbrev pub ops_of : (g : goal.Over) → FriOps g.row.C.Denot g.row.F.Denot g.row.EF.Denot
ops_of g = record {
  fields = fields_by g.F.TwoAdicField g.F.Field g.F.PrimeField64 g.EF.Field g.EF.ExtensionField;
  hash = g.H.TreeHash.digests;
  sponge = sponge_of g;
}

abbrev pub root_in : (g : goal.Over) → ℕ → g.row.EF.Denot
root_in g k = g.EF.ExtensionField.embed (g.F.TwoAdicField.root k)

abbrev pub invariant-loop-fold : goal.invariant-loop-fold
invariant-loop-fold g l = record {
  folds : AreFolds (sponge_of g) g.EF.Field.ring l.bits l._fold l.fn.challenger l.challenger l.fn.polynomial.items l.phases.items l.last.items;
  layers : LayersSoFar (element_bytes g.F.PrimeField64.BYTES g.F.PrimeField64.number_of) g.EF.ExtensionField.coordinates g.EF.Field.ring.zero g.H.TreeHash.digests
      l.fn.domain.log_size l.coset.log_size l.phases.items l.layers.items;
  words : WordsTo g.EF.Field.ring (root_in g) (coset_from (g.EF.ExtensionField.embed l.fn.domain.shift) l.fn.domain.log_size) l.fn.polynomial.items
      (betas_of (sponge_of g) l.bits l.fn.challenger l.phases.items) l.layers.items (coset_from (g.EF.ExtensionField.embed l.coset.shift) l.coset.log_size) l.last.items l.word.items;
  left : l.coset.log_size + l._fold ≡ l.fn.domain.log_size;
}
