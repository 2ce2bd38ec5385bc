use Rattle.std.proofs.Common.{◌≡◌, ℕ, ◌^◌, map}
use Rattle.stark_support.specs.Coset.{coset_point}
use Rattle.stark_support.specs.PartFacts.{ArePartsSoFar}
use Rattle.stark_bench.proofs.coset.CosetPolynomialSpace.split_domains.Given as goal

abbrev pub invariant-loop-part : goal.invariant-loop-part
invariant-loop-part g l = record {
  listed : (log_parts : ℕ) → 2 ^ log_parts ≡ l.num_chunks → ArePartsSoFar g.F.Field.ring g.F.TwoAdicField.root (record { shift = l.self.shift; log_size = l.self.log_size }) log_parts l._part
      (map (λ part. record { shift = part.shift; log_size = part.log_size }) l.parts.items);
  shift : l.shift ≡ coset_point g.F.Field.ring g.F.TwoAdicField.root (record { shift = l.self.shift; log_size = l.self.log_size }) l._part;
}
