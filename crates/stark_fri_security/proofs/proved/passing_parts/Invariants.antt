use Rattle.std.proofs.Common.{◌≡◌, ◌≤◌}
use Rattle.stark_fri_security.specs.ProvedBits.{passing_parts}
use Rattle.stark_fri_security.proofs.proved.passing_parts.Given as goal

abbrev pub invariant-loop-query : goal.invariant-loop-query
invariant-loop-query l = (l.parts ≡ passing_parts l.whole l.passing l.places l._query) × (1 ≤ l.parts) × (l.parts ≤ l.whole)
