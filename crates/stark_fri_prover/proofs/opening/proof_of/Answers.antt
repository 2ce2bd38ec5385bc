use Rattle.std.proofs.Common.{◌≡◌, ◌∙◌, ◌+◌, ◌-◌, ◌*◌, ◌%◌, ◌^◌, ◌<◌, ap, arith, inl, inr, min, subst}
use Rattle.std.proofs.lemmas.Nat.{one_shl}
use Rattle.stark_merkle.specs.Bytes.{element_bytes}
use Rattle.stark_merkle.specs.Tree.{digests_in}
use Rattle.stark_fri.specs.Parts.{FriOps}
use Rattle.stark_fri.proofs.Members.{fields_by, sponge_by}
use Rattle.stark_fri_prover.specs.Commit.{data_seen}
use Rattle.stark_fri_prover.specs.OwnClaims.{points_in}
use Rattle.stark_fri_prover.specs.Work.{NonePasses}
use Rattle.stark_fri_prover.proofs.MadeSteps.{is_made, lacks_witness, seen_again}
use Rattle.stark_fri_prover.proofs.WorkSteps.{where_none}
use Rattle.stark_fri_prover.proofs.opening.proof_of.Given as given
use Rattle.stark_fri_prover.proofs.opening.proof_of.Goals as goal

abbrev ops_of : (g : given.Over) → FriOps g.row.C.Denot g.row.F.Denot g.row.EF.Denot
ops_of g = record {
  fields = fields_by g.F.TwoAdicField g.F.Field g.F.PrimeField64 g.EF.Field g.EF.ExtensionField;
  hash = g.H.TreeHash.digests;
  sponge = sponge_by g.F.Field g.F.PrimeField64 g.EF.ExtensionField g.C.CanObserve-1 g.C.CanObserve-2 g.C.CanSample-2 g.C.CanSampleBits g.C.GrindingChallenger;
}

pub returns-clause-made : goal.returns-clause-made
returns-clause-made g c =
    let folds = c.in-Some.folds in
    let short : c.args.log_height < 64 = omega (arith, c.requires.height, c.requires.fit.within, g.met.F.TwoAdicField.two_adic.bounded) in
    let size : 1 * 2 ^ c.args.log_height % 2 ^ 64 ≡ 2 ^ c.args.log_height = one_shl c.args.log_height 64 short in
    rw c.new-2.ensures (is_made (ops_of g) (element_bytes g.F.PrimeField64.BYTES g.F.PrimeField64.number_of) g.EF.ExtensionField.coordinates (λ d. data_seen d.root d.domain.log_size d.matrices d.extended) (λ d. digests_in d.layers.items) points_in
    c.args.parameters.now c.args.rounds.now c.args.challenger.now
    c.args.log_height c.requires.height _ c.requires.own c.observe_parameters.new.challenger c.observe_claims.new.challenger c.sample-alpha.new.self c.sample-alpha.result
    c.observe_parameters.ensures c.observe_claims.ensures c.sample-alpha.ensures.answer c.sample-alpha.ensures.state
    (record { phases = folds.phases.items; final_polynomial = folds.last.items; query_witness = c.in-Some-find_witness.query_witness; queries = c.in_ok-queries.queries.items })
    (c.args.log_height + c.log_blowup.result) (c.args.log_height - c.min.result) (ap (λ n. c.args.log_height + n) c.log_blowup.ensures)
    (ap (λ n. c.args.log_height - n) (c.min.ensures ∙ ap (min c.args.log_height) c.log_final_poly_len.ensures))
    c.in_ok-batch.batch.items folds.layers.items c.fold_all.new.challenger c.observe_values.new.challenger c.find_witness.new.challenger (rw c.deref.ensures.value at c.observe_values.ensures)
    c.in_ok-places.places.items (rw c.num_queries.ensures at c.in_ok-places.ensures)
    c.requires.fit c.requires.heights (rw (seen_again (λ d. data_seen d.root d.domain.log_size d.matrices d.extended) c.args.rounds.now, size) at c.in_ok-batch.ensures)
    (rw (c.in-Some.is, c.commit_proof_of_work_bits.ensures) at c.in_ok-folds.ensures.folded)
    (rw (c.in-Some.is, c.commit_proof_of_work_bits.ensures, c.new.ensures.shift, c.new.ensures.size, c.GENERATOR.ensures) at c.in_ok-folds.ensures.word)
    (rw (c.in-Some.is, c.new.ensures.size) at c.in_ok-folds.ensures.layers)
    (rw c.query_proof_of_work_bits-query_bits.ensures at c.in-Some-find_witness.ensures.found)
    (rw (c.deref-2.ensures.value, c.deref-3.ensures.value) at c.in_ok-queries.ensures))

pub returns-in_default-clause-none : goal.returns-in_default-clause-none
returns-in_default-clause-none g c =
    let short : c.args.log_height < 64 = omega (arith, c.requires.height, c.requires.fit.within, g.met.F.TwoAdicField.two_adic.bounded) in
    let size : 1 * 2 ^ c.args.log_height % 2 ^ 64 ≡ 2 ^ c.args.log_height = one_shl c.args.log_height 64 short in
    let stop = where_none _ _ c.in_default.not-Some c.in_ok-folds.ensures.none in
    lacks_witness (ops_of g) (element_bytes g.F.PrimeField64.BYTES g.F.PrimeField64.number_of) g.EF.ExtensionField.coordinates (λ d. data_seen d.root d.domain.log_size d.matrices d.extended) (λ d. digests_in d.layers.items) points_in
    c.args.parameters.now c.args.rounds.now c.args.challenger.now
    c.args.log_height c.requires.height _ c.requires.own c.observe_parameters.new.challenger c.observe_claims.new.challenger c.sample-alpha.new.self c.sample-alpha.result
    c.observe_parameters.ensures c.observe_claims.ensures c.sample-alpha.ensures.answer c.sample-alpha.ensures.state
    (c.args.log_height + c.log_blowup.result) (c.args.log_height - c.min.result) (ap (λ n. c.args.log_height + n) c.log_blowup.ensures)
    (ap (λ n. c.args.log_height - n) (c.min.ensures ∙ ap (min c.args.log_height) c.log_final_poly_len.ensures))
    c.in_ok-batch.batch.items c.requires.fit c.requires.heights
    (rw (seen_again (λ d. data_seen d.root d.domain.log_size d.matrices d.extended) c.args.rounds.now, size) at c.in_ok-batch.ensures)
    (inl (rw (c.commit_proof_of_work_bits.ensures, c.new.ensures.shift, c.new.ensures.size, c.GENERATOR.ensures) at stop))

pub returns-in_default-find_witness-clause-none : goal.returns-in_default-find_witness-clause-none
returns-in_default-find_witness-clause-none g c =
    let folds = c.in-Some.folds in
    let short : c.args.log_height < 64 = omega (arith, c.requires.height, c.requires.fit.within, g.met.F.TwoAdicField.two_adic.bounded) in
    let size : 1 * 2 ^ c.args.log_height % 2 ^ 64 ≡ 2 ^ c.args.log_height = one_shl c.args.log_height 64 short in
    lacks_witness (ops_of g) (element_bytes g.F.PrimeField64.BYTES g.F.PrimeField64.number_of) g.EF.ExtensionField.coordinates (λ d. data_seen d.root d.domain.log_size d.matrices d.extended) (λ d. digests_in d.layers.items) points_in
    c.args.parameters.now c.args.rounds.now c.args.challenger.now
    c.args.log_height c.requires.height _ c.requires.own c.observe_parameters.new.challenger c.observe_claims.new.challenger c.sample-alpha.new.self c.sample-alpha.result
    c.observe_parameters.ensures c.observe_claims.ensures c.sample-alpha.ensures.answer c.sample-alpha.ensures.state
    (c.args.log_height + c.log_blowup.result) (c.args.log_height - c.min.result) (ap (λ n. c.args.log_height + n) c.log_blowup.ensures)
    (ap (λ n. c.args.log_height - n) (c.min.ensures ∙ ap (min c.args.log_height) c.log_final_poly_len.ensures))
    c.in_ok-batch.batch.items c.requires.fit c.requires.heights
    (rw (seen_again (λ d. data_seen d.root d.domain.log_size d.matrices d.extended) c.args.rounds.now, size) at c.in_ok-batch.ensures)
    (inr (record {
      phases = folds.phases.items;
      after = c.fold_all.new.challenger;
      last = folds.last.items;
      folds = rw (c.in-Some.is, c.commit_proof_of_work_bits.ensures) at c.in_ok-folds.ensures.folded;
      roots = record {
        layers = folds.layers.items;
        words = rw (c.in-Some.is, c.commit_proof_of_work_bits.ensures, c.new.ensures.shift, c.new.ensures.size, c.GENERATOR.ensures) at c.in_ok-folds.ensures.word;
        trees = rw (c.in-Some.is, c.new.ensures.size) at c.in_ok-folds.ensures.layers;
      };
      none = subst (NonePasses g.C.GrindingChallenger.passes c.args.parameters.now.query_proof_of_work_bits) (rw c.deref.ensures.value at c.observe_values.ensures)
          (rw c.query_proof_of_work_bits-query_bits.ensures at c.in_default-find_witness.ensures.none);
    }))
