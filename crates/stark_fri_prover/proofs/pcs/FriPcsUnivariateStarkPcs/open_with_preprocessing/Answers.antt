use Rattle.std.proofs.Common.{◌∙◌, ap, map, refl}
use Rattle.stark_columns.specs.Columns.{columns_list}
use Rattle.stark_merkle.specs.Tree.{digests_in}
use Rattle.stark_support.specs.Claims.{round_view}
use Rattle.stark_merkle.specs.Bytes.{element_bytes}
use Rattle.stark_fri.specs.Parts.{FriOps}
use Rattle.stark_fri.proofs.Members.{fields_by, sponge_by}
use Rattle.stark_fri_prover.specs.Commit.{data_seen}
use Rattle.stark_fri_prover.specs.CompletenessFactsScheme.{made_is_accepted, stand_alone}
use Rattle.stark_fri_prover.specs.OwnClaims.{opened_rounds, points_in}
use Rattle.stark_fri_prover.proofs.MadeSteps.{refused_again}
use Rattle.stark_fri_prover.proofs.PairSteps.{true_openings}
use Rattle.stark_fri_prover.proofs.pcs.FriPcsUnivariateStarkPcs.open_with_preprocessing.Given as given
use Rattle.stark_fri_prover.proofs.pcs.FriPcsUnivariateStarkPcs.open_with_preprocessing.Goals as goal

abbrev ops_of : (g : given.Over) → FriOps g.row.C.Denot g.row.F.Denot g.row.EF.Denot
ops_of g = record {
  fields = fields_by g.F.TwoAdicField g.F.Field g.F.PrimeField64 g.EF.Field g.EF.ExtensionField;
  hash = g.H.TreeHash.digests;
  sponge = sponge_by g.F.Field g.F.PrimeField64 g.EF.ExtensionField g.C.CanObserve-1 g.C.CanObserve-2 g.C.CanSample-2 g.C.CanSampleBits g.C.GrindingChallenger;
}

pub returns-in-Ok-clause-true_values : goal.returns-in-Ok-clause-true_values
returns-in-Ok-clause-true_values g c = λ made stand same.
    let opened = opened_rounds g.EF.Field.ring g.EF.ExtensionField.embed (λ d. map columns_list d.matrices.items) in
    c.in-Ok.ensures.values ∙ ap (λ t. opened (map round_view t)) c.deref.ensures.value ∙ ap opened same
    ∙ true_openings _ (λ s. s.parameters) (λ d. record { root = d.root; log_height = d.domain.log_size; matrices = map columns_list d.matrices.items; extended = d.extended.items }) (λ p. p) _ c.args.self.now made
    (stand_alone _ (element_bytes g.F.PrimeField64.BYTES g.F.PrimeField64.number_of) (λ s. s.parameters) (λ d. record { root = d.root; log_height = d.domain.log_size; matrices = map columns_list d.matrices.items; extended = d.extended.items })
    (λ d. digests_in d.layers.items) (λ p. p) _ c.args.self.now made stand)

pub returns-in-Ok-clause-holds : goal.returns-in-Ok-clause-holds
returns-in-Ok-clause-holds g c = λ made stand same complete.
    made_is_accepted _ (element_bytes g.F.PrimeField64.BYTES g.F.PrimeField64.number_of) (λ s. s.parameters) (λ d. record { root = d.root; log_height = d.domain.log_size; matrices = map columns_list d.matrices.items; extended = d.extended.items })
    (λ d. digests_in d.layers.items) (λ p. p) _ c.args.self.now points_in g.EF.ExtensionField.coordinates
    (record { base = g.met.F.Field.field_laws; extension = g.met.EF.Field.field_laws; embeds = g.met.EF.ExtensionField.embeds; two_adic = g.met.F.TwoAdicField.two_adic; row_bytes = λ rows. refl; pair_bytes = λ x y. refl })
    c.args.rounds.items c.args.challenger.now c.in-Ok.opened.1 (rw c.deref.ensures.value at c.in-Ok.ensures.made) made stand same c.args._preprocessed_index

pub returns-clause-refused : goal.returns-clause-refused
returns-clause-refused g c =
    refused_again (ops_of g) (element_bytes g.F.PrimeField64.BYTES g.F.PrimeField64.number_of) (λ d. data_seen d.root d.domain.log_size d.matrices d.extended) c.args.self.now.parameters c.args.rounds.items c.args.challenger.now
    c.in-Err.fault (rw c.deref.ensures.value at c.in-Err.ensures.refused)
