use Rattle.std.proofs.Common.{◌∙◌, map, sym}
use Rattle.std.proofs.lemmas.Simd.{map-map}
use Rattle.stark_support.specs.Claims.{opened_view, round_view}
use Rattle.stark_support.proofs.Places.{all_mapped_front}
use Rattle.stark_columns.specs.Columns.{columns_list}
use Rattle.stark_columns.specs.Opened.{matrices_at}
use Rattle.stark_fri_prover.proofs.claims.open_rounds.Goals as goal

pub returns : goal.returns
returns g c =
    all_mapped_front (opened_view c.loop-round.opened) (λ r. matrices_at g.EF.Field.ring g.EF.ExtensionField.embed (map columns_list r.0.now.matrices.items) (map (λ p. p.items) r.1.items)) c.args.rounds.now
    c.loop-round.round-index c.loop-round-test.false c.loop-round.invariant
    ∙ sym (map-map (λ r. matrices_at g.EF.Field.ring g.EF.ExtensionField.embed (map columns_list r.0.matrices.items) r.1) round_view c.args.rounds.now)
