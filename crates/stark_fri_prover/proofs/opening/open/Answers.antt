use Rattle.std.proofs.Common.{◌≡◌, ◌∙◌, ap, length, map, subst, sym}
use Rattle.std.proofs.lemmas.Bool.{false≢true}
use Rattle.std.proofs.lemmas.List.{length-map}
use Rattle.std.specs.List.{AllByRecursion}
use Rattle.stark_columns.specs.Columns.{columns_list}
use Rattle.stark_support.specs.Claims.{round_view}
use Rattle.stark_fri.specs.Claims.{height_of, own_claim, rounds_in}
use Rattle.stark_fri_prover.specs.Commit.{data_seen}
use Rattle.stark_fri_prover.specs.MadeOpening.{AreOfHeight, seen_rounds}
use Rattle.stark_fri_prover.specs.OwnClaims.{points_in, round_claims}
use Rattle.stark_fri_prover.proofs.MadeSteps.{heights_from_seen, heights_to_seen, seen_again}
use Rattle.stark_fri_prover.proofs.PairSteps.{points_counted, rounds_claimed}
use Rattle.stark_fri_prover.proofs.opening.open.Goals as goal

pub returns-then-not-have_points-clause-refused : goal.returns-then-not-have_points-clause-refused
returns-then-not-have_points-clause-refused g c = λ all.
    false≢true (sym c.if-not-have_points.true ∙ c.have_points.ensures.1
    (points_counted (λ d. d.root) (λ d. d.domain.log_size) (λ d. map columns_list d.matrices.items) (λ d. d.extended.items) (λ d. length d.matrices.items) (λ d. length-map d.matrices.items columns_list) (map round_view c.args.rounds.now)
    (subst (AllByRecursion (λ round. length round.1 ≡ length round.0.matrices)) (sym (seen_again (λ d. data_seen d.root d.domain.log_size d.matrices d.extended) c.args.rounds.now)) all)))

pub returns-in-Err-clause-refused : goal.returns-in-Err-clause-refused
returns-in-Err-clause-refused g c =
    let rounds = map round_view c.args.rounds.now in
    let claims = round_claims (λ d. d.root) (λ d. d.domain.log_size) rounds in
    let own = ap (rounds_in (λ d. record { shift = d.shift; log_size = d.log_size })) c.deref-2.ensures.value ∙ c.in_ok-claims.ensures
    ∙ ap (λ t. claims (map (λ round. map columns_list round.items) t)) c.deref.ensures.value ∙ ap claims c.in_ok-opened.ensures
    ∙ rounds_claimed (λ d. d.root) (λ d. d.domain.log_size) (λ d. map columns_list d.matrices.items) (λ d. d.extended.items) g.EF.Field.ring g.EF.ExtensionField.embed rounds
    ∙ ap (map (own_claim g.EF.Field.ring g.EF.ExtensionField.embed)) (seen_again (λ d. data_seen d.root d.domain.log_size d.matrices d.extended) c.args.rounds.now) in
    rw own at c.in-Err.ensures

pub returns-then-not-have_height-clause-refused : goal.returns-then-not-have_height-clause-refused
returns-then-not-have_height-clause-refused g c =
    let rounds = map round_view c.args.rounds.now in
    let claims = round_claims (λ d. d.root) (λ d. d.domain.log_size) rounds in
    let own = ap (rounds_in (λ d. record { shift = d.shift; log_size = d.log_size })) c.deref-2.ensures.value ∙ c.in_ok-claims.ensures
    ∙ ap (λ t. claims (map (λ round. map columns_list round.items) t)) c.deref.ensures.value ∙ ap claims c.in_ok-opened.ensures
    ∙ rounds_claimed (λ d. d.root) (λ d. d.domain.log_size) (λ d. map columns_list d.matrices.items) (λ d. d.extended.items) g.EF.Field.ring g.EF.ExtensionField.embed rounds
    ∙ ap (map (own_claim g.EF.Field.ring g.EF.ExtensionField.embed)) (seen_again (λ d. data_seen d.root d.domain.log_size d.matrices d.extended) c.args.rounds.now) in (
      rw own at c.in-Ok.ensures.0,
      λ all. false≢true (sym c.if-not-have_height.true ∙ c.have_height.ensures.1
          (heights_from_seen (λ d. data_seen d.root d.domain.log_size d.matrices d.extended) c.in-Ok.log_height c.args.rounds.now
          (subst (λ k. AreOfHeight k (seen_rounds (λ d. data_seen d.root d.domain.log_size d.matrices d.extended) points_in c.args.rounds.now)) (sym (c.in-Ok.ensures.1 ∙ ap height_of own)) all))),
    )

pub proof_of-made-requires : goal.proof_of-made-requires
proof_of-made-requires g c =
    let rounds = map round_view c.args.rounds.now in
    let claims = round_claims (λ d. d.root) (λ d. d.domain.log_size) rounds in
    let own_here = ap (rounds_in (λ d. record { shift = d.shift; log_size = d.log_size })) c.deref-3.ensures.value ∙ c.in_ok-claims.ensures
    ∙ ap (λ t. claims (map (λ round. map columns_list round.items) t)) c.deref.ensures.value ∙ ap claims c.in_ok-opened.ensures
    ∙ rounds_claimed (λ d. d.root) (λ d. d.domain.log_size) (λ d. map columns_list d.matrices.items) (λ d. d.extended.items) g.EF.Field.ring g.EF.ExtensionField.embed rounds
    ∙ ap (map (own_claim g.EF.Field.ring g.EF.ExtensionField.embed)) (seen_again (λ d. data_seen d.root d.domain.log_size d.matrices d.extended) c.args.rounds.now) in
    let own = ap (rounds_in (λ d. record { shift = d.shift; log_size = d.log_size })) c.deref-2.ensures.value ∙ c.in_ok-claims.ensures
    ∙ ap (λ t. claims (map (λ round. map columns_list round.items) t)) c.deref.ensures.value ∙ ap claims c.in_ok-opened.ensures
    ∙ rounds_claimed (λ d. d.root) (λ d. d.domain.log_size) (λ d. map columns_list d.matrices.items) (λ d. d.extended.items) g.EF.Field.ring g.EF.ExtensionField.embed rounds
    ∙ ap (map (own_claim g.EF.Field.ring g.EF.ExtensionField.embed)) (seen_again (λ d. data_seen d.root d.domain.log_size d.matrices d.extended) c.args.rounds.now) in
    record {
      own = own_here;
      fit = rw own at c.in-Ok.ensures.0;
      height = c.in-Ok.ensures.1 ∙ ap height_of own;
      heights = heights_to_seen (λ d. data_seen d.root d.domain.log_size d.matrices d.extended) c.in-Ok.log_height c.args.rounds.now (c.have_height.ensures.0 c.if-not-have_height.false);
    }
