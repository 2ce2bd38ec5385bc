use Rattle.std.proofs.Common.{◌≡◌, ◌∙◌, ◌%◌, ℕ, ap, arith, sym}
use Rattle.stark_support.specs.Coset.{IsTwoAdicCoset, TwoAdicCoset, coset_point}
use Rattle.stark_support.specs.CosetFacts.{point_nonzero}
use Rattle.stark_folding.specs.Fold.{folded_pair}
use Rattle.stark_folding.specs.Walk.{half_size}
use Rattle.stark_folding.proofs.Steps.{embedded_point}
use Rattle.stark_fri.specs.Parts.{FriFields}
use Rattle.stark_fri.specs.Walks.{pair_on}
use Rattle.stark_fri.specs.declared.folds.Pair.{Pair}
use Rattle.stark_fri.proofs.Members.{fields_by}
use Rattle.stark_fri.proofs.FoldSteps.{lower_pair, upper_pair}
use Rattle.stark_fri.proofs.WalkSteps.{lower_value, upper_value}
use Rattle.stark_fri.proofs.folds.fold_at.Given as given
use Rattle.stark_fri.proofs.folds.fold_at.Goals as goal
use Rattle.stark_fri.proofs.folds.fold_at.Goals.{then-place-half, else-place-half}

abbrev fields_of : (g : given.Over) → FriFields g.row.F.Denot g.row.EF.Denot
fields_of g = fields_by g.F.TwoAdicField g.F.Field g.F.PrimeField64 g.EF.Field g.EF.ExtensionField

pub fold_pair_in-folded-requires : goal.fold_pair_in-folded-requires
fold_pair_in-folded-requires g c = λ e.
    let coset : TwoAdicCoset g.row.F.Denot = record { shift = c.args.shift; log_size = c.args.log_size } in
    let valid : IsTwoAdicCoset g.F.Field.ring g.F.TwoAdicField.TWO_ADICITY coset = record { shift_nonzero = c.requires.shift; within = c.requires.within } in
    point_nonzero g.met.F.Field.field_laws g.F.TwoAdicField.TWO_ADICITY g.F.TwoAdicField.root g.F.Field.GENERATOR g.met.F.TwoAdicField.two_adic coset valid _ (sym c.point_at-point.ensures ∙ e)

pub returns : goal.returns
returns g c =
    let embed = g.EF.ExtensionField.embed in
    let ring = g.EF.Field.ring in
    let inverse = g.EF.Field.inverse_of in
    let coset : TwoAdicCoset g.row.EF.Denot = record { shift = embed c.args.shift; log_size = c.args.log_size } in
    let root = λ (k : ℕ). embed (g.F.TwoAdicField.root k) in
    let place = c.args.place in
    let v = c.args.value in
    let s = c.args.sibling in
    let low = c.if-place-half.low in
    let high = c.if-place-half.high in
    let half : c.half_size-half.result ≡ half_size coset = c.half_size-half.ensures in
    let x : embed c.point_at-point.result ≡ coset_point ring root coset (place % half_size coset)
    = ap embed c.point_at-point.ensures ∙ embedded_point g.met.EF.ExtensionField.embeds c.args.shift (g.F.TwoAdicField.root c.args.log_size) (place % c.half_size-half.result)
    ∙ ap (λ n. coset_point ring root coset (place % n)) half in
    let at = λ (a b : g.row.EF.Denot). folded_pair ring inverse c.args.beta (coset_point ring root coset (place % half_size coset)) a b in
    let pair : g.row.EF.Denot → g.row.EF.Denot → Pair g.row.EF.Denot = λ a b. record { place = place % half_size coset; low = a; high = b } in
    let both : g.row.EF.Denot → g.row.EF.Denot → Pair g.row.EF.Denot × g.row.EF.Denot = λ a b. (pair a b, at a b) in
    let as_pair : ℕ → Pair g.row.EF.Denot = λ n. record { place = place % n; low = low; high = high } in
    ap (λ n. (as_pair n, c.fold_pair_in-folded.result)) half
    ∙ ap (λ t. (pair low high, t)) (c.fold_pair_in-folded.ensures ∙ ap (λ t. folded_pair ring inverse c.args.beta t low high) x)
    ∙ elim c.if-place-half.branch [
      | then-place-half w ↦
          let below = w.if-place-half.true in
          ap (λ t. both t high) w.low-is ∙ ap (both v) w.high-is
          ∙ ap (λ p. (p, at v s)) (lower_pair coset place v s (omega (arith, below, half))) ∙ ap (λ t. (pair_on coset place v s, t)) (lower_value (fields_of g) coset place v s c.args.beta (omega (arith, below, half)))
      | else-place-half w ↦
          let above = w.if-place-half.false in
          ap (λ t. both t high) w.low-is ∙ ap (both s) w.high-is
          ∙ ap (λ p. (p, at s v)) (upper_pair coset place v s (omega (arith, above, half))) ∙ ap (λ t. (pair_on coset place v s, t)) (upper_value (fields_of g) coset place v s c.args.beta (omega (arith, above, half)))
    ]
