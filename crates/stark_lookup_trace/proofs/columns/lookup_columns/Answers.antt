use Rattle.std.proofs.Common.{◌∙◌, IfErr, IfOk, ap, length, subst}
use Rattle.stark_logup.specs.Fractions.{IsKeyOf, joined}
use Rattle.stark_lookup_trace.specs.AuxiliaryColumns.{AreColumns, NamesKey, entries_of}
use Rattle.stark_lookup_trace.specs.Tuples.{tuples_of}
use Rattle.stark_lookup_trace.proofs.PassingSteps.{answer_passes}
use Rattle.stark_lookup_trace.proofs.TupleSteps.{as_many_groups, length_keyed}
use Rattle.stark_lookup_trace.proofs.columns.lookup_columns.Goals as goal

pub auxiliary_columns-requires : goal.auxiliary_columns-requires
auxiliary_columns-requires g c =
    ap length c.deref.ensures.value
    ∙ as_many_groups g.EF.Field.ring g.EF.ExtensionField.embed c.args.draws.beta c.in_ok-keyed.keyed.items c.args.groups.now c.in_ok-keyed.ensures ∙ c.requires

pub returns-clause-columns : goal.returns-clause-columns
returns-clause-columns g c =
    subst (λ t. IfOk c.auxiliary_columns.result (λ m. AreColumns g.EF.Field.ring c.args.draws.gamma c.args.rows (length c.args.lookups.now) t m.values.items))
    (ap entries_of c.deref.ensures.value ∙ c.in_ok-keyed.ensures) c.auxiliary_columns.ensures.columns

pub returns-clause-apart : goal.returns-clause-apart
returns-clause-apart g c =
    subst (λ t. IfOk c.auxiliary_columns.result (λ _. IsKeyOf c.args.draws.gamma (joined t) → ⊥)) (ap entries_of c.deref.ensures.value ∙ c.in_ok-keyed.ensures) c.auxiliary_columns.ensures.apart

pub returns-clause-key : goal.returns-clause-key
returns-clause-key g c =
    subst (λ t. IfErr c.auxiliary_columns.result (NamesKey c.args.draws.gamma c.args.lookups.now t)) (ap entries_of c.deref.ensures.value ∙ c.in_ok-keyed.ensures) c.auxiliary_columns.ensures.key

pub returns-clause-pass : goal.returns-clause-pass
returns-clause-pass g c =
    let ring = g.EF.Field.ring in
    let gamma = c.args.draws.gamma in
    let size = length c.args.lookups.now in
    let same = ap entries_of c.deref.ensures.value ∙ c.in_ok-keyed.ensures in
    answer_passes g.met.EF.Field.field_laws gamma c.args.rows size c.args.draws.beta (tuples_of g.EF.ExtensionField.embed c.args.groups.now) c.auxiliary_columns.result
    (length_keyed ring g.EF.ExtensionField.embed c.args.draws.beta c.args.groups.now ∙ c.requires)
    (subst (λ t. IfOk c.auxiliary_columns.result (λ _. IsKeyOf gamma (joined t) → ⊥)) same c.auxiliary_columns.ensures.apart)
    (subst (λ t. IfOk c.auxiliary_columns.result (λ m. AreColumns ring gamma c.args.rows size t m.values.items)) same c.auxiliary_columns.ensures.columns)
