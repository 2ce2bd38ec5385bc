use Rattle.std.proofs.Common.{◌≡◌, ◌∙◌, ℕ, ◌%◌, ap, length, subst, sym}
use Rattle.stark_machine.specs.Program.{copies}
use Rattle.stark_machine.proofs.Filling.{whole_copies}
use Rattle.stark_machine.proofs.machine.MachineAir.new.Goals as goal

pub new-requires : goal.new-requires
new-requires g c =
    let program = c.args.program.now in
    let count = c.in_ok-copies.copies in
    let whole : length program.values.items % 14 ≡ 0 = subst (λ (k : ℕ). length program.values.items % k ≡ 0) c.if-program-ne-PROGRAM_WIDTH.false program.whole_rows in
    let same : c.in_ok-values.values.items ≡ copies count program.values.items = c.in_ok-values.ensures ∙ ap (copies count) c.deref.ensures.value in
    subst (λ xs. length xs % 14 ≡ 0) (sym same) (whole_copies count program.values.items whole)
