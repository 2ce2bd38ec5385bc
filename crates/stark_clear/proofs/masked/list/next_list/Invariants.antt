use Rattle.std.proofs.Common.{◌≡◌, ◌+◌, ◌%◌, length}
use Rattle.stark_clear.specs.Masks.{mask_list}
use Rattle.stark_clear.proofs.masked.list.next_list.Given as goal

abbrev pub invariant-loop-number : goal.invariant-loop-number
invariant-loop-number g l =
    (l.list.items ≡ mask_list g.F.Field.ring l.masks l.initial.place l._number) × (l.place ≡ (l.initial.place + l._number) % length l.masks)
