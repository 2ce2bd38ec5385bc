use Rattle.std.proofs.Common.{◌≡◌, ◌+◌, ◌*◌, ◌%◌, length}
use Rattle.stark_columns.specs.Columns.{columns_list}
use Rattle.stark_clear.specs.Masks.{mask_lists}
use Rattle.stark_clear.proofs.masked.list.next_lists.Given as goal

abbrev pub invariant-loop-list : goal.invariant-loop-list
invariant-loop-list g l =
    (columns_list l.lists ≡ mask_lists g.F.Field.ring l.masks l.initial.place l._list l.size) × (l.place ≡ (l.initial.place + l._list * l.size) % length l.masks)
