use Rattle.std.proofs.Common.{◌≡◌, ◌==◌, drop, length, map}
use Rattle.std.specs.List.{list_all}
use Rattle.stark_answers.proofs.shape.have_length.Given as goal

abbrev pub invariant-loop-list : goal.invariant-loop-list
invariant-loop-list g l =
    list_all (λ list. length list == l.count) (map (λ list. list.items) (drop l.list-index l.lists)) ≡ list_all (λ list. length list == l.count) (map (λ list. list.items) l.lists)
