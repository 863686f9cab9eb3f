use Rattle.std.proofs.Common.{◌≡◌, take}
use Rattle.std.specs.List.{filter}
use Rattle.am_complete.specs.Complete.{asks_only_of}
use Rattle.am_complete.proofs.possible_texts.lists_about.Given as goal

abbrev pub invariant-loop-list : goal.invariant-loop-list
invariant-loop-list l =
    l.lists.items ≡ filter (asks_only_of l.name) (take l.list-index l.impossible)
