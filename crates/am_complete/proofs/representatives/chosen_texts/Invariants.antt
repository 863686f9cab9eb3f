use Rattle.std.proofs.Common.{map, string_bytes, take}
use Rattle.am_complete.specs.Chosen.{AreChosenEach}
use Rattle.am_complete.proofs.representatives.chosen_texts.Given as goal

-- the texts so far are chosen for the wanted ones so far
abbrev pub invariant-loop-text : goal.invariant-loop-text
invariant-loop-text l =
    AreChosenEach l.usual (take l.text-index l.wanted) (map string_bytes l.chosen.items)
