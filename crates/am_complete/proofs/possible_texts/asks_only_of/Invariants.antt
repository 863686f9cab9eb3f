use Rattle.std.proofs.Common.{◌≡◌, true, take}
use Rattle.std.specs.List.{list_all}
use Rattle.am_universe.specs.Text.{same_text}
use Rattle.am_complete.proofs.possible_texts.asks_only_of.Given as goal

-- each matcher so far is on the label
abbrev pub invariant-loop-i : goal.invariant-loop-i
invariant-loop-i l = list_all (λ m. same_text m.name l.name) (take l.i l.list) ≡ true
