use Rattle.std.proofs.Common.{◌≡◌, map, take}
use Rattle.am_report_texts.proofs.shown.all_matchers.Given as goal

-- The first matchers are there.
abbrev pub invariant-loop-i : goal.invariant-loop-i
invariant-loop-i l = map (λ m. m.now) l.found.items ≡ take l.i l.matchers
