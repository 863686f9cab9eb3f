use Rattle.std.proofs.Common.{◌≡◌, ◌/◌, length}
use Rattle.am_judged_lists.specs.declared.mask.TheConstants.{WORD}
use Rattle.am_judged_lists.proofs.WordLemmas.{IsNarrowed, in_part}
use Rattle.am_judged_lists.proofs.mask.Mask.keep.Given as goal

-- the words so far keep the positions in the part
abbrev pub invariant-loop-i : goal.invariant-loop-i
invariant-loop-i l =
    (length l.self ≡ length l.initial.self)
    × IsNarrowed (in_part l.part l.other) (λ j. j / WORD) l.initial.self l.self l.i
