use Rattle.std.proofs.Common.{◌≡◌, ◌/◌, nat_eq, length}
use Rattle.am_judged_lists.specs.declared.mask.TheConstants.{WORD}
use Rattle.am_judged_lists.proofs.WordLemmas.{IsNarrowed}
use Rattle.am_judged_lists.proofs.mask.Mask.keep_only.Given as goal

-- the words so far keep the position
abbrev pub invariant-loop-i : goal.invariant-loop-i
invariant-loop-i l =
    (length l.self ≡ length l.initial.self)
    × IsNarrowed (λ j. nat_eq j l.position) (λ j. j / WORD) l.initial.self l.self l.i
