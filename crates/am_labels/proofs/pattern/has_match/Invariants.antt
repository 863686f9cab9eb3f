use Rattle.std.proofs.Common.{◌≡◌, length, is_some}
use Rattle.regex_hir.specs.Find.{first_between}
use Rattle.am_labels.specs.PatternView.{has_match, start_at}
use Rattle.am_labels.proofs.pattern.has_match.Given as goal

-- the positions that are left decide
abbrev pub invariant-loop-start : goal.invariant-loop-start
invariant-loop-start l =
    (l.search ≡ l.initial.search)
    × (has_match l.nfa l.text
    ≡ is_some (first_between (start_at l.nfa l.bytes) l.start (length l.bytes)))
