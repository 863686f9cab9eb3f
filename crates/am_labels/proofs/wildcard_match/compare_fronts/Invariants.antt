use Rattle.std.proofs.Common.{◌≤◌, length}
use Rattle.am_labels.proofs.WildcardFronts.{ArePassed}
use Rattle.am_labels.proofs.wildcard_match.compare_fronts.Given as goal

abbrev pub invariant-loop-piece : goal.invariant-loop-piece
invariant-loop-piece l =
    ArePassed l.initial.alternative l.initial.text l.alternative l.text
    × (length l.alternative ≤ length l.initial.alternative)

abbrev pub decreases-loop-piece : goal.decreases-loop-piece
decreases-loop-piece l = length l.alternative
