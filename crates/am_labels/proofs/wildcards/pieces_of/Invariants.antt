use Rattle.std.proofs.Common.{◌≡◌, ◌++◌, length}
use Rattle.am_labels.specs.Wildcards.{pieces_of}
use Rattle.am_labels.proofs.wildcards.pieces_of.Given as goal

abbrev pub invariant-loop-piece : goal.invariant-loop-piece
invariant-loop-piece l = l.pieces.items ++ pieces_of l.text ≡ pieces_of l.initial.text

abbrev pub decreases-loop-piece : goal.decreases-loop-piece
decreases-loop-piece l = length l.text
