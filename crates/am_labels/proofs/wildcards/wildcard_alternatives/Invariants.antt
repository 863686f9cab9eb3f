use Rattle.std.proofs.Common.{◌≡◌, map}
use Rattle.am_labels.specs.Wildcards.{pieces_of}
use Rattle.am_labels.proofs.wildcards.wildcard_alternatives.Given as goal

abbrev pub invariant-loop-alternative : goal.invariant-loop-alternative
invariant-loop-alternative l =
    map (λ a. a.items) l.found.items ≡ map pieces_of (map (λ a. a.now) l.yielded)
