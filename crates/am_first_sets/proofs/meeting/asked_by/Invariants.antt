use Rattle.std.proofs.Common.{◌≡◌, take}
use Rattle.am_first_sets.specs.Literals.{wanted_of, unwanted_of}
use Rattle.am_first_sets.proofs.meeting.asked_by.Given as goal

-- the cubes are those of the named literals so far
abbrev pub invariant-loop-candidate : goal.invariant-loop-candidate
invariant-loop-candidate l = record {
  wanted : l.wanted.items ≡ wanted_of (take l.candidate-index l.candidates);
  unwanted : l.unwanted.items ≡ unwanted_of (take l.candidate-index l.candidates);
}
