use Rattle.std.proofs.Common.{◌≡◌, drop}
use Rattle.am_outcomes.specs.Configurations.{silences_view}
use Rattle.am_outcomes.specs.Outcomes.{is_silenced_by}
use Rattle.am_outcomes.proofs.handling.is_silenced_by.Given as goal

-- the silences that are left decide
abbrev pub invariant-loop-silence : goal.invariant-loop-silence
invariant-loop-silence l =
    is_silenced_by l.set (silences_view (drop l.silence-index l.silences))
    ≡ is_silenced_by l.set (silences_view l.silences)
