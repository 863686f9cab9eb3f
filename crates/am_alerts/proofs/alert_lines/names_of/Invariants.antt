use Rattle.std.proofs.Common.{◌≡◌, map, string_bytes, take}
use Rattle.am_alerts.specs.SilenceIds.{name_at}
use Rattle.am_alerts.proofs.alert_lines.names_of.Given as goal

abbrev pub invariant-loop-silence : goal.invariant-loop-silence
invariant-loop-silence l =
    map (λ n. n.now) l.found.items
    ≡ map (name_at (map string_bytes l.names)) (take l.silence-index l.silences)
