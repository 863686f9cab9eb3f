use Rattle.std.proofs.Common.{◌≡◌, map, string_bytes, length}
use Rattle.am_alerts.specs.SilenceIds.{AreNames}
use Rattle.am_alerts.proofs.silence_ids.SilenceIds.names.Given as goal

abbrev pub invariant-loop-silence : goal.invariant-loop-silence
invariant-loop-silence l = record {
  count : length l.names.items ≡ l.silence;
  named : AreNames l.self l.silence (map string_bytes l.names.items);
}
