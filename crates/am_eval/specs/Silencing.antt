-- Silencing: which alerts a silence hides. An alert is its label set.
use Rattle.std.specs.Prelude.{ℕ, ℤ, ◌+◌, List, [], ◌∷◌, Bool, false, ◌&&◌, int_lt, int_le}
use Rattle.std.specs.Prelude.{if◌then◌else◌, Option, Some, None, IsFalse}
use Rattle.std.specs.List.{list_any}
use Rattle.am_universe.specs.LabelSet.{LabelMap}
use Rattle.am_labels.specs.Matcher.{all_hold}
use Rattle.am_list_files.specs.SilencesFile.{Silence}
use Rattle.am_eval.specs.World.{World}

-- A silence is active at an instant: it has begun, and it has not ended. It is active at the
-- instant at which it begins, and not at the one at which it ends. Without an instant no silence is
-- active.
-- Source: Alertmanager API v2, "silence": `startsAt` and `endsAt`. Own choice: it is not active at
-- the instant at which it ends, and the status in an export is ignored.
-- Example: a silence from 10:00 to 11:00 is active at 10:00, and not at 11:00.
abbrev pub is_active : Option ℤ → Silence → Bool
is_active None silence = false
is_active (Some instant) silence = int_le silence.starts instant && int_lt instant silence.ends

-- A silence is over at an instant: it has ended. Without an instant no silence is over.
-- Source: Alertmanager API v2, "silence": `endsAt`.
-- Example: a silence from 10:00 to 11:00 is over at 11:00. At 9:00 it is neither active nor over.
abbrev pub is_over : Option ℤ → Silence → Bool
is_over None silence = false
is_over (Some instant) silence = int_le silence.ends instant

-- A silence hides an alert: it is active, and each of its matchers matches the alert.
-- Source: Alertmanager documentation 0.25, "Silences": an alert is checked whether it matches all
-- the equality or regular expression matchers of an active silence.
-- Example: an active silence with the matchers `team="db"` and `severity="warning"` hides no alert
-- of the severity `critical`.
abbrev pub hides : World → LabelMap → Silence → Bool
hides w s silence = is_active w.instant silence && all_hold s silence.matchers

-- An alert is silenced: some silence hides it.
-- Source: Alertmanager documentation 0.25, "Silences".
-- Example: without an active silence no alert is silenced.
abbrev pub is_silenced : World → LabelMap → Bool
is_silenced w s = list_any (hides w s) w.silences

-- The positions of the items that pass a test, in order. The first item has the position `from`.
abbrev pub positions_where : {A : Type 0} → (A → Bool) → ℕ → List A → List ℕ
positions_where test from [] = []
positions_where test from (x ∷ xs) =
    if test x then from ∷ positions_where test (from + 1) xs else positions_where test (from + 1) xs

-- The silences that hide an alert, by their positions in the file, in order.
-- Source: own choice.
-- Example: if the first and the third of three silences hide an alert, its silencers are 0 and 2.
abbrev pub silencers : World → LabelMap → List ℕ
silencers w s = positions_where (hides w s) 0 w.silences

-- The same world, asked about at another instant.
abbrev pub at_instant : World → ℤ → World
at_instant w instant =
    record {
      config = w.config;
      silences = w.silences;
      alerts = w.alerts;
      instant = Some instant;
    }

-- A silence neither begins nor ends after one instant and up to another, that one included.
abbrev pub IsSteady : ℤ → ℤ → Silence → Type 0
IsSteady from to silence =
    IsFalse (int_lt from silence.starts && int_le silence.starts to)
    × IsFalse (int_lt from silence.ends && int_le silence.ends to)
