-- Exports of groups of alerts.
use Rattle.std.specs.Prelude.{ℕ, List, length, codes, Bool, false, if◌then◌else◌, nat_lt}
use Rattle.std.specs.Prelude.{Option, option_and_then, is_some}
use Rattle.serde_json.specs.Data.{Data, Items}
use Rattle.serde_json.specs.Find.{at, get, as_array}
use Rattle.am_json.specs.declared.limits.TheConstants.{MAX_FILE_BYTES}
use Rattle.am_json.specs.Json.{json_of}

-- The alerts of the first group, if a value is a list of groups: its first item has an array in the
-- field `alerts`.
-- Source: the HTTP API of Alertmanager, `/api/v2/alerts/groups`.
-- Example: `[{"alerts": [], "labels": {}}]` is such a list, and `[{"labels": {}}]` is none.
abbrev pub first_group : Data → Option Items
first_group d = option_and_then as_array (option_and_then (get (codes "alerts")) (at 0 d))

-- Some bytes are the JSON of a list of groups.
abbrev pub is_of_groups : List ℕ → Bool
is_of_groups bytes = is_some (option_and_then first_group (json_of bytes))

-- A file is a list of groups. It has no more bytes than a file may have.
abbrev pub has_groups : List ℕ → Bool
has_groups bytes =
    if nat_lt MAX_FILE_BYTES (length bytes) then false else is_of_groups bytes
